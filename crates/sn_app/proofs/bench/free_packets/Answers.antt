use Rattle.std.proofs.Common.{◌∙◌, ◌++◌, ◌∷◌, [], add-one, ap, arith, sym}
use Rattle.sn_app.specs.Opening.{packets_below}
use Rattle.sn_app.proofs.bench.free_packets.Goals as goal

pub loop-number-preserved : goal.loop-number-preserved
loop-number-preserved c =
    let before = c.loop-number.invariant in
    record {
      frees = c.lay_free.ensures.frees ∙ (ap (λ frees. frees ++ c.in_ok-packet.packet ∷ []) before.frees
          ∙ (ap (λ packet. packets_below c.loop-number.number ++ packet ∷ []) c.in_ok-packet.ensures
          ∙ sym (ap packets_below (add-one c.loop-number.number))));
      used = λ place. ap (λ used. used place) c.lay_free.ensures.used ∙ before.used place;
      room = omega (arith, before.room, c.lay_free.ensures.room);
    }
