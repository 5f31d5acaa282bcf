use Rattle.std.proofs.Common.{rules, ap, ◌∙◌}
use Rattle.sn_interlink.specs.Ends.{LaneEnd}
use Rattle.sn_interlink.proofs.RingCalls.{slot_out_at, on_if_up}
use Rattle.sn_interlink.proofs.end.End.take_back.Goals as goal

pub exchange-requires : goal.exchange-requires
exchange-requires c =
    let t = c.self.invariant.fit in
    let half = ap (λ (e : LaneEnd). e.half) c.self.view_is ∙ c.requires.half in
    (search rules, slot_out_at _ c.self.inside.seat.me _ c.self.invariant (on_if_up _ (search rules)) (t.knows half) (t.half half) c.slot_of-slot.ensures)
