use Rattle.std.proofs.Common.{List, Option, ◌++◌, ◌∷◌, [], length, ap, sym, ◌∙◌, arith}
use Rattle.std.proofs.lemmas.Grind.{common_steps}
use lib.ListN.{get_elem?}
use Rattle.core.specs.Mem.Slots.{slots_items}
use Rattle.sn_packet.specs.Packet.{PacketState}
use Rattle.sn_group.specs.Cells.{somes}
use Rattle.sn_group.proofs.Closing.{somes-first, somes-more}
use Rattle.sn_group.proofs.receipt.collect.Goals as goal

pub keep-requires : goal.keep-requires
keep-requires c =
    let on = c.loop-i.invariant in
    omega (arith, ap length on.4, somes-first (slots_items c.args.closed.slots) c.loop-i.i, on.5, c.slot_count.ensures, c.loop-i-test.true)

pub loop-i-preserved : goal.loop-i-preserved
loop-i-preserved c =
    let on = c.loop-i.invariant in
    let took = c.take.ensures.others in (
      grind (arith, common_steps),
      grind (arith, common_steps),
      took.0 ∙ on.2,
      took.2 ∙ on.3,
      c.keep.ensures.items ∙ (ap (λ (l : List PacketState). l ++ somes (c.take.result ∷ [])) on.4 ∙ sym (somes-more (slots_items c.args.closed.slots) c.loop-i.i _ (ap (λ (l : List (Option PacketState)). get_elem? l c.loop-i.i) (sym on.2) ∙ c.take.ensures.value))),
      omega (arith, took.2, on.5, c.keep.ensures.room),
      omega (arith, took.2, c.slot_count.ensures, c.loop-i-test.true),
    )
