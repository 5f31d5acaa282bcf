use Rattle.std.proofs.Common.{[], ◌∷◌, length, All, length-append, ap, subst, ◌∙◌, arith}
use Rattle.sn_group.specs.Seats.{IsAtRest}
use Rattle.sn_group.proofs.Closing.{gathers_as, gathered_more, logs_shift, all_front, all_last}
use Rattle.sn_group.proofs.group.gather.Goals as goal

pub join_seat-requires : goal.join_seat-requires
join_seat-requires c =
    let on = c.loop-seats.invariant in
    let rested = c.into_token.ensures.rested in
    let next = all_last (IsAtRest c.args.steps.now.table_id) _ _ (subst (All (IsAtRest c.args.steps.now.table_id)) c.in-Some-pop.ensures.items on.5) in
    (on.0, c.into_token.ensures.table ∙ next.belongs, rested.slots, c.requires.words, gathers_as _ _ _ _ c.loop-seats.whole.me _ c.into_token.result.me on.2 rested.cells)

pub loop-seats-preserved : goal.loop-seats-preserved
loop-seats-preserved c =
    let on = c.loop-seats.invariant in
    let items = c.in-Some-pop.ensures.items in
    let more = gathered_more _ _ _ _ on.1 c.into_token.ensures.rested c.join_seat.ensures.2 in (
      c.join_seat.ensures.0 ∙ on.0,
      more.0,
      omega (arith, more.1),
      omega (arith, more.1, on.3, ap length items, length-append c.pop-in-loop-seats.new.self.items (c.in-Some-pop.next ∷ [])),
      logs_shift _ _ _ _ _ _ items more.2 on.4,
      all_front (IsAtRest c.args.steps.now.table_id) _ _ (subst (All (IsAtRest c.args.steps.now.table_id)) items on.5),
    )
