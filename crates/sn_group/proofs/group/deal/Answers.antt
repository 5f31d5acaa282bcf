use Rattle.std.proofs.Common.{rules, ◌≡◌, ◌+◌, ap, ap₂, ◌∙◌, ℕ, arith}
use Rattle.sn_group.specs.Plays.{Mine}
use Rattle.sn_group.specs.Seats.{GroupId, new_seat, new_seats}
use Rattle.sn_group.proofs.Dealing.{deals_as, dealt_next, seats_more, seats_count}
use Rattle.sn_group.proofs.group.deal.Goals as goal

pub split_seat-rest-requires : goal.split_seat-rest-requires
split_seat-rest-requires c = (search rules, search rules, deals_as _ _ _ _ _ _ _ c.requires.groups c.loop.invariant.1 (omega arith))

pub push_reserved-requires : goal.push_reserved-requires
push_reserved-requires c = omega (arith, seats_count _ _ _ c.loop.invariant.2, c.loop.dealt.ok)

pub loop-preserved : goal.loop-preserved
loop-preserved c =
    let on = c.loop.invariant in
    let split = c.split_seat-rest.ensures in
    let kept = ap (λ (m : Mine). m.0.number) split.2 ∙ ap (λ (m : Mine). m.0.number) on.1 in (
      split.3 ∙ on.0,
      dealt_next _ _ _ _ on.1 split.4,
      seats_more _ _ _ _ _ on.2 (c.fresh.ensures ∙ ap₂ (λ (g : GroupId) (n : ℕ). new_seat g n) (split.0 ∙ on.0) kept) c.push_reserved.ensures.items,
      omega (arith, c.push_reserved.ensures.capacity, on.3),
    )

pub push_reserved-requires-2 : goal.push_reserved-requires-2
push_reserved-requires-2 c = omega (arith, seats_count _ _ _ c.loop.invariant.2, c.loop.dealt.ok)

pub returns : goal.returns
returns c =
    let on = c.loop.invariant in
    let kept = ap (λ (m : Mine). m.0.number) on.1 in
    let last : c.loop.counter + 1 ≡ c.args.seats = omega arith in
    seats_more _ _ _ _ _ on.2 (c.fresh-2.ensures ∙ ap₂ (λ (g : GroupId) (n : ℕ). new_seat g n) on.0 kept) c.push_reserved-2.ensures.items
    ∙ ap (new_seats c.args.steps.now.table_id) last
