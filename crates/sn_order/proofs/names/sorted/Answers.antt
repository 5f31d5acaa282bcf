use Rattle.std.proofs.Common.{ap, length, rules, subst, sym, ◌++◌, ◌∙◌, ◌≡◌}
use Rattle.std.proofs.lemmas.List.{append-nil, nil_from_length}
use Rattle.std.specs.List.{All, Contains}
use Rattle.sn_order.proofs.Among.{in_order_among}
use Rattle.sn_order.proofs.names.sorted.Goals as goal
use Rattle.sn_order.specs.Order.{in_order}

pub returns-clause-among : goal.returns-clause-among
returns-clause-among c =
    let none : length c.loop-name.set.keys ≡ 0 = search rules in
    let is : c.loop-name.names.items ≡ in_order c.args.apps.now =
    sym (append-nil c.loop-name.names.items)
    ∙ ap (λ xs. c.loop-name.names.items ++ xs) (sym (nil_from_length c.loop-name.set.keys none))
    ∙ c.loop-name.invariant.names in
    subst (All (Contains c.args.apps.now)) (sym is) (in_order_among c.args.apps.now)
