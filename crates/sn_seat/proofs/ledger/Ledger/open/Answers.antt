use Rattle.std.proofs.Common.{ap₂, ◌≡◌, ◌∙◌, ◌++◌, []}
use Rattle.sn_seat.specs.Openings.{all_ends}
use Rattle.sn_seat.proofs.Opened.{quiet_new, told_new}
use Rattle.sn_seat.proofs.ledger.Ledger.open.Goals as goal

pub invariant_of-result-clause-told : goal.invariant_of-result-clause-told
invariant_of-result-clause-told c =
    let a = c.args.ends in
    let all = all_ends a.tx.items a.rx.items in
    let items : c.append.new.self.items ≡ all =
    c.in_ok-append.ensures.items ∙ ap₂ (λ x y. x ++ y) c.in_ok-all.ensures c.in_ok-more.ensures in
    let entries : c.reserve.new.self.entries ≡ [] = c.in_ok-reserve.ensures.entries ∙ c.new-journal.ensures in
    rw (entries, items)
    (told_new all c.in_ok-hold.hold c.args.group c.args.listener c.requires.ends c.requires.group c.requires.listener
    c.in_ok-hold.ensures.none)

pub invariant_of-result-clause-quiet : goal.invariant_of-result-clause-quiet
invariant_of-result-clause-quiet c =
    let a = c.args.ends in
    let all = all_ends a.tx.items a.rx.items in
    let items : c.append.new.self.items ≡ all =
    c.in_ok-append.ensures.items ∙ ap₂ (λ x y. x ++ y) c.in_ok-all.ensures c.in_ok-more.ensures in
    rw items (quiet_new all c.args.group c.requires.ends c.requires.group)
