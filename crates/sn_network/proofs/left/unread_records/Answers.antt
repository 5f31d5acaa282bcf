-- answers of src/left.rt, unread_records
use Rattle.std.proofs.Common.{List, ap, min, subst, sum_by, sym, ◌+◌, ◌∙◌, ◌≡◌, ℕ}
use Rattle.std.specs.Map.{keys_of}
use Rattle.sn_network.specs.Left.{counted_in}
use Rattle.sn_network.proofs.Cut.{adds_last}
use Rattle.sn_network.proofs.Counted.{Counts, counts_first, counts_more, counts_there}
use Rattle.sn_network.proofs.Ordered.{app_keys, apps_stand}
use Rattle.sn_network.proofs.left.unread_records.Goals as goal

pub loop-name-init : goal.loop-name-init
loop-name-init c =
    let all : List (List ℕ) = keys_of c.args.plain.now.apps.entries in
    let begins : c.into_iter-name-iterator.result ≡ all = c.into_iter-name-iterator.ensures.into_iter_gives
    ∙ c.keys-name-items.ensures.rest in
    subst (λ (left : List (List ℕ)). Counts c.args.places.now c.args.captures.now 18446744073709551615 all left 0) (sym begins)
    (counts_first c.args.places.now c.args.captures.now 18446744073709551615 all
    (apps_stand c.args.places.now c.args.plain.now.apps.entries c.requires.classes))

pub loop-name-preserved : goal.loop-name-preserved
loop-name-preserved c =
    counts_more c.args.places.now c.args.captures.now 18446744073709551615 (keys_of c.args.plain.now.apps.entries)
    c.loop-name.name-iterator c.next.new.self c.in-Some.name.now c.loop-name.total c.saturating_add-total.result
    c.in-Some.ensures.steps c.loop-name.invariant
    (c.saturating_add-total.ensures ∙ ap (λ n. min (c.loop-name.total + n) 18446744073709551615) c.unread_by.ensures)

pub unread_by-requires-clause-there : goal.unread_by-requires-clause-there
unread_by-requires-clause-there c =
    counts_there c.args.places.now c.args.captures.now 18446744073709551615 (keys_of c.args.plain.now.apps.entries)
    c.loop-name.name-iterator c.next.new.self c.in-Some.name.now c.loop-name.total c.in-Some.ensures.steps c.loop-name.invariant

pub returns : goal.returns
returns c =
    adds_last 18446744073709551615 (counted_in c.args.places.now c.args.captures.now) (keys_of c.args.plain.now.apps.entries)
    c.loop-name.name-iterator c.loop-name.total c.loop-name.invariant.adds c.in-None.ensures.steps.0
    ∙ ap (λ (names : List (List ℕ)). min (sum_by (counted_in c.args.places.now c.args.captures.now) names) 18446744073709551615)
    (app_keys c.args.plain.now.apps.entries c.recall_orders.ensures.apps)
