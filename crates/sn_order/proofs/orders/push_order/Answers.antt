-- answers of src/orders.rt, push_order
use Rattle.std.proofs.Common.{ap, arith, length, map, subst, sym, ◌<◌, ◌∙◌, ◌≡◌}
use Rattle.std.specs.List.{All, Contains, range_with_len}
use Rattle.sn_order.proofs.Among.{named_among}
use Rattle.sn_order.proofs.Placed.{within_range}
use Rattle.sn_order.proofs.RanksAreNames.{all_named, placed_alike}
use Rattle.sn_order.proofs.orders.push_order.Goals as goal
use Rattle.sn_order.specs.Order.{placing, push_names, same_name, waits}
use Rattle.sn_order.specs.Ranks.{edges_of, name_at, rank_order}

pub returns-clause-order : goal.returns-clause-order
returns-clause-order c =
    let names = c.in_ok-names.names.items in
    let links = c.args.links.now in
    let rising = c.in_ok-names.ensures.rising in
    let len_is : c.len.result ≡ length names = omega (arith, c.len.ensures, c.in_ok-names.names.ok.0) in
    let edges_are : c.deref-2.result.now ≡ edges_of names links =
    c.deref-2.ensures.value ∙ c.in_ok-edges.ensures.edges ∙ ap (λ xs. edges_of xs links) c.deref.ensures.value in
    let ranks_are : c.in_ok-ranks.ranks.items ≡ rank_order (length names) (edges_of names links) =
    c.in_ok-ranks.ensures.order ∙ ap (λ xs. rank_order c.len.result xs) edges_are
    ∙ ap (λ n. rank_order n (edges_of names links)) len_is in
    c.in_ok-order.ensures ∙ ap (λ xs. map (name_at xs) c.deref-4.result.now) c.deref-3.ensures.value
    ∙ ap (map (name_at names)) (c.deref-4.ensures.value ∙ ranks_are)
    ∙ sym (placed_alike names rising links (length names) (range_with_len 0 (length names)) (within_range (length names)))
    ∙ ap (placing same_name (waits links) (length names)) (all_named names)
    ∙ ap (push_names links) c.in_ok-names.ensures.names

pub returns-clause-among : goal.returns-clause-among
returns-clause-among c =
    let names = c.in_ok-names.names.items in
    let ranks = c.deref-4.result.now in
    let len_is : c.len.result ≡ length names = omega (arith, c.len.ensures, c.in_ok-names.names.ok.0) in
    let within : All (λ rank. rank < length names) ranks =
    subst (λ n. All (λ rank. rank < n) ranks) len_is
    (subst (All (λ rank. rank < c.len.result)) (sym c.deref-4.ensures.value) c.in_ok-ranks.ensures.within) in
    subst (All (Contains c.args.apps.now))
    (sym (c.in_ok-order.ensures ∙ ap (λ xs. map (name_at xs) ranks) c.deref-3.ensures.value))
    (named_among (Contains c.args.apps.now) names ranks c.in_ok-names.ensures.among within)
