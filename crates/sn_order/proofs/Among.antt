-- What stands in an order is one of the apps.
use Rattle.std.proofs.Common.{List, [], arith, get_or, length, map, ℕ, ◌<◌, ◌∷◌}
use Rattle.std.proofs.lemmas.List.Elements.{All-contains_itself, All-map, All-nil, All-tail}
use Rattle.std.proofs.lemmas.Map.Views.{All-insert_key}
use Rattle.std.specs.BTreeSet.{insert_key}
use Rattle.std.specs.List.{All, Contains, fold}
use Rattle.sn_names.specs.LinkOrder.{name_cmp}
use Rattle.sn_order.specs.Order.{in_order}
use Rattle.sn_order.specs.Ranks.{name_at}

-- what holds of names holds of them in order
fold_among : (P : List ℕ → Type 0) (names kept : List (List ℕ)) → All P kept → All P names
    → All P (fold (insert_key name_cmp) kept names)
fold_among P [] kept h k = h
fold_among P (name ∷ names) kept h k =
    fold_among P names (insert_key name_cmp kept name)
    (All-insert_key name_cmp name P kept h (k 0 name (omega arith))) (All-tail P name names k)

pub in_order_among : (apps : List (List ℕ)) → All (Contains apps) (in_order apps)
in_order_among apps = fold_among (Contains apps) apps [] (All-nil (Contains apps)) (All-contains_itself apps)

-- and of those of ranks
pub named_among : (P : List ℕ → Type 0) (names : List (List ℕ)) (ranks : List ℕ) → All P names
    → All (λ rank. rank < length names) ranks → All P (map (name_at names) ranks)
named_among P names ranks h within =
    All-map P (name_at names) ranks (λ k d l. h (get_or ranks k d) [] (within k d l))
