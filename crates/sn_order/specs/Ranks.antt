-- Apps by their ranks, their places among the names in bytewise order.
use Rattle.std.specs.Prelude.{◌<◌, if◌then◌else◌, slice_index_or, ℕ, Bool, ◌&&◌, List, [], map, nat_eq, count_by, slice_index, Option, Some, None}
use Rattle.std.specs.List.{All, filter, filter_map, list_any, position_from, range_with_len}
use Rattle.sn_names.specs.declared.link.LinkSpec.{LinkSpec}
use Rattle.sn_order.specs.Order.{placing, same_name}

-- the rank of a name, if it is there
abbrev pub rank_in : List (List ℕ) → List ℕ → Option ℕ
rank_in names name = position_from (same_name name) 0 names

-- a link between two different apps, from one to another
abbrev pub Edge : Type 0
Edge = ℕ × ℕ

abbrev pub edge_from : ℕ → Option ℕ → Option Edge
edge_from from None = None
edge_from from (Some to) = if nat_eq from to then None else Some (from, to)

abbrev pub edge_between : Option ℕ → Option ℕ → Option Edge
edge_between None to = None
edge_between (Some from) to = edge_from from to

abbrev pub edge_of : List (List ℕ) → LinkSpec → Option Edge
edge_of names link = edge_between (rank_in names link.from) (rank_in names link.to)

abbrev pub edges_of : List (List ℕ) → List LinkSpec → List Edge
edges_of names links = filter_map (edge_of names) links

-- both apps of a link are there, and those of each link
abbrev pub IsWithin : ℕ → Edge → Type 0
IsWithin count edge = (edge.0 < count) × (edge.1 < count)

abbrev pub AreWithin : ℕ → List Edge → Type 0
AreWithin count edges = All (IsWithin count) edges

-- the names of ranks
abbrev pub name_at : List (List ℕ) → ℕ → List ℕ
name_at names rank = slice_index_or names rank []

-- an app that isn't placed yet has this link to the app
abbrev pub blocks : List ℕ → ℕ → Edge → Bool
blocks left app edge = nat_eq edge.1 app && list_any (nat_eq edge.0) left

abbrev pub rank_waits : List Edge → List ℕ → ℕ → Bool
rank_waits edges left app = list_any (blocks left app) edges

-- how many links an app waits for
abbrev pub waits_for : List Edge → List ℕ → ℕ → ℕ
waits_for edges left app = count_by (blocks left app) edges

-- a link leads to the app; its count is 0
abbrev pub leads_to : ℕ → Edge → Bool
leads_to app edge = nat_eq edge.1 app

abbrev pub is_free : List ℕ → ℕ → Bool
is_free counts app = nat_eq (slice_index counts app) 0

-- the apps that the links of one lead to
abbrev pub targets_of : List Edge → ℕ → List ℕ
targets_of edges app = map (λ edge. edge.1) (filter (λ edge. nat_eq edge.0 app) edges)

-- the apps, by their ranks, in the order of their placing
abbrev pub rank_order : ℕ → List Edge → List ℕ
rank_order count edges = placing nat_eq (rank_waits edges) count (range_with_len 0 count)
