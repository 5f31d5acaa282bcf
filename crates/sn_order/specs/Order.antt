-- The orders in which the apps of a worker are called.
use Rattle.std.specs.Prelude.{ℕ, zero, suc, Bool, not, ◌&&◌, List, [], ◌∷◌, ◌++◌, length, nat_eq, slice_get, Option, Some, None}
use Rattle.std.specs.BTreeSet.{insert_key}
use Rattle.std.specs.Cmp.Lexicographic.{pointwise}
use Rattle.std.specs.List.{filter, fold, list_any}
use Rattle.sn_names.specs.LinkOrder.{name_cmp}
use Rattle.sn_names.specs.declared.link.LinkSpec.{LinkSpec}

-- the names in bytewise order, each once
abbrev pub in_order : List (List ℕ) → List (List ℕ)
in_order names = fold (insert_key name_cmp) [] names

-- Apps are placed one after another, whatever stands for an app. `same` tells whether two are one, and `waits` whether one waits
-- for another, where these aren't placed yet.
module _ {K : Type 0} (same : K → K → Bool) (waits : List K → K → Bool) where
  -- those that wait for none
  abbrev pub free_of : List K → List K
  free_of left = filter (λ app. not (waits left app)) left

  -- the next one: the first that waits for none, or else the first of all
  abbrev pub next_of : List K → Option K
  next_of left = slice_get (free_of left ++ left) 0

  -- those that are left behind one
  abbrev pub without : K → List K → List K
  without app left = filter (λ other. not (same other app)) left

  abbrev pub then_more : (List K → List K) → List K → Option K → List K
  then_more more left None = []
  then_more more left (Some app) = app ∷ more (without app left)

  abbrev pub placing : ℕ → List K → List K
  placing zero left = []
  placing (suc n) left = then_more (placing n) left (next_of left)

-- both names are one
abbrev pub same_name : List ℕ → List ℕ → Bool
same_name a b = pointwise nat_eq a b

-- another app, which isn't placed yet, has this link to the app
abbrev pub waits_by : List (List ℕ) → List ℕ → LinkSpec → Bool
waits_by left app link = same_name link.to app && (not (same_name link.from app) && list_any (same_name link.from) left)

abbrev pub waits : List LinkSpec → List (List ℕ) → List ℕ → Bool
waits links left app = list_any (waits_by left app) links

-- the order of pushes, over the names of the apps in bytewise order
abbrev pub push_names : List LinkSpec → List (List ℕ) → List (List ℕ)
push_names links names = placing same_name (waits links) (length names) names
