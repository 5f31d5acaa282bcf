-- Lists in which nothing stands twice, and what stands in them.
use Rattle.std.proofs.Common.{Bool, List, Option, Some, [], ap, cond, false, is_some, refl, rules, subst, true, ℕ, ◌∙◌, ◌∷◌, ◌≡◌, ◌||◌}
use Rattle.std.specs.BTreeMap.{is_at}
use Rattle.std.specs.Cmp.Rules.{comparing}
use Rattle.std.specs.List.{AllByRecursion, list_any}
use Rattle.std.specs.List.Sorted.{IsStrictlySortedBy}
use Rattle.std.specs.Map.{keys_of}
use Rattle.std.specs.Ordering.{is_eq}
use Rattle.std.specs.declared.cmp.Ordering.{Ordering}
use Rattle.std.specs.declared.cmp.Ordering.TheVariants.{Less}
use Rattle.sn_actions.proofs.PlainAnswers.{is_named, is_this, named_is, this_is}
use Rattle.sn_config.specs.Configs.{app_at, has_link, same_name}
use Rattle.sn_config.specs.declared.app_spec.AppSpec.{AppSpec}
use Rattle.sn_names.specs.LinkOrder.{link_cmp, name_cmp}
use Rattle.sn_names.specs.declared.link.LinkSpec.{LinkSpec}

abbrev pub has_name : List (List ℕ) → List ℕ → Bool
has_name names n = list_any (is_named n) names

abbrev pub LinksOnce : List LinkSpec → Type 0
LinksOnce [] = Unit {0}
LinksOnce (l ∷ links) = (has_link links l ≡ false) × LinksOnce links

abbrev pub NamesOnce : List (List ℕ) → Type 0
NamesOnce [] = Unit {0}
NamesOnce (n ∷ names) = (has_name names n ≡ false) × NamesOnce names

abbrev pub AppsOnce : List (List ℕ × AppSpec) → Type 0
AppsOnce [] = Unit {0}
AppsOnce (e ∷ apps) = (is_some (app_at apps e.0) ≡ false) × AppsOnce apps

above_all : {K : Type 0} (R : K → K → Ordering) (x : K) (xs : List K) → AllByRecursion (λ y. R x y ≡ Less) xs → list_any (is_at (R x)) xs ≡ false
above_all R x [] h = refl
above_all R x (y ∷ ys) h = ap (λ o. is_eq o || list_any (is_at (R x)) ys) h.0 ∙ above_all R x ys h.1

pub links_once : (links : List LinkSpec) → IsStrictlySortedBy link_cmp links → LinksOnce links
unfolding IsStrictlySortedBy
links_once [] h = tt
links_once (l ∷ links) h = (above_all link_cmp l links h.0, links_once links h.1)

pub names_once : (names : List (List ℕ)) → IsStrictlySortedBy name_cmp names → NamesOnce names
unfolding IsStrictlySortedBy
names_once [] h = tt
names_once (n ∷ names) h = (above_all name_cmp n names h.0, names_once names h.1)

pub some_named : (apps : List (List ℕ × AppSpec)) (n : List ℕ) → is_some (app_at apps n) ≡ has_name (keys_of apps) n
some_named [] n = refl
some_named (e ∷ apps) n = some_by (is_named n e.0) (Some e.1) (app_at apps n) ∙ ap (λ b. is_named n e.0 || b) (some_named apps n)
  where
    some_by : (b : Bool) (x : Option AppSpec) (o : Option AppSpec) → is_some (cond b (Some e.1) o) ≡ (b || is_some o)
    some_by true x o = refl
    some_by false x o = refl

pub apps_once : (apps : List (List ℕ × AppSpec)) → NamesOnce (keys_of apps) → AppsOnce apps
apps_once [] h = tt
apps_once (e ∷ apps) h = (some_named apps e.0 ∙ h.0, apps_once apps h.1)

-- what stands in the rest isn't what stands before it
pub links_apart : (links : List LinkSpec) (l m : LinkSpec) (b : Bool) → is_this m l ≡ b → has_link links l ≡ false → has_link links m ≡ true → b ≡ false
links_apart links l m true e n h = let t : has_link links l ≡ true = subst (λ x. has_link links x ≡ true) (this_is m l e) h in cc
links_apart links l m false e n h = refl

pub names_apart : (names : List (List ℕ)) (l m : List ℕ) (b : Bool) → is_named m l ≡ b → has_name names l ≡ false → has_name names m ≡ true → b ≡ false
names_apart names l m true e n h = let t : has_name names l ≡ true = subst (λ x. has_name names x ≡ true) (named_is m l e) h in cc
names_apart names l m false e n h = refl

pub same_named : (a b : List ℕ) → same_name a b ≡ is_named a b
same_named a b = search (comparing, rules)
