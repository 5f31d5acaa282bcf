-- What the actions between two configurations name, and how many there are at most.
use Rattle.std.proofs.Common.{All, Bool, Contains, List, None, Option, Some, [], ap, arith, cond, false, get_or, is_some, length, length-append, map, not, refl, subst, suc, sym, true, ℕ, ◌*◌, ◌++◌, ◌∙◌, ◌∷◌, ◌≡◌, ◌≤◌}
use Rattle.std.proofs.lemmas.List.Concat.{flat_map-cons}
use Rattle.std.proofs.lemmas.List.Elements.{All-append, All-contains_itself, All-from_recursion, All-map, All-nil, All-weaker, recursion_from_All}
use Rattle.std.proofs.lemmas.Map.Entries.{length-keys_of, lookup_from_place}
use Rattle.std.proofs.lemmas.Map.Keys.{IsDistinct-from_sorted}
use Rattle.std.proofs.lemmas.Map.Views.{list_any-from_Contains}
use Rattle.std.proofs.lemmas.Option.{slice_get-get_or}
use Rattle.std.specs.Cmp.{eq_by_cmp_equiv}
use Rattle.std.specs.List.{AllByRecursion}
use Rattle.std.specs.List.Sorted.{IsStrictlySortedBy}
use Rattle.std.specs.Map.{keys_of}
use Rattle.std.specs.Prelude.{filter, flat_map}
use Rattle.sn_actions.proofs.Uniqueness.{some_named}
use Rattle.sn_actions.specs.Diffs.{IsChange, change, diff_of, is_started, link_change, linking, relinking, removed_apps, removed_links, unlinking}
use Rattle.sn_actions.specs.Same.{same_arg, same_class}
use Rattle.sn_actions.specs.declared.action.Action.{Action}
use Rattle.sn_actions.specs.declared.action.Action.TheVariants.{ReconfigApp, StartApp, StopApp}
use Rattle.sn_config.specs.Configs.{ConfigForm, IsConfig, app_at, has_app, has_link}
use Rattle.sn_config.specs.declared.app_spec.AppSpec.{AppSpec}
use Rattle.sn_names.specs.LinkOrder.{link_cmp_total, name_cmp, name_cmp_total}
use Rattle.sn_names.specs.declared.link.LinkSpec.{LinkSpec}

-- what holds of the elements of each piece holds of all
all_flat : {A B : Type 0} (P : B → Type 0) (Q : A → Type 0) (f : A → List B) → ((x : A) → Q x → All P (f x)) → (xs : List A) → AllByRecursion Q xs → All P (flat_map f xs)
all_flat P Q f h [] t = All-nil P
all_flat P Q f h (x ∷ xs) t = subst (All P) (sym (flat_map-cons f x xs)) (All-append P (f x) (flat_map f xs) (h x t.0) (all_flat P Q f h xs t.1))

all_kept : {A : Type 0} (Q : A → Type 0) (p : A → Bool) (xs : List A) → AllByRecursion Q xs → AllByRecursion Q (filter p xs)
all_kept Q p [] t = tt
all_kept Q p (x ∷ xs) t = kept_by (p x) (all_kept Q p xs t.1)
  where
    kept_by : (b : Bool) → AllByRecursion Q (filter p xs) → AllByRecursion Q (cond b (x ∷ filter p xs) (filter p xs))
    kept_by true more = (t.0, more)
    kept_by false more = more

few_kept : {A : Type 0} (p : A → Bool) (xs : List A) → length (filter p xs) ≤ length xs
few_kept p [] = omega arith
few_kept p (x ∷ xs) = few_by (p x) (few_kept p xs)
  where
    few_by : (b : Bool) → length (filter p xs) ≤ length xs → length (cond b (x ∷ filter p xs) (filter p xs)) ≤ length (x ∷ xs)
    few_by true few = omega arith
    few_by false few = omega arith

-- at most three actions for each
few_flat : {A : Type 0} (f : A → List Action) → ((x : A) → length (f x) ≤ 3) → (xs : List A) → length (flat_map f xs) ≤ 3 * length xs
few_flat f h [] = omega arith
few_flat f h (x ∷ xs) =
    subst (λ (ys : List Action). length ys ≤ 3 * length (x ∷ xs)) (sym (flat_map-cons f x xs)) (omega (arith, length-append (f x) (flat_map f xs), h x, few_flat f h xs))

links_there : (links : List LinkSpec) → AllByRecursion (λ l. has_link links l ≡ true) links
links_there links =
    recursion_from_All (λ l. has_link links l ≡ true) links (All-weaker (Contains links) (λ l. has_link links l ≡ true) (λ l c. list_any-from_Contains (eq_by_cmp_equiv link_cmp_total) l links c) links (All-contains_itself links))

names_there : (apps : List (List ℕ × AppSpec)) → AllByRecursion (λ n. is_some (app_at apps n) ≡ true) (keys_of apps)
names_there apps =
    recursion_from_All (λ n. is_some (app_at apps n) ≡ true) (keys_of apps) (All-weaker (Contains (keys_of apps)) (λ n. is_some (app_at apps n) ≡ true) (λ n c. some_named apps n ∙ list_any-from_Contains (eq_by_cmp_equiv name_cmp_total) n (keys_of apps) c) (keys_of apps) (All-contains_itself (keys_of apps)))

apps_there : (apps : List (List ℕ × AppSpec)) → IsStrictlySortedBy name_cmp (keys_of apps) → AllByRecursion (λ e. app_at apps e.0 ≡ Some e.1) apps
apps_there apps sorted =
    recursion_from_All (λ e. app_at apps e.0 ≡ Some e.1) apps (λ k d within.
    lookup_from_place (eq_by_cmp_equiv name_cmp_total) apps k (get_or apps k d).0 (get_or apps k d).1 (IsDistinct-from_sorted name_cmp (keys_of apps) sorted) (slice_get-get_or apps k d within))

module _ (old new : ConfigForm) where
  abbrev Named : Action → Type 0
  Named action = IsChange old new action

  unlinked : (l : LinkSpec) → has_link old.links l ≡ true → All Named (unlinking l)
  unlinked l t = All-from_recursion Named (unlinking l) (t, (t, (t, tt)))

  linked : (l : LinkSpec) → has_link new.links l ≡ true → All Named (linking l)
  linked l t = All-from_recursion Named (linking l) (t, (t, (t, tt)))

  relinked : (from to : Bool) (l : LinkSpec) → has_link new.links l ≡ true → All Named (relinking from to l)
  relinked true true l t = All-from_recursion Named (relinking true true l) (t, (t, tt))
  relinked true false l t = All-from_recursion Named (relinking true false l) (t, tt)
  relinked false true l t = All-from_recursion Named (relinking false true l) (t, tt)
  relinked false false l t = All-nil Named

  link_changed : (l : LinkSpec) → has_link new.links l ≡ true → All Named (link_change old new l)
  link_changed l t = by (has_link old.links l)
    where
      by : (b : Bool) → All Named (cond b (relinking (is_started old.apps new.apps l.from) (is_started old.apps new.apps l.to) l) (linking l))
      by true = relinked (is_started old.apps new.apps l.from) (is_started old.apps new.apps l.to) l t
      by false = linked l t

  app_changed : (e : List ℕ × AppSpec) → app_at new.apps e.0 ≡ Some e.1 → (o : Option AppSpec) → app_at old.apps e.0 ≡ o → All Named (change e.0 e.1 o)
  app_changed e t None u = All-from_recursion Named (change e.0 e.1 None) (t, tt)
  app_changed e t (Some before) u = by (same_class before.class e.1.class) (same_arg before.arg e.1.arg)
    where
      by : (b c : Bool) → All Named (cond b (cond c [] (ReconfigApp e.0 e.1 ∷ [])) (StopApp e.0 ∷ StartApp e.0 e.1 ∷ []))
      by true true = All-nil Named
      by true false = All-from_recursion Named (ReconfigApp e.0 e.1 ∷ []) (t, tt)
      by false c = All-from_recursion Named (StopApp e.0 ∷ StartApp e.0 e.1 ∷ []) (ap is_some u, (t, tt))

  pub all_changes : IsStrictlySortedBy name_cmp (keys_of new.apps) → All Named (diff_of old new)
  all_changes sorted =
      let unlinks = flat_map unlinking (removed_links old.links new.links) in
      let halts = map StopApp (removed_apps old new) in
      let changes = flat_map (λ app. change app.0 app.1 (app_at old.apps app.0)) new.apps in
      let links = flat_map (link_change old new) new.links in
      All-append Named unlinks (halts ++ (changes ++ links))
      (all_flat Named (λ l. has_link old.links l ≡ true) unlinking unlinked (removed_links old.links new.links) (all_kept (λ l. has_link old.links l ≡ true) (λ l. not (has_link new.links l)) old.links (links_there old.links)))
      (All-append Named halts (changes ++ links)
      (All-map Named StopApp (removed_apps old new) (All-from_recursion (λ n. Named (StopApp n)) (removed_apps old new) (all_kept (λ n. Named (StopApp n)) (λ n. not (has_app new n)) (keys_of old.apps) (names_there old.apps))))
      (All-append Named changes links
      (all_flat Named (λ e. app_at new.apps e.0 ≡ Some e.1) (λ app. change app.0 app.1 (app_at old.apps app.0)) (λ e t. app_changed e t (app_at old.apps e.0) refl) new.apps (apps_there new.apps sorted))
      (all_flat Named (λ l. has_link new.links l ≡ true) (link_change old new) link_changed new.links (links_there new.links))))

  few_changed : (e : List ℕ × AppSpec) (o : Option AppSpec) → length (change e.0 e.1 o) ≤ 3
  few_changed e None = omega arith
  few_changed e (Some before) = by (same_class before.class e.1.class) (same_arg before.arg e.1.arg)
    where
      by : (b c : Bool) → length (cond b (cond c [] (ReconfigApp e.0 e.1 ∷ [])) (StopApp e.0 ∷ StartApp e.0 e.1 ∷ [])) ≤ 3
      by true true = omega arith
      by true false = omega arith
      by false c = omega arith

  few_relinked : (b from to : Bool) (l : LinkSpec) → length (cond b (relinking from to l) (linking l)) ≤ 3
  few_relinked true true true l = omega arith
  few_relinked true true false l = omega arith
  few_relinked true false true l = omega arith
  few_relinked true false false l = omega arith
  few_relinked false from to l = omega arith

  few_halts : length (map StopApp (removed_apps old new)) ≤ length old.apps
  few_halts = halts (removed_apps old new) (few_kept (λ n. not (has_app new n)) (keys_of old.apps)) (length-keys_of old.apps)
    where
      mapped : (names : List (List ℕ)) → length (map StopApp names) ≡ length names
      mapped [] = refl
      mapped (n ∷ names) = ap suc (mapped names)

      halts : (names : List (List ℕ)) → length names ≤ length (keys_of old.apps) → length (keys_of old.apps) ≡ length old.apps → length (map StopApp names) ≤ length old.apps
      halts names few same = omega (arith, mapped names)

  pub few_changes : IsConfig old → IsConfig new → length (diff_of old new) ≤ 4096
  few_changes h k =
      let unlinks = flat_map unlinking (removed_links old.links new.links) in
      let halts = map StopApp (removed_apps old new) in
      let changes = flat_map (λ app. change app.0 app.1 (app_at old.apps app.0)) new.apps in
      let links = flat_map (link_change old new) new.links in
      let a = few_flat unlinking (λ l. omega arith) (removed_links old.links new.links) in
      let b = few_kept (λ l. not (has_link new.links l)) old.links in
      let d = few_flat (λ app. change app.0 app.1 (app_at old.apps app.0)) (λ e. few_changed e (app_at old.apps e.0)) new.apps in
      let e = few_flat (link_change old new) (λ l. few_relinked (has_link old.links l) (is_started old.apps new.apps l.from) (is_started old.apps new.apps l.to) l) new.links in
      let f = few_halts in
      let s = h.few_apps in
      let t = h.few_links in
      let u = k.few_apps in
      let v = k.few_links in
      omega (arith, length-append unlinks (halts ++ (changes ++ links)), length-append halts (changes ++ links), length-append changes links)
