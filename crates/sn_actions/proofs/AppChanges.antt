-- The apps of the new configuration, one after another.
use Rattle.std.proofs.Common.{Bool, List, None, Option, Some, [], ap, cond, false, is_some, not, refl, sym, true, ℕ, ◌&&◌, ◌++◌, ◌∙◌, ◌∷◌, ◌≡◌}
use Rattle.std.specs.Prelude.{flat_map}
use Rattle.sn_actions.proofs.EqualValues.{exact_spec}
use Rattle.sn_actions.proofs.Removals.{and_true}
use Rattle.sn_actions.proofs.PlainAnswers.{Holds, Look, is_named, named_is, named_self}
use Rattle.sn_actions.proofs.Uniqueness.{AppsOnce, same_named}
use Rattle.sn_actions.proofs.AppliedActions.{Taken, behind, nothing, reconfig_app, start_app, stop_app, taken_agree}
use Rattle.sn_actions.specs.Diffs.{change, starts}
use Rattle.sn_actions.specs.PlainForms.{PlainForm}
use Rattle.sn_actions.specs.Same.{same_arg, same_class}
use Rattle.sn_actions.specs.declared.action.Action.{Action}
use Rattle.sn_actions.specs.declared.action.Action.TheVariants.{ReconfigApp, StartApp, StopApp}
use Rattle.sn_config.specs.Configs.{app_at, same_name}
use Rattle.sn_config.specs.declared.app_spec.AppSpec.{AppSpec}
use Rattle.sn_names.specs.declared.link.LinkSpec.{LinkSpec}

abbrev pub or_else : Option AppSpec → Option AppSpec → Option AppSpec
or_else None there = there
or_else (Some spec) there = Some spec

pub starts_none : (o : Option AppSpec) → starts o None ≡ false
starts_none None = refl
starts_none (Some x) = refl

pub none_from : (o : Option AppSpec) → is_some o ≡ false → o ≡ None
none_from None h = refl
none_from (Some x) h = cc

and_false : (b : Bool) → (b && false) ≡ false
and_false true = refl
and_false false = refl

some_cond : (b : Bool) (spec : AppSpec) (o : Option AppSpec) → is_some o ≡ true → is_some (cond b (Some spec) o) ≡ true
some_cond true spec o h = refl
some_cond false spec o h = h

module _ (spec : AppSpec) where
  over_new : (b : Bool) (o there : Option AppSpec) → (b ≡ true → o ≡ None) → or_else o (cond b (Some spec) there) ≡ or_else (cond b (Some spec) o) there
  over_new true o there h = ap (λ x. or_else x (Some spec)) (h refl)
  over_new false o there h = refl

  over_again : (b : Bool) (o there : Option AppSpec) → (b ≡ true → o ≡ None) → or_else o (cond b (Some spec) (cond b None there)) ≡ or_else (cond b (Some spec) o) there
  over_again true o there h = ap (λ x. or_else x (Some spec)) (h refl)
  over_again false o there h = refl

  over_old : (b : Bool) (o there : Option AppSpec) → (b ≡ true → o ≡ None) → (b ≡ true → there ≡ Some spec) → or_else o there ≡ or_else (cond b (Some spec) o) there
  over_old true o there h k = ap (λ x. or_else x there) (h refl) ∙ k refl
  over_old false o there h k = refl

  -- whether a link stays at its port, by what the old configuration has of its app
  kept_none : (b u : Bool) (x o : Option AppSpec) → (b ≡ true → u ≡ false) → (u && not (starts x o)) ≡ (u && not (starts x (cond b (Some spec) o)))
  kept_none true u x o h = ap (λ v. v && not (starts x o)) (h refl) ∙ sym (ap (λ v. v && not (starts x (Some spec))) (h refl))
  kept_none false u x o h = refl

  kept_same : (b u : Bool) (x o : Option AppSpec) → (b ≡ true → o ≡ None) → (b ≡ true → starts x (Some spec) ≡ false) → (u && not (starts x o)) ≡ (u && not (starts x (cond b (Some spec) o)))
  kept_same true u x o h k = ap (λ v. u && not (starts x v)) (h refl) ∙ ap (λ v. u && not v) (starts_none x) ∙ sym (ap (λ v. u && not v) (k refl))
  kept_same false u x o h k = refl

  kept_gone : (b u : Bool) (x o : Option AppSpec) → (b ≡ true → starts x (Some spec) ≡ true) → ((not b && u) && not (starts x o)) ≡ (u && not (starts x (cond b (Some spec) o)))
  kept_gone true u x o k = sym (ap (λ v. u && not v) (k refl) ∙ and_false u)
  kept_gone false u x o k = refl

absent_by : (u : Bool) (x : Option AppSpec) → (u ≡ true → is_some x ≡ true) → x ≡ None → u ≡ false
absent_by true x h e = let t : is_some x ≡ true = h refl in let n : is_some x ≡ false = ap is_some e in cc
absent_by false x h e = refl

module _ (B : List ℕ → Option AppSpec) where
  -- the look with the apps of a list, where what is at the ports of a started app went
  abbrev pub with_apps : Look → List (List ℕ × AppSpec) → Look
  with_apps s apps =
      record {
        apps = λ n. or_else (app_at apps n) (s.apps n);
        links = s.links;
        outs = λ m. s.outs m && not (starts (B m.from) (app_at apps m.from));
        ins = λ m. s.ins m && not (starts (B m.to) (app_at apps m.to));
      }

  -- the apps of a list are there as they were, and so are the apps of what is at a port
  pub record AsBefore (s : Look) (apps : List (List ℕ × AppSpec)) : Type 0 where
    pub apps_are : (n : List ℕ) → is_some (app_at apps n) ≡ true → s.apps n ≡ B n
    pub outs_had : (m : LinkSpec) → s.outs m ≡ true → is_some (B m.from) ≡ true
    pub ins_had : (m : LinkSpec) → s.ins m ≡ true → is_some (B m.to) ≡ true

  module _ (n : List ℕ) (spec : AppSpec) (apps : List (List ℕ × AppSpec)) (once : is_some (app_at apps n) ≡ false) where
    gone_there : (m : List ℕ) → is_named m n ≡ true → app_at apps m ≡ None
    gone_there m t = ap (app_at apps) (named_is m n t) ∙ none_from (app_at apps n) once

    had_there : (o : Option AppSpec) → B n ≡ o → (m : List ℕ) → is_named m n ≡ true → B m ≡ o
    had_there o e m t = ap B (named_is m n t) ∙ e

    others : (m : List ℕ) (b : Bool) → is_named m n ≡ b → is_some (app_at apps m) ≡ true → b ≡ false
    others m true e t = let g : is_some (app_at apps m) ≡ false = ap is_some (gone_there m e) in cc
    others m false e t = refl

    module _ (s : Look) (before : AsBefore s ((n, spec) ∷ apps)) where
      was : s.apps n ≡ B n
      was = before.apps_are n (ap (λ b. is_some (cond b (Some spec) (app_at apps n))) (named_self n))

      rest : (m : List ℕ) → is_some (app_at apps m) ≡ true → s.apps m ≡ B m
      rest m t = before.apps_are m (some_cond (is_named m n) spec (app_at apps m) t)

      pub start_new : B n ≡ None → (p : PlainForm) → Holds p s → (f : List Action) → ((q : PlainForm) (t : Look) → Holds q t → AsBefore t apps → Taken f q (with_apps t apps)) → Taken (StartApp n spec ∷ [] ++ f) p (with_apps s ((n, spec) ∷ apps))
      start_new e p h f ih =
          let t : Look = record s { apps = λ m. cond (is_named m n) (Some spec) (s.apps m) } in
          let goal = with_apps s ((n, spec) ∷ apps) in
          behind (StartApp n spec ∷ []) f p t goal (start_app p s n spec h (ap is_some (was ∙ e))) (λ q k.
          taken_agree f q (with_apps t apps) goal
          (record {
            apps = λ m. over_new spec (is_named m n) (app_at apps m) (s.apps m) (gone_there m);
            links = λ m. refl;
            outs = λ m. kept_none spec (is_named m.from n) (s.outs m) (B m.from) (app_at apps m.from) (λ y. absent_by (s.outs m) (B m.from) (before.outs_had m) (had_there None e m.from y));
            ins = λ m. kept_none spec (is_named m.to n) (s.ins m) (B m.to) (app_at apps m.to) (λ y. absent_by (s.ins m) (B m.to) (before.ins_had m) (had_there None e m.to y));
          })
          (ih q t k (record { apps_are = λ m y. ap (λ b. cond b (Some spec) (s.apps m)) (others m (is_named m n) refl y) ∙ rest m y; outs_had = before.outs_had; ins_had = before.ins_had })))

      pub leave : (b : AppSpec) → B n ≡ Some b → same_class b.class spec.class ≡ true → same_arg b.arg spec.arg ≡ true → (p : PlainForm) → Holds p s → (f : List Action) → ((q : PlainForm) (t : Look) → Holds q t → AsBefore t apps → Taken f q (with_apps t apps)) → Taken f p (with_apps s ((n, spec) ∷ apps))
      leave b e c d p h f ih =
          let stays : starts (Some b) (Some spec) ≡ false = ap not c in
          let same : Some b ≡ Some spec = ap Some (exact_spec b spec c d) in
          taken_agree f p (with_apps s apps) (with_apps s ((n, spec) ∷ apps))
          (record {
            apps = λ m. over_old spec (is_named m n) (app_at apps m) (s.apps m) (gone_there m) (λ y. ap s.apps (named_is m n y) ∙ was ∙ e ∙ same);
            links = λ m. refl;
            outs = λ m. kept_same spec (is_named m.from n) (s.outs m) (B m.from) (app_at apps m.from) (gone_there m.from) (λ y. ap (λ x. starts x (Some spec)) (had_there (Some b) e m.from y) ∙ stays);
            ins = λ m. kept_same spec (is_named m.to n) (s.ins m) (B m.to) (app_at apps m.to) (gone_there m.to) (λ y. ap (λ x. starts x (Some spec)) (had_there (Some b) e m.to y) ∙ stays);
          })
          (ih p s h (record { apps_are = rest; outs_had = before.outs_had; ins_had = before.ins_had }))

      pub reconfig : (b : AppSpec) → B n ≡ Some b → same_class b.class spec.class ≡ true → (p : PlainForm) → Holds p s → (f : List Action) → ((q : PlainForm) (t : Look) → Holds q t → AsBefore t apps → Taken f q (with_apps t apps)) → Taken (ReconfigApp n spec ∷ [] ++ f) p (with_apps s ((n, spec) ∷ apps))
      reconfig b e c p h f ih =
          let stays : starts (Some b) (Some spec) ≡ false = ap not c in
          let t : Look = record s { apps = λ m. cond (is_named m n) (Some spec) (s.apps m) } in
          let goal = with_apps s ((n, spec) ∷ apps) in
          behind (ReconfigApp n spec ∷ []) f p t goal (reconfig_app p s n b spec h (was ∙ e) c) (λ q k.
          taken_agree f q (with_apps t apps) goal
          (record {
            apps = λ m. over_new spec (is_named m n) (app_at apps m) (s.apps m) (gone_there m);
            links = λ m. refl;
            outs = λ m. kept_same spec (is_named m.from n) (s.outs m) (B m.from) (app_at apps m.from) (gone_there m.from) (λ y. ap (λ x. starts x (Some spec)) (had_there (Some b) e m.from y) ∙ stays);
            ins = λ m. kept_same spec (is_named m.to n) (s.ins m) (B m.to) (app_at apps m.to) (gone_there m.to) (λ y. ap (λ x. starts x (Some spec)) (had_there (Some b) e m.to y) ∙ stays);
          })
          (ih q t k (record { apps_are = λ m y. ap (λ b. cond b (Some spec) (s.apps m)) (others m (is_named m n) refl y) ∙ rest m y; outs_had = before.outs_had; ins_had = before.ins_had })))

      had_left : (there : Bool) (m : List ℕ) → (there ≡ true → is_some (B m) ≡ true) → (not (same_name m n) && there) ≡ true → is_some (B m) ≡ true
      had_left there m f t = f (right_of (not (same_name m n)) there t)
        where
          right_of : (a b : Bool) → (a && b) ≡ true → b ≡ true
          right_of true b h = h
          right_of false b h = cc

      pub restart : (b : AppSpec) → B n ≡ Some b → same_class b.class spec.class ≡ false → (p : PlainForm) → Holds p s → (f : List Action) → ((q : PlainForm) (t : Look) → Holds q t → AsBefore t apps → Taken f q (with_apps t apps)) → Taken (StopApp n ∷ StartApp n spec ∷ [] ++ f) p (with_apps s ((n, spec) ∷ apps))
      restart b e c p h f ih =
          let goes : starts (Some b) (Some spec) ≡ true = ap not c in
          let t : Look = record { apps = λ m. cond (is_named m n) None (s.apps m); links = s.links; outs = λ m. not (same_name m.from n) && s.outs m; ins = λ m. not (same_name m.to n) && s.ins m } in
          let u : Look = record t { apps = λ m. cond (is_named m n) (Some spec) (cond (is_named m n) None (s.apps m)) } in
          let goal = with_apps s ((n, spec) ∷ apps) in
          behind (StopApp n ∷ []) (StartApp n spec ∷ [] ++ f) p t goal (stop_app p s n h (ap is_some (was ∙ e))) (λ q k.
          behind (StartApp n spec ∷ []) f q u goal (start_app q t n spec k (ap (λ b. is_some (cond b None (s.apps n))) (named_self n))) (λ r j.
          taken_agree f r (with_apps u apps) goal
          (record {
            apps = λ m. over_again spec (is_named m n) (app_at apps m) (s.apps m) (gone_there m);
            links = λ m. refl;
            outs = λ m. ap (λ b. (not b && s.outs m) && not (starts (B m.from) (app_at apps m.from))) (same_named m.from n) ∙ kept_gone spec (is_named m.from n) (s.outs m) (B m.from) (app_at apps m.from) (λ y. ap (λ x. starts x (Some spec)) (had_there (Some b) e m.from y) ∙ goes);
            ins = λ m. ap (λ b. (not b && s.ins m) && not (starts (B m.to) (app_at apps m.to))) (same_named m.to n) ∙ kept_gone spec (is_named m.to n) (s.ins m) (B m.to) (app_at apps m.to) (λ y. ap (λ x. starts x (Some spec)) (had_there (Some b) e m.to y) ∙ goes);
          })
          (ih r u j (record {
            apps_are = λ m y. ap (λ b. cond b (Some spec) (cond b None (s.apps m))) (others m (is_named m n) refl y) ∙ rest m y;
            outs_had = λ m y. had_left (s.outs m) m.from (before.outs_had m) y;
            ins_had = λ m y. had_left (s.ins m) m.to (before.ins_had m) y;
          }))))

      pub one_app : (o : Option AppSpec) → B n ≡ o → (p : PlainForm) → Holds p s → (f : List Action) → ((q : PlainForm) (t : Look) → Holds q t → AsBefore t apps → Taken f q (with_apps t apps)) → Taken (change n spec o ++ f) p (with_apps s ((n, spec) ∷ apps))
      one_app None e p h f ih = start_new e p h f ih
      one_app (Some b) e p h f ih = by_class (same_class b.class spec.class) refl
        where
          by_arg : (d : Bool) → same_class b.class spec.class ≡ true → same_arg b.arg spec.arg ≡ d → Taken (cond d [] (ReconfigApp n spec ∷ []) ++ f) p (with_apps s ((n, spec) ∷ apps))
          by_arg true c d = leave b e c d p h f ih
          by_arg false c d = reconfig b e c p h f ih

          by_class : (c : Bool) → same_class b.class spec.class ≡ c → Taken (cond c (cond (same_arg b.arg spec.arg) [] (ReconfigApp n spec ∷ [])) (StopApp n ∷ StartApp n spec ∷ []) ++ f) p (with_apps s ((n, spec) ∷ apps))
          by_class true c = by_arg (same_arg b.arg spec.arg) c refl
          by_class false c = restart b e c p h f ih

  pub apps_change : (apps : List (List ℕ × AppSpec)) (p : PlainForm) (s : Look) → AppsOnce apps → Holds p s → AsBefore s apps → Taken (flat_map (λ app. change app.0 app.1 (B app.0)) apps) p (with_apps s apps)
  apps_change [] p s o h b =
      taken_agree [] p s (with_apps s []) (record { apps = λ n. refl; links = λ m. refl; outs = λ m. and_true (s.outs m) ∙ sym (ap (λ v. s.outs m && not v) (starts_none (B m.from))); ins = λ m. and_true (s.ins m) ∙ sym (ap (λ v. s.ins m && not v) (starts_none (B m.to))) }) (nothing p s h)
  apps_change (e ∷ apps) p s o h b =
      one_app e.0 e.1 apps o.0 s b (B e.0) refl p h (flat_map (λ app. change app.0 app.1 (B app.0)) apps) (λ q t k a. apps_change apps q t o.1 k a)
