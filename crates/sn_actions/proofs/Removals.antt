-- The links and the apps that go, one after another.
use Rattle.std.proofs.Common.{Bool, List, None, Option, [], ap, cond, false, is_some, map, not, refl, subst, sym, true, ℕ, ◌&&◌, ◌∙◌, ◌∷◌, ◌≡◌, ◌||◌}
use Rattle.std.specs.Prelude.{filter, flat_map}
use Rattle.sn_actions.proofs.PlainAnswers.{Holds, Look, either_right, is_named, is_this, named_is, named_self, this_is, this_self}
use Rattle.sn_actions.proofs.Uniqueness.{LinksOnce, NamesOnce, has_name, links_apart, names_apart, same_named}
use Rattle.sn_actions.proofs.AppliedActions.{Taken, behind, nothing, stop_app, taken_agree, unlink}
use Rattle.sn_actions.specs.Diffs.{unlinking}
use Rattle.sn_actions.specs.PlainForms.{PlainForm}
use Rattle.sn_actions.specs.declared.action.Action.TheVariants.{StopApp}
use Rattle.sn_config.specs.Configs.{has_link, same_name}
use Rattle.sn_config.specs.declared.app_spec.AppSpec.{AppSpec}
use Rattle.sn_names.specs.declared.link.LinkSpec.{LinkSpec}

pub and_true : (b : Bool) → b ≡ (b && true)
and_true true = refl
and_true false = refl

and_false : (b : Bool) → (b && false) ≡ false
and_false true = refl
and_false false = refl

-- of what is there, what isn't in a part that goes
abbrev pub stays : Bool → Bool → Bool → Bool
stays there part goes = there && not (part && goes)

stays_more : (b there part goes : Bool) → (b ≡ true → goes ≡ true) → stays (not b && there) part goes ≡ stays there (b || part) goes
stays_more true there part goes h = sym (ap (λ g. there && not g) (h refl) ∙ and_false there)
stays_more false there part goes h = refl

stays_same : (b there part goes : Bool) → (b ≡ true → goes ≡ false) → stays there part goes ≡ stays there (b || part) goes
stays_same true there part goes h = ap (λ g. there && not (part && g)) (h refl) ∙ ap (λ g. there && not g) (and_false part) ∙ sym (ap (λ g. there && not g) (h refl))
stays_same false there part goes h = refl

-- the look without the links of a list that go
abbrev pub without_links : Look → List LinkSpec → (LinkSpec → Bool) → Look
without_links s links goes =
    record {
      apps = s.apps;
      links = λ m. stays (s.links m) (has_link links m) (goes m);
      outs = λ m. stays (s.outs m) (has_link links m) (goes m);
      ins = λ m. stays (s.ins m) (has_link links m) (goes m);
    }

this_goes : (goes : LinkSpec → Bool) (l m : LinkSpec) (b : Bool) → goes l ≡ b → is_this m l ≡ true → goes m ≡ b
this_goes goes l m b e t = subst (λ x. goes x ≡ b) (sym (this_is m l t)) e

module _ (goes : LinkSpec → Bool) where
  pub links_go : (links : List LinkSpec) (p : PlainForm) (s : Look) → LinksOnce links → Holds p s
      → ((m : LinkSpec) → has_link links m ≡ true → s.links m ≡ true)
      → ((m : LinkSpec) → has_link links m ≡ true → s.outs m ≡ true)
      → ((m : LinkSpec) → has_link links m ≡ true → s.ins m ≡ true)
      → Taken (flat_map unlinking (filter goes links)) p (without_links s links goes)
  links_go [] p s o h a b c =
      taken_agree [] p s (without_links s [] goes) (record { apps = λ n. refl; links = λ m. and_true (s.links m); outs = λ m. and_true (s.outs m); ins = λ m. and_true (s.ins m) }) (nothing p s h)
  links_go (l ∷ links) p s o h a b c = by (goes l) refl (λ q t k a b c. links_go links q t o.1 k a b c)
    where
      self : has_link (l ∷ links) l ≡ true
      self = ap (λ t. t || has_link links l) (this_self l)

      rest : (there : LinkSpec → Bool) → ((m : LinkSpec) → has_link (l ∷ links) m ≡ true → there m ≡ true) → (m : LinkSpec) → has_link links m ≡ true → there m ≡ true
      rest there f m t = f m (either_right (is_this m l) (has_link links m) t)

      left : (there : LinkSpec → Bool) → ((m : LinkSpec) → has_link (l ∷ links) m ≡ true → there m ≡ true) → (m : LinkSpec) → has_link links m ≡ true → (not (is_this m l) && there m) ≡ true
      left there f m t = ap (λ b. not b && there m) (links_apart links l m (is_this m l) refl o.0 t) ∙ rest there f m t

      by : (g : Bool) → goes l ≡ g
          → ((q : PlainForm) (t : Look) → Holds q t → ((m : LinkSpec) → has_link links m ≡ true → t.links m ≡ true) → ((m : LinkSpec) → has_link links m ≡ true → t.outs m ≡ true) → ((m : LinkSpec) → has_link links m ≡ true → t.ins m ≡ true) → Taken (flat_map unlinking (filter goes links)) q (without_links t links goes))
          → Taken (flat_map unlinking (cond g (l ∷ filter goes links) (filter goes links))) p (without_links s (l ∷ links) goes)
      by true e ih =
          let s1 : Look = record { apps = s.apps; links = λ m. not (is_this m l) && s.links m; outs = λ m. not (is_this m l) && s.outs m; ins = λ m. not (is_this m l) && s.ins m } in
          let more : (there : LinkSpec → Bool) (m : LinkSpec) → stays (not (is_this m l) && there m) (has_link links m) (goes m) ≡ stays (there m) (is_this m l || has_link links m) (goes m) = λ there m. stays_more (is_this m l) (there m) (has_link links m) (goes m) (this_goes goes l m true e) in
          behind (unlinking l) (flat_map unlinking (filter goes links)) p s1 (without_links s (l ∷ links) goes) (unlink p s l h (a l self) (b l self) (c l self)) (λ q k.
          taken_agree (flat_map unlinking (filter goes links)) q (without_links s1 links goes) (without_links s (l ∷ links) goes)
          (record { apps = λ n. refl; links = more s.links; outs = more s.outs; ins = more s.ins })
          (ih q s1 k (left s.links a) (left s.outs b) (left s.ins c)))
      by false e ih =
          let same : (there : LinkSpec → Bool) (m : LinkSpec) → stays (there m) (has_link links m) (goes m) ≡ stays (there m) (is_this m l || has_link links m) (goes m) = λ there m. stays_same (is_this m l) (there m) (has_link links m) (goes m) (this_goes goes l m false e) in
          taken_agree (flat_map unlinking (filter goes links)) p (without_links s links goes) (without_links s (l ∷ links) goes)
          (record { apps = λ n. refl; links = same s.links; outs = same s.outs; ins = same s.ins })
          (ih p s h (rest s.links a) (rest s.outs b) (rest s.ins c))

-- the app of a name, unless it goes
abbrev pub keeps : Option AppSpec → Bool → Bool → Option AppSpec
keeps there part goes = cond (part && goes) None there

keeps_more : (b : Bool) (there : Option AppSpec) (part goes : Bool) → (b ≡ true → goes ≡ true) → keeps (cond b None there) part goes ≡ keeps there (b || part) goes
keeps_more true there part goes h = none_either (part && goes) ∙ sym (ap (λ g. cond g None there) (h refl))
  where
    none_either : (c : Bool) → ◌≡◌ {A = Option AppSpec} (cond c None None) None
    none_either true = refl
    none_either false = refl
keeps_more false there part goes h = refl

keeps_same : (b : Bool) (there : Option AppSpec) (part goes : Bool) → (b ≡ true → goes ≡ false) → keeps there part goes ≡ keeps there (b || part) goes
keeps_same true there part goes h = ap (λ g. cond (part && g) None there) (h refl) ∙ ap (λ g. cond g None there) (and_false part) ∙ sym (ap (λ g. cond g None there) (h refl))
keeps_same false there part goes h = refl

-- the look without the apps of a list that go, and what is at their ports
abbrev pub without_apps : Look → List (List ℕ) → (List ℕ → Bool) → Look
without_apps s names goes =
    record {
      apps = λ n. keeps (s.apps n) (has_name names n) (goes n);
      links = s.links;
      outs = λ m. stays (s.outs m) (has_name names m.from) (goes m.from);
      ins = λ m. stays (s.ins m) (has_name names m.to) (goes m.to);
    }

module _ (goes : List ℕ → Bool) where
  pub apps_go : (names : List (List ℕ)) (p : PlainForm) (s : Look) → NamesOnce names → Holds p s
      → ((n : List ℕ) → has_name names n ≡ true → is_some (s.apps n) ≡ true)
      → Taken (map StopApp (filter goes names)) p (without_apps s names goes)
  apps_go [] p s o h a =
      taken_agree [] p s (without_apps s [] goes) (record { apps = λ n. refl; links = λ m. refl; outs = λ m. and_true (s.outs m); ins = λ m. and_true (s.ins m) }) (nothing p s h)
  apps_go (n ∷ names) p s o h a = by (goes n) refl (λ q t k a. apps_go names q t o.1 k a)
    where
      named_goes : (m : List ℕ) (b : Bool) → goes n ≡ b → is_named m n ≡ true → goes m ≡ b
      named_goes m b e t = subst (λ x. goes x ≡ b) (sym (named_is m n t)) e

      rest : (m : List ℕ) → has_name names m ≡ true → is_some (s.apps m) ≡ true
      rest m t = a m (either_right (is_named m n) (has_name names m) t)

      by : (g : Bool) → goes n ≡ g
          → ((q : PlainForm) (t : Look) → Holds q t → ((m : List ℕ) → has_name names m ≡ true → is_some (t.apps m) ≡ true) → Taken (map StopApp (filter goes names)) q (without_apps t names goes))
          → Taken (map StopApp (cond g (n ∷ filter goes names) (filter goes names))) p (without_apps s (n ∷ names) goes)
      by true e ih =
          let s1 : Look = record { apps = λ m. cond (is_named m n) None (s.apps m); links = s.links; outs = λ m. not (same_name m.from n) && s.outs m; ins = λ m. not (same_name m.to n) && s.ins m } in
          let more : (there : Bool) (m : List ℕ) → stays (not (same_name m n) && there) (has_name names m) (goes m) ≡ stays there (is_named m n || has_name names m) (goes m) = λ there m. ap (λ b. stays (not b && there) (has_name names m) (goes m)) (same_named m n) ∙ stays_more (is_named m n) there (has_name names m) (goes m) (named_goes m true e) in
          behind (StopApp n ∷ []) (map StopApp (filter goes names)) p s1 (without_apps s (n ∷ names) goes) (stop_app p s n h (a n (ap (λ t. t || has_name names n) (named_self n)))) (λ q k.
          taken_agree (map StopApp (filter goes names)) q (without_apps s1 names goes) (without_apps s (n ∷ names) goes)
          (record { apps = λ m. keeps_more (is_named m n) (s.apps m) (has_name names m) (goes m) (named_goes m true e); links = λ m. refl; outs = λ m. more (s.outs m) m.from; ins = λ m. more (s.ins m) m.to })
          (ih q s1 k (λ m t. ap (λ b. is_some (cond b None (s.apps m))) (names_apart names n m (is_named m n) refl o.0 t) ∙ rest m t)))
      by false e ih =
          let same : (there : Bool) (m : List ℕ) → stays there (has_name names m) (goes m) ≡ stays there (is_named m n || has_name names m) (goes m) = λ there m. stays_same (is_named m n) there (has_name names m) (goes m) (named_goes m false e) in
          taken_agree (map StopApp (filter goes names)) p (without_apps s names goes) (without_apps s (n ∷ names) goes)
          (record { apps = λ m. keeps_same (is_named m n) (s.apps m) (has_name names m) (goes m) (named_goes m false e); links = λ m. refl; outs = λ m. same (s.outs m) m.from; ins = λ m. same (s.ins m) m.to })
          (ih p s h rest)
