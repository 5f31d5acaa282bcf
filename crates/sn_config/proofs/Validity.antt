-- A configuration stays one when an allowed link or an app is added.
use Rattle.std.proofs.Common.{All, Bool, List, None, Option, Some, [], ap, arith, cond, false, is_some, length, refl, subst, sym, true, ℕ, ◌&&◌, ◌+◌, ◌<◌, ◌||◌, ◌∙◌, ◌∷◌, ◌≡◌, ◌≤◌, nat_le}
use Rattle.std.proofs.lemmas.Bool.Decides.{nat_tests}
use Rattle.std.proofs.lemmas.Cmp.{nat_list_eq_equiv}
use Rattle.std.proofs.lemmas.Map.Views.{All-values-insert_entry}
use Rattle.std.specs.BTreeMap.{insert_entry, is_at}
use Rattle.std.specs.Map.{values_of}
use Rattle.std.specs.List.{list_any}
use Rattle.std.specs.Ordering.{is_eq}
use Rattle.std.specs.declared.cmp.Ordering.{Ordering}
use Rattle.std.specs.declared.cmp.Ordering.TheVariants.{Equal, Greater, Less}
use Rattle.sn_config.specs.ArgText.{IsArgOf}
use Rattle.sn_config.proofs.UniqueArguments.{first_false, second_false}
use Rattle.sn_config.specs.Configs.{ConfigForm, IsConfig, app_at, first_fault, has_app, has_link, link_fault, shares_port}
use Rattle.sn_config.specs.declared.app_spec.AppSpec.{AppSpec}
use Rattle.sn_names.specs.LinkOrder.{exact_links, link_cmp, name_cmp}
use Rattle.sn_names.specs.declared.link.LinkSpec.{LinkSpec}

equal_from : (o : Ordering) → is_eq o ≡ true → o ≡ Equal
equal_from Less h = cc
equal_from Equal h = refl
equal_from Greater h = cc

pub same_link : (a b : LinkSpec) → is_at (link_cmp a) b ≡ true → a ≡ b
same_link a b h = exact_links a b (equal_from (link_cmp a b) h)

-- what no link of a list passes, no link in it passes
any_by : (b : Bool) (p : LinkSpec → Bool) (x : LinkSpec) (xs : List LinkSpec) (l : LinkSpec) → is_at (link_cmp l) x ≡ b → (b || has_link xs l) ≡ true → (p x || list_any p xs) ≡ false → (has_link xs l ≡ true → list_any p xs ≡ false → p l ≡ false) → p l ≡ false
any_by true p x xs l e h n more = subst (λ y. p y ≡ false) (sym (same_link l x e)) (first_false (p x) (list_any p xs) n)
any_by false p x xs l e h n more = more h (second_false (p x) (list_any p xs) n)

pub none_passes : (p : LinkSpec → Bool) (links : List LinkSpec) (l : LinkSpec) → has_link links l ≡ true → list_any p links ≡ false → p l ≡ false
none_passes p [] l h n = cc
none_passes p (x ∷ xs) l h n = any_by (is_at (link_cmp l) x) p x xs l refl h n (none_passes p xs l)

-- what the checks of a link answer
pub record Allowed (there apps taken full : Bool) : Type 0 where
  pub absent : there ≡ false
  pub both : apps ≡ true
  pub free : taken ≡ false
  pub room : full ≡ false

pub allowed : (there apps taken full : Bool) → first_fault there apps taken full ≡ None → Allowed there apps taken full
allowed true apps taken full e = cc
allowed false false taken full e = cc
allowed false true true full e = cc
allowed false true false true e = cc
allowed false true false false e = record { absent = refl; both = refl; free = refl; room = refl }

both_first : (a b : Bool) → (a && b) ≡ true → a ≡ true
both_first true b h = refl
both_first false b h = h

both_second : (a b : Bool) → (a && b) ≡ true → b ≡ true
both_second true b h = h
both_second false b h = cc

shares_port_sym : (a b : LinkSpec) → shares_port a b ≡ shares_port b a
shares_port_sym a b = λ i. (nat_list_eq_equiv.symm b.from a.from i && nat_list_eq_equiv.symm b.out a.out i) || (nat_list_eq_equiv.symm b.to a.to i && nat_list_eq_equiv.symm b.input a.input i)

-- a link of the longer list is the new one or an older one
data Source (links : List LinkSpec) (link q : LinkSpec) : Type 0 where
  New : link ≡ q → Source links link q
  Old : has_link links q ≡ true → Source links link q

source_by : (b : Bool) (links : List LinkSpec) (link q : LinkSpec) → is_at (link_cmp link) q ≡ b → cond b true (has_link links q) ≡ true → Source links link q
source_by true links link q e h = New (same_link link q e)
source_by false links link q e h = Old h

ports_by : (config : ConfigForm) (link a b : LinkSpec) → IsConfig config → list_any (shares_port link) config.links ≡ false → Source config.links link a → Source config.links link b → shares_port a b ≡ true → a ≡ b
ports_by config link a b h free (New e) (New f) s = sym e ∙ f
ports_by config link a b h free (New e) (Old g) s =
    let t : shares_port link b ≡ true = subst (λ l. shares_port l b ≡ true) (sym e) s in
    let n = none_passes (shares_port link) config.links b g free in cc
ports_by config link a b h free (Old g) (New f) s =
    let t : shares_port a link ≡ true = subst (λ l. shares_port a l ≡ true) (sym f) s in
    let u = shares_port_sym link a in
    let n = none_passes (shares_port link) config.links a g free in cc
ports_by config link a b h free (Old g) (Old k) s = h.ports a b g k s

app_by : (config : ConfigForm) (link q : LinkSpec) (name : LinkSpec → List ℕ) → has_app config (name link) ≡ true → ((l : LinkSpec) → has_link config.links l ≡ true → has_app config (name l) ≡ true) → Source config.links link q → has_app config (name q) ≡ true
app_by config link q name t old (New e) = subst (λ l. has_app config (name l) ≡ true) e t
app_by config link q name t old (Old g) = old q g

-- a configuration with the links that an allowed one was put among
pub with_link_valid : (config : ConfigForm) (links : List LinkSpec) (link : LinkSpec) → IsConfig config → link_fault config link ≡ None → ((q : LinkSpec) → has_link links q ≡ cond (is_at (link_cmp link) q) true (has_link config.links q)) → length links ≤ length config.links + 1 → IsConfig (record { apps = config.apps; links = links })
with_link_valid config links link h e more few =
    let c = allowed (has_link config.links link) (has_app config link.from && has_app config link.to) (list_any (shares_port link) config.links) (nat_le 512 (length config.links)) e in
    let room : length config.links < 512 = let r = c.room in grind (arith, nat_tests) in
    let source : (q : LinkSpec) → has_link links q ≡ true → Source config.links link q = λ q t. source_by (is_at (link_cmp link) q) config.links link q refl (sym (more q) ∙ t) in
    record {
      args = h.args;
      few_apps = h.few_apps;
      few_links = omega arith;
      from = λ q t. app_by config link q (λ l. l.from) (both_first (has_app config link.from) (has_app config link.to) c.both) h.from (source q t);
      to = λ q t. app_by config link q (λ l. l.to) (both_second (has_app config link.from) (has_app config link.to) c.both) h.to (source q t);
      ports = λ a b s t p. ports_by config link a b h c.free (source a s) (source b t) p;
    }

some_cond : (b : Bool) (x o : Option AppSpec) → is_some x ≡ true → is_some o ≡ true → is_some (cond b x o) ≡ true
some_cond true x o s t = s
some_cond false x o s t = t

-- a configuration with the apps that one was put among
pub with_app_valid : (config : ConfigForm) (apps : List (List ℕ × AppSpec)) (name : List ℕ) (spec : AppSpec) → IsConfig config → IsArgOf spec.class spec.arg → apps ≡ insert_entry name_cmp config.apps name spec → ((q : List ℕ) → app_at apps q ≡ cond (is_at (name_cmp name) q) (Some spec) (app_at config.apps q)) → length apps ≤ 256 → IsConfig (record { apps = apps; links = config.links })
with_app_valid config apps name spec h one put more few =
    let stays : (q : List ℕ) → has_app config q ≡ true → is_some (app_at apps q) ≡ true = λ q t. ap is_some (more q) ∙ some_cond (is_at (name_cmp name) q) (Some spec) (app_at config.apps q) refl t in
    record {
      args = subst (λ es. All (λ s. IsArgOf s.class s.arg) (values_of es)) (sym put) (All-values-insert_entry name_cmp name spec (λ s. IsArgOf s.class s.arg) config.apps h.args one);
      few_apps = few;
      few_links = h.few_links;
      from = λ l t. stays l.from (h.from l t);
      to = λ l t. stays l.to (h.to l t);
      ports = h.ports;
    }
