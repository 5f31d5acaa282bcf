-- The actions between two configurations are all taken, and lead from the one's full form to the other's.
use Rattle.std.specs.FinMap as finmap
use Rattle.std.specs.FinSet as finset
use Rattle.std.proofs.Common.{Bool, List, None, Ok, Option, Some, [], ap, cond, false, is_some, map, not, refl, subst, sym, true, ℕ, ◌&&◌, ◌++◌, ◌∙◌, ◌∷◌, ◌≡◌, ◌||◌}
use Rattle.std.specs.BTreeMap.{is_at}
use Rattle.std.specs.Map.{keys_of, lookup}
use Rattle.std.specs.Prelude.{flat_map}
use Rattle.std.specs.Ordering.{eq_by_cmp}
use Rattle.sn_actions.proofs.AppChanges.{AsBefore, apps_change, none_from, or_else, with_apps}
use Rattle.sn_actions.proofs.NewLinks.{AsLeft, links_come, plus_all}
use Rattle.sn_actions.proofs.Removals.{apps_go, keeps, links_go, stays, without_apps, without_links}
use Rattle.sn_actions.proofs.PlainAnswers.{Holds, Look, PortsHold, both_left, is_named, is_this, key_is, key_self, named_self, this_is, this_self}
use Rattle.sn_actions.proofs.FiniteMaps.{get_entries}
use Rattle.sn_actions.proofs.Uniqueness.{AppsOnce, LinksOnce, NamesOnce, has_name, same_named, some_named}
use Rattle.sn_actions.proofs.AppliedActions.{Agree, Taken, behind, taken_agree}
use Rattle.sn_actions.specs.Diffs.{change, diff_of, is_started, link_change, removed_apps, removed_links, unlinking}
use Rattle.sn_actions.specs.PlainForms.{PlainForm}
use Rattle.sn_actions.specs.Plains.{apply_all, full, in_port, out_port}
use Rattle.sn_actions.specs.declared.action.Action.TheVariants.{StopApp}
use Rattle.sn_config.specs.Configs.{ConfigForm, IsConfig, app_at, has_app, has_link, same_name}
use Rattle.sn_config.specs.declared.app_spec.AppSpec.{AppSpec}
use Rattle.sn_names.specs.LinkOrder.{exact_links, exact_names, exact_ports, link_cmp_total, name_cmp_total, port_cmp, port_cmp_total}
use Rattle.sn_names.specs.declared.link.LinkSpec.{LinkSpec}

-- what the full form of a configuration answers
abbrev look_of : ConfigForm → Look
look_of c = record { apps = app_at c.apps; links = has_link c.links; outs = has_link c.links; ins = has_link c.links }

either_true : (a b : Bool) → a ≡ true → (a || b) ≡ true
either_true true b h = refl
either_true false b h = cc

or_true : (a b : Bool) → b ≡ true → (a || b) ≡ true
or_true true b h = refl
or_true false b h = h

both_true : (a b : Bool) → a ≡ true → b ≡ true → (a && b) ≡ true
both_true true b h k = k
both_true false b h k = cc

same_self : (a b : List ℕ) → a ≡ b → same_name b a ≡ true
same_self a b e = same_named b a ∙ subst (λ x. is_named x a ≡ true) e (named_self a)

-- links of a configuration at one port are one
out_unique : (c : ConfigForm) → IsConfig c → (a b : LinkSpec) → has_link c.links a ≡ true → has_link c.links b ≡ true → out_port a ≡ out_port b → a ≡ b
out_unique c h a b t u e =
    h.ports a b t u (either_true (same_name b.from a.from && same_name b.out a.out) (same_name b.to a.to && same_name b.input a.input) (both_true (same_name b.from a.from) (same_name b.out a.out) (same_self a.from b.from (ap (λ k. k.0) e)) (same_self a.out b.out (ap (λ k. k.1) e))))

in_unique : (c : ConfigForm) → IsConfig c → (a b : LinkSpec) → has_link c.links a ≡ true → has_link c.links b ≡ true → in_port a ≡ in_port b → a ≡ b
in_unique c h a b t u e =
    h.ports a b t u (or_true (same_name b.from a.from && same_name b.out a.out) (same_name b.to a.to && same_name b.input a.input) (both_true (same_name b.to a.to) (same_name b.input a.input) (same_self a.to b.to (ap (λ k. k.0) e)) (same_self a.input b.input (ap (λ k. k.1) e))))

module _ (port : LinkSpec → List ℕ × List ℕ) where
  abbrev entries_of : List LinkSpec → List ((List ℕ × List ℕ) × LinkSpec)
  entries_of links = map (λ l. (port l, l)) links

  -- what is found at a port is a link that has it
  record FoundAt (links : List LinkSpec) (k : List ℕ × List ℕ) (l : LinkSpec) : Type 0 where
    there : has_link links l ≡ true
    own : k ≡ port l

  found_by : (b : Bool) (x : LinkSpec) (links : List LinkSpec) (k : List ℕ × List ℕ) (l : LinkSpec) → eq_by_cmp port_cmp k (port x) ≡ b → (lookup (is_at (port_cmp k)) (entries_of links) ≡ Some l → FoundAt links k l) → cond b (Some x) (lookup (is_at (port_cmp k)) (entries_of links)) ≡ Some l → FoundAt (x ∷ links) k l
  found_by true x links k l e more g =
      let same : x ≡ l = cc in
      record { there = either_true (is_this l x) (has_link links l) (subst (λ y. is_this y x ≡ true) same (this_self x)); own = key_is k (port x) e ∙ ap port same }
  found_by false x links k l e more g = let f = more g in record { there = or_true (is_this l x) (has_link links l) f.there; own = f.own }

  found_at : (links : List LinkSpec) (k : List ℕ × List ℕ) (l : LinkSpec) → lookup (is_at (port_cmp k)) (entries_of links) ≡ Some l → FoundAt links k l
  found_at [] k l g = cc
  found_at (x ∷ links) k l g = found_by (eq_by_cmp port_cmp k (port x)) x links k l refl (found_at links k l) g

  -- and at the port of a link something is found
  some_found : (b c : Bool) (x l : LinkSpec) (links : List LinkSpec) → is_this l x ≡ b → eq_by_cmp port_cmp (port l) (port x) ≡ c → (b || has_link links l) ≡ true → (has_link links l ≡ true → is_some (lookup (is_at (port_cmp (port l))) (entries_of links)) ≡ true) → is_some (cond c (Some x) (lookup (is_at (port_cmp (port l))) (entries_of links))) ≡ true
  some_found b true x l links e f t more = refl
  some_found true false x l links e f t more = let y : eq_by_cmp port_cmp (port l) (port x) ≡ true = subst (λ z. eq_by_cmp port_cmp (port l) (port z) ≡ true) (this_is l x e) (key_self (port l)) in cc
  some_found false false x l links e f t more = more t

  is_found : (links : List LinkSpec) (l : LinkSpec) → has_link links l ≡ true → is_some (lookup (is_at (port_cmp (port l))) (entries_of links)) ≡ true
  is_found [] l t = cc
  is_found (x ∷ links) l t = some_found (is_this l x) (eq_by_cmp port_cmp (port l) (port x)) x l links refl refl t (is_found links l)

  of_by : (o : Option LinkSpec) (links : List LinkSpec) (l : LinkSpec) → ((a b : LinkSpec) → has_link links a ≡ true → has_link links b ≡ true → port a ≡ port b → a ≡ b) → has_link links l ≡ true → lookup (is_at (port_cmp (port l))) (entries_of links) ≡ o → is_some o ≡ true → o ≡ Some l
  of_by None links l once t e s = cc
  of_by (Some m) links l once t e s = let f = found_at links (port l) m e in ap Some (sym (once l m t f.there f.own))

  ports_full : (links : List LinkSpec) → ((a b : LinkSpec) → has_link links a ≡ true → has_link links b ≡ true → port a ≡ port b → a ≡ b) → PortsHold (finmap.from_entries (entries_of links)) port (has_link links)
  ports_full links once =
      let at : (k : List ℕ × List ℕ) → finmap.get (finmap.from_entries {R = port_cmp} (entries_of links)) k ≡ lookup (is_at (port_cmp k)) (entries_of links) = λ k. get_entries port_cmp_total (entries_of links) k in
      record {
        of = λ l t. at (port l) ∙ of_by (lookup (is_at (port_cmp (port l))) (entries_of links)) links l once t refl (is_found links l t);
        only = λ k l g. (found_at links k l (sym (at k) ∙ g)).there;
        own = λ k l g. (found_at links k l (sym (at k) ∙ g)).own;
      }

full_holds : (c : ConfigForm) → IsConfig c → Holds (full c) (look_of c)
full_holds c h =
    record {
      apps = λ n. get_entries name_cmp_total c.apps n;
      links = λ l. finset.contains-from_list link_cmp_total c.links l;
      outs = ports_full out_port c.links (out_unique c h);
      ins = ports_full in_port c.links (in_unique c h);
    }

-- plain forms that answer alike are one
module _ (port : LinkSpec → List ℕ × List ℕ) (a b : finmap.FinMap port_cmp LinkSpec) (there : LinkSpec → Bool) (h : PortsHold a port there) (k : PortsHold b port there) where
  same_get : (o p : Option LinkSpec) (j : List ℕ × List ℕ) → finmap.get a j ≡ o → finmap.get b j ≡ p → o ≡ p
  same_get None None j e f = refl
  same_get None (Some m) j e f = let g : finmap.get a j ≡ Some m = ap (finmap.get a) (k.own j m f) ∙ h.of m (k.only j m f) in cc
  same_get (Some l) p j e f = let g : finmap.get b j ≡ Some l = ap (finmap.get b) (h.own j l e) ∙ k.of l (h.only j l e) in sym g ∙ f

  same_ports : a ≡ b
  same_ports = finmap.same_map port_cmp_total exact_ports a b (λ j. same_get (finmap.get a j) (finmap.get b j) j refl refl)

same_plain : (p q : PlainForm) (s : Look) → Holds p s → Holds q s → p ≡ q
same_plain p q s h k =
    let apps = finmap.same_map name_cmp_total exact_names p.apps q.apps (λ n. h.apps n ∙ sym (k.apps n)) in
    let links = finset.same_set link_cmp_total exact_links p.links q.links (λ l. h.links l ∙ sym (k.links l)) in
    let outs = same_ports out_port p.outs q.outs s.outs h.outs k.outs in
    let ins = same_ports in_port p.ins q.ins s.ins h.ins k.ins in
    λ i. record { apps = apps i; links = links i; outs = outs i; ins = ins i }

-- of a link that was there and is to be there
stays_when : (o n : Bool) → n ≡ true → stays o o (not n) ≡ o
stays_when true true h = refl
stays_when false true h = refl
stays_when o false h = cc

stays_old : (o p g : Bool) → stays o p g ≡ true → o ≡ true
stays_old true p g h = refl
stays_old false p g h = h

stays_new : (o n : Bool) → stays o o (not n) ≡ true → n ≡ true
stays_new true true h = refl
stays_new true false h = h
stays_new false n h = cc

stays_with : (o p n : Bool) → n ≡ true → stays o p (not n) ≡ o
stays_with true true true h = refl
stays_with true false true h = refl
stays_with false p n h = refl
stays_with true p false h = cc

all_links : (o n : Bool) → (n || stays o o (not n)) ≡ n
all_links true true = refl
all_links true false = refl
all_links false true = refl
all_links false false = refl

all_ports : (o n p g k : Bool) → (n || (stays (stays o o (not n)) p g && k)) ≡ n
all_ports true true p g k = refl
all_ports true false p g k = refl
all_ports false true p g k = refl
all_ports false false p g k = refl

keeps_when : (there : Option AppSpec) (part n : Bool) → n ≡ true → keeps there part (not n) ≡ there
keeps_when there true true h = refl
keeps_when there false true h = refl
keeps_when there part false h = cc

all_apps : (o there : Option AppSpec) (part : Bool) → is_some there ≡ part → or_else o (keeps there part (not (is_some o))) ≡ o
all_apps (Some x) there part e = refl
all_apps None there true e = refl
all_apps None there false e = none_from there e

some_else : (o there : Option AppSpec) → is_some o ≡ true → is_some (or_else o there) ≡ true
some_else (Some x) there h = refl
some_else None there h = cc

module _ (old new : ConfigForm) (h : IsConfig old) (k : IsConfig new) where
  -- the looks after each group
  abbrev s1 : Look
  s1 = without_links (look_of old) old.links (λ l. not (has_link new.links l))

  abbrev s2 : Look
  s2 = without_apps s1 (keys_of old.apps) (λ n. not (has_app new n))

  abbrev s3 : Look
  s3 = with_apps (app_at old.apps) s2 new.apps

  as_before : AsBefore (app_at old.apps) s2 new.apps
  as_before =
      record {
        apps_are = λ n t. keeps_when (app_at old.apps n) (has_name (keys_of old.apps) n) (has_app new n) t;
        outs_had = λ m t. h.from m (stays_old (has_link old.links m) (has_link old.links m) (not (has_link new.links m)) (stays_old (s1.outs m) (has_name (keys_of old.apps) m.from) (not (has_app new m.from)) t));
        ins_had = λ m t. h.to m (stays_old (has_link old.links m) (has_link old.links m) (not (has_link new.links m)) (stays_old (s1.ins m) (has_name (keys_of old.apps) m.to) (not (has_app new m.to)) t));
      }

  as_left : AsLeft new.links (has_link old.links) (is_started old.apps new.apps) (out_unique new k) (in_unique new k) s3 new.links
  as_left =
      record {
        part = λ m t. t;
        there = λ m t. stays_when (has_link old.links m) (has_link new.links m) t;
        outs = λ m t. ap (λ b. b && not (is_started old.apps new.apps m.from)) (stays_with (s1.outs m) (has_name (keys_of old.apps) m.from) (has_app new m.from) (k.from m t) ∙ stays_when (has_link old.links m) (has_link new.links m) t);
        ins = λ m t. ap (λ b. b && not (is_started old.apps new.apps m.to)) (stays_with (s1.ins m) (has_name (keys_of old.apps) m.to) (has_app new m.to) (k.to m t) ∙ stays_when (has_link old.links m) (has_link new.links m) t);
        from = λ m t. some_else (app_at new.apps m.from) (s2.apps m.from) (k.from m t);
        to = λ m t. some_else (app_at new.apps m.to) (s2.apps m.to) (k.to m t);
        outs_of = λ m t. stays_new (has_link old.links m) (has_link new.links m) (stays_old (s1.outs m) (has_name (keys_of old.apps) m.from) (not (has_app new m.from)) (both_left (s2.outs m) (not (is_started old.apps new.apps m.from)) t));
        ins_of = λ m t. stays_new (has_link old.links m) (has_link new.links m) (stays_old (s1.ins m) (has_name (keys_of old.apps) m.to) (not (has_app new m.to)) (both_left (s2.ins m) (not (is_started old.apps new.apps m.to)) t));
      }

  at_the_end : Agree (plus_all s3 new.links) (look_of new)
  at_the_end =
      record {
        apps = λ n. all_apps (app_at new.apps n) (app_at old.apps n) (has_name (keys_of old.apps) n) (some_named old.apps n);
        links = λ m. all_links (has_link old.links m) (has_link new.links m);
        outs = λ m. all_ports (has_link old.links m) (has_link new.links m) (has_name (keys_of old.apps) m.from) (not (has_app new m.from)) (not (is_started old.apps new.apps m.from));
        ins = λ m. all_ports (has_link old.links m) (has_link new.links m) (has_name (keys_of old.apps) m.to) (not (has_app new m.to)) (not (is_started old.apps new.apps m.to));
      }

  all_taken : LinksOnce old.links → LinksOnce new.links → NamesOnce (keys_of old.apps) → AppsOnce new.apps → Taken (diff_of old new) (full old) (look_of new)
  all_taken lo ln na an =
      let unlinks = flat_map unlinking (removed_links old.links new.links) in
      let halts = map StopApp (removed_apps old new) in
      let changes = flat_map (λ app. change app.0 app.1 (app_at old.apps app.0)) new.apps in
      let links = flat_map (link_change old new) new.links in
      behind unlinks (halts ++ (changes ++ links)) (full old) s1 (look_of new)
      (links_go (λ l. not (has_link new.links l)) old.links (full old) (look_of old) lo (full_holds old h) (λ m t. t) (λ m t. t) (λ m t. t)) (λ p a.
      behind halts (changes ++ links) p s2 (look_of new)
      (apps_go (λ n. not (has_app new n)) (keys_of old.apps) p s1 na a (λ n t. some_named old.apps n ∙ t)) (λ q b.
      behind changes links q s3 (look_of new)
      (apps_change (app_at old.apps) new.apps q s2 an b as_before) (λ r c.
      taken_agree links r (plus_all s3 new.links) (look_of new) at_the_end
      (links_come new.links (has_link old.links) (is_started old.apps new.apps) (out_unique new k) (in_unique new k) new.links r s3 ln c as_left))))

  -- the law of the actions between two configurations
  pub leads_to : LinksOnce old.links → LinksOnce new.links → NamesOnce (keys_of old.apps) → AppsOnce new.apps → apply_all (diff_of old new) (full old) ≡ Ok (full new)
  leads_to lo ln na an =
      let t = all_taken lo ln na an in
      t.taken ∙ ap Ok (same_plain t.after (full new) (look_of new) t.holds (full_holds new k))
