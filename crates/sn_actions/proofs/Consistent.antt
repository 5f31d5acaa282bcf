-- Each action leaves a plain form consistent.
use Rattle.std.specs.FinMap as finmap
use Rattle.std.specs.FinSet as finset
use Rattle.std.proofs.Common.{Bool, Err, List, None, Ok, Option, Result, Some, [], ap, cond, false, inl, inr, is_some, map, not}
use Rattle.std.proofs.Common.{refl, subst, sym, true, ℕ, ◌&&◌, ◌∙◌, ◌∷◌, ◌≡◌, ◌||◌, ◌⊎◌}
use Rattle.std.specs.BTreeMap.{is_at}
use Rattle.std.specs.List.{list_any}
use Rattle.std.specs.Map.{lookup}
use Rattle.std.specs.Prelude.{OnOk}
use Rattle.std.specs.Ordering.{eq_by_cmp}
use Rattle.sn_actions.proofs.FiniteMaps.{find_lookup}
use Rattle.sn_actions.proofs.PlainAnswers.{either_right, is_named, is_this, key_is, not_true}
use Rattle.sn_actions.proofs.Uniqueness.{same_named}
use Rattle.sn_actions.specs.Consistency.{AreWired, IsConsistent}
use Rattle.sn_actions.specs.PlainForms.{PlainForm, empty_form}
use Rattle.sn_actions.specs.Plains.{apply, in_port, is_at_some, is_link, out_port, reconfigured, without_app}
use Rattle.sn_actions.specs.Same.{same_class}
use Rattle.sn_actions.specs.declared.action.Action.{Action}
use Rattle.sn_actions.specs.declared.action.Action.TheVariants.{Commit, FreeLink, LinkInput, LinkOutput, NewLink, ReconfigApp}
use Rattle.sn_actions.specs.declared.action.Action.TheVariants.{StartApp, StopApp, UnlinkInput, UnlinkOutput}
use Rattle.sn_actions.specs.declared.fault.ActionFault.{ActionFault}
use Rattle.sn_actions.specs.declared.fault.ActionFault.TheVariants.{AppThere, LinkThere, NoApp, NoLink, NotLinked, OtherClass}
use Rattle.sn_actions.specs.declared.fault.ActionFault.TheVariants.{PortTaken, StillLinked}
use Rattle.sn_config.specs.Configs.{same_name}
use Rattle.sn_config.specs.declared.app_spec.AppSpec.{AppSpec}
use Rattle.sn_names.specs.LinkOrder.{exact_ports, link_cmp, link_cmp_total, name_cmp, name_cmp_total, port_cmp, port_cmp_total}
use Rattle.sn_names.specs.declared.link.LinkSpec.{LinkSpec}

abbrev Key : Type 0
Key = List ℕ × List ℕ

-- one thing that is found passes no test that nothing passes
value_fails : {K X : Type 0} (test : K → Bool) (p : X → Bool) (es : List (K × X)) (v : X)
    → list_any p (map (λ e. e.1) es) ≡ false → lookup test es ≡ Some v → p v ≡ false
value_fails test p [] v none found = cc
value_fails {K} {X} test p (e ∷ es) v none found =
    by (test e.0) (p e.1) (list_any p (map (λ e. e.1) es)) refl none found (λ n g. value_fails test p es v n g)
  where
    by : (b c d : Bool) → p e.1 ≡ c → (c || d) ≡ false → cond b (Some e.1) (lookup test es) ≡ Some v
        → (d ≡ false → lookup test es ≡ Some v → p v ≡ false) → p v ≡ false
    by b true d same none found more = cc
    by true false d same none found more = let is : e.1 ≡ v = cc in sym (ap p is) ∙ same
    by false false d same none found more = more none found

found_apart : (ports : finmap.FinMap port_cmp LinkSpec) (l m : LinkSpec) (k : Key)
    → is_at_some ports l ≡ false → finmap.get ports k ≡ Some m → is_this m l ≡ false
found_apart ports l m k none found =
    value_fails (is_at (port_cmp k)) (λ x. is_this x l) (finmap.entries ports) m none
    (sym (finmap.get-entries ports k ∙ find_lookup port_cmp_total (finmap.entries ports) k) ∙ found)

still_there : (b : Bool) (o : Option LinkSpec) (l : LinkSpec) → cond b None o ≡ Some l → o ≡ Some l
still_there true o l found = cc
still_there false o l found = found

still_some : (b : Bool) (spec : AppSpec) (o : Option AppSpec) → is_some o ≡ true → is_some (cond b (Some spec) o) ≡ true
still_some true spec o there = refl
still_some false spec o there = there

module _ (port : LinkSpec → Key) (apps : finmap.FinMap name_cmp AppSpec) (links : finset.FinSet link_cmp)
    (ports : finmap.FinMap port_cmp LinkSpec) (h : AreWired apps links port ports) where
  -- a link goes from a port
  removed : (key : Key) → AreWired apps links port (finmap.remove ports key)
  removed key =
      let was : (k : Key) (l : LinkSpec) → finmap.get (finmap.remove ports key) k ≡ Some l → finmap.get ports k ≡ Some l =
      λ k l g. still_there (eq_by_cmp port_cmp k key) (finmap.get ports k) l
      (sym (finmap.get-remove port_cmp_total ports key k) ∙ g) in
      record {
        own = λ k l g. h.own k l (was k l g);
        linked = λ k l g. h.linked k l (was k l g);
        started = λ k l g. h.started k l (was k l g);
      }

  at_added : (b : Bool) (k : Key) (l m : LinkSpec) → eq_by_cmp port_cmp k (port l) ≡ b
      → cond b (Some l) (finmap.get ports k) ≡ Some m → ((l ≡ m) × (k ≡ port l)) ⊎ (finmap.get ports k ≡ Some m)
  at_added true k l m e g = let same : l ≡ m = cc in inl (same, key_is k (port l) e)
  at_added false k l m e g = inr g

  -- a link comes to its port
  added : (l : LinkSpec) → finset.contains links l ≡ true → finmap.contains_key apps (port l).0 ≡ true
      → AreWired apps links port (finmap.insert ports (port l) l)
  added l there app =
      let came : (k : Key) (m : LinkSpec) → finmap.get (finmap.insert ports (port l) l) k ≡ Some m
      → ((l ≡ m) × (k ≡ port l)) ⊎ (finmap.get ports k ≡ Some m) =
      λ k m g. at_added (eq_by_cmp port_cmp k (port l)) k l m refl
      (sym (finmap.get-insert port_cmp_total ports (port l) l k) ∙ g) in
      record {
        own = λ k m g. elim (came k m g) [ inl new ↦ new.1 ∙ ap port new.0 | inr old ↦ h.own k m old ];
        linked = λ k m g. elim (came k m g) [
          | inl new ↦ subst (λ x. finset.contains links x ≡ true) new.0 there
          | inr old ↦ h.linked k m old
        ];
        started = λ k m g. elim (came k m g) [
          | inl new ↦ subst (λ (key : Key). finmap.contains_key apps key.0 ≡ true) (sym new.1) app
          | inr old ↦ h.started k m old
        ];
      }

  -- a link comes, and one that is at no port goes
  link_added : (l : LinkSpec) → AreWired apps (finset.insert links l) port ports
  link_added l = record {
    own = h.own;
    linked = λ k m g. finset.contains-insert link_cmp_total links l m
        ∙ either_right (is_this m l) (finset.contains links m) (h.linked k m g);
    started = h.started;
  }

  link_removed : (l : LinkSpec) → is_at_some ports l ≡ false → AreWired apps (finset.remove links l) port ports
  link_removed l none = record {
    own = h.own;
    linked = λ k m g. finset.contains-remove link_cmp_total links l m
        ∙ ap (λ b. not b && finset.contains links m) (found_apart ports l m k none g) ∙ h.linked k m g;
    started = h.started;
  }

  -- an app comes, or gets another argument
  app_added : (n : List ℕ) (spec : AppSpec) → AreWired (finmap.insert apps n spec) links port ports
  app_added n spec = record {
    own = h.own;
    linked = h.linked;
    started = λ k m g. ap is_some (finmap.get-insert name_cmp_total apps n spec k.0)
        ∙ still_some (is_named k.0 n) spec (finmap.get apps k.0) (h.started k m g);
  }

  dropped_by : (b : Bool) (k : Key) (m : LinkSpec) → cond b (finmap.get ports k) None ≡ Some m
      → (b ≡ true) × (finmap.get ports k ≡ Some m)
  dropped_by true k m g = (refl, g)
  dropped_by false k m g = cc

  -- an app goes, with what is at its ports
  app_removed : (n : List ℕ) → AreWired (finmap.remove apps n) links port (without_app ports n)
  app_removed n =
      let stays : Key → Bool = λ k. not (same_name k.0 n) in
      let was : (k : Key) (m : LinkSpec) → finmap.get (without_app ports n) k ≡ Some m
      → (stays k ≡ true) × (finmap.get ports k ≡ Some m) =
      λ k m g. dropped_by (stays k) k m
      (sym (finmap.get-retain_keys ports stays k (λ x t. ap stays (sym (exact_ports k x t)))) ∙ g) in
      record {
        own = λ k m g. h.own k m (was k m g).1;
        linked = λ k m g. h.linked k m (was k m g).1;
        started = λ k m g. ap is_some (finmap.get-remove name_cmp_total apps n k.0)
            ∙ ap (λ b. is_some (cond b None (finmap.get apps k.0)))
            (sym (same_named k.0 n) ∙ not_true (same_name k.0 n) (was k m g).0)
            ∙ h.started k m (was k m g).1;
      }

-- a check that was passed, and one that didn't fail
passed : (b : Bool) (r : Result PlainForm ActionFault) (f : ActionFault) (q : PlainForm) → cond b r (Err f) ≡ Ok q
    → (b ≡ true) × (r ≡ Ok q)
passed true r f q e = (refl, e)
passed false r f q e = cc

unfailed : (b : Bool) (r : Result PlainForm ActionFault) (f : ActionFault) (q : PlainForm) → cond b (Err f) r ≡ Ok q
    → (b ≡ false) × (r ≡ Ok q)
unfailed true r f q e = cc
unfailed false r f q e = (refl, e)

ok_is : (p q : PlainForm) → ◌≡◌ {A = Result PlainForm ActionFault} (Ok p) (Ok q) → p ≡ q
ok_is p q e = cc

left_false : (a b : Bool) → (a || b) ≡ false → a ≡ false
left_false true b e = cc
left_false false b e = refl

right_false : (a b : Bool) → (a || b) ≡ false → b ≡ false
right_false true b e = cc
right_false false b e = e

app_there : (p : PlainForm) (n : List ℕ) (spec : AppSpec) → IsConsistent p
    → IsConsistent (record p { apps = finmap.insert p.apps n spec })
app_there p n spec h = record {
  outs = app_added out_port p.apps p.links p.outs h.outs n spec;
  ins = app_added in_port p.apps p.links p.ins h.ins n spec;
}

reconfig_sound : (o : Option AppSpec) (n : List ℕ) (spec : AppSpec) (p q : PlainForm) → IsConsistent p
    → reconfigured o n spec p ≡ Ok q → IsConsistent q
reconfig_sound None n spec p q h e = cc
reconfig_sound (Some before) n spec p q h e =
    let x : PlainForm = record p { apps = finmap.insert p.apps n spec } in
    let s = passed (same_class before.class spec.class) (Ok x) OtherClass q e in
    subst IsConsistent (ok_is x q s.1) (app_there p n spec h)

apply_sound : (action : Action) (p q : PlainForm) → IsConsistent p → apply action p ≡ Ok q → IsConsistent q
apply_sound (UnlinkOutput l) p q h e =
    let x : PlainForm = record p { outs = finmap.remove p.outs (out_port l) } in
    let s = passed (is_link (finmap.get p.outs (out_port l)) l) (Ok x) NotLinked q e in
    subst IsConsistent (ok_is x q s.1) (record { outs = removed out_port p.apps p.links p.outs h.outs (out_port l); ins = h.ins })
apply_sound (UnlinkInput l) p q h e =
    let x : PlainForm = record p { ins = finmap.remove p.ins (in_port l) } in
    let s = passed (is_link (finmap.get p.ins (in_port l)) l) (Ok x) NotLinked q e in
    subst IsConsistent (ok_is x q s.1) (record { outs = h.outs; ins = removed in_port p.apps p.links p.ins h.ins (in_port l) })
apply_sound (FreeLink l) p q h e =
    let x : PlainForm = record p { links = finset.remove p.links l } in
    let held : Bool = is_at_some p.outs l || is_at_some p.ins l in
    let s = passed (finset.contains p.links l) (cond held (Err StillLinked) (Ok x)) NoLink q e in
    let t = unfailed held (Ok x) StillLinked q s.1 in
    subst IsConsistent (ok_is x q t.1) (record {
      outs = link_removed out_port p.apps p.links p.outs h.outs l (left_false (is_at_some p.outs l) (is_at_some p.ins l) t.0);
      ins = link_removed in_port p.apps p.links p.ins h.ins l (right_false (is_at_some p.outs l) (is_at_some p.ins l) t.0);
    })
apply_sound (StopApp n) p q h e =
    let x : PlainForm = record {
      apps = finmap.remove p.apps n;
      links = p.links;
      outs = without_app p.outs n;
      ins = without_app p.ins n;
    } in
    let s = passed (finmap.contains_key p.apps n) (Ok x) NoApp q e in
    subst IsConsistent (ok_is x q s.1) (record {
      outs = app_removed out_port p.apps p.links p.outs h.outs n;
      ins = app_removed in_port p.apps p.links p.ins h.ins n;
    })
apply_sound (StartApp n spec) p q h e =
    let x : PlainForm = record p { apps = finmap.insert p.apps n spec } in
    let s = unfailed (finmap.contains_key p.apps n) (Ok x) AppThere q e in
    subst IsConsistent (ok_is x q s.1) (app_there p n spec h)
apply_sound (ReconfigApp n spec) p q h e = reconfig_sound (finmap.get p.apps n) n spec p q h e
apply_sound (NewLink l) p q h e =
    let x : PlainForm = record p { links = finset.insert p.links l } in
    let s = unfailed (finset.contains p.links l) (Ok x) LinkThere q e in
    subst IsConsistent (ok_is x q s.1) (record {
      outs = link_added out_port p.apps p.links p.outs h.outs l;
      ins = link_added in_port p.apps p.links p.ins h.ins l;
    })
apply_sound (LinkOutput l) p q h e =
    let x : PlainForm = record p { outs = finmap.insert p.outs (out_port l) l } in
    let put : Result PlainForm ActionFault = cond (finmap.contains_key p.outs (out_port l)) (Err PortTaken) (Ok x) in
    let s = passed (finset.contains p.links l) (cond (finmap.contains_key p.apps l.from) put (Err NoApp)) NoLink q e in
    let t = passed (finmap.contains_key p.apps l.from) put NoApp q s.1 in
    let u = unfailed (finmap.contains_key p.outs (out_port l)) (Ok x) PortTaken q t.1 in
    subst IsConsistent (ok_is x q u.1) (record { outs = added out_port p.apps p.links p.outs h.outs l s.0 t.0; ins = h.ins })
apply_sound (LinkInput l) p q h e =
    let x : PlainForm = record p { ins = finmap.insert p.ins (in_port l) l } in
    let put : Result PlainForm ActionFault = cond (finmap.contains_key p.ins (in_port l)) (Err PortTaken) (Ok x) in
    let s = passed (finset.contains p.links l) (cond (finmap.contains_key p.apps l.to) put (Err NoApp)) NoLink q e in
    let t = passed (finmap.contains_key p.apps l.to) put NoApp q s.1 in
    let u = unfailed (finmap.contains_key p.ins (in_port l)) (Ok x) PortTaken q t.1 in
    subst IsConsistent (ok_is x q u.1) (record { outs = h.outs; ins = added in_port p.apps p.links p.ins h.ins l s.0 t.0 })
apply_sound Commit p q h e = subst IsConsistent (ok_is p q e) h

-- nothing is at a port of an empty form
none_wired : (port : LinkSpec → Key) → AreWired empty_form.apps empty_form.links port finmap.empty
none_wired port =
    let none : (k : Key) (l : LinkSpec) → finmap.get (finmap.empty {X = LinkSpec} {R = port_cmp}) k ≡ Some l → ⊥ =
    λ k l g. let e : finmap.get (finmap.empty {X = LinkSpec} {R = port_cmp}) k ≡ None = finmap.get-empty port_cmp k in cc in
    record {
      own = λ k l g. absurd (none k l g);
      linked = λ k l g. absurd (none k l g);
      started = λ k l g. absurd (none k l g);
    }

pub empty_sound : IsConsistent empty_form
empty_sound = record { outs = none_wired out_port; ins = none_wired in_port }

-- the same of an action that was taken
pub taken_sound : (action : Action) (p q : PlainForm) (result : Result Unit ActionFault) → OnOk result (apply action p ≡ Ok q)
    → OnOk result (IsConsistent p → IsConsistent q)
taken_sound action p q (Ok done) e = λ h. apply_sound action p q h e
taken_sound action p q (Err fault) e = tt
