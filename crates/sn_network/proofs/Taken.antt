-- What a plain form that took an action was, and is.
use Rattle.std.specs.FinMap as finmap
use Rattle.std.specs.FinSet as finset
use Rattle.std.proofs.Common.{◌≡◌, Bool, true, false, cond, is_some, bytes_eq, ◌||◌, List, ℕ, Option, Some, None, IsSome, Ok, Err}
use Rattle.std.proofs.Common.{refl, sym, ap, ◌∙◌}
use mathlib.Core.Path.{fun_ext}
use Rattle.std.proofs.lemmas.Map.Text.{is_eq-slice_cmp}
use Rattle.std.specs.Cmp.Lexicographic.{bytes_decides}
use Rattle.std.specs.Ordering.{eq_by_cmp}
use Rattle.sn_actions.proofs.EqualValues.{exact_spec}
use Rattle.std.specs.Option.{option_map}
use Rattle.sn_actions.specs.PlainForms.{PlainForm}
use Rattle.sn_actions.specs.Plains.{apply, in_port, is_at_some, is_link, out_port, reconfigured, without_app}
use Rattle.sn_actions.specs.Same.{same_class}
use Rattle.sn_names.specs.declared.arg.Arg.TheVariants.{Nothing}
use Rattle.sn_actions.specs.declared.action.Action.{Action}
use Rattle.sn_actions.specs.declared.action.Action.TheVariants.{Commit, FreeLink, LinkInput, LinkOutput, NewLink, ReconfigApp}
use Rattle.sn_actions.specs.declared.action.Action.TheVariants.{StartApp, StopApp, UnlinkInput, UnlinkOutput}
use Rattle.sn_actions.specs.declared.fault.ActionFault.{ActionFault}
use Rattle.sn_actions.specs.declared.fault.ActionFault.TheVariants.{AppThere, NoApp, NoLink, NotLinked, OtherClass, PortTaken}
use Rattle.sn_actions.specs.declared.fault.ActionFault.TheVariants.{StillLinked}
use Rattle.sn_config.specs.declared.app_spec.AppSpec.{AppSpec}
use Rattle.sn_names.specs.LinkOrder.{name_cmp, name_cmp_total}
use Rattle.sn_names.specs.declared.class.Class.{Class}
use Rattle.sn_names.specs.declared.link.LinkSpec.{LinkSpec}
use Rattle.sn_network.specs.Nets.{set_named}
use Rattle.sn_network.specs.Standing.{IsWiring, class_of}

-- a check that passed
pub record Passed (check : Bool) (made after : PlainForm) : Type 0 where
  pub passed : check ≡ true
  pub is : after ≡ made

pub record Failed (check : Bool) (made after : PlainForm) : Type 0 where
  pub failed : check ≡ false
  pub is : after ≡ made

passes : (b : Bool) (made after : PlainForm) (fault : ActionFault) → cond b (Ok made) (Err fault) ≡ Ok after → Passed b made after
passes true made after fault e = record { passed = refl; is = cc }
passes false made after fault e = absurd cc

fails : (b : Bool) (made after : PlainForm) (fault : ActionFault) → cond b (Err fault) (Ok made) ≡ Ok after → Failed b made after
fails true made after fault e = absurd cc
fails false made after fault e = record { failed = refl; is = cc }

pub taken_free : (link : LinkSpec) (plain after : PlainForm) → apply (FreeLink link) plain ≡ Ok after
    → Passed (finset.contains plain.links link) (record plain { links = finset.remove plain.links link }) after
taken_free link plain after e = by (finset.contains plain.links link) (is_at_some plain.outs link || is_at_some plain.ins link) e
  where
    by : (b c : Bool)
        → cond b (cond c (Err StillLinked) (Ok (record plain { links = finset.remove plain.links link }))) (Err NoLink) ≡ Ok after
        → Passed b (record plain { links = finset.remove plain.links link }) after
    by true c e = record { passed = refl; is = (fails c _ after _ e).is }
    by false c e = absurd cc

pub taken_new : (link : LinkSpec) (plain after : PlainForm) → apply (NewLink link) plain ≡ Ok after
    → Failed (finset.contains plain.links link) (record plain { links = finset.insert plain.links link }) after
taken_new link plain after e = fails (finset.contains plain.links link) _ after _ e

-- THE APPS

-- names compare alike exactly where their bytes are the same
same_names : (a b : List ℕ) → eq_by_cmp name_cmp a b ≡ bytes_eq a b
same_names a b = is_eq-slice_cmp a b

classes_set : (apps : finmap.FinMap name_cmp AppSpec) (name : List ℕ) (spec : AppSpec) (other : List ℕ)
    → option_map (λ (s : AppSpec). s.class) (finmap.get (finmap.insert apps name spec) other)
    ≡ set_named name (Some spec.class) (λ n. option_map (λ (s : AppSpec). s.class) (finmap.get apps n)) other
classes_set apps name spec other =
    ap (option_map (λ (s : AppSpec). s.class)) (finmap.get-insert name_cmp_total apps name spec other
    ∙ ap (λ b. cond b (Some spec) (finmap.get apps other)) (same_names other name))
    ∙ by (bytes_eq other name)
  where
    by : (b : Bool) → option_map (λ (s : AppSpec). s.class) (cond b (Some spec) (finmap.get apps other))
        ≡ cond b (Some spec.class) (option_map (λ (s : AppSpec). s.class) (finmap.get apps other))
    by true = refl
    by false = refl

classes_gone : (apps : finmap.FinMap name_cmp AppSpec) (name other : List ℕ)
    → option_map (λ (s : AppSpec). s.class) (finmap.get (finmap.remove apps name) other)
    ≡ set_named name None (λ n. option_map (λ (s : AppSpec). s.class) (finmap.get apps n)) other
classes_gone apps name other =
    ap (option_map (λ (s : AppSpec). s.class)) (finmap.get-remove name_cmp_total apps name other
    ∙ ap (λ b. cond b None (finmap.get apps other)) (same_names other name))
    ∙ by (bytes_eq other name)
  where
    by : (b : Bool) → option_map (λ (s : AppSpec). s.class) (cond b None (finmap.get apps other))
        ≡ cond b None (option_map (λ (s : AppSpec). s.class) (finmap.get apps other))
    by true = refl
    by false = refl

is_none_of : {A : Type 0} (o : Option A) → is_some o ≡ false → o ≡ None
is_none_of None e = refl
is_none_of (Some x) e = absurd cc

-- what an action does to the classes and the links
pub record Changes (plain after : PlainForm) (classes : List ℕ → Option Class) : Type 0 where
  pub classed : class_of after ≡ classes
  pub links : after.links ≡ plain.links

pub record Starts (name : List ℕ) (spec : AppSpec) (plain after : PlainForm) : Type 0 where
  pub absent : class_of plain name ≡ None
  pub changes : Changes plain after (set_named name (Some spec.class) (class_of plain))

pub taken_start : (name : List ℕ) (spec : AppSpec) (plain after : PlainForm) → apply (StartApp name spec) plain ≡ Ok after
    → Starts name spec plain after
taken_start name spec plain after e =
    let h = fails (finmap.contains_key plain.apps name) (record plain { apps = finmap.insert plain.apps name spec }) after
    AppThere e in
    record {
      absent = ap (option_map (λ (s : AppSpec). s.class)) (is_none_of (finmap.get plain.apps name) h.failed);
      changes = record {
        classed = ap class_of h.is ∙ fun_ext (classes_set plain.apps name spec);
        links = ap (λ (p : PlainForm). p.links) h.is;
      };
    }

pub record Ends (name : List ℕ) (plain after : PlainForm) : Type 0 where
  pub there : IsSome (class_of plain name)
  pub changes : Changes plain after (set_named name None (class_of plain))

some_class : (o : Option AppSpec) → is_some o ≡ true → IsSome (option_map (λ (s : AppSpec). s.class) o)
some_class None e = absurd cc
some_class (Some spec) e = refl

pub taken_stop : (name : List ℕ) (plain after : PlainForm) → apply (StopApp name) plain ≡ Ok after → Ends name plain after
taken_stop name plain after e =
    let h = passes (finmap.contains_key plain.apps name) (record {
      apps = finmap.remove plain.apps name;
      links = plain.links;
      outs = without_app plain.outs name;
      ins = without_app plain.ins name;
    }) after NoApp e in
    record {
      there = some_class (finmap.get plain.apps name) h.passed;
      changes = record {
        classed = ap class_of h.is ∙ fun_ext (classes_gone plain.apps name);
        links = ap (λ (p : PlainForm). p.links) h.is;
      };
    }

pub record Renews (name : List ℕ) (spec : AppSpec) (plain after : PlainForm) : Type 0 where
  pub there : class_of plain name ≡ Some spec.class
  pub changes : Changes plain after (class_of plain)

pub taken_reconfig : (name : List ℕ) (spec : AppSpec) (plain after : PlainForm) → apply (ReconfigApp name spec) plain ≡ Ok after
    → Renews name spec plain after
taken_reconfig name spec plain after e = by (finmap.get plain.apps name) refl e
  where
    class_is : (before : AppSpec) → same_class before.class spec.class ≡ true → before.class ≡ spec.class
    class_is before same =
        ap (λ (s : AppSpec). s.class)
        (exact_spec (record { class = before.class; arg = Nothing }) (record { class = spec.class; arg = Nothing }) same refl)

    unset : (name other : List ℕ) (classes : List ℕ → Option Class) → classes name ≡ Some spec.class
        → set_named name (Some spec.class) classes other ≡ classes other
    unset name other classes has = at (bytes_eq other name) refl
      where
        at : (b : Bool) → bytes_eq other name ≡ b → cond (bytes_eq other name) (Some spec.class) (classes other) ≡ classes other
        at true is = ap (λ b. cond b (Some spec.class) (classes other)) is
            ∙ sym (ap classes ((bytes_decides other name).0 is) ∙ has)
        at false is = ap (λ b. cond b (Some spec.class) (classes other)) is

    by : (o : Option AppSpec) → finmap.get plain.apps name ≡ o → reconfigured o name spec plain ≡ Ok after
        → Renews name spec plain after
    by None has e = absurd cc
    by (Some before) has e =
        let h = passes (same_class before.class spec.class) (record plain { apps = finmap.insert plain.apps name spec }) after
        OtherClass e in
        let there : class_of plain name ≡ Some spec.class =
        ap (option_map (λ (s : AppSpec). s.class)) has ∙ ap Some (class_is before h.passed) in
        record {
          there = there;
          changes = record {
            classed =
                ap class_of h.is
                ∙ fun_ext (λ other. classes_set plain.apps name spec other ∙ unset name other (class_of plain) there);
            links = ap (λ (p : PlainForm). p.links) h.is;
          };
        }

-- the actions that leave apps and links, but for ports
taken_unlink_output : (link : LinkSpec) (plain after : PlainForm) → apply (UnlinkOutput link) plain ≡ Ok after
    → Changes plain after (class_of plain)
taken_unlink_output link plain after e =
    let h = passes (is_link (finmap.get plain.outs (out_port link)) link)
    (record plain { outs = finmap.remove plain.outs (out_port link) }) after NotLinked e in
    record { classed = ap class_of h.is; links = ap (λ (p : PlainForm). p.links) h.is }

taken_unlink_input : (link : LinkSpec) (plain after : PlainForm) → apply (UnlinkInput link) plain ≡ Ok after
    → Changes plain after (class_of plain)
taken_unlink_input link plain after e =
    let h = passes (is_link (finmap.get plain.ins (in_port link)) link)
    (record plain { ins = finmap.remove plain.ins (in_port link) }) after NotLinked e in
    record { classed = ap class_of h.is; links = ap (λ (p : PlainForm). p.links) h.is }

three : (b c d : Bool) (made after : PlainForm)
    → cond b (cond c (cond d (Err PortTaken) (Ok made)) (Err NoApp)) (Err NoLink) ≡ Ok after → after ≡ made
three true true true made after e = absurd cc
three true true false made after e = cc
three true false d made after e = absurd cc
three false c d made after e = absurd cc

taken_link_output : (link : LinkSpec) (plain after : PlainForm) → apply (LinkOutput link) plain ≡ Ok after
    → Changes plain after (class_of plain)
taken_link_output link plain after e =
    let h = three (finset.contains plain.links link) (finmap.contains_key plain.apps link.from)
    (finmap.contains_key plain.outs (out_port link)) (record plain { outs = finmap.insert plain.outs (out_port link) link }) after
    e in
    record { classed = ap class_of h; links = ap (λ (p : PlainForm). p.links) h }

taken_link_input : (link : LinkSpec) (plain after : PlainForm) → apply (LinkInput link) plain ≡ Ok after
    → Changes plain after (class_of plain)
taken_link_input link plain after e =
    let h = three (finset.contains plain.links link) (finmap.contains_key plain.apps link.to)
    (finmap.contains_key plain.ins (in_port link)) (record plain { ins = finmap.insert plain.ins (in_port link) link }) after e in
    record { classed = ap class_of h; links = ap (λ (p : PlainForm). p.links) h }

-- the links come or go, and the apps stay
pub apps_free : (link : LinkSpec) (plain after : PlainForm) → apply (FreeLink link) plain ≡ Ok after
    → class_of after ≡ class_of plain
apps_free link plain after e = ap class_of (taken_free link plain after e).is

pub apps_new : (link : LinkSpec) (plain after : PlainForm) → apply (NewLink link) plain ≡ Ok after
    → class_of after ≡ class_of plain
apps_new link plain after e = ap class_of (taken_new link plain after e).is

-- the same of each of these actions
pub taken_wiring : (action : Action) → IsWiring action → (plain after : PlainForm) → apply action plain ≡ Ok after
    → Changes plain after (class_of plain)
taken_wiring (UnlinkOutput link) is plain after e = taken_unlink_output link plain after e
taken_wiring (UnlinkInput link) is plain after e = taken_unlink_input link plain after e
taken_wiring (LinkOutput link) is plain after e = taken_link_output link plain after e
taken_wiring (LinkInput link) is plain after e = taken_link_input link plain after e
taken_wiring (FreeLink link) is plain after e = absurd is
taken_wiring (NewLink link) is plain after e = absurd is
taken_wiring (StopApp name) is plain after e = absurd is
taken_wiring (StartApp name spec) is plain after e = absurd is
taken_wiring (ReconfigApp name spec) is plain after e = absurd is
taken_wiring Commit is plain after e = absurd is
