-- What adding an app says of its line.
use Rattle.std.proofs.Common.{Err, List, None, Ok, Option, Result, Some, ap, false, length, nat_le, refl, subst, sym, true, ℕ, ◌≡◌, ◌∙◌}
use Rattle.std.proofs.lemmas.Bool.{le-leb, lt-leb}
use Rattle.sn_config.specs.ArgText.{TakesArg}
use Rattle.sn_config.specs.Configs.{AddsApp, ConfigForm, IsAppFault, has_app, with_app}
use Rattle.sn_config.specs.declared.app_spec.AppSpec.{AppSpec}
use Rattle.sn_config.specs.declared.fault.ConfigFault.{ConfigFault}
use Rattle.sn_config.specs.declared.fault.ConfigFault.TheVariants as refused
use Rattle.sn_names.specs.declared.arg.Arg.{Arg}
use Rattle.sn_names.specs.declared.class.Class.{Class}
use Rattle.sn_scenario.proofs.TokenReadings.{arg_came, arg_found}
use Rattle.sn_scenario.specs.AppLines.{app_added, app_line, app_taken}
use Rattle.sn_scenario.specs.FileUses.{FilesForm}
use Rattle.sn_scenario.specs.Leaves.{arg_of, class_of, named}
use Rattle.sn_scenario.specs.Results.{AppWords, Leaves, app_tokens, needed}
use Rattle.sn_scenario.specs.declared.fault.LineFault.{LineFault}
use Rattle.sn_scenario.specs.declared.lane.Lane.{Lane}
use Rattle.sn_scenario.specs.declared.placed.Placed.{Placed}
use Rattle.sn_scenario.specs.declared.why.Why.{Why}
use Rattle.sn_scenario.specs.declared.why.Why.TheVariants as fault

same_spec : (spec : AppSpec) (class : Class) (arg : Arg) → spec.class ≡ class → spec.arg ≡ arg → spec ≡ record { class = class; arg = arg }
same_spec spec class arg c a = λ i. record { class = c i; arg = a i }

pub app_added_ok : (old new : ConfigForm) (name : List ℕ) (class : Class) (text : Option (List ℕ)) (arg : Arg) → AddsApp old new name class text → arg_of class text ≡ Some arg → app_added old name class arg ≡ Ok new
unfolding app_added
app_added_ok old new name class text arg h t =
    let room : nat_le 256 (length old.apps) ≡ false = lt-leb 256 (length old.apps) h.room in
    let found : arg_of class text ≡ Some h.spec.arg = arg_found_at class text h.spec h.class_is h.taken in
    let same : h.spec.arg ≡ arg = cc in
    rw room (ap Ok (ap (with_app old name) (sym (same_spec h.spec class arg h.class_is same)) ∙ sym h.added))
  where
    arg_found_at : (class : Class) (text : Option (List ℕ)) (spec : AppSpec) → spec.class ≡ class → TakesArg class text spec.arg → arg_of class text ≡ Some spec.arg
    arg_found_at class text spec e h = arg_found class text spec.arg h

pub app_added_full : (old : ConfigForm) (name : List ℕ) (class : Class) (text : Option (List ℕ)) (arg : Arg) (refusal : ConfigFault) → refusal ≡ refused.TooMany → IsAppFault old name class text refusal → app_added old name class arg ≡ Err fault.TooMany
unfolding app_added
app_added_full old name class text arg refusal e h =
    let k : IsAppFault old name class text refused.TooMany = subst (IsAppFault old name class text) e h in
    let full : nat_le 256 (length old.apps) ≡ true = le-leb 256 (length old.apps) k.2 in
    rw full refl

pub no_twice : (old : ConfigForm) (name : List ℕ) (class : Class) (text : Option (List ℕ)) (arg : Arg) → IsAppFault old name class text refused.Twice → has_app old name ≡ false → app_added old name class arg ≡ Err fault.Twice
no_twice old name class text arg h absent = let t : has_app old name ≡ true = h in cc

pub no_bad_arg : (old : ConfigForm) (name : List ℕ) (class : Class) (text : Option (List ℕ)) (arg : Arg) (refusal : ConfigFault) → refusal ≡ refused.BadArg → IsAppFault old name class text refusal → arg_of class text ≡ Some arg → app_added old name class arg ≡ Err fault.Arg
no_bad_arg old name class text arg refusal e h t =
    let k : IsAppFault old name class text refused.BadArg = subst (IsAppFault old name class text) e h in
    absurd (k.1 arg (arg_came class text arg t))

pub ruleset added = (app_added_ok, no_twice)

pub needed_some : {A : Type 0} (why : Why) (o : Option A) (x : A) → needed why o ≡ Ok x → o ≡ Some x
needed_some why None x e = cc
needed_some why (Some y) x e = cc

pub ruleset needs = (needed_some)

-- what is read before an app is taken
pub app_line_leaves : (journal : Option (List ℕ)) (lanes : List Lane) (files : FilesForm) (placed : Placed) (tokens : List (List ℕ)) (words : AppWords) (name : List ℕ) (class : Class) (arg : Arg) (state : Placed × FilesForm) (result : Result Unit LineFault) → app_tokens tokens ≡ Ok words → named words.name ≡ Ok name → has_app placed.config name ≡ false → needed fault.Class (class_of words.class) ≡ Ok class → needed fault.Arg (arg_of class words.arg) ≡ Ok arg → Leaves state result (app_taken journal lanes files placed name class arg) → Leaves state result (app_line journal lanes files placed tokens)
unfolding app_line
app_line_leaves journal lanes files placed tokens words name class arg state result t n a c g h =
    let e : app_line journal lanes files placed tokens ≡ app_taken journal lanes files placed name class arg = rw (t, n, a, c, g) refl in
    subst (Leaves state result) (sym e) h
