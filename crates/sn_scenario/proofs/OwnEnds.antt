-- The apps of a worker's plan take ends of interlinks that are its own.
use Rattle.std.proofs.Common.{All, Bool, List, Some, [], cond, false, filter, refl, subst, sym, true, ℕ, ◌==◌, ◌∷◌, ◌≡◌}
use Rattle.std.proofs.lemmas.Bool.{eqb-true}
use Rattle.std.proofs.lemmas.List.Elements.{All-append, All-nil, All-push, recursion_from_All}
use Rattle.std.specs.List.{AllByRecursion}
use Rattle.sn_actions.specs.Diffs.{IsChange, diff_of}
use Rattle.sn_actions.specs.declared.action.Action.{Action}
use Rattle.sn_actions.specs.declared.action.Action.TheVariants.{Commit, FreeLink, LinkInput, LinkOutput, NewLink, ReconfigApp}
use Rattle.sn_actions.specs.declared.action.Action.TheVariants.{StartApp, StopApp, UnlinkInput, UnlinkOutput}
use Rattle.sn_config.specs.Configs.{ConfigForm, app_at}
use Rattle.sn_config.specs.declared.app_spec.AppSpec.{AppSpec}
use Rattle.sn_scenario.proofs.PlanSteps.{plan-cons, plan-nil}
use Rattle.sn_scenario.proofs.RosterNames.{value_at}
use Rattle.sn_scenario.specs.AppUses.{receives_lane, transmits_lane}
use Rattle.sn_scenario.specs.ConfigLines.{of_worker}
use Rattle.sn_scenario.specs.LaneEnds.{leads_from, leads_to}
use Rattle.sn_scenario.specs.PlanLaws.{AreChanged, TakesOwnEnds, UsesOwnEnds}
use Rattle.sn_scenario.specs.Plans.{change_of, plan_after}
use Rattle.sn_scenario.specs.Scenarios.{IsServed}
use Rattle.sn_scenario.specs.declared.lane.Lane.{Lane}
use Rattle.sn_scenario.specs.declared.placed.Placed.{Placed}

-- each app of a configuration takes ends that are the worker's own
record HasOwnEnds (lanes : List Lane) (worker : ℕ) (config : ConfigForm) : Type 0 where
  specs : (name : List ℕ) (spec : AppSpec) → app_at config.apps name ≡ Some spec → TakesOwnEnds lanes worker spec

change_own : (lanes : List Lane) (worker : ℕ) (before after : ConfigForm) (action : Action) → HasOwnEnds lanes worker after
    → IsChange before after action → UsesOwnEnds lanes worker action
change_own lanes worker before after (UnlinkOutput link) own h = tt
change_own lanes worker before after (UnlinkInput link) own h = tt
change_own lanes worker before after (FreeLink link) own h = tt
change_own lanes worker before after (StopApp name) own h = tt
change_own lanes worker before after (StartApp name spec) own h = own.specs name spec h
change_own lanes worker before after (ReconfigApp name spec) own h = own.specs name spec h
change_own lanes worker before after (NewLink link) own h = tt
change_own lanes worker before after (LinkOutput link) own h = tt
change_own lanes worker before after (LinkInput link) own h = tt
change_own lanes worker before after Commit own h = tt

plan_own : (lanes : List Lane) (worker : ℕ) (before : ConfigForm) (configs : List Placed) → AreChanged before configs
    → AllByRecursion (λ p. HasOwnEnds lanes worker p.config) configs → All (UsesOwnEnds lanes worker) (plan_after before configs)
plan_own lanes worker before [] h own =
    subst (All (UsesOwnEnds lanes worker)) (sym (plan-nil before)) (All-nil (UsesOwnEnds lanes worker))
plan_own lanes worker before (x ∷ more) h own =
    subst (All (UsesOwnEnds lanes worker)) (sym (plan-cons before x more))
    (All-append (UsesOwnEnds lanes worker) (change_of before x.config) (plan_after x.config more)
    (All-push (UsesOwnEnds lanes worker) (diff_of before x.config) Commit
    (λ k d within. change_own lanes worker before x.config _ own.0 (h.0.changes k d within)) tt)
    (plan_own lanes worker x.config more h.1 own.1))

served_own : (lanes : List Lane) (captures outputs : List (List ℕ)) (p : Placed) → IsServed lanes captures outputs p
    → HasOwnEnds lanes p.worker p.config
served_own lanes captures outputs p s =
    record {
      specs = λ n spec t. record {
        receives = λ lane u.
            value_at (λ spec. (what : List ℕ) → receives_lane spec what ≡ true → leads_to lanes p.worker what ≡ true)
            p.config.apps n spec s.receives t lane u;
        transmits = λ lane u.
            value_at (λ spec. (what : List ℕ) → transmits_lane spec what ≡ true → leads_from lanes p.worker what ≡ true)
            p.config.apps n spec s.transmits t lane u;
      };
    }

-- the configurations of the worker among these
all_own : (lanes : List Lane) (captures outputs : List (List ℕ)) (worker : ℕ) (xs : List Placed)
    → AllByRecursion (IsServed lanes captures outputs) xs
    → AllByRecursion (λ p. HasOwnEnds lanes worker p.config) (filter (of_worker worker) xs)
all_own lanes captures outputs worker [] h = tt
all_own lanes captures outputs worker (x ∷ xs) h = by (x.worker == worker) refl (all_own lanes captures outputs worker xs h.1)
  where
    by : (b : Bool) → (x.worker == worker) ≡ b
        → AllByRecursion (λ p. HasOwnEnds lanes worker p.config) (filter (of_worker worker) xs)
        → AllByRecursion (λ p. HasOwnEnds lanes worker p.config) (cond b (x ∷ filter (of_worker worker) xs)
        (filter (of_worker worker) xs))
    by true e more = (
      subst (λ w. HasOwnEnds lanes w x.config) (eqb-true x.worker worker e) (served_own lanes captures outputs x h.0),
      more,
    )
    by false e more = more

pub ends_own : (lanes : List Lane) (captures outputs : List (List ℕ)) (worker : ℕ) (before : ConfigForm) (placed : List Placed)
    → AreChanged before (filter (of_worker worker) placed) → All (IsServed lanes captures outputs) placed
    → All (UsesOwnEnds lanes worker) (plan_after before (filter (of_worker worker) placed))
ends_own lanes captures outputs worker before placed h s =
    plan_own lanes worker before (filter (of_worker worker) placed) h
    (all_own lanes captures outputs worker placed (recursion_from_All (IsServed lanes captures outputs) placed s))
