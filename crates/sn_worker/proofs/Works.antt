-- A worker can work on after what it did.
use Rattle.std.proofs.Common.{◌≡◌, ℕ, ◌+◌, ◌<◌, true, false, List, get_or, length, slice_range, take}
use Rattle.std.proofs.Common.{OnOk, Option, Result, Ok, Err, refl, sym, ap, subst, ◌∙◌, arith}
use Rattle.sn_actions.specs.PlainForms.{PlainForm, empty_form}
use Rattle.sn_actions.specs.Plains.{apply, apply_all}
use Rattle.sn_actions.specs.declared.action.Action.{Action}
use Rattle.sn_actions.specs.declared.action.Action.TheVariants.{Commit, FreeLink, LinkInput, LinkOutput, NewLink, ReconfigApp}
use Rattle.sn_actions.specs.declared.action.Action.TheVariants.{StartApp, StopApp, UnlinkInput, UnlinkOutput}
use Rattle.sn_app.specs.Answers.{Stays}
use Rattle.sn_app.specs.Desk.{Tray, after_entry}
use Rattle.sn_app.specs.Reader.{Meaning}
use Rattle.sn_app.specs.Runs.{Runs}
use Rattle.sn_app.specs.World.{Used, desk_of, world}
use Rattle.sn_app.specs.declared.halt.Halt.{Halt}
use Rattle.sn_journal.specs.declared.entry.Entry.{Entry}
use Rattle.sn_link.specs.Link.{Line}
use Rattle.sn_network.specs.Acting.{taken_or}
use Rattle.sn_network.specs.Nets.{Net}
use Rattle.sn_network.specs.Networks.{CanBreathe, plain_in, shown}
use Rattle.sn_network.specs.declared.network.Network.{Network}
use Rattle.sn_network.proofs.Noted.{still_breathes, still_shown}
use Rattle.sn_scenario.specs.PlanLaws.{committed, is_commit}
use Rattle.sn_worker.specs.Lives.{at_prefix}
use Rattle.sn_worker.specs.Workers.{CanWork, IsWithin, life_of, plan_in}
use Rattle.sn_worker.specs.declared.worker.Worker.{Worker}
use Rattle.sn_worker.proofs.Applied.{next_applied, rest_applied}
use Rattle.sn_worker.proofs.Noting.{noted_stays}
use Rattle.sn_worker.proofs.Prefixes.{commit_cuts, wait_cuts}
use Rattle.sn_worker.proofs.Ranges.{take_more}
use Rattle.sn_worker.proofs.Staying.{all_stay}

-- what follows where a call went through
pub on_ok : {A B : Type 0} (r : Result (Unit {0}) Halt) → (A → B) → OnOk r A → OnOk r B
on_ok (Ok done) f a = f a
on_ok (Err halt) f a = tt

-- what every run keeps
pub run_stays : {R : Type 0} {m : Meaning R} {r : Result R Halt} {before after : ℕ → ℕ} (t s : Tray) (u v : Used)
    (slots later : List (Option Line))
    → Runs m (world t u slots) (world s v later) before after r → Stays t s
unfolding desk_of
run_stays t s u v slots later run = run.answers.stays

-- an action that is a commit
pub is_the_commit : (action : Action) → is_commit action ≡ true → action ≡ Commit
is_the_commit Commit e = refl
is_the_commit (UnlinkOutput link) e = absurd cc
is_the_commit (UnlinkInput link) e = absurd cc
is_the_commit (FreeLink link) e = absurd cc
is_the_commit (StopApp name) e = absurd cc
is_the_commit (StartApp name spec) e = absurd cc
is_the_commit (ReconfigApp name spec) e = absurd cc
is_the_commit (NewLink link) e = absurd cc
is_the_commit (LinkOutput link) e = absurd cc
is_the_commit (LinkInput link) e = absurd cc

-- AN ENTRY WAS NOTED

module _ (worker : Worker) (u v : Used) (t s : Tray) (entry : Entry) (noted : s ≡ after_entry entry t) (same : v ≡ u) where
  pub noted_works : CanWork worker u t → CanWork worker v s
  noted_works h =
      let stays : Stays t s = noted_stays entry t s noted in
      record {
        breathes =
            subst (λ (used : Used). CanBreathe worker.network used s) (sym same)
            (still_breathes worker.network u t s stays h.breathes);
        within = h.within;
        takes = h.takes;
        finds = all_stay (plan_in worker) t s stays h.finds;
      }

  pub noted_shown : shown worker.network v s ≡ shown worker.network u t
  noted_shown =
      ap (λ (used : Used). shown worker.network used s) same
      ∙ still_shown worker.network u t s (noted_stays entry t s noted)

  pub noted_life : life_of worker v s ≡ life_of worker u t
  noted_life = ap (λ (net : Net). record (life_of worker u t) { net = net }) noted_shown

-- the plain form is that of the prefix that was taken
pub prefix_same : (plan : List Action) (applied taken : ℕ) (form : PlainForm) → IsWithin plan applied taken form
    → taken_or form (apply_all (committed (take taken plan)) empty_form) ≡ form
prefix_same plan applied taken form h =
    ap (taken_or form) (ap (λ xs. apply_all xs empty_form) h.cut ∙ h.after)

pub prefix_shown : (worker : Worker) (u : Used) (t : Tray) → CanWork worker u t
    → shown worker.network u t ≡ at_prefix (plan_in worker) (life_of worker u t)
prefix_shown worker u t h =
    ap (λ (form : PlainForm). record (shown worker.network u t) { plain = form })
    (sym (prefix_same (plan_in worker) worker.applied worker.taken (plain_in worker.network) h.within))

-- THE NETWORK CHANGED, AND ITS PLAIN FORM DIDN'T

pub breathed_works : (worker : Worker) (network : Network) (u v : Used) (t s : Tray) → Stays t s
    → plain_in network ≡ plain_in worker.network → CanWork worker u t → CanBreathe network v s
    → CanWork (record worker { network = network }) v s
breathed_works worker network u v t s stays plain h breathes = record {
  breathes = breathes;
  within =
      subst (λ (form : PlainForm). IsWithin (plan_in worker) worker.applied worker.taken form) (sym plain) h.within;
  takes = h.takes;
  finds = all_stay (plan_in worker) t s stays h.finds;
}

-- AN ACTION WAS TAKEN

module _ (plan : List Action) (applied taken : ℕ) (d : Action) (form : PlainForm) (h : IsWithin plan applied taken form)
    (more : taken < length plan) where
  pub waited_within : is_commit (get_or plan taken d) ≡ false → IsWithin plan applied (taken + 1) form
  waited_within other = record {
    order = let o = h.order in omega (arith, o);
    within = omega (arith, more);
    cut = ap committed (take_more plan taken d more) ∙ (wait_cuts (take taken plan) (get_or plan taken d) other ∙ h.cut);
    after = h.after;
  }

  pub committed_within : (mid last : PlainForm) → is_commit (get_or plan taken d) ≡ true
      → apply_all (slice_range plan applied taken) form ≡ Ok mid → apply (get_or plan taken d) mid ≡ Ok last
      → IsWithin plan (taken + 1) (taken + 1) last
  committed_within mid last commit waited took = record {
    order = omega arith;
    within = omega (arith, more);
    cut =
        ap committed (take_more plan taken d more)
        ∙ (commit_cuts (take taken plan) (get_or plan taken d) commit ∙ sym (take_more plan taken d more));
    after =
        next_applied plan taken d empty_form mid last more
        (rest_applied plan applied taken empty_form form mid h.order h.within h.after waited) took;
  }
