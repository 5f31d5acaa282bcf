-- A run that ended is one that its journals tell.
use Rattle.std.proofs.Common.{◌≡◌, ℕ, List, length, map, replicate, sym, ap, subst, ◌∙◌}
use Rattle.std.proofs.lemmas.List.{length-map}
use Rattle.sn_crew.specs.Crews.{IsUnderway, captures_in, form_in, rounds_in, stand_of, stands_in}
use Rattle.sn_crew.specs.Endings.{HaveEnded, entries_at}
use Rattle.sn_crew.specs.Stands.{Stand}
use Rattle.sn_crew.specs.declared.crew.Crew.{Crew}
use Rattle.sn_crew.specs.declared.leaving.Left.{Left}
use Rattle.sn_journal.specs.declared.slot_state.SlotState.TheVariants.{Running}
use Rattle.sn_scenario.specs.Scenarios.{ScenarioForm}
use Rattle.sn_sharing.specs.Closings.{AreFifo, AreHeld, AreLogs, IsBalanced}
use Rattle.sn_sharing.specs.Columns.{entries_in}
use Rattle.sn_sharing.specs.LeftEnds.{lists}
use Rattle.sn_sharing.specs.Pools.{pool_packets}
use Rattle.sn_run.specs.Replay.{AreRounds, IsRun, started, together}
use Rattle.sn_run.specs.Reported.{RunReport}
use Rattle.sn_run.specs.Runs.{AreTold, IsOver}
use Rattle.sn_run.specs.declared.outcome.Outcome.{Outcome}

module _ (form : ScenarioForm) (captures : List (List ℕ)) (rounds : ℕ) (stands : List Stand) (rest : Left)
    (ended : HaveEnded form captures rounds stands rest) where
  -- as many journals as workers
  pub as_many : length rest.closed.journals.items ≡ length stands
  as_many =
      sym (length-map rest.closed.journals.items entries_in) ∙ ap length ended.journals ∙ length-map ended.ends entries_at
      ∙ ended.replays.as_many

  -- and of lists of packets that are kept
  pub as_many_kept : length rest.closed.kept.items ≡ length stands
  as_many_kept = sym (length-map rest.closed.kept.items (λ v. v.items)) ∙ ended.all_kept ∙ ended.replays.as_many

  pub run_is : (ran : Outcome) (report : RunReport) → length stands ≡ form.settings.workers → AreRounds form rounds stands
      → AreTold rest ran report → IsRun form captures ran report
  run_is ran report workers last told =
      let journals : report.journals ≡ map entries_at ended.ends = told.journals ∙ ended.journals in
      record {
        rounds = rounds;
        stands = stands;
        ends = ended.ends;
        kept_by = lists rest.closed.kept.items;
        workers = workers;
        last = last;
        replays = ended.replays;
        journals = journals;
        counters = told.counters ∙ ended.counters;
        files =
            told.files ∙ ap (λ form. started form.outputs (together (length form.outputs) (lists rest.closed.files.items)))
            ended.scenario
            ∙ ap (λ files. started form.outputs (together (length form.outputs) files)) ended.files;
        states = told.states ∙ ap (λ form. replicate form.settings.workers Running) ended.scenario;
        left = told.left_is ∙ ended.left_is;
        logs =
            subst (λ j. AreLogs j form.lanes report.lanes report.group) (sym journals)
            (subst (λ l. AreLogs (map entries_at ended.ends) form.lanes l report.group) (sym told.lanes)
            (subst (λ g. AreLogs (map entries_at ended.ends) form.lanes rest.closed.lanes.items g) (sym told.group_is)
            ended.logs));
        fifo = subst AreFifo (sym told.lanes) ended.fifo;
        balance = subst (IsBalanced (pool_packets form.settings.pool)) (sym told.group_is) ended.balance;
        kept = told.kept;
        all_kept = ended.all_kept;
        listed = ended.listed;
        held = subst (λ j. AreHeld j (lists rest.closed.kept.items)) (sym journals) ended.held;
        ended = told.ended;
      }

-- the crew's workers are the scenario's
pub workers_of : (crew : Crew) → IsUnderway crew → length (stands_in crew) ≡ (form_in crew).settings.workers
workers_of crew underway = length-map crew.places.items (λ place. stand_of crew.shared place.slot) ∙ underway.workers

pub finished_run : (crew : Crew) (rest : Left) (ran : Outcome) (report : RunReport) → IsUnderway crew → IsOver crew
    → HaveEnded (form_in crew) (captures_in crew) (rounds_in crew) (stands_in crew) rest → AreTold rest ran report
    → IsRun (form_in crew) (captures_in crew) ran report
finished_run crew rest ran report underway over ended told =
    run_is (form_in crew) (captures_in crew) (rounds_in crew) (stands_in crew) rest ended ran report (workers_of crew underway)
    (record { within = underway.within; last = over }) told

-- as many journals, and as many lists of packets, as the scenario has workers
pub journals_of : (crew : Crew) (rest : Left) → IsUnderway crew
    → HaveEnded (form_in crew) (captures_in crew) (rounds_in crew) (stands_in crew) rest
    → length rest.closed.journals.items ≡ rest.scenario.settings.workers
journals_of crew rest underway ended =
    as_many (form_in crew) (captures_in crew) (rounds_in crew) (stands_in crew) rest ended ∙ workers_of crew underway
    ∙ ap (λ form. form.settings.workers) (sym ended.scenario)

pub kept_of : (crew : Crew) (rest : Left) → IsUnderway crew
    → HaveEnded (form_in crew) (captures_in crew) (rounds_in crew) (stands_in crew) rest
    → length rest.closed.kept.items ≡ rest.scenario.settings.workers
kept_of crew rest underway ended =
    as_many_kept (form_in crew) (captures_in crew) (rounds_in crew) (stands_in crew) rest ended ∙ workers_of crew underway
    ∙ ap (λ form. form.settings.workers) (sym ended.scenario)
