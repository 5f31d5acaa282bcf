-- A worker between two rounds, and how rounds lead from one stand to the next.
use Rattle.std.specs.Prelude.{ℕ, ◌≡◌, ◌⊎◌, ◌+◌, zero, suc, All, List, [], ◌∷◌, ◌++◌, None, false}
use Rattle.sn_app.specs.Desk.{Desk}
use Rattle.sn_app.specs.Reader.{done}
use Rattle.sn_channel.specs.Ends.{IsRising, IsSaid}
use Rattle.sn_journal.specs.declared.entry.Entry.{Entry}
use Rattle.sn_scenario.specs.Plans.{due_of, plan_of}
use Rattle.sn_scenario.specs.Scenarios.{ScenarioForm}
use Rattle.sn_seat.specs.Told.{of_channel}
use Rattle.sn_sharing.specs.Opened.{opening_tray}
use Rattle.sn_worker.specs.SlotTurns.{slot_round}
use Rattle.sn_worker.specs.Slots.{SlotLife, keep_of, new_slot_life}

-- its life, and its desk
pub record Stand : Type 0 where
  pub life : SlotLife
  pub desk : Desk

-- the desk that a worker begins with: no link stands there
abbrev pub opening_desk : ScenarioForm → List (List ℕ) → ℕ → Desk
opening_desk form captures worker = record { tray = opening_tray form captures worker; queues = λ row. None }

abbrev pub opening_stand : ScenarioForm → List (List ℕ) → ℕ → Stand
opening_stand form captures worker = record { life = new_slot_life; desk = opening_desk form captures worker }

-- what was said to a worker up to a round
abbrev pub said_by : ScenarioForm → ℕ → ℕ → List ℕ
said_by form worker zero = due_of worker 0 form ∷ []
said_by form worker (suc round) = said_by form worker round ++ due_of worker (suc round) form ∷ []

-- A worker's round after so many, from one stand to the next. The round's part of the journal is read there, whatever stands
-- behind it: the worker hears at least what was due in the round before, and never less than it heard before.
pub record RoundRead (form : ScenarioForm) (worker before : ℕ) (from to : Stand) : Type 0 where
  pub unspent : from.life.life.spent ≡ false
  pub entries : List Entry
  pub past : to.desk.tray.log.past ≡ from.desk.tray.log.past ++ entries
  pub reads : (rest : List Entry)
      → slot_round (plan_of worker form) form.settings.breaths (due_of worker before form) (keep_of form.settings)
      (before + 1) from.life from.desk (entries ++ rest)
      ≡ done to.life to.desk rest

-- a number was due to a worker in the last of so many rounds, or is due in the one behind them
abbrev pub IsDueIn : ScenarioForm → ℕ → ℕ → ℕ → Type 0
IsDueIn form worker before n = (n ≡ due_of worker before form) ⊎ (n ≡ due_of worker (before + 1) form)

-- And each number that the worker hears in it is due in it or in the round before. All that it heard so far is 0, or was due in
-- a round up to this one, and never fell.
pub record RoundMade (form : ScenarioForm) (worker before : ℕ) (from to : Stand) : Type 0 where
  pub read : RoundRead form worker before from to
  pub due : All (IsDueIn form worker before) (of_channel read.entries)
  pub heard : All (IsSaid (said_by form worker (before + 1))) (of_channel to.desk.tray.log.past)
  pub rises : IsRising (of_channel to.desk.tray.log.past)

-- so many rounds were made, one after another, from the opening on
unfoldable pub AfterRounds : ScenarioForm → List (List ℕ) → ℕ → ℕ → Stand → Type 0
AfterRounds form captures worker zero stand = stand ≡ opening_stand form captures worker
AfterRounds form captures worker (suc rounds) stand =
    (from : Stand) × AfterRounds form captures worker rounds from × RoundMade form worker rounds from stand
