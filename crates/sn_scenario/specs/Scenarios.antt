-- Scenarios, and what holds of each.
use Rattle.std.specs.Prelude.{All, AllPairs, Contains, IfSome, List, Option, count_by, length, true, ℕ, ◌*◌, ◌<◌, ◌≡◌, ◌≢◌, ◌≤◌}
use Rattle.std.specs.List.Sorted.{IsStrictlySortedBy}
use Rattle.sn_names.specs.LinkOrder.{name_cmp}
use Rattle.sn_scenario.specs.AppUses.{EachUsed, UsedOnce, reads_file, receives_lane, transmits_lane, writes_file}
use Rattle.sn_scenario.specs.ConfigLines.{of_worker}
use Rattle.sn_scenario.specs.FileUses.{has_writer}
use Rattle.sn_scenario.specs.LaneEnds.{leads_from, leads_to}
use Rattle.sn_scenario.specs.declared.lane.Lane.{Lane}
use Rattle.sn_scenario.specs.declared.placed.Placed.{Placed}
use Rattle.sn_scenario.specs.declared.settings.Settings.{Settings}
use Rattle.sn_scenario.specs.declared.stop.StopLine.{StopLine}

-- The settings; the interlinks in their order; the journal's file; the configurations in their
-- order, each with its worker and round; the stops; the captures and the outputs, bytewise.
pub record ScenarioForm : Type 0 where
  pub settings : Settings
  pub lanes : List Lane
  pub journal : Option (List ℕ)
  pub placed : List Placed
  pub stops : List StopLine
  pub captures : List (List ℕ)
  pub outputs : List (List ℕ)

-- from low up to high
abbrev pub IsWithin : ℕ → ℕ → ℕ → Type 0
IsWithin low high n = (low ≤ n) × (n ≤ high)

-- the settings of a scenario
pub record AreBounded (settings : Settings) : Type 0 where
  pub pool : IsWithin 1 16384 settings.pool
  pub workers : IsWithin 1 16 settings.workers
  pub breaths : IsWithin 1 1000 settings.breaths
  pub rounds : IsWithin 1 100000 settings.rounds
  pub restarts : settings.restarts ≤ 1000
  pub product : settings.rounds * settings.breaths ≤ 100000

-- an interlink between two of the workers
pub record IsLane (workers : ℕ) (lane : Lane) : Type 0 where
  pub tx : lane.tx < workers
  pub rx : lane.rx < workers
  pub apart : lane.tx ≢ lane.rx

-- the interlinks of a scenario, no two of one name
pub record AreLanes (workers : ℕ) (lanes : List Lane) : Type 0 where
  pub few : length lanes ≤ 16
  pub each : All (IsLane workers) lanes
  pub once : AllPairs (λ a b. a.name ≢ b.name) lanes

-- a stop of one of the workers
pub record IsStop (workers : ℕ) (stop : StopLine) : Type 0 where
  pub worker : stop.worker < workers
  pub entries : stop.entries ≤ 1000000000
  pub gates : stop.gates ≤ 1000000

-- the stops of a scenario, no two of them alike
pub record AreStops (workers : ℕ) (stops : List StopLine) : Type 0 where
  pub few : length stops ≤ 1000
  pub each : All (IsStop workers) stops
  pub once : AllPairs (λ a b. a ≢ b) stops

-- the captures or the outputs of a scenario, rising bytewise, so that each stands once
pub record AreFiles (names : List (List ℕ)) : Type 0 where
  pub few : length names ≤ 16
  pub rising : IsStrictlySortedBy name_cmp names

-- no file has two uses
pub record HaveOneUse (journal : Option (List ℕ)) (captures outputs : List (List ℕ)) : Type 0 where
  pub not_read : IfSome journal (λ file. Contains captures file → ⊥)
  pub not_written : IfSome journal (λ file. Contains outputs file → ⊥)
  pub apart : (file : List ℕ) → Contains captures file → Contains outputs file → ⊥

-- a configuration of one of the workers
pub record IsPlaced (workers : ℕ) (placed : Placed) : Type 0 where
  pub worker : placed.worker < workers
  pub round : placed.round ≤ 100000

-- the configurations of a scenario: the rounds of each worker rise, and no worker has more than 64
pub record ArePlaced (workers : ℕ) (placed : List Placed) : Type 0 where
  pub each : All (IsPlaced workers) placed
  pub rising : AllPairs (λ a b. a.worker ≡ b.worker → a.round < b.round) placed
  pub few : (worker : ℕ) → count_by (of_worker worker) placed ≤ 64

-- what the apps of a configuration use is the scenario's: a capture, an output, an end that is its
-- worker's; each end and each written file stands once
pub record IsServed (lanes : List Lane) (captures outputs : List (List ℕ)) (placed : Placed) : Type 0 where
  pub reads : EachUsed reads_file (Contains captures) placed.config
  pub writes : EachUsed writes_file (Contains outputs) placed.config
  pub receives : EachUsed receives_lane (λ lane. leads_to lanes placed.worker lane ≡ true) placed.config
  pub transmits : EachUsed transmits_lane (λ lane. leads_from lanes placed.worker lane ≡ true) placed.config
  pub written_once : UsedOnce writes_file placed.config
  pub received_once : UsedOnce receives_lane placed.config
  pub transmitted_once : UsedOnce transmits_lane placed.config

pub record AreServed (lanes : List Lane) (captures outputs : List (List ℕ)) (placed : List Placed) : Type 0 where
  pub each : All (IsServed lanes captures outputs) placed

-- an output belongs to one worker: those whose configurations write it are one
abbrev pub HaveOneWriter : List Placed → Type 0
HaveOneWriter placed =
    (file : List ℕ) (a b : Placed) → Contains placed a → Contains placed b
    → has_writer a.config.apps file ≡ true → has_writer b.config.apps file ≡ true → a.worker ≡ b.worker

-- the parts of what holds of every scenario
pub record HasBounds (scenario : ScenarioForm) : Type 0 where
  pub settings : AreBounded scenario.settings
  pub lanes : AreLanes scenario.settings.workers scenario.lanes
  pub stops : AreStops scenario.settings.workers scenario.stops
  pub captures : AreFiles scenario.captures
  pub outputs : AreFiles scenario.outputs
  pub uses : HaveOneUse scenario.journal scenario.captures scenario.outputs
  pub placed : ArePlaced scenario.settings.workers scenario.placed
  pub served : AreServed scenario.lanes scenario.captures scenario.outputs scenario.placed
  pub writers : HaveOneWriter scenario.placed

-- what holds of every scenario; a proof that needs a part unfolds the word
unfoldable pub IsBounded : ScenarioForm → Type 0
IsBounded scenario = HasBounds scenario
