-- The workers of a run between two rounds.
use Rattle.std.specs.Prelude.{ℕ, ◌≡◌, ◌+◌, ◌≤◌, All, Bool, true, false, List, Some, length, map, slice_get}
use Rattle.std.specs.List.{list_any}
use Rattle.sn_channel.specs.Ends.{IsRising, IsSaid, SpeakerLog}
use Rattle.sn_manager.specs.Managers.{AreOf, due_in, speakers_in}
use Rattle.sn_manager.specs.Saying.{NoneAhead}
use Rattle.sn_scenario.specs.Plans.{due_of, plan_of}
use Rattle.sn_scenario.specs.Scenarios.{ScenarioForm}
use Rattle.sn_seat.specs.Told.{of_channel}
use Rattle.sn_seat.specs.Trays.{captures_of}
use Rattle.sn_seat.specs.declared.shared.Shared.{Shared}
use Rattle.sn_sharing.specs.Bonds.{IsBondAt}
use Rattle.sn_sharing.specs.Opened.{IsOpenedGroup}
use Rattle.sn_worker.specs.Slots.{keep_of}
use Rattle.sn_worker.specs.SlotViews.{CanRun, SlotFits, slot_bond, slot_desk, slot_life, slot_met, slot_plan}
use Rattle.sn_worker.specs.SlotViews.{slot_spent, slot_tray}
use Rattle.sn_worker.specs.declared.slot.RoundEnd.{RoundEnd}
use Rattle.sn_worker.specs.declared.slot.RoundEnd.TheVariants.{Next, Spent}
use Rattle.sn_worker.specs.declared.slot.Slot.{Slot}
use Rattle.sn_crew.specs.Stands.{AfterRounds, Stand, said_by}
use Rattle.sn_crew.specs.declared.crew.Crew.{Crew}
use Rattle.sn_crew.specs.declared.place.Place.{Place}

-- a slot's stand over what it shares
abbrev pub stand_of : Shared → Slot → Stand
stand_of shared slot = record { life = slot_life (captures_of shared) slot; desk = slot_desk (captures_of shared) slot }

-- A slot of a worker: its plan and settings are the scenario's, its seat belongs to what is shared, where the worker's number
-- says, and it can run.
pub record IsSlotOf (form : ScenarioForm) (shared : Shared) (worker : ℕ) (slot : Slot) : Type 0 where
  pub fits : SlotFits slot shared
  pub bond : IsBondAt form.lanes shared worker (slot_bond slot)
  pub plan : slot_plan slot ≡ plan_of worker form
  pub breaths : slot.breaths ≡ form.settings.breaths
  pub keep : slot.keep ≡ keep_of form.settings
  pub can : CanRun (captures_of shared) slot

-- A slot after so many rounds, which were made one after another. When it last met its worker's speaker, that had said what was
-- due in the last of them.
pub record SlotAfter (form : ScenarioForm) (shared : Shared) (rounds worker : ℕ) (slot : Slot) : Type 0 where
  pub of : IsSlotOf form shared worker slot
  pub after : AfterRounds form (captures_of shared) worker rounds (stand_of shared slot)
  pub met : slot_met slot ≡ due_of worker rounds form

-- a slot that will have made so many rounds once it met its worker's speaker, if all that it heard was said up to the last and
-- never fell
pub record SlotUnmet (form : ScenarioForm) (shared : Shared) (rounds worker : ℕ) (slot : Slot) : Type 0 where
  pub of : IsSlotOf form shared worker slot
  pub after : All (IsSaid (said_by form worker rounds)) (of_channel (slot_tray (captures_of shared) slot).log.past)
      → IsRising (of_channel (slot_tray (captures_of shared) slot).log.past)
      → AfterRounds form (captures_of shared) worker rounds (stand_of shared slot)

-- its place before a round, and after its work in the one behind so many
pub record PlaceReady (form : ScenarioForm) (shared : Shared) (rounds worker : ℕ) (place : Place) : Type 0 where
  pub slot : SlotAfter form shared rounds worker place.slot
  pub unspent : slot_spent place.slot ≡ false
  pub lacks_none : place.lacked ≡ false

pub record PlaceWorked (form : ScenarioForm) (shared : Shared) (rounds worker : ℕ) (place : Place) : Type 0 where
  pub slot : place.lacked ≡ false → SlotUnmet form shared (rounds + 1) worker place.slot

-- something holds of each of these, with its number
abbrev pub EachAt : {A : Type 0} → (ℕ → A → Type 0) → List A → Type 0
EachAt {A} holds xs = (n : ℕ) (x : A) → slice_get xs n ≡ Some x → holds n x

-- a place after so many rounds
pub record PlaceAfter (form : ScenarioForm) (shared : Shared) (rounds worker : ℕ) (place : Place) : Type 0 where
  pub slot : SlotAfter form shared rounds worker place.slot
  pub lacks_none : place.lacked ≡ false

pub record PlaceUnmet (form : ScenarioForm) (shared : Shared) (rounds worker : ℕ) (place : Place) : Type 0 where
  pub slot : SlotUnmet form shared rounds worker place.slot
  pub lacks_none : place.lacked ≡ false

-- the places of all workers at their seats, before their first round
pub record ArePlaced (form : ScenarioForm) (shared : Shared) (places : List Place) : Type 0 where
  pub as_many : length places ≡ form.settings.workers
  pub each : EachAt (PlaceUnmet form shared 0) places

-- each speaker has said what was due to its worker in each round up to this one
pub record HaveSaid (form : ScenarioForm) (shared : Shared) (rounds : ℕ) (speakers : List SpeakerLog) : Type 0 where
  pub channels : AreOf speakers shared.channels.items
  pub workers : length speakers ≡ form.settings.workers
  pub said : EachAt (λ worker speaker. speaker.said ≡ said_by form worker rounds) speakers
  pub ahead : (later : ℕ) → rounds ≤ later → NoneAhead (due_in form later) speakers

-- the scenario of a crew, its captures, and how many rounds it made
abbrev pub form_in : Crew → ScenarioForm
form_in crew = crew.scenario

abbrev pub captures_in : Crew → List (List ℕ)
captures_in crew = captures_of crew.shared

abbrev pub rounds_in : Crew → ℕ
rounds_in crew = crew.rounds

-- the stands of its workers
abbrev pub stands_in : Crew → List Stand
stands_in crew = map (λ place. stand_of crew.shared place.slot) crew.places.items

-- whether a worker is spent: its journal was full at the beginning of a turn
abbrev pub is_spent : Stand → Bool
is_spent stand = stand.life.life.spent

abbrev pub spent_in : Crew → Bool
spent_in crew = list_any is_spent (stands_in crew)

abbrev pub is_spent_end : RoundEnd → Bool
is_spent_end Next = false
is_spent_end Spent = true

-- what the workers of a scenario share: the group that opened with the scenario's pool, and an interlink for each line
pub record IsSharedBy (form : ScenarioForm) (shared : Shared) : Type 0 where
  pub group_is : IsOpenedGroup form shared.group
  pub lanes : length shared.lanes.items ≡ length form.lanes

-- The crew has a slot for each worker of its scenario, and each made the crew's rounds.
pub record IsUnderway (crew : Crew) : Type 0 where
  pub shared : IsSharedBy crew.scenario crew.shared
  pub within : crew.rounds ≤ crew.scenario.settings.rounds
  pub workers : length crew.places.items ≡ crew.scenario.settings.workers
  pub places : EachAt (PlaceAfter crew.scenario crew.shared crew.rounds) crew.places.items
  pub said : HaveSaid crew.scenario crew.shared crew.rounds (speakers_in crew.manager)

-- each slot did the work of one round more, and the manager said what is due in it; they didn't meet since
pub record HasWorked (crew : Crew) : Type 0 where
  pub shared : IsSharedBy crew.scenario crew.shared
  pub within : crew.rounds + 1 ≤ crew.scenario.settings.rounds
  pub workers : length crew.places.items ≡ crew.scenario.settings.workers
  pub places : EachAt (PlaceWorked crew.scenario crew.shared crew.rounds) crew.places.items
  pub said : HaveSaid crew.scenario crew.shared (crew.rounds + 1) (speakers_in crew.manager)

-- each slot is to meet its worker's speaker, which said what is due in the crew's last round
pub record IsUnmet (crew : Crew) : Type 0 where
  pub shared : IsSharedBy crew.scenario crew.shared
  pub within : crew.rounds ≤ crew.scenario.settings.rounds
  pub workers : length crew.places.items ≡ crew.scenario.settings.workers
  pub places : EachAt (PlaceUnmet crew.scenario crew.shared crew.rounds) crew.places.items
  pub said : HaveSaid crew.scenario crew.shared crew.rounds (speakers_in crew.manager)

-- a crew keeps its scenario and what its workers share
pub record KeepsCourse (old new : Crew) : Type 0 where
  pub scenario : new.scenario ≡ old.scenario
  pub shared : new.shared ≡ old.shared
