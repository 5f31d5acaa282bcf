-- A bench, as contracts see it: a context over lists, whose entries come from a script.
use Rattle.std.specs.Prelude.{ℕ, zero, suc, if◌then◌else◌, ◌<◌, ◌^◌, ◌≡◌, Bool, true, false, nat_lt, List, [], ◌∷◌, ◌++◌, length, map, slice_index_or, Option, None, IsTrue, Result, Ok, Err}
use Rattle.sn_core.specs.declared.events.Side.{Side}
use Rattle.sn_core.specs.declared.events.Side.TheVariants.{Tx, Rx}
use Rattle.sn_journal.specs.declared.entry.Entry.{Entry}
use Rattle.sn_journal.specs.declared.entry.Entry.TheVariants.{Breath, Dry, Got, Hear, Round, Spent}
use Rattle.sn_names.specs.Rosters.{RosterRows}
use Rattle.sn_packet.specs.Hold.{Held, frees_of}
use Rattle.sn_app.specs.Answers.{OnTray}
use Rattle.sn_app.specs.Counts.{CounterRows}
use Rattle.sn_app.specs.Desk.{Constants, Tray, Queue, End, nothing, name_of, out_end}
use Rattle.sn_app.specs.Reader.{Meaning, done, refused}
use Rattle.sn_app.specs.Rows.{is_name}
use Rattle.sn_app.specs.declared.halt.Halt.{Halt}
use Rattle.sn_app.specs.declared.halt.Halt.TheVariants.{Stopped, OutOfMemory}

-- the two ends of an interlink, and for how many more packets the transmitter's end has room to lay them
pub record LaneEnds : Type 0 where
  pub tx : End
  pub rx : End
  pub room : ℕ

-- What a bench has: its packets; the entries that it read and added, and those still to be read; both ends of each interlink;
-- counters; files by row, None where never started; names; captures; and whether it was made with no script at all.
pub record BenchState : Type 0 where
  pub held : Held
  pub past : List Entry
  pub script : List Entry
  pub lanes : List LaneEnds
  pub counters : CounterRows
  pub files : List (Option (List ℕ))
  pub roster : RosterRows
  pub captures : List (List ℕ)
  pub bare : Bool

-- the entries that were read and added, for how many more there is room, and those still to be read
pub record TapeState : Type 0 where
  pub past : List Entry
  pub room : ℕ
  pub script : List Entry

-- an interlink that nobody attached to, and the end at a side of an interlink
abbrev pub no_lane : LaneEnds
no_lane = record { tx = out_end; rx = out_end; room = 0 }

abbrev pub end_of : Side → LaneEnds → End
end_of Tx ends = ends.tx
end_of Rx ends = ends.rx

abbrev pub with_side : Side → End → LaneEnds → LaneEnds
with_side Tx end ends = record ends { tx = end }
with_side Rx end ends = record ends { rx = end }

abbrev pub lane_at : List LaneEnds → ℕ → LaneEnds
lane_at lanes lane = slice_index_or lanes lane no_lane

abbrev pub ends_of : List LaneEnds → ℕ → Side → End
ends_of lanes lane side = end_of side (lane_at lanes lane)

-- a bench by its parts
abbrev pub bench_of : Held → TapeState → List LaneEnds → CounterRows → List (Option (List ℕ)) → RosterRows → List (List ℕ) → Bool
    → BenchState
bench_of held tape lanes counters files roster captures bare = record {
  held = held;
  past = tape.past;
  script = tape.script;
  lanes = lanes;
  counters = counters;
  files = files;
  roster = roster;
  captures = captures;
  bare = bare;
}

-- Which entries may come: without a script only that a claim found nothing, and what the worker itself notes.
abbrev pub may_come : Bool → Entry → Bool
may_come true Dry = true
may_come true (Round r) = true
may_come true (Hear n) = true
may_come true Breath = true
may_come true Spent = true
may_come true _ = false
may_come false entry = true

-- It has both ends of each interlink of its roster.
abbrev pub has_lane : List (List ℕ) → ℕ → Side → Bool
has_lane names lane side = nat_lt lane (length names)

-- what never changes: no stop line, and all entries come from the script
abbrev pub constants_of : Bool → RosterRows → List (List ℕ) → Constants
constants_of bare roster captures = record {
  may = may_come bare;
  stops = [];
  scripted = true;
  roster = roster;
  captures = captures;
  has_end = has_lane roster.lanes;
}

-- The tray of a bench: it passes all gates and counts none, and nothing of it stands open at the group between two calls.
abbrev pub tray_of : BenchState → Tray
tray_of bench = record {
  log = record { past = bench.past; constants = constants_of bench.bare bench.roster bench.captures };
  gates = 0;
  free = map name_of (frees_of bench.held);
  pending = nothing;
  ends = ends_of bench.lanes;
  counters = bench.counters;
  files = bench.files;
}

-- What a bench keeps: lists as long as those of its roster, which 32 bits can number; and no script where it had none.
pub record IsBench (bench : BenchState) : Type 0 where
  pub lanes : length bench.lanes ≡ length bench.roster.lanes
  pub files : length bench.files ≡ length bench.roster.files
  pub apps : length bench.counters.apps ≡ length bench.roster.apps
  pub links : length bench.counters.links ≡ length bench.roster.links
  pub captures : length bench.captures ≡ length bench.roster.captures
  pub few_apps : length bench.roster.apps < 2 ^ 32
  pub few_links : length bench.roster.links < 2 ^ 32
  pub few_captures : length bench.roster.captures < 2 ^ 32
  pub few_files : length bench.roster.files < 2 ^ 32
  pub few_lanes : length bench.roster.lanes < 2 ^ 32
  pub script : IsTrue bench.bare → length bench.script ≡ 0

-- what a test says of the next entry, where there is one
abbrev pub first_of : {R : Type 0} → (Entry → Option R) → List Entry → Option R
first_of f [] = None
first_of f (entry ∷ entries) = f entry

abbrev pub first_is : (Entry → Bool) → List Entry → Bool
first_is f [] = false
first_is f (entry ∷ entries) = f entry

-- The script's next entry joins those that were read.
pub record Advanced (t u : TapeState) : Type 0 where
  pub entry : Entry
  pub was : t.script ≡ entry ∷ u.script
  pub joins : u.past ≡ t.past ++ entry ∷ []

-- How a row reads the script itself: it is done where the call answers a value, with what is left of the script; and it is
-- refused exactly where the call stops.
unfoldable pub PlaysCase : {R : Type 0} → Meaning R → Tray → Tray → List Entry → List Entry → (ℕ → Option Queue) → Result R Halt
    → Type 0
PlaysCase m t u script left queues (Ok x) =
    m (record { tray = t; queues = queues }) script ≡ done x (record { tray = u; queues = queues }) left
PlaysCase m t u script left queues (Err Stopped) =
    m (record { tray = t; queues = queues }) script ≡ refused (record { tray = u; queues = queues }) left
PlaysCase m t u script left queues (Err OutOfMemory) = Unit {0}

-- The call answered as its row reads, and it is the row's reading of the script.
pub record Played {R : Type 0} (m : Meaning R) (t u : Tray) (script left : List Entry) (result : Result R Halt) : Type 0 where
  pub reads : OnTray m t u result
  pub plays : (queues : ℕ → Option Queue) → PlaysCase m t u script left queues result

-- However the row goes on from here, so it went from the start.
pub record PlaysOn {R : Type 0} (m : Meaning R) (start now : Tray) (script rest : List Entry) : Type 0 where
  pub ends : (u : Tray) (left : List Entry) (result : Result R Halt) → Played m now u rest left result
      → Played m start u script left result

-- What the claims of one refill read and add, and what they leave of the script: at most so many packets, and then, unless all
-- came, that none did. Where the script's next entry is neither, nothing is read, and that none came is added.
abbrev pub after_got : Entry → List Entry × List Entry → List Entry × List Entry
after_got entry more = (entry ∷ more.0, more.1)

abbrev pub claims_of : ℕ → List Entry → List Entry × List Entry
claims_of zero script = ([], script)
claims_of (suc n) [] = (Dry ∷ [], [])
claims_of (suc n) (Dry ∷ script) = (Dry ∷ [], script)
claims_of (suc n) (Got packet turn ∷ script) =
    if is_name packet turn then after_got (Got packet turn) (claims_of n script) else (Dry ∷ [], Got packet turn ∷ script)
claims_of (suc n) (entry ∷ script) = (Dry ∷ [], entry ∷ script)
