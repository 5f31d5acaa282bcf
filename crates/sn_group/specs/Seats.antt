-- What contracts see of a group, of its seats, and of the receipt of its close.
use Rattle.std.specs.Prelude.{◌≡◌, ◌<◌, ◌≤◌, ℕ, ◌+◌, Option, Some, None, option_map, List, [], ◌∷◌, ◌++◌, map}
use Rattle.std.specs.List.{range_with_len}
use Rattle.atomic_table.specs.Seated.{TableId}
use Rattle.sn_core.specs.declared.parts.Packet.{Packet}
use Rattle.sn_packet.specs.Packet.{PacketState, most_packets, highest_turn}
use Rattle.sn_group.specs.declared.view.View.{View}
use Rattle.sn_group.specs.declared.entry.GroupEntry.{GroupEntry}
use Rattle.sn_group.specs.declared.entry.GroupEntry.TheVariants.{Got, Dry, Full, Gave}
use Rattle.sn_group.specs.declared.entry.Probe.{Probe}
use Rattle.sn_group.specs.declared.answers.Pending.{Pending}
use Rattle.sn_group.specs.declared.answers.Pending.TheVariants.{Nothing, Taking, TakenOut, Giving, GivenIn}
use Rattle.sn_group.specs.declared.answers.TakeClaim.{TakeClaim}
use Rattle.sn_group.specs.declared.answers.GiveClaim.{GiveClaim}
use Rattle.sn_group.specs.Cells.{named, full_word}
use Rattle.sn_group.specs.Views.{logs_in}
use Rattle.sn_group.specs.Scans.{PassedFull, PassedEmpty, Passes, Claims}
use Rattle.sn_group.specs.Plays.{Mine}

-- which group it is
abbrev pub GroupId : Type 0
GroupId = TableId

-- a group: which it is, the packets that it opened with, in the order of cells, and how many seats it has
pub record GroupState : Type 0 where
  pub id : GroupId
  pub opened : List Packet
  pub seats : ℕ

-- a seat of a group
pub record SeatState : Type 0 where
  pub group : GroupId
  pub number : ℕ  -- the seat's own number, counted from 0
  pub log : List (List GroupEntry)  -- what its steps said, the first first; each step has a list of entries
  pub pending : Pending
  pub carried : List Packet  -- the packet that is claimed and not out, or being given, with the turn not raised
  pub take_from : ℕ  -- the cell where the next scan for a full cell starts
  pub give_from : ℕ  -- the cell where the next scan for an empty cell starts
  pub scan : List Probe  -- what the last scan saw, the newest first

abbrev pub packet_of : ℕ → ℕ → Packet
packet_of number turn = record { number = number; turn = turn }

-- a seat that has done nothing
abbrev pub new_seat : GroupId → ℕ → SeatState
new_seat group number = record {
  group = group;
  number = number;
  log = [];
  pending = Nothing;
  carried = [];
  take_from = 0;
  give_from = 0;
  scan = [];
}

-- all seats of a group that opens, by number
abbrev pub new_seats : GroupId → ℕ → List SeatState
new_seats group seats = map (new_seat group) (range_with_len 0 seats)

-- the seat after it asked for a full cell, with what the scan saw
abbrev pub after_taking : TakeClaim → ℕ → List Probe → SeatState → SeatState
after_taking (TakeClaim.Claimed number turn) cell scan seat = record seat {
  log = seat.log ++ (Got number turn ∷ []) ∷ [];
  pending = Taking;
  carried = packet_of number turn ∷ [];
  take_from = cell;
  scan = scan;
}
after_taking TakeClaim.Dry cell scan seat = record seat { log = seat.log ++ (Dry ∷ []) ∷ []; scan = scan }

-- the seat after it asked for an empty cell for this packet, with what the scan saw
abbrev pub after_giving : PacketState → GiveClaim → ℕ → List Probe → SeatState → SeatState
after_giving packet GiveClaim.Claimed cell scan seat = record seat {
  pending = Giving;
  carried = named packet ∷ [];
  give_from = cell;
  scan = scan;
}
after_giving packet (GiveClaim.Full back) cell scan seat = record seat {
  log = seat.log ++ (Full packet.number packet.turn ∷ []) ∷ [];
  scan = scan;
}

-- the seat after it gave a packet
abbrev pub after_given : ℕ → ℕ → SeatState → SeatState
after_given number turn seat = record seat {
  log = seat.log ++ (Gave number turn ∷ []) ∷ [];
  pending = Nothing;
  carried = [];
}

-- the packet that was carried, with its turn raised by one
abbrev pub IsRaised : List Packet → ℕ → ℕ → Type 0
IsRaised carried number turn = (before : ℕ) × (carried ≡ packet_of number before ∷ []) × (turn ≡ before + 1)

-- what the scan for a full cell saw: the claimed word, or of each cell once that it couldn't be claimed
abbrev pub TakeScan : ℕ → ℕ → TakeClaim → ℕ → List Probe → Type 0
TakeScan cells start (TakeClaim.Claimed number turn) cell scan = Claims PassedFull cells start cell (full_word number turn) scan
TakeScan cells start TakeClaim.Dry cell scan = Passes PassedFull cells start cells scan

-- what the scan for an empty cell saw
abbrev pub GiveScan : ℕ → ℕ → GiveClaim → ℕ → List Probe → Type 0
GiveScan cells start GiveClaim.Claimed cell scan = Claims PassedEmpty cells start cell 0 scan
GiveScan cells start (GiveClaim.Full back) cell scan = Passes PassedEmpty cells start cells scan

-- Dry comes only where each cell was passed, and Full too
abbrev pub IsDryOnlyWhere : Type 0 → TakeClaim → Type 0
IsDryOnlyWhere P (TakeClaim.Claimed number turn) = Unit {0}
IsDryOnlyWhere P TakeClaim.Dry = P

abbrev pub IsFullOnlyWhere : (PacketState → Type 0) → GiveClaim → Type 0
IsFullOnlyWhere P GiveClaim.Claimed = Unit {0}
IsFullOnlyWhere P (GiveClaim.Full back) = P back

-- what is claimed is within the bounds of a packet
abbrev pub IsClaimedWithin : TakeClaim → Type 0
IsClaimedWithin (TakeClaim.Claimed number turn) = (number < most_packets) × (turn ≤ highest_turn)
IsClaimedWithin TakeClaim.Dry = Unit {0}

-- what a seat carries, and has in the slot of the claimed cell, by how far its transfer has come
abbrev pub carried_of : Pending → ℕ → ℕ → List Packet
carried_of Nothing number turn = []
carried_of Taking number turn = packet_of number turn ∷ []
carried_of TakenOut number turn = []
carried_of Giving number turn = packet_of number turn ∷ []
carried_of GivenIn number turn = packet_of number turn ∷ []

abbrev pub cells_of : Pending → ℕ → ℕ → List ℕ
cells_of Nothing take give = []
cells_of Taking take give = take ∷ []
cells_of TakenOut take give = take ∷ []
cells_of Giving take give = give ∷ []
cells_of GivenIn take give = give ∷ []

abbrev pub loads_of : Pending → ℕ → ℕ → List (Option Packet)
loads_of Nothing number turn = []
loads_of Taking number turn = Some (packet_of number turn) ∷ []
loads_of TakenOut number turn = None ∷ []
loads_of Giving number turn = None ∷ []
loads_of GivenIn number turn = Some (packet_of number (turn + 1)) ∷ []

abbrev pub kept_of : Pending → ℕ → ℕ → Option Packet
kept_of Nothing number turn = None
kept_of Taking number turn = None
kept_of TakenOut number turn = None
kept_of Giving number turn = Some (packet_of number turn)
kept_of GivenIn number turn = None

-- how much the turn is still raised, or was
abbrev pub raise_of : Pending → ℕ
raise_of Nothing = 0
raise_of Taking = 0
raise_of TakenOut = 0
raise_of Giving = 1
raise_of GivenIn = 1

-- what a seat's fields say of its view and of the slots that it has
pub record IsSeat (pending : Pending) (take give number turn : ℕ) (kept : Option PacketState) (me : Mine) : Type 0 where
  pub parts : me.0.parts ≡ 1
  pub joined : me.0.joined ≡ []
  pub scan : me.0.scan ≡ []
  pub cells : me.0.cells ≡ cells_of pending take give
  pub slots : map (λ slot. slot.0) me.1 ≡ cells_of pending take give
  pub loads : map (λ slot. option_map named slot.1) me.1 ≡ loads_of pending number turn
  pub keeps : option_map named kept ≡ kept_of pending number turn
  pub least : number < most_packets
  pub raised : turn + raise_of pending ≤ highest_turn

-- a seat's log with its number
abbrev pub log_of : SeatState → ℕ × List (List GroupEntry)
log_of seat = (seat.number, seat.log)

-- the seat is one of this group, and has nothing under way
pub record IsAtRest (group : GroupId) (seat : SeatState) : Type 0 where
  pub belongs : seat.group ≡ group
  pub rests : seat.pending ≡ Nothing

-- what is known of the token of a seat at rest
pub record IsRested (seat : SeatState) (me : Mine) : Type 0 where
  pub parts : me.0.parts ≡ 1
  pub cells : me.0.cells ≡ []
  pub slots : me.1 ≡ []
  pub logs : logs_in me.0 ≡ log_of seat ∷ []

-- what is known of the token that so many seats, with these logs, were joined into
pub record IsGathered (count : ℕ) (logs : List (ℕ × List (List GroupEntry))) (me : Mine) : Type 0 where
  pub parts : me.0.parts ≡ count
  pub cells : me.0.cells ≡ []
  pub slots : me.1 ≡ []
  pub all : logs_in me.0 ≡ logs

abbrev pub seat_state : GroupId → View → Pending → ℕ → ℕ → ℕ → ℕ → SeatState
seat_state group v pending number turn take give = record {
  group = group;
  number = v.number;
  log = v.log;
  pending = pending;
  carried = carried_of pending number turn;
  take_from = take;
  give_from = give;
  scan = v.last;
}
