-- What a journal says of the ends, the group's seat, the listener and the hold that it was written at.
use Rattle.std.specs.Prelude.{ℕ, ◌+◌, ◌==◌, ◌≡◌, ◌≤◌, if◌then◌else◌, List, [], ◌∷◌, ◌++◌, map, Option, Some, None}
use Rattle.sn_channel.specs.Ends.{ListenerLog}
use Rattle.sn_group.specs.Seats.{SeatState}
use Rattle.sn_group.specs.declared.entry.GroupEntry.{GroupEntry}
use Rattle.sn_group.specs.declared.entry.GroupEntry.TheVariants as group
use Rattle.sn_interlink.specs.Ends.{LaneEnd, shown_log}
use Rattle.sn_interlink.specs.declared.entry.LaneEntry.{LaneEntry}
use Rattle.sn_interlink.specs.declared.entry.LaneEntry.TheVariants as lane
use Rattle.sn_journal.specs.Holding.{gains, losses}
use Rattle.sn_journal.specs.declared.entry.Entry.{Entry}
use Rattle.sn_journal.specs.declared.entry.Entry.TheVariants.{Hear, Attach, Unattached, Detach, Reset, Seen, Room, Put, Take}
use Rattle.sn_journal.specs.declared.entry.Entry.TheVariants.{Drain, Got, Dry, Gave, Full}
use Rattle.sn_packet.specs.Hold.{Held, weight}
use Rattle.sn_packet.specs.Packet.{PacketState, with_bytes}
use Rattle.sn_seat.specs.SeatEnds.{Numbered, end_in, times_at}

-- a packet by number, turn and bytes
abbrev pub packet_by : ℕ → ℕ → List ℕ → PacketState
packet_by number turn bytes = record { number = number; turn = turn; bytes = bytes }

-- what an entry says of an interlink, and of which one; a drained packet is named without its bytes
abbrev pub lane_part : Entry → Option (ℕ × LaneEntry)
lane_part (Attach number found) = Some (number, lane.Attach found)
lane_part (Unattached number loaded found) = Some (number, lane.Unattached loaded found)
lane_part (Detach number old) = Some (number, lane.Detach old)
lane_part (Reset number) = Some (number, lane.Reset)
lane_part (Seen number n) = Some (number, lane.Seen n)
lane_part (Room number n) = Some (number, lane.Room n)
lane_part (Put number place packet turn bytes) = Some (number, lane.Put place (packet_by packet turn bytes ∷ []))
lane_part (Take number place packet turn bytes) = Some (number, lane.Take place (packet_by packet turn bytes ∷ []))
lane_part (Drain number place packet turn) = Some (number, lane.Drain place (packet_by packet turn [] ∷ []))
lane_part _ = None

-- what entries say of one interlink
abbrev pub if_lane : ℕ → ℕ → List LaneEntry → List LaneEntry
if_lane number other entries = if other == number then entries else []

abbrev pub part_at : ℕ → Option (ℕ × LaneEntry) → List LaneEntry
part_at number None = []
part_at number (Some part) = if_lane number part.0 (part.1 ∷ [])

abbrev pub of_lane : ℕ → List Entry → List LaneEntry
of_lane number [] = []
of_lane number (entry ∷ entries) = part_at number (lane_part entry) ++ of_lane number entries

-- an end's log as a journal tells it
abbrev pub told_entry : LaneEntry → LaneEntry
told_entry (lane.Drain place packets) = lane.Drain place (map (with_bytes []) packets)
told_entry entry = entry

abbrev pub told_log : LaneEnd → List LaneEntry
told_log e = map told_entry (shown_log e)

-- the log of the end of one interlink, of these ends
abbrev pub log_at : ℕ → List Numbered → List LaneEntry
log_at number [] = []
log_at number (x ∷ ends) = if_lane number x.0 (told_log (end_in x.1)) ++ log_at number ends

-- what entries say of the group, one list a step
abbrev pub group_part : Entry → List (List GroupEntry)
group_part (Got packet turn) = (group.Got packet turn ∷ []) ∷ []
group_part Dry = (group.Dry ∷ []) ∷ []
group_part (Full packet turn) = (group.Full packet turn ∷ []) ∷ []
group_part (Gave packet turn) = (group.Gave packet turn ∷ []) ∷ []
group_part _ = []

abbrev pub of_group : List Entry → List (List GroupEntry)
of_group [] = []
of_group (entry ∷ entries) = group_part entry ++ of_group entries

-- what entries say of the channel
abbrev pub heard_part : Entry → List ℕ
heard_part (Hear n) = n ∷ []
heard_part _ = []

abbrev pub of_channel : List Entry → List ℕ
of_channel [] = []
of_channel (entry ∷ entries) = heard_part entry ++ of_channel entries

-- The journal tells all: an interlink has one end here at most, and its entries are that end's log; the group's entries are the
-- log of the group's seat, and the Hear entries are what the listener heard; and by any function of number and turn that weighs
-- packets, what was received is what was given and what the hold has.
pub record Told (entries : List Entry) (hold : Held) (ends : List Numbered) (seat : SeatState)
    (listener : ListenerLog) : Type 0 where
  pub once : (number : ℕ) → times_at number ends ≤ 1
  pub lanes : (number : ℕ) → of_lane number entries ≡ log_at number ends
  pub grouped : of_group entries ≡ seat.log
  pub listened : of_channel entries ≡ listener.heard
  pub held : (f : ℕ → ℕ → ℕ) → gains f entries ≡ losses f entries + weight f hold
