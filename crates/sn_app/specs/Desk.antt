-- A desk: all that an app's meaning reads and changes. A tray is what the context keeps, and the queues are the links'.
use Rattle.std.specs.Prelude.{ℕ, ◌+◌, ◌-◌, ◌^◌, ◌==◌, ◌&&◌, Bool, true, false, min, nat_lt, nat_le, if◌then◌else◌, List, [], ◌∷◌, ◌++◌, length, slice_index_or, slice_set, Option, Some, None, is_some, unwrap_or}
use Rattle.sn_core.specs.declared.events.Side.{Side}
use Rattle.sn_core.specs.declared.events.Side.TheVariants.{Tx, Rx}
use Rattle.sn_journal.specs.declared.entry.Entry.{Entry}
use Rattle.sn_journal.specs.HandOvers.{PacketName}
use Rattle.sn_link.specs.Counts.{no_counts, with_sent, with_dropped, with_received}
use Rattle.sn_link.specs.declared.counts.LinkCounts.{LinkCounts}
use Rattle.sn_link.specs.Link.{most_queued}
use Rattle.sn_names.specs.Rosters.{RosterRows}
use Rattle.sn_packet.specs.Hold.{put_at}
use Rattle.sn_packet.specs.Packet.{PacketState}
use Rattle.sn_pcap.specs.Written.{written_header, written_record}
use Rattle.sn_app.specs.Counts.{CounterRows, rows_raised, rows_kept}
use Rattle.sn_app.specs.declared.counters.Counter.{Counter}
use Rattle.sn_app.specs.declared.end_state.EndState.{EndState}
use Rattle.sn_app.specs.declared.end_state.EndState.TheVariants.{Out, Up, Closing}

-- a packet by its number and its turn
abbrev pub name_of : PacketState → PacketName
name_of packet = (packet.number, packet.turn)

-- a link: its packets from the front on, and its counts
pub record Queue : Type 0 where
  pub packets : List PacketState
  pub counts : LinkCounts

-- An end of an interlink: how it stands, how many places it saw and hasn't used, what it laid and hasn't published, how many
-- places it emptied and hasn't given back, and whether it read its position since it attached.
pub record End : Type 0 where
  pub state : EndState
  pub known : ℕ
  pub laid : List PacketState
  pub unreleased : ℕ
  pub synced : Bool

-- what stands open at the group of free packets: nothing; packets that are claimed, of which so many are taken out; or a packet
-- that is being given, and whether it is laid in and whether its word is written
pub data Pending : Type 0 where
  nothing : Pending
  taking : List PacketName → ℕ → Pending
  giving : PacketName → Pending
  given_in : PacketName → Pending
  worded : PacketName → Pending

-- What never changes for a worker: which entries may come at all, its stop lines, each a number of entries and a number of
-- gates behind them, whether its entries come from a script, its names, its captures' bytes, and which ends it has.
pub record Constants : Type 0 where
  pub may : Entry → Bool
  pub stops : List (ℕ × ℕ)
  pub scripted : Bool
  pub roster : RosterRows
  pub captures : List (List ℕ)
  pub has_end : ℕ → Side → Bool

-- the entries so far, and what never changes
pub record Log : Type 0 where
  pub past : List Entry
  pub constants : Constants

-- What a context keeps: its log, the gates passed since the last entry, the free packets with the one freed last at the end,
-- what stands open at the group, its ends, its counters, and its files by row, None where never started.
pub record Tray : Type 0 where
  pub log : Log
  pub gates : ℕ
  pub free : List PacketName
  pub pending : Pending
  pub ends : ℕ → Side → End
  pub counters : CounterRows
  pub files : List (Option (List ℕ))

-- a tray, and the queue of each link by its row
pub record Desk : Type 0 where
  pub tray : Tray
  pub queues : ℕ → Option Queue

-- the names of a tray's rows
abbrev pub roster_of : Tray → RosterRows
roster_of t = t.log.constants.roster

-- a packet becomes free
abbrev pub freed : PacketName → Tray → Tray
freed name t = record t { free = t.free ++ name ∷ [] }

-- something stands open at the group
abbrev pub with_pending : Pending → Tray → Tray
with_pending pending t = record t { pending = pending }

-- both sides are one
abbrev pub same_side : Side → Side → Bool
same_side Tx Tx = true
same_side Tx Rx = false
same_side Rx Tx = false
same_side Rx Rx = true

-- the ends, with one of them changed
abbrev pub set_end : ℕ → Side → End → (ℕ → Side → End) → ℕ → Side → End
set_end lane side end ends other that = if other == lane && same_side that side then end else ends other that

abbrev pub with_end : ℕ → Side → End → Tray → Tray
with_end lane side end t = record t { ends = set_end lane side end t.ends }

-- an end that isn't attached, one that is, and one that closes with so many emptied places
abbrev pub end_at : EndState → ℕ → Bool → End
end_at state unreleased synced = record { state = state; known = 0; laid = []; unreleased = unreleased; synced = synced }

abbrev pub out_end : End
out_end = end_at Out 0 true

abbrev pub up_end : End
up_end = end_at Up 0 true

abbrev pub unsynced_end : End
unsynced_end = end_at Up 0 false

abbrev pub closing_end : ℕ → End
closing_end unreleased = end_at Closing unreleased true

-- so many places are seen
abbrev pub with_known : ℕ → End → End
with_known n end = record end { known = n }

-- one place was taken and isn't released; a packet lies in one more place
abbrev pub with_taken : End → End
with_taken end = record end { known = end.known - 1; unreleased = end.unreleased + 1 }

abbrev pub with_laid : PacketState → End → End
with_laid packet end = record end { known = end.known - 1; laid = end.laid ++ packet ∷ [] }

-- all emptied places were released; all that was laid was published
abbrev pub all_released : End → End
all_released end = record end { unreleased = 0 }

abbrev pub all_published : End → End
all_published end = record end { laid = [] }

-- one end changes
abbrev pub change_end : ℕ → Side → (End → End) → Tray → Tray
change_end lane side f t = with_end lane side (f (t.ends lane side)) t

-- a count of an app is raised; counts are added to those of a link
abbrev pub counted_on : ℕ → Counter → ℕ → Tray → Tray
counted_on app counter by t = record t { counters = rows_raised app counter by t.counters }

abbrev pub kept_counts : ℕ → LinkCounts → Tray → Tray
kept_counts link counts t = record t { counters = rows_kept link counts t.counters }

-- a file, and whether it was started
abbrev pub file_at : ℕ → Tray → Option (List ℕ)
file_at file t = slice_index_or t.files file None

abbrev pub is_started : ℕ → Tray → Bool
is_started file t = is_some (file_at file t)

abbrev pub bytes_in : ℕ → Tray → List ℕ
bytes_in file t = unwrap_or (file_at file t) []

-- the most bytes of a file
abbrev pub most_in_file : ℕ
most_in_file = 33554432

-- a record of this packet still fits into the file
abbrev pub has_room : ℕ → PacketState → Tray → Bool
has_room file packet t = nat_le (length (bytes_in file t) + (16 + length packet.bytes)) most_in_file

-- a file's bytes change; it is a header alone; a packet's record is added
abbrev pub with_file : ℕ → List ℕ → Tray → Tray
with_file file bytes t = record t { files = slice_set t.files file (Some bytes) }

abbrev pub file_begun : ℕ → Tray → Tray
file_begun file t = with_file file written_header t

abbrev pub file_appended : ℕ → PacketState → Tray → Tray
file_appended file packet t = with_file file (bytes_in file t ++ written_record packet.bytes) t

-- a capture's bytes
abbrev pub capture_at : ℕ → Tray → List ℕ
capture_at capture t = slice_index_or t.log.constants.captures capture []

-- a gate was passed, and an entry was added, after which no gate was passed yet
abbrev pub gate_passed : Tray → Tray
gate_passed t = record t { gates = min (t.gates + 1) (2 ^ 64 - 1) }

abbrev pub after_entry : Entry → Tray → Tray
after_entry entry t = record t { log = record t.log { past = t.log.past ++ entry ∷ [] }; gates = 0 }

abbrev pub on_tray : (Tray → Tray) → Desk → Desk
on_tray f d = record d { tray = f d.tray }

-- a link that nothing was sent on
abbrev pub no_queue : Queue
no_queue = record { packets = []; counts = no_counts }

-- the queue at a row changes
abbrev pub with_queue : ℕ → Option Queue → Desk → Desk
with_queue row queue d = record d { queues = put_at row queue d.queues }

-- a packet is sent on a link: it is the last of its queue, or dropped where that is full, and then it becomes free
abbrev pub sent_as : Bool → ℕ → PacketState → Queue → Desk → Desk
sent_as true row packet queue d =
    with_queue row (Some (record {
      packets =
          queue.packets ++ packet ∷ [];
      counts = with_sent (length packet.bytes) queue.counts;
    })) d
sent_as false row packet queue d =
    on_tray (freed (name_of packet)) (with_queue row (Some (record queue { counts = with_dropped queue.counts })) d)

abbrev pub sent_on : Option Queue → ℕ → PacketState → Desk → Desk
sent_on None row packet d = d
sent_on (Some queue) row packet d = sent_as (nat_lt (length queue.packets) most_queued) row packet queue d

abbrev pub sent : ℕ → PacketState → Desk → Desk
sent row packet d = sent_on (d.queues row) row packet d

-- the packet at the front of a queue, and the queue without it, with one packet more received
abbrev pub front_of_list : List PacketState → LinkCounts → Option (PacketState × Queue)
front_of_list [] counts = None
front_of_list (packet ∷ more) counts =
    Some (packet, record { packets = more; counts = with_received (length packet.bytes) counts })

abbrev pub front_rest : Option Queue → Option (PacketState × Queue)
front_rest None = None
front_rest (Some queue) = front_of_list queue.packets queue.counts
