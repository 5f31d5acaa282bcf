-- What each call of a context reads and does, row by row.
use Rattle.std.specs.Prelude.{ℕ, ◌+◌, ◌==◌, ◌&&◌, Bool, true, false, not, nat_le, nat_lt, bytes_eq, if◌then◌else◌, List, [], ◌∷◌, length, Option, Some, None}
use Rattle.sn_core.specs.declared.events.Side.{Side}
use Rattle.sn_core.specs.declared.events.Side.TheVariants.{Tx, Rx}
use Rattle.sn_journal.specs.declared.entry.Entry.{Entry}
use Rattle.sn_journal.specs.declared.entry.Entry.TheVariants.{Hear, Attach, Unattached, Detach, Reset, Seen, Room, Put, Take, Drain, Got, Dry, Gave, Full, Worn}
use Rattle.sn_journal.specs.HandOvers.{PacketName}
use Rattle.sn_link.specs.declared.counts.LinkCounts.{LinkCounts}
use Rattle.sn_link.specs.Link.{most_queued}
use Rattle.sn_packet.specs.Packet.{PacketState, most_packets, most_bytes, highest_turn}
use Rattle.sn_app.specs.Desk.{Tray, Queue, nothing, taking, giving, given_in, worded, freed, with_pending, with_end, change_end, out_end, up_end, unsynced_end, closing_end, with_known, with_taken, with_laid, all_released, all_published, counted_on, kept_counts, has_room, file_begun, file_appended, sent, front_rest, with_queue}
use Rattle.sn_app.specs.Gates.{Phase, Gate, working, reclaiming, look_state, attach, sync, detach, load_far, drain_or_reset, drain_release, look_at, room_of, take, release, put_begin, put_publish, take_claim, take_out, take_done, give_claim, give_in, give_word, give_done, hear, gate_in}
use Rattle.sn_app.specs.Reader.{Meaning, pure, ◌>>=◌, look, change, change_tray, read, read_if, times, repeated}
use Rattle.sn_app.specs.Words.{is_word, is_down, is_open_to, is_held_by, is_closer}
use Rattle.sn_app.specs.declared.counters.Counter.{Counter}
use Rattle.sn_app.specs.declared.end_state.EndState.{EndState}
use Rattle.sn_app.specs.declared.end_state.EndState.TheVariants.{Out, Up}

-- one meaning, and then another that doesn't use its value
infixl 10 ◌>>◌
abbrev pub ◌>>◌ : {R S : Type 0} → Meaning R → Meaning S → Meaning S
m >> next = m >>= (λ _. next)

-- a gate of a worker that works
abbrev pub gate : Gate → Meaning Unit
gate g = gate_in working g

-- the most that a look or a room tells: one place of a ring stays free
abbrev pub most_seen : ℕ
most_seen = most_queued

-- a number of a packet and a turn
abbrev pub is_name : ℕ → ℕ → Bool
is_name packet turn = nat_lt packet most_packets && nat_le turn highest_turn

-- a packet of this number, turn and bytes
abbrev pub packet_of : ℕ → ℕ → List ℕ → PacketState
packet_of number turn bytes = record { number = number; turn = turn; bytes = bytes }

-- ALLOCATE: the free packet that was freed last; where there is none, up to 64 are claimed first

-- what a claim reads: a packet that came, or that none did
abbrev pub got_or_dry : Entry → Option (Option PacketName)
got_or_dry (Got packet turn) = if is_name packet turn then Some (Some (packet, turn)) else None
got_or_dry Dry = Some None
got_or_dry _ = None

-- a claimed packet is taken out and becomes free
unfoldable pub claim_taken : Option PacketName → Meaning Bool
claim_taken None = pure false
claim_taken (Some name) =
    change_tray (with_pending (taking (name ∷ []) 0)) >> gate take_out
    >> change_tray (with_pending (taking (name ∷ []) 1)) >> gate take_done
    >> change_tray (λ t. freed name (with_pending nothing t)) >> pure true

unfoldable pub refill_one : Meaning Bool
refill_one = gate take_claim >> read got_or_dry >>= claim_taken

-- the most packets of one refill
abbrev pub most_refilled : ℕ
most_refilled = 64

unfoldable pub refill : Meaning Bool
refill = times most_refilled refill_one

-- the last of these names, and the names before it
abbrev pub last_from : PacketName → List PacketName → PacketName
last_from name [] = name
last_from name (next ∷ names) = last_from next names

abbrev pub last_of : List PacketName → Option PacketName
last_of [] = None
last_of (name ∷ names) = Some (last_from name names)

abbrev pub but_last_from : PacketName → List PacketName → List PacketName
but_last_from name [] = []
but_last_from name (next ∷ names) = name ∷ but_last_from next names

abbrev pub but_last : List PacketName → List PacketName
but_last [] = []
but_last (name ∷ names) = but_last_from name names

unfoldable pub refill_where : List PacketName → Meaning Bool
refill_where [] = refill
refill_where (name ∷ names) = pure true

unfoldable pub refill_needed : Meaning Bool
refill_needed = look (λ d. refill_where d.tray.free)

unfoldable pub take_last : Meaning (Option PacketName)
take_last = look (λ d. change_tray (λ t. record t { free = but_last t.free }) >> pure (last_of d.tray.free))

unfoldable pub row_allocate : Meaning (Option PacketName)
row_allocate = refill_needed >> take_last

-- ATTACH: true where the end is up afterwards

-- the interlink was down
abbrev pub is_down_entry : ℕ → Entry → Bool
is_down_entry lane (Unattached l loaded found) = l == lane && (loaded == found && is_down loaded)
is_down_entry lane _ = false

-- the end came up, or the word had changed since it was loaded
abbrev pub attach_or_not : ℕ → Side → Entry → Option Bool
attach_or_not lane side (Attach l found) = if l == lane && is_open_to side found then Some true else None
attach_or_not lane side (Unattached l loaded found) =
    if l == lane && (is_open_to side loaded && (is_word found && not (loaded == found))) then Some false else None
attach_or_not lane side _ = None

-- a receiver reads its position before its end serves
unfoldable pub came_up : ℕ → Side → Meaning Bool
came_up lane Tx = change_tray (with_end lane Tx up_end) >> pure true
came_up lane Rx =
    change_tray (with_end lane Rx unsynced_end) >> gate sync >> change_tray (with_end lane Rx up_end) >> pure true

unfoldable pub attached : ℕ → Side → Bool → Meaning Bool
attached lane side true = came_up lane side
attached lane side false = pure false

unfoldable pub not_down : ℕ → Side → Bool → Meaning Bool
not_down lane side true = pure false
not_down lane side false = gate attach >> read (attach_or_not lane side) >>= attached lane side

unfoldable pub attach_from : ℕ → Side → EndState → Meaning Bool
attach_from lane side Up = pure true
attach_from lane side _ = gate look_state >> read_if (is_down_entry lane) >>= not_down lane side

unfoldable pub row_attach : ℕ → Side → Meaning Bool
row_attach lane side = look (λ d. attach_from lane side (d.tray.ends lane side).state)

-- DETACH: the end is out afterwards; the last of both ends empties the interlink and sets it free

-- whether the end that detached closes
abbrev pub a_detach : ℕ → Side → Entry → Option Bool
a_detach lane side (Detach l old) = if l == lane && is_held_by side old then Some (is_closer side old) else None
a_detach lane side _ = None

-- a closer loads the far position: how many packets are left, as a receiver sees it, or how much room there is
abbrev pub a_far : ℕ → Side → Entry → Option ℕ
a_far lane Rx (Seen l n) = if l == lane && nat_le n most_seen then Some n else None
a_far lane Tx (Room l n) = if l == lane && nat_le n most_seen then Some n else None
a_far lane side _ = None

-- a packet that was left, or that none is
abbrev pub drain_or_reset_of : ℕ → Entry → Option (Option PacketName)
drain_or_reset_of lane (Drain l position packet turn) =
    if l == lane && is_name packet turn then Some (Some (packet, turn)) else None
drain_or_reset_of lane (Reset l) = if l == lane then Some None else None
drain_or_reset_of lane _ = None

-- what was drained becomes free; in a reclamation it stays held
unfoldable pub drained_in : Phase → PacketName → Tray → Tray
drained_in working name t = freed name t
drained_in reclaiming name t = t

unfoldable pub drained : Phase → ℕ → Side → Option PacketName → Meaning Bool
drained phase lane side None = change_tray (with_end lane side out_end) >> pure false
drained phase lane side (Some name) =
    change_tray (with_end lane side (closing_end 1)) >> gate_in phase drain_release
    >> change_tray (λ t. drained_in phase name (with_end lane side (closing_end 0) t)) >> pure true

unfoldable pub drain_one : Phase → ℕ → Side → Meaning Bool
drain_one phase lane side = gate_in phase drain_or_reset >> read (drain_or_reset_of lane) >>= drained phase lane side

unfoldable pub close_lane : Phase → ℕ → Side → Meaning Unit
close_lane phase lane side = gate_in phase load_far >> read (a_far lane side) >> repeated (drain_one phase lane side)

unfoldable pub detached : Phase → ℕ → Side → Bool → Meaning Unit
detached phase lane side false = change_tray (with_end lane side out_end)
detached phase lane side true = change_tray (with_end lane side (closing_end 0)) >> close_lane phase lane side

unfoldable pub detach_from : Phase → ℕ → Side → EndState → Meaning Unit
detach_from phase lane side Out = pure tt
detach_from phase lane side _ = gate_in phase detach >> read (a_detach lane side) >>= detached phase lane side

unfoldable pub row_detach : Phase → ℕ → Side → Meaning Unit
row_detach phase lane side = look (λ d. detach_from phase lane side (d.tray.ends lane side).state)

-- LOOK and ROOM: how many packets can be taken, and put

abbrev pub a_seen : ℕ → Entry → Option ℕ
a_seen lane (Seen l n) = if l == lane && nat_le n most_seen then Some n else None
a_seen lane _ = None

abbrev pub a_room : ℕ → Entry → Option ℕ
a_room lane (Room l n) = if l == lane && nat_le n most_seen then Some n else None
a_room lane _ = None

unfoldable pub learned : ℕ → Side → ℕ → Meaning ℕ
learned lane side n = change_tray (change_end lane side (with_known n)) >> pure n

unfoldable pub row_look : ℕ → Meaning ℕ
row_look lane = gate look_at >> read (a_seen lane) >>= learned lane Rx

unfoldable pub row_room : ℕ → Meaning ℕ
row_room lane = gate room_of >> read (a_room lane) >>= learned lane Tx

-- TAKE: the packet of the next position, whose place is given back

abbrev pub a_take : ℕ → Entry → Option PacketState
a_take lane (Take l position packet turn bytes) =
    if l == lane && (is_name packet turn && nat_le (length bytes) most_bytes) then Some (packet_of packet turn bytes) else None
a_take lane _ = None

unfoldable pub took : ℕ → PacketState → Meaning PacketState
took lane packet =
    change_tray (change_end lane Rx with_taken) >> gate release >> change_tray (change_end lane Rx all_released) >> pure packet

unfoldable pub row_take : ℕ → Meaning PacketState
row_take lane = gate take >> read (a_take lane) >>= took lane

-- PUT: the packet goes into the next position, with its turn raised

abbrev pub a_put : ℕ → PacketState → Entry → Option Unit
a_put lane packet (Put l position number turn bytes) =
    if l == lane && (number == packet.number && (turn == packet.turn + 1 && bytes_eq bytes packet.bytes)) then Some tt else None
a_put lane packet _ = None

unfoldable pub row_put : ℕ → PacketState → Meaning Unit
row_put lane packet =
    gate put_begin >> change_tray (change_end lane Tx (with_laid packet)) >> gate put_publish
    >> read (a_put lane packet) >> change_tray (change_end lane Tx all_published)

-- FILES: a file is emptied to its header; a packet's record is added where it fits

unfoldable pub row_file_start : ℕ → Meaning Unit
row_file_start file = change_tray (file_begun file)

unfoldable pub append_where : Bool → ℕ → PacketState → Meaning Bool
append_where true file packet = change_tray (file_appended file packet) >> pure true
append_where false file packet = pure false

unfoldable pub row_file_append : ℕ → PacketState → Meaning Bool
row_file_append file packet = look (λ d. append_where (has_room file packet d.tray) file packet)

-- COUNTS, FREED PACKETS, LINKS: no entry is read

unfoldable pub counts : ℕ → Counter → ℕ → Meaning Unit
counts app counter by = change_tray (counted_on app counter by)

unfoldable pub keeps_counts : ℕ → LinkCounts → Meaning Unit
keeps_counts link more = change_tray (kept_counts link more)

unfoldable pub frees : PacketName → Meaning Unit
frees name = change_tray (freed name)

unfoldable pub sends : ℕ → PacketState → Meaning Unit
sends row packet = change (sent row packet)

-- the packet at the front of a link, if there is one
unfoldable pub taking_front : ℕ → Option (PacketState × Queue) → Meaning (Option PacketState)
taking_front row None = pure None
taking_front row (Some front) = change (with_queue row (Some front.1)) >> pure (Some front.0)

unfoldable pub takes : ℕ → Meaning (Option PacketState)
takes row = look (λ d. taking_front row (front_rest (d.queues row)))

-- HEAR: how many actions are due

abbrev pub a_hear : Entry → Option ℕ
a_hear (Hear n) = Some n
a_hear _ = None

unfoldable pub row_hear : Meaning ℕ
row_hear = gate hear >> read a_hear

-- GIVE: a packet goes to the group with its turn raised; false where the group is full or the packet is worn

abbrev pub a_worn : PacketName → Entry → Option Unit
a_worn name (Worn packet turn) = if packet == name.0 && turn == name.1 then Some tt else None
a_worn name _ = None

abbrev pub is_full_entry : PacketName → Entry → Bool
is_full_entry name (Full packet turn) = packet == name.0 && turn == name.1
is_full_entry name _ = false

abbrev pub a_gave : PacketName → Entry → Option Unit
a_gave name (Gave packet turn) = if packet == name.0 && turn == name.1 + 1 then Some tt else None
a_gave name _ = None

unfoldable pub given : PacketName → Bool → Meaning Bool
given name true = pure false
given name false =
    change_tray (with_pending (giving name)) >> gate give_in
    >> change_tray (with_pending (given_in name)) >> gate give_word
    >> change_tray (with_pending (worded name)) >> gate give_done
    >> read (a_gave name) >> change_tray (with_pending nothing) >> pure true

unfoldable pub give_where : Bool → PacketName → Meaning Bool
give_where true name = read (a_worn name) >> pure false
give_where false name = gate give_claim >> read_if (is_full_entry name) >>= given name

unfoldable pub row_give : PacketName → Meaning Bool
row_give name = give_where (name.1 == highest_turn) name
