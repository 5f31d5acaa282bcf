-- What an attempt of a reclamation reads and does.
use Rattle.std.specs.Prelude.{◌==◌, Bool, true, false, if◌then◌else◌, [], Option, Some, None, Result, Ok, Err}
use Rattle.std.specs.declared.alloc.AllocError.{AllocError}
use Rattle.sn_journal.specs.HandOvers.{PacketName}
use Rattle.sn_journal.specs.declared.entry.Entry.{Entry}
use Rattle.sn_journal.specs.declared.entry.Entry.TheVariants.{Gave, Full, Worn, Reclaimed}
use Rattle.sn_packet.specs.Packet.{highest_turn}
use Rattle.sn_app.specs.Reader.{Meaning, change_tray, pure, read, read_if, repeated, ◌>>=◌}
use Rattle.sn_app.specs.Rows.{frees, ◌>>◌}
use Rattle.sn_app.specs.declared.halt.Halt.{Halt}
use Rattle.sn_app.specs.declared.halt.Halt.TheVariants.{OutOfMemory}
use Rattle.sn_seat.specs.Settling.{settles_lanes}

-- an entry of a giving: which packet it says is kept, if one is; a packet at the highest turn alone is worn
abbrev pub a_giving : Entry → Option (Option PacketName)
a_giving (Gave packet turn) = Some None
a_giving (Full packet turn) = Some (Some (packet, turn))
a_giving (Worn packet turn) = if turn == highest_turn then Some (Some (packet, turn)) else None
a_giving _ = None

-- a packet that couldn't be given becomes free
unfoldable pub keeps : Option PacketName → Meaning Unit
keeps None = pure tt
keeps (Some name) = frees name

-- the reclamation ended
abbrev pub is_reclaimed : Entry → Bool
is_reclaimed Reclaimed = true
is_reclaimed _ = false

unfoldable pub give_on : Bool → Meaning Bool
give_on true = pure false
give_on false = read a_giving >>= (λ kept. keeps kept >> pure true)

-- one more packet is given, or the reclamation ends
unfoldable pub give_or_end : Meaning Bool
give_or_end = read_if is_reclaimed >>= give_on

-- no packet is free, the ends are settled, then each held packet is given once, and those that couldn't be are free
unfoldable pub attempt : Meaning Unit
attempt = change_tray (λ t. record t { free = [] }) >> settles_lanes >> repeated give_or_end

-- an answer, as a desk shows it: whatever it is, or want of memory
abbrev pub as_unit : {R : Type 0} → Result R AllocError → Result Unit Halt
as_unit (Ok x) = Ok tt
as_unit (Err refused) = Err OutOfMemory

abbrev pub as_more : {R : Type 0} → Result R AllocError → Result Bool Halt
as_more (Ok x) = Ok true
as_more (Err refused) = Err OutOfMemory
