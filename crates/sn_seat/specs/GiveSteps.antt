-- What giving a packet back leaves.
use Rattle.std.specs.Prelude.{ℕ, ◌+◌, Bool, true, false, None, Result, Ok, Err}
use Rattle.sn_journal.specs.declared.entry.Entry.{Entry}
use Rattle.sn_journal.specs.declared.entry.Entry.TheVariants as journal
use Rattle.sn_packet.specs.Hold.{put_at}
use Rattle.sn_packet.specs.Packet.{PacketState}
use Rattle.sn_app.specs.World.{Used}
use Rattle.sn_app.specs.declared.halt.Halt.{Halt}
use Rattle.sn_seat.specs.declared.gave.Gave.{Gave}
use Rattle.sn_seat.specs.declared.gave.Gave.TheVariants.{Done, Full, Worn}

-- whether the packet was given
abbrev pub is_done : Gave → Bool
is_done Done = true
is_done Full = false
is_done Worn = false

-- what is noted of it
abbrev pub gave_entry : PacketState → Gave → Entry
gave_entry packet Done = journal.Gave packet.number (packet.turn + 1)
gave_entry packet Full = journal.Full packet.number packet.turn
gave_entry packet Worn = journal.Worn packet.number packet.turn

-- the packets in use afterwards
abbrev pub used_after : ℕ → Gave → Used → Used
used_after place Done used = put_at place None used
used_after place Full used = used
used_after place Worn used = used

-- whether the packet was worn
abbrev pub is_worn_gave : Gave → Bool
is_worn_gave Done = false
is_worn_gave Full = false
is_worn_gave Worn = true

-- an answer as a desk shows it
abbrev pub given_answer : Result Gave Halt → Result Bool Halt
given_answer (Ok gave) = Ok (is_done gave)
given_answer (Err halt) = Err halt
