-- What entries say of packets: which entries receive one and which give one, and which entries are marks.
use Rattle.std.specs.Prelude.{Bool, Option, None, Some, false, is_some, true, ℕ, ◌-◌}
use Rattle.std.specs.Option.{option_map}
use Rattle.sn_journal.specs.declared.entry.Entry.{Entry}
use Rattle.sn_journal.specs.declared.entry.Entry.TheVariants.{Put, Take, Drain, Got, Gave, Full, Worn, Stop, Close}

-- a packet by its number and a turn
abbrev pub PacketName : Type 0
PacketName = ℕ × ℕ

-- the packet that an entry receives, at the turn that was found: Take, Drain and Got receive
abbrev pub received_packet : Entry → Option PacketName
received_packet (Take lane position packet turn bytes) = Some (packet, turn)
received_packet (Drain lane position packet turn) = Some (packet, turn)
received_packet (Got packet turn) = Some (packet, turn)
received_packet _ = None

-- the packet that an entry gives, at its raised turn: Put and Gave give
abbrev pub given_packet : Entry → Option PacketName
given_packet (Put lane position packet turn bytes) = Some (packet, turn)
given_packet (Gave packet turn) = Some (packet, turn)
given_packet _ = None

-- the packet one turn before
abbrev pub turn_before : PacketName → PacketName
turn_before x = (x.0, x.1 - 1)

-- the packet that an entry gives, at the turn at which it was held
abbrev pub released_packet : Entry → Option PacketName
released_packet entry = option_map turn_before (given_packet entry)

-- the packet that Full or Worn names: it couldn't be given
abbrev pub kept_packet : Entry → Option PacketName
kept_packet (Full packet turn) = Some (packet, turn)
kept_packet (Worn packet turn) = Some (packet, turn)
kept_packet _ = None

abbrev pub is_receiving : Entry → Bool
is_receiving entry = is_some (received_packet entry)

abbrev pub is_giving : Entry → Bool
is_giving entry = is_some (given_packet entry)

-- a mark: from here on what is held is reclaimed
abbrev pub is_mark : Entry → Bool
is_mark Stop = true
is_mark Close = true
is_mark _ = false
