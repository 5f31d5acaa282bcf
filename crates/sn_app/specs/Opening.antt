-- The packets that a bench begins with.
use Rattle.std.specs.Prelude.{ℕ, zero, suc, List, [], ◌∷◌, ◌++◌}
use Rattle.sn_packet.specs.Packet.{PacketState}
use Rattle.sn_app.specs.Rows.{packet_of}

-- the packets of the numbers below this one, at turn 0 and of no bytes
abbrev pub packets_below : ℕ → List PacketState
packets_below zero = []
packets_below (suc number) = packets_below number ++ packet_of number 0 [] ∷ []
