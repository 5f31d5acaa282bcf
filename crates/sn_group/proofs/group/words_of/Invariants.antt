use Rattle.std.proofs.Common.{◌≡◌, ◌<◌, ℕ, map, take, get_or}
use Rattle.sn_packet.specs.Packet.{PacketState}
use Rattle.sn_group.specs.Cells.{full_word, IsSmall}
use Rattle.sn_group.proofs.group.words_of.Given as goal

abbrev pub invariant-loop-packet : goal.invariant-loop-packet
invariant-loop-packet l = (l.words.items ≡ map (λ packet. full_word packet.number packet.turn) (take l.packet-index l.packets))
    × ((k : ℕ) (d : PacketState) → k < l.packet-index → IsSmall (get_or l.packets k d))
