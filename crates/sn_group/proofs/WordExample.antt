-- The word of a full cell, worked out.
use Rattle.std.proofs.Common.{◌≡◌, refl}
use Rattle.sn_group.specs.Cells.{full_word}

-- that of packet 5 at turn 3
full_with_packet_5_at_turn_3 : full_word 5 3 ≡ 49159
full_with_packet_5_at_turn_3 = refl
