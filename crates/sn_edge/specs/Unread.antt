-- How many records a reader hasn't passed.
use Rattle.std.specs.Prelude.{ℕ, List, [], length, slice_index_or}
use Rattle.sn_pcap.specs.Places.{payloads_at}

-- the bytes of a capture among these
abbrev pub bytes_in : ℕ → List (List ℕ) → List ℕ
bytes_in capture captures = slice_index_or captures capture []

-- the records from a place of a capture on
abbrev pub unread_at : ℕ → ℕ → List (List ℕ) → ℕ
unread_at capture at captures = length (payloads_at (bytes_in capture captures) at)
