-- What a journal costs.
use Rattle.std.specs.Prelude.{List, [], length, min, sum_by, ℕ, ◌+◌, ◌-◌, ◌^◌}
use Rattle.sn_journal.specs.declared.entry.Entry.{Entry}
use Rattle.sn_journal.specs.declared.entry.Entry.TheVariants.{Put, Take}

-- the bytes that an entry carries, none where it has no payload
abbrev pub payload_of : Entry → List ℕ
payload_of (Put lane position packet turn bytes) = bytes
payload_of (Take lane position packet turn bytes) = bytes
payload_of _ = []

-- 96, and one for each byte of its payload
abbrev pub entry_cost : Entry → ℕ
entry_cost entry = 96 + length (payload_of entry)

-- the sum over the entries, and at most 2^64 - 1
abbrev pub cost_of : List Entry → ℕ
cost_of entries = min (sum_by entry_cost entries) (2 ^ 64 - 1)
