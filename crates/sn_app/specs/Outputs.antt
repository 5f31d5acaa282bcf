-- What adding a record does to a file.
use Rattle.std.specs.Prelude.{ℕ, ◌+◌, nat_le, Bool, true, false, List, [], ◌++◌, length, Option, Some, unwrap_or}
use Rattle.sn_pcap.specs.Written.{written_record}
use Rattle.sn_app.specs.Desk.{most_in_file}

-- a record of these bytes fits into a file
abbrev pub fits_into : Option (List ℕ) → List ℕ → Bool
fits_into file payload = nat_le (length (unwrap_or file []) + (16 + length payload)) most_in_file

-- a file with a record added, or as it was
abbrev pub appended : Bool → List ℕ → Option (List ℕ) → Option (List ℕ)
appended true payload file = Some (unwrap_or file [] ++ written_record payload)
appended false payload file = file
