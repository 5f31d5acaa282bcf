-- The form in which captures are written: little endian, microseconds, snaplen 65,535, Ethernet, times of 0.
use Rattle.std.specs.Prelude.{ℕ, List, [], ◌∷◌, ◌++◌, length, replicate, flat_map}
use Rattle.byteorder.specs.Endian.{little_bytes}

-- the header: magic, version 2.4, zone, sigfigs, snaplen and link type
unfoldable pub written_header : List ℕ
written_header =
    0xd4 ∷ 0xc3 ∷ 0xb2 ∷ 0xa1 ∷ 2 ∷ 0 ∷ 4 ∷ 0 ∷ 0 ∷ 0 ∷ 0 ∷ 0 ∷ 0 ∷ 0 ∷ 0 ∷ 0 ∷ 0xff ∷ 0xff ∷ 0 ∷ 0 ∷ 1 ∷ 0 ∷ 0 ∷ 0 ∷ []

-- the header of a record: its time, which is 0, its captured length and its original length, which are one
unfoldable pub header_of : ℕ → List ℕ
header_of len = replicate 8 0 ++ (little_bytes 4 len ++ little_bytes 4 len)

-- a record: its header and its payload
unfoldable pub written_record : List ℕ → List ℕ
written_record payload = header_of (length payload) ++ payload

-- a capture of these payloads
abbrev pub written : List (List ℕ) → List ℕ
written payloads = written_header ++ flat_map written_record payloads
