-- The grammar of a capture, by libpcap's file format 2.4: a header, then whole records to the end.
use Rattle.std.specs.Prelude.{◌≡◌, ℕ, List, [], ◌∷◌, ◌++◌, ◌⊎◌, length}
use Rattle.byteorder.specs.Endian.{little_number, big_number}
use Rattle.sn_pcap.specs.declared.order.Order.{Order}
use Rattle.sn_pcap.specs.declared.order.Order.TheVariants.{Little, Big}

-- the number in the first four bytes
unfoldable pub number_in : Order → List ℕ → ℕ
number_in Little bytes = little_number 4 bytes
number_in Big bytes = big_number 4 bytes

-- the magic of times in microseconds: the number a1b2c3d4, in four bytes
unfoldable pub micro : Order → List ℕ
micro Little = 0xd4 ∷ 0xc3 ∷ 0xb2 ∷ 0xa1 ∷ []
micro Big = 0xa1 ∷ 0xb2 ∷ 0xc3 ∷ 0xd4 ∷ []

-- the magic of times in nanoseconds: the number a1b23c4d, in four bytes
unfoldable pub nano : Order → List ℕ
nano Little = 0x4d ∷ 0x3c ∷ 0xb2 ∷ 0xa1 ∷ []
nano Big = 0xa1 ∷ 0xb2 ∷ 0x3c ∷ 0x4d ∷ []

-- four bytes that a capture in this order begins with
abbrev pub IsMagic : Order → List ℕ → Type 0
IsMagic order bytes = (bytes ≡ micro order) ⊎ (bytes ≡ nano order)

-- version 2.4: the numbers 2 and 4, in two bytes each
unfoldable pub version : Order → List ℕ
version Little = 2 ∷ 0 ∷ 4 ∷ 0 ∷ []
version Big = 0 ∷ 2 ∷ 0 ∷ 4 ∷ []

-- One whole record comes first, with this payload, and then the rest. A record is its time in eight bytes, its
-- captured length and its original length in four bytes each, and as many bytes as the captured length says.
pub record SplitsOff (order : Order) (bytes payload rest : List ℕ) : Type 0 where
  pub time : List ℕ
  pub captured : List ℕ
  pub original : List ℕ
  pub parts : bytes ≡ time ++ (captured ++ (original ++ (payload ++ rest)))
  pub time_is : length time ≡ 8
  pub captured_is : length captured ≡ 4
  pub original_is : length original ≡ 4
  pub says : number_in order captured ≡ length payload

-- whole records with these payloads come first, one after the other, and then the rest
abbrev pub Leads : Order → List ℕ → List (List ℕ) → List ℕ → Type 0
Leads order bytes [] rest = bytes ≡ rest
Leads order bytes (payload ∷ more) rest =
    (between : List ℕ) × SplitsOff order bytes payload between × Leads order between more rest

-- In this byte order, a header of 24 bytes comes first, and then the body. A header is a magic, version 2.4, and 16
-- further bytes: zone, sigfigs, snaplen and link type, which may be anything.
pub record HasHeader (order : Order) (bytes body : List ℕ) : Type 0 where
  pub magic : List ℕ
  pub further : List ℕ
  pub parts : bytes ≡ magic ++ (version order ++ (further ++ body))
  pub magic_is : IsMagic order magic
  pub further_is : length further ≡ 16

-- the bytes are a capture of these records: a header, and then whole records with these payloads to the end
pub record PcapText (bytes : List ℕ) (records : List (List ℕ)) : Type 0 where
  pub order : Order
  pub body : List ℕ
  pub header : HasHeader order bytes body
  pub leads : Leads order body records []
