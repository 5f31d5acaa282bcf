-- The records of a capture by the places where they stand, which its reader steps over.
use Rattle.std.specs.Prelude.{◌≡◌, ℕ, zero, suc, ◌+◌, ◌<◌, ◌≤◌, ◌↔◌, ◌==◌, Bool, IsTrue, if◌then◌else◌, nat_le, List, [], ◌∷◌, length, take, drop, slice_index, bytes_eq, ◌||◌}
use Rattle.sn_pcap.specs.declared.order.Order.{Order}
use Rattle.sn_pcap.specs.declared.order.Order.TheVariants.{Little, Big}
use Rattle.sn_pcap.specs.declared.record.RecordAt.{RecordAt}
use Rattle.sn_pcap.specs.Grammar.{number_in, micro, nano, version}

-- the byte order that a capture's first byte tells
unfoldable pub order_of : List ℕ → Order
order_of bytes = if slice_index bytes 0 == 0xa1 then Big else Little

-- the captured length in the record header at the front
unfoldable pub captured_at : Order → List ℕ → ℕ
captured_at order bytes = number_in order (drop 8 bytes)

-- the payloads of the whole records at the front, up to the first that isn't whole, and at most so many
unfoldable pub payloads_in : ℕ → Order → List ℕ → List (List ℕ)
payloads_in zero order bytes = []
payloads_in (suc most) order bytes =
    if nat_le (16 + captured_at order bytes) (length bytes)
    then take (captured_at order bytes) (drop 16 bytes) ∷ payloads_in most order (drop (16 + captured_at order bytes) bytes)
    else []

-- the payloads of the whole records from a place on
unfoldable pub payloads_at : List ℕ → ℕ → List (List ℕ)
payloads_at bytes at = payloads_in (length bytes) (order_of bytes) (drop at bytes)

-- the payloads of a capture's records
abbrev pub payloads_of : List ℕ → List (List ℕ)
payloads_of bytes = payloads_at bytes 24

-- how many bytes records of these payloads take, with their headers
abbrev pub extent : List (List ℕ) → ℕ
extent [] = 0
extent (payload ∷ more) = 16 + length payload + extent more

-- a place of a capture: whole records stand from it to the end
pub record IsPlace (bytes : List ℕ) (at : ℕ) : Type 0 where
  pub fills : at + extent (payloads_at bytes at) ≡ length bytes

-- a record of a capture: its captured bytes lie within
pub record IsRecordOf (bytes : List ℕ) (found : RecordAt) : Type 0 where
  pub within : found.start + found.len ≤ length bytes

-- the captured bytes of a record
abbrev pub payload_of : List ℕ → RecordAt → List ℕ
payload_of bytes found = take found.len (drop found.start bytes)

-- the record that stands at this place
pub record StandsAt (bytes : List ℕ) (at : ℕ) (found : RecordAt) : Type 0 where
  pub first : payloads_at bytes at ≡ payload_of bytes found ∷ payloads_at bytes found.next
  pub len : found.len ≡ length (payload_of bytes found)
  pub oversize : IsTrue found.oversize ↔ (10240 < found.len)
  pub start : found.start ≡ at + 16
  pub next : found.next ≡ found.start + found.len
  pub within : found.next ≤ length bytes
  pub place : IsPlace bytes found.next
  pub of : IsRecordOf bytes found

-- nothing is left at this place
pub record IsAtEnd (bytes : List ℕ) (at : ℕ) : Type 0 where
  pub at_end : at ≡ length bytes
  pub none_left : payloads_at bytes at ≡ []

-- whether these four bytes are a magic in this order
abbrev pub is_magic : Order → List ℕ → Bool
is_magic order bytes = bytes_eq bytes (micro order) || bytes_eq bytes (nano order)

-- an opened capture: its order, its header and its whole records
pub record IsOpened (order : Order) (bytes : List ℕ) : Type 0 where
  pub order_is : order ≡ order_of bytes
  pub magic : IsTrue (is_magic order (take 4 bytes))
  pub version_is : take 4 (drop 4 bytes) ≡ version order
  pub whole : IsPlace bytes 24
