-- The packets that closed workers still hold.
use Rattle.std.specs.Prelude.{ℕ, ◌≡◌, List, Some, None, length, map, reverse, slice_get}
use Rattle.std.specs.List.Sorted.{IsPermutation, IsSorted}
use Rattle.std.specs.Ordering.{nat_cmp, ordering_then}
use Rattle.std.specs.declared.cmp.Ordering.{Ordering}
use Rattle.sn_app.specs.Desk.{name_of}
use Rattle.sn_journal.specs.HandOvers.{PacketName}
use Rattle.sn_journal.specs.Holding as journal
use Rattle.sn_packet.specs.Hold.{Held, frees_of, used_of, weight}

-- packets by their numbers, then by their turns
abbrev pub packet_cmp : PacketName → PacketName → Ordering
packet_cmp x y = ordering_then (nat_cmp x.0 y.0) (nat_cmp x.1 y.1)

-- all that is held is free
abbrev pub IsAllFree : Held → Type 0
IsAllFree hold = (place : ℕ) → used_of hold place ≡ None

-- the names are those of the free packets, the one freed last first, and they weigh what the hold weighs, by any function
pub record IsEmptied (hold : Held) (names : List PacketName) : Type 0 where
  pub names_are : map name_of (frees_of hold) ≡ reverse names
  pub weighs : (f : ℕ → ℕ → ℕ) → weight f hold ≡ journal.weight f names

-- these packets, rising
pub record IsSortOf (packets names : List PacketName) : Type 0 where
  pub same : IsPermutation packets names
  pub rising : IsSorted packet_cmp names

-- the names are those of the free packets, rising, and they weigh what the hold weighs, by any function
pub record IsKeptBy (hold : Held) (names : List PacketName) : Type 0 where
  pub names_are : IsSortOf (map name_of (frees_of hold)) names
  pub weighs : (f : ℕ → ℕ → ℕ) → weight f hold ≡ journal.weight f names

-- the names of each hold, in the holds' order
pub record AreKeptBy (holds : List Held) (kept : List (List PacketName)) : Type 0 where
  pub as_many : length kept ≡ length holds
  pub each : (worker : ℕ) (hold : Held) (names : List PacketName) → slice_get holds worker ≡ Some hold
      → slice_get kept worker ≡ Some names → IsKeptBy hold names
