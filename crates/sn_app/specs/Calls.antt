-- What calls of a context leave as it was, and what they give.
use Rattle.std.specs.Prelude.{ℕ, ◌<◌, ◌≡◌, ◌&&◌, Bool, List, length, bytes_eq, Option, Some, None, IsSome, Result, Ok, Err}
use Rattle.std.specs.List.{position_or_len}
use Rattle.sn_core.specs.declared.events.Side.{Side}
use Rattle.sn_core.specs.declared.events.Side.TheVariants.{Rx, Tx}
use Rattle.sn_journal.specs.HandOvers.{PacketName}
use Rattle.sn_names.specs.declared.link.LinkSpec.{LinkSpec}
use Rattle.sn_packet.specs.Hold.{put_at}
use Rattle.sn_packet.specs.Packet.{PacketState, with_bytes}
use Rattle.sn_app.specs.Desk.{Tray, set_end, name_of, all_published, all_released, with_known, with_laid, with_taken}
use Rattle.sn_app.specs.World.{Used, packet_at}
use Rattle.sn_app.specs.declared.end_state.EndState.TheVariants.{Up}
use Rattle.sn_app.specs.declared.halt.Halt.{Halt}

-- what never changes stays
abbrev pub SameConstants : Tray → Tray → Type 0
SameConstants t s = s.log.constants ≡ t.log.constants

-- constants, files and ends stay
pub record LeavesEnds (t s : Tray) : Type 0 where
  pub constants : SameConstants t s
  pub files : s.files ≡ t.files
  pub ends : s.ends ≡ t.ends

-- constants, files and all ends but one stay
pub record LeavesOtherEnds (lane : ℕ) (side : Side) (t s : Tray) : Type 0 where
  pub constants : SameConstants t s
  pub files : s.files ≡ t.files
  pub others : s.ends ≡ set_end lane side (s.ends lane side) t.ends

-- the log, files and ends stay
pub record LeavesLanes (t s : Tray) : Type 0 where
  pub log : s.log ≡ t.log
  pub files : s.files ≡ t.files
  pub ends : s.ends ≡ t.ends

-- constants and ends stay
pub record LeavesAllButFiles (t s : Tray) : Type 0 where
  pub constants : SameConstants t s
  pub ends : s.ends ≡ t.ends

-- an end is up
abbrev pub IsUp : ℕ → Side → Tray → Type 0
IsUp lane side t = (t.ends lane side).state ≡ Up

-- how many places an end saw and hasn't used
abbrev pub known_at : ℕ → Side → Tray → ℕ
known_at lane side t = (t.ends lane side).known

-- so many places are known at an end afterwards
abbrev pub Knows : ℕ → Side → Tray → Tray → ℕ → Type 0
Knows lane side t s n = s.ends lane side ≡ with_known n (t.ends lane side)

-- a receiver's end after a take, and a transmitter's after a put: one place is used, and nothing is half done
abbrev pub AfterTake : ℕ → Tray → Tray → Type 0
AfterTake lane t s = s.ends lane Rx ≡ all_released (with_taken (t.ends lane Rx))

abbrev pub AfterPut : ℕ → PacketState → Tray → Tray → Type 0
AfterPut lane packet t s = s.ends lane Tx ≡ all_published (with_laid packet (t.ends lane Tx))

-- nothing was at the place, and now a packet is
pub record IsFresh (used after : Used) (place : ℕ) : Type 0 where
  pub none : used place ≡ None
  pub some : IsSome (after place)

-- the packet at a place becomes these bytes
abbrev pub rewritten_at : ℕ → List ℕ → Used → Used
rewritten_at place bytes used = put_at place (Some (with_bytes bytes (packet_at used place))) used

-- the bytes of the packet at a place
abbrev pub bytes_at : Used → ℕ → List ℕ
bytes_at used place = (packet_at used place).bytes

-- an answer with a place, as a desk shows it
abbrev pub named_place : Used → Option ℕ → Option PacketName
named_place used None = None
named_place used (Some place) = Some (name_of (packet_at used place))

abbrev pub named : Used → Result (Option ℕ) Halt → Result (Option PacketName) Halt
named used (Ok place) = Ok (named_place used place)
named used (Err halt) = Err halt

abbrev pub packet_there : Used → Result ℕ Halt → Result PacketState Halt
packet_there used (Ok place) = Ok (packet_at used place)
packet_there used (Err halt) = Err halt

-- the row of a name: the first place where it stands
abbrev pub row_of : List (List ℕ) → List ℕ → ℕ
row_of names name = position_or_len (bytes_eq name) names

-- it stands there
abbrev pub HasName : List (List ℕ) → List ℕ → Type 0
HasName names name = row_of names name < length names

abbrev pub same_link : LinkSpec → LinkSpec → Bool
same_link x y = bytes_eq x.from y.from && (bytes_eq x.out y.out && (bytes_eq x.to y.to && bytes_eq x.input y.input))

abbrev pub row_of_link : List LinkSpec → LinkSpec → ℕ
row_of_link links link = position_or_len (same_link link) links

abbrev pub HasLink : List LinkSpec → LinkSpec → Type 0
HasLink links link = row_of_link links link < length links
