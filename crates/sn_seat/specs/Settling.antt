-- What a reclamation does at a seat's ends, and how it gives a packet back. No gate stands in it.
use Rattle.std.specs.Prelude.{ℕ, zero, suc, ◌+◌, ◌==◌, ◌&&◌, ◌≡◌, ◌≢◌, Bool, true, false, if◌then◌else◌, length}
use Rattle.std.specs.Prelude.{Option, Some, None, Result, Ok, Err}
use Rattle.std.specs.declared.alloc.AllocError.{AllocError}
use Rattle.sn_core.specs.declared.events.Side.{Side}
use Rattle.sn_core.specs.declared.events.Side.TheVariants.{Tx, Rx}
use Rattle.sn_journal.specs.HandOvers.{PacketName}
use Rattle.sn_journal.specs.declared.entry.Entry.{Entry}
use Rattle.sn_journal.specs.declared.entry.Entry.TheVariants.{Gave, Full, Worn}
use Rattle.sn_packet.specs.Packet.{highest_turn}
use Rattle.sn_app.specs.Calls.{SameConstants}
use Rattle.sn_app.specs.Desk.{Tray, roster_of}
use Rattle.sn_app.specs.Gates.{Phase, working, reclaiming}
use Rattle.sn_app.specs.Reader.{Meaning, look, pure, read, ◌>>=◌}
use Rattle.sn_app.specs.Rows.{a_detach, close_lane, detached, row_detach, ◌>>◌}
use Rattle.sn_app.specs.declared.end_state.EndState.{EndState}
use Rattle.sn_app.specs.declared.end_state.EndState.TheVariants.{Out, Up, Closing}
use Rattle.sn_app.specs.declared.halt.Halt.{Halt}
use Rattle.sn_app.specs.declared.halt.Halt.TheVariants.{OutOfMemory}

-- what is drained becomes free where a worker works, and stays held where its packets are given back
abbrev pub phase_by : Bool → Phase
phase_by true = working
phase_by false = reclaiming

-- an end that is up goes, behind its gate
unfoldable pub leaving : Phase → ℕ → Side → Meaning Unit
leaving phase lane side = read (a_detach lane side) >>= detached phase lane side

-- an end is settled: one that is up goes, one that closes already goes on with its closing
unfoldable pub settle_from : ℕ → Side → EndState → Meaning Unit
settle_from lane side Out = pure tt
settle_from lane side Up = row_detach reclaiming lane side
settle_from lane side Closing = close_lane reclaiming lane side

unfoldable pub settles_end : ℕ → Side → Meaning Unit
settles_end lane side = look (λ d. settle_from lane side (d.tray.ends lane side).state)

-- both ends of an interlink
unfoldable pub settles_lane : ℕ → Meaning Unit
settles_lane lane = settles_end lane Tx >> settles_end lane Rx

-- the ends of so many interlinks from this one on, rising
unfoldable pub settles_from : ℕ → ℕ → Meaning Unit
settles_from zero lane = pure tt
settles_from (suc n) lane = settles_lane lane >> settles_from n (lane + 1)

-- the ends of each interlink
unfoldable pub settles_lanes : Meaning Unit
settles_lanes = look (λ d. settles_from (length (roster_of d.tray).lanes) 0)

-- whether a packet was given, as its entry says: of one that isn't at the highest turn, and of one that is
abbrev pub fresh_given : PacketName → Entry → Option Bool
fresh_given name (Gave packet turn) = if packet == name.0 && turn == name.1 + 1 then Some true else None
fresh_given name (Full packet turn) = if packet == name.0 && turn == name.1 then Some false else None
fresh_given name _ = None

abbrev pub worn_given : PacketName → Entry → Option Bool
worn_given name (Worn packet turn) = if packet == name.0 && turn == name.1 then Some false else None
worn_given name _ = None

abbrev pub a_given_back : PacketName → Entry → Option Bool
a_given_back name entry = if name.1 == highest_turn then worn_given name entry else fresh_given name entry

-- a packet goes to the group; false where the group is full or the packet is worn
unfoldable pub gives_back : PacketName → Meaning Bool
gives_back name = read (a_given_back name)

-- an answer that can be want of memory alone, as a desk shows it
abbrev pub as_halt : {R : Type 0} → Result R AllocError → Result R Halt
as_halt (Ok x) = Ok x
as_halt (Err refused) = Err OutOfMemory

-- constants, files and the ends of all interlinks but one stay
pub record LeavesOtherLanes (lane : ℕ) (t s : Tray) : Type 0 where
  pub constants : SameConstants t s
  pub files : s.files ≡ t.files
  pub others : (other : ℕ) (side : Side) → other ≢ lane → s.ends other side ≡ t.ends other side

-- constants and files stay
pub record LeavesFiles (t s : Tray) : Type 0 where
  pub constants : SameConstants t s
  pub files : s.files ≡ t.files
