-- What the steps of a seat's end leave of it.
use Rattle.std.specs.Prelude.{◌≡◌, ◌<◌, ℕ, [], ◌∷◌, ◌++◌, Option, Some, None, IsSome}
use Rattle.sn_core.specs.declared.events.Side.{Side}
use Rattle.sn_core.specs.declared.events.Side.TheVariants.{Tx, Rx}
use Rattle.sn_packet.specs.Packet.{PacketState}
use Rattle.sn_interlink.specs.Ends.{LaneEnd, comes_up, drains_out, reach_of, releases, stays_out, syncs_at}
use Rattle.sn_interlink.specs.declared.answers.Attached.{Attached}
use Rattle.sn_interlink.specs.declared.answers.Attached.TheVariants as attached
use Rattle.sn_interlink.specs.declared.entry.LaneEntry.{LaneEntry}
use Rattle.sn_interlink.specs.declared.entry.LaneEntry.TheVariants.{Seen, Room}
use Rattle.sn_interlink.specs.declared.view.EndState.TheVariants.{Up}

-- the load of the far word, as its end's log names it
abbrev pub far_entry : Side → ℕ → LaneEntry
far_entry Tx n = Room n
far_entry Rx n = Seen n

-- it saw so many places: the log says so, where it is up it may move as many, and all else that a desk shows stays
pub record SeesFar (side : Side) (n : ℕ) (old new : LaneEnd) : Type 0 where
  pub log : new.log ≡ old.log ++ far_entry side n ∷ []
  pub some : IsSome new.reach
  pub reach : old.state ≡ Up → new.reach ≡ Some n
  pub lane : new.lane ≡ old.lane
  pub side_is : new.side ≡ old.side
  pub state : new.state ≡ old.state
  pub synced : new.synced ≡ old.synced
  pub half : new.half ≡ old.half
  pub laid : new.laid ≡ old.laid
  pub unreleased : new.unreleased ≡ old.unreleased

-- it came up, a receiver at this position, or another word was found
abbrev pub up_at : Side → ℕ → LaneEnd → LaneEnd
up_at Tx place e = e
up_at Rx place e = syncs_at place e

abbrev pub UpStep : Side → ℕ → LaneEnd → Attached → LaneEnd → Type 0
UpStep side seen old attached.Up new = new ≡ up_at side new.place (comes_up seen old)
UpStep side seen old (attached.Again found) new = (found ≡ seen → ⊥) × (new ≡ stays_out seen found old)

-- a closing end took a packet out and gave its place back, or nothing was left
abbrev pub DrainedStep : LaneEnd → Option PacketState → LaneEnd → Type 0
DrainedStep old None new = (old.reach ≡ Some 0) × (new ≡ old)
DrainedStep old (Some packet) new = (0 < reach_of old) × (new ≡ releases (drains_out packet old))
