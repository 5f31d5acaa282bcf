-- What an app needs of a context, and what it keeps.
use Rattle.std.specs.Prelude.{ℕ, ◌<◌, ◌≤◌, IsSome, IsTrue, List}
use Rattle.sn_core.specs.declared.events.Side.{Side}
use Rattle.sn_core.specs.declared.events.Side.TheVariants.{Rx, Tx}
use Rattle.sn_names.specs.declared.arg.Arg.{Arg}
use Rattle.sn_names.specs.declared.class.Class.{Class}
use Rattle.sn_names.specs.declared.class.Class.TheVariants.{PcapReader, PcapWriter, Receiver, Transmitter}
use Rattle.sn_app.specs.Apps.{name_in}
use Rattle.sn_app.specs.Calls.{HasName, row_of}
use Rattle.sn_app.specs.Desk.{Tray, roster_of}
use Rattle.sn_app.specs.World.{Used}

-- the roster has the interlink, and the context its end
abbrev pub HasLane : List ℕ → Side → Tray → Type 0
HasLane name side t =
    HasName (roster_of t).lanes name × IsTrue (t.log.constants.has_end (row_of (roster_of t).lanes name) side)

-- what the argument of a class names is there
abbrev pub ArgIsThere : Class → Arg → Tray → Type 0
ArgIsThere PcapReader arg t = HasName (roster_of t).captures (name_in arg)
ArgIsThere PcapWriter arg t = HasName (roster_of t).files (name_in arg)
ArgIsThere Receiver arg t = HasLane (name_in arg) Rx t
ArgIsThere Transmitter arg t = HasLane (name_in arg) Tx t
ArgIsThere class arg t = Unit {0}

-- the places that an app keeps: each once, and each with a packet that isn't free
pub record AreKept (used : Used) (places : ℕ → ℕ) : Type 0 where
  pub once : (place : ℕ) → places place ≤ 1
  pub in_use : (place : ℕ) → 0 < places place → IsSome (used place)
