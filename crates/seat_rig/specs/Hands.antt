-- What is known of a worker's end and of the packet in its hand.
use Rattle.std.specs.Prelude.{ℕ, ◌≡◌, ◌≤◌, Some, IsSome, IsTrue}
use Rattle.sn_app.specs.Calls.{IsUp, known_at}
use Rattle.sn_app.specs.Desk.{Tray}
use Rattle.sn_app.specs.World.{Used}
use Rattle.seat_rig.specs.declared.hands.Hand.{Hand}

-- The context has the end; what the hand says of it is so; and the place in hand has a packet.
pub record Holds (hand : Hand) (t : Tray) (used : Used) : Type 0 where
  pub end : IsTrue (t.log.constants.has_end 0 hand.side)
  pub up : IsTrue hand.up → IsUp 0 hand.side t
  pub known : hand.known ≤ known_at 0 hand.side t
  pub place : (place : ℕ) → hand.place ≡ Some place → IsSome (used place)
