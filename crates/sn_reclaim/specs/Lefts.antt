-- Which places are left in a walk over the held packets, and which were dealt with.
use Rattle.std.specs.Prelude.{ℕ, ◌≡◌, ◌<◌, ◌≤◌, Option, Some, None, IsSome}
use Rattle.sn_packet.specs.Hold.{Held, at_of}
use Rattle.sn_app.specs.World.{Used}

-- the place is before the next one, where there is a next one
abbrev pub IsPast : Option ℕ → ℕ → Type 0
IsPast None place = Unit {0}
IsPast (Some next) place = place < next

-- the place is the next one or behind it
abbrev pub IsLeft : Option ℕ → ℕ → Type 0
IsLeft None place = ⊥
IsLeft (Some next) place = next ≤ place

-- No packet is used before the next place; from it on each held packet is used; and the next place has one.
pub record Walks (left : Option ℕ) (hold : Held) (used : Used) : Type 0 where
  pub past : (place : ℕ) → IsPast left place → used place ≡ None
  pub rest : (place : ℕ) → IsLeft left place → used place ≡ at_of hold place
  pub here : (place : ℕ) → left ≡ Some place → IsSome (used place)
