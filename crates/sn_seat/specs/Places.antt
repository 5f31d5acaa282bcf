-- The place of an end among the ends of a seat.
use Rattle.std.specs.Prelude.{ℕ, ◌≡◌, List, Some, slice_get}
use Rattle.sn_core.specs.declared.events.Side.{Side}
use Rattle.sn_seat.specs.SeatEnds.{Numbered, side_in}

-- the place of an interlink's end of this side
pub record IsEndAt (number : ℕ) (side : Side) (ends : List Numbered) (k : ℕ) : Type 0 where
  pub here : Numbered
  pub there : slice_get ends k ≡ Some here
  pub number_is : here.0 ≡ number
  pub side_is : side_in here.1 ≡ side
