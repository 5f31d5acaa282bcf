-- Nothing is half done.
use Rattle.std.specs.Prelude.{ℕ, ◌≡◌, true, false, List, [], Some, None, slice_get}
use Rattle.sn_group.specs.Seats.{SeatState}
use Rattle.sn_group.specs.declared.answers.Pending.TheVariants.{Nothing}
use Rattle.sn_interlink.specs.declared.view.EndState.TheVariants.{Out, Up, Closing}
use Rattle.sn_seat.specs.SeatEnds.{Numbered, end_in, side_in}
use Rattle.sn_seat.specs.declared.seat_end.SeatEnd.{SeatEnd}

-- An end has nothing laid or unreleased. Where it is out it knows no far word, and where it is up or closes it knows its own
-- position.
pub record AtRest (e : SeatEnd) : Type 0 where
  pub side : (end_in e).side ≡ side_in e
  pub half : (end_in e).half ≡ false
  pub laid : (end_in e).laid ≡ []
  pub released : (end_in e).unreleased ≡ []
  pub out : (end_in e).state ≡ Out → (end_in e).reach ≡ None
  pub synced : (end_in e).state ≡ Up → (end_in e).synced ≡ true
  pub closes : (end_in e).state ≡ Closing → (end_in e).synced ≡ true

-- each end rests, and nothing is under way at the group
pub record Quiet (ends : List Numbered) (seat : SeatState) : Type 0 where
  pub rests : (k : ℕ) (x : Numbered) → slice_get ends k ≡ Some x → AtRest x.1
  pub pending : seat.pending ≡ Nothing
  pub carried : seat.carried ≡ []
