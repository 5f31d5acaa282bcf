-- The ends that closed workers leave, and what each says.
use Rattle.std.specs.Prelude.{ℕ, ◌==◌, ◌≡◌, Bool, if◌then◌else◌, List, [], ◌∷◌, map, Option, Some, None, Vec, slice_index_or}
use Rattle.sn_core.specs.declared.events.Side.{Side}
use Rattle.sn_interlink.specs.Ends.{LaneId, shown_log}
use Rattle.sn_interlink.specs.declared.entry.LaneEntry.{LaneEntry}
use Rattle.sn_interlink.specs.declared.view.EndState.TheVariants.{Out}
use Rattle.sn_seat.specs.SeatEnds.{Numbered, end_in, side_in}
use Rattle.sn_seat.specs.declared.seat_end.SeatEnd.{SeatEnd}

-- the lists that vectors have
abbrev pub lists : {X Z : Type 0} → List (Vec X Z) → List (List X)
lists all = map (λ v. v.items) all

-- an end of this interlink
abbrev pub is_of : ℕ → Numbered → Bool
is_of number x = x.0 == number

-- the first end of an interlink among a worker's, and among those of all workers
abbrev pub end_of : ℕ → List Numbered → Option SeatEnd
end_of number [] = None
end_of number (x ∷ ends) = if x.0 == number then Some x.1 else end_of number ends

abbrev pub end_at : ℕ → ℕ → List (List Numbered) → Option SeatEnd
end_at number worker all = end_of number (slice_index_or all worker [])

-- what an end says, its last taking too
abbrev pub said : Option SeatEnd → List LaneEntry
said None = []
said (Some end) = shown_log (end_in end)

abbrev pub said_at : ℕ → ℕ → List (List Numbered) → List LaneEntry
said_at number worker all = said (end_at number worker all)

-- there is an end of the interlink among a worker's, and among those of the workers
pub record HasEnd (number : ℕ) (ends : List Numbered) : Type 0 where
  pub end : SeatEnd
  pub there : end_of number ends ≡ Some end

pub record HasEndAt (number worker : ℕ) (all : List (List Numbered)) : Type 0 where
  pub end : SeatEnd
  pub there : end_at number worker all ≡ Some end

-- the worker's end of the interlink is this interlink's on this side, and is out
pub record HasOut (side : Side) (number worker : ℕ) (lane : LaneId) (all : List (List Numbered)) : Type 0 where
  pub end : SeatEnd
  pub there : end_at number worker all ≡ Some end
  pub side_is : side_in end ≡ side
  pub lane_is : (end_in end).lane ≡ lane
  pub out : (end_in end).state ≡ Out
