-- The state after an event, computed where what it reads is known.
use Rattle.std.proofs.Common.{◌≡◌, ℕ, ◌<◌, Bool, true, Option, List, [], ◌∷◌, length, Some, None, refl, ◌∙◌, slice_get, slice_set, get_or, is_some, is_none}
use Rattle.std.proofs.lemmas.Option.{get_or_from_slice_get, slice_get_read}
use Rattle.sn_core.specs.declared.events.Side.{Side}
use Rattle.sn_core.specs.declared.parts.Packet.{Packet}
use Rattle.sn_core.specs.declared.parts.Cell.TheVariants.{Empty, Busy, Full}
use Rattle.sn_core.specs.declared.parts.Claim.{Claim}
use Rattle.sn_core.specs.declared.parts.Phase.TheVariants.{Taking}
use Rattle.sn_core.specs.Lane.{LaneState, seat_of, first_filled, taken}
use Rattle.sn_core.specs.Seat.{SeatState, with_packet, without_packet, handed_over, with_pending, claims_of, is_all_out, is_given_in}
use Rattle.sn_core.specs.Core.{Core, take_first, take_claim, take_done, give_done}

-- an element that was read is the one that stands there
pub read_is : {X : Type 0} (xs : List X) (i : ℕ) (x y : X) → slice_get xs i ≡ Some x → y ≡ get_or xs i y → y ≡ x
read_is xs i x y at read = read ∙ get_or_from_slice_get xs i x y at

pub read_at : {X : Type 0} (xs : List X) (i : ℕ) (y : X) → i < length xs → y ≡ get_or xs i y → slice_get xs i ≡ Some y
read_at xs i y lt read = slice_get_read xs (length xs) i y refl lt read

pub some_is : {X : Type 0} (o : Option X) → is_some o ≡ true → ((x : X) → o ≡ Some x → ⊥) → ⊥
some_is None is never = cc
some_is (Some x) is never = never x refl

pub take_first_done :
    (core : Core) (i s : ℕ) (side : Side) (test : LaneState → Bool) (lane new_lane : LaneState) (packet : Packet) (seat new_seat : SeatState) →
    slice_get core.lanes i ≡ Some lane → first_filled lane.queue ≡ Some packet → s ≡ seat_of side lane → slice_get core.seats s ≡ Some seat → test lane ≡ true →
    new_lane ≡ taken lane → new_seat ≡ with_packet packet seat →
    take_first core i side test ≡ Some (record { cells = core.cells; lanes = slice_set core.lanes i new_lane; seats = slice_set core.seats s new_seat })
take_first_done core i s side test lane new_lane packet seat new_seat at first seat_is there passes lane_is new_is =
    rw (lane_is, new_is, at, first, ← seat_is, there, passes) refl

pub take_claim_done :
    (core : Core) (s c : ℕ) (seat new_seat : SeatState) (packet : Packet) →
    slice_get core.seats s ≡ Some seat → slice_get core.cells c ≡ Some (Full packet) → is_none seat.pending ≡ true →
    new_seat ≡ with_pending (Some (record { phase = Taking 0; claims = record { cell = c; packet = packet.number } ∷ [] })) (with_packet packet seat) →
    take_claim core s (c ∷ []) ≡ Some (record { cells = slice_set core.cells c (Busy s); lanes = core.lanes; seats = slice_set core.seats s new_seat })
take_claim_done core s c seat new_seat packet there at idle new_is = rw (new_is, there, at, idle) refl

pub take_done_done :
    (core : Core) (s : ℕ) (seat new_seat : SeatState) (claim : Claim) →
    slice_get core.seats s ≡ Some seat → claims_of seat ≡ claim ∷ [] → is_all_out seat ≡ true →
    new_seat ≡ with_pending None seat →
    take_done core s ≡ Some (record { cells = slice_set core.cells claim.cell Empty; lanes = core.lanes; seats = slice_set core.seats s new_seat })
take_done_done core s seat new_seat claim there one out new_is = rw (new_is, there, out, one) refl

pub give_done_done :
    (core : Core) (s : ℕ) (seat new_seat : SeatState) (claim : Claim) (packet : Packet) →
    slice_get core.seats s ≡ Some seat → claims_of seat ≡ claim ∷ [] → is_given_in seat ≡ true → packet ≡ handed_over seat claim.packet →
    new_seat ≡ with_pending None (without_packet claim.packet seat) →
    give_done core s ≡ Some (record { cells = slice_set core.cells claim.cell (Full packet); lanes = core.lanes; seats = slice_set core.seats s new_seat })
give_done_done core s seat new_seat claim packet there one given packet_is new_is = rw (new_is, packet_is, there, one, given) refl
