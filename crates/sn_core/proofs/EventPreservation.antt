-- Every event keeps the machine's facts.
use Rattle.std.proofs.Common.{◌≡◌, ℕ, ◌<◌, ◌≤◌, Bool, true, Option, List, [], ◌∷◌, length, map, Some, None, IsSome, refl, sym, ap, subst, slice_get, arith, nat_le}
use Rattle.std.specs.Prelude.{option_map}
use Rattle.std.proofs.lemmas.Bool.{leb-true, not-true}
use Rattle.std.proofs.lemmas.Option.{same_Some}
use Rattle.sn_core.specs.declared.events.Side.TheVariants.{Rx}
use Rattle.sn_core.specs.declared.events.Event.{Event}
use Rattle.sn_core.specs.declared.events.Event.TheVariants.{Look, Attach, Detach, Reset, Take, Release, Lay, Publish, TakeBack, DrainTake, DrainRelease, TakeClaim, TakeOut, TakeDone, GiveClaim, GiveIn, GiveDone, Say, Hear, Stop, Restart}
use Rattle.sn_core.specs.declared.events.Stepped.{Stepped}
use Rattle.sn_core.specs.declared.events.Stepped.TheVariants.{Done, NotEnabled}
use Rattle.sn_core.specs.declared.parts.Claim.{Claim}
use Rattle.sn_core.specs.declared.parts.Phase.{Phase}
use Rattle.sn_core.specs.declared.parts.Phase.TheVariants.{Taking, Giving, GivenIn}
use Rattle.sn_core.specs.Lane.{is_empty, can_attach, attached, can_detach, detached, can_reset, was_reset, can_take, can_release, released, can_drain, can_drain_release, has_laid, taken_back}
use Rattle.sn_core.specs.Seat.{SeatState, Transfer, has_pending, gives, in_phase, one_more_out, can_take_out, taken_out, can_give_in, given_in, with_pending, claims_in, claims_of}
use Rattle.sn_core.specs.Core.{Core, after, only, with_seat, with_cells, IsStep}
use Rattle.sn_core.specs.declared.parts.Cell.TheVariants.{Empty}
use Rattle.sn_core.specs.Invariant.{IsGiving, Gives, IsKept}
use Rattle.sn_core.proofs.LaneSoundness.{taken_sound, drained_sound, something_in}
use Rattle.sn_core.proofs.EnabledEvents.{lane_step_cases, seat_step_cases, take_first_cases, lay_cases, publish_cases, take_claim_cases, take_done_cases, give_claim_cases, give_done_cases, restart_cases}
use Rattle.sn_core.proofs.Bounds.{lane_at, seat_at}
use Rattle.sn_core.proofs.LanePreservation.{keeps_attach, keeps_detach, keeps_reset, keeps_released, keeps_taken_back, keeps_take_first, keeps_lay, keeps_publish}
use Rattle.sn_core.proofs.CellPreservation.{keeps_take_claim, keeps_phase, keeps_take_done, keeps_give_claim, keeps_give_done, keeps_numbers}

-- a transfer in another phase has the same claims
same_claims : (f : Transfer → Phase) (pending : Option Transfer) → claims_in (option_map (λ transfer. in_phase (f transfer) transfer) pending) ≡ claims_in pending
same_claims f None = refl
same_claims f (Some transfer) = refl

same_some : (f : Transfer → Phase) (pending : Option Transfer) → IsSome (option_map (λ transfer. in_phase (f transfer) transfer) pending) → IsSome pending
same_some f None is = is
same_some f (Some transfer) is = refl

still_taking : (pending : Option Transfer) → IsGiving (option_map (λ transfer. in_phase (one_more_out transfer.phase) transfer) pending) → IsGiving pending
still_taking None is = is
still_taking (Some transfer) is = go transfer.phase is where
  go : (phase : Phase) → Gives (one_more_out phase) → Gives phase
  go (Taking out) is = is
  go Giving is = is
  go GivenIn is = is

still_giving : (pending : Option Transfer) → has_pending (λ transfer. gives transfer.phase) pending ≡ true → IsGiving pending
still_giving None e = cc
still_giving (Some transfer) e = go transfer.phase e where
  go : (phase : Phase) → gives phase ≡ true → Gives phase
  go (Taking out) e = cc
  go Giving e = tt
  go GivenIn e = tt

-- the claims of a pending transfer, first one first
keeps_done : (core : Core) (s : ℕ) → IsKept core → (seat : SeatState) → slice_get core.seats s ≡ Some seat → (test : Transfer → Bool) → has_pending test seat.pending ≡ true →
    IsKept (with_seat (with_cells core (map (λ claim. claim.cell) (claims_of seat)) Empty) s (with_pending None seat))
keeps_done core s kept seat there test passes = go seat.pending refl passes where
  many : (transfer : Transfer) → seat.pending ≡ Some transfer → 0 < length transfer.claims
  many transfer pending = subst (λ o. 0 < length (claims_in o)) pending ((seat_at core kept s seat there).claims.some (rw pending refl))

  first : (phase : Phase) (claims : List Claim) → 0 < length claims → seat.pending ≡ Some (record { phase = phase; claims = claims }) → IsKept (with_seat (with_cells core (map (λ claim. claim.cell) claims) Empty) s (with_pending None seat))
  first phase [] some pending = absurd (omega (arith, some))
  first phase (claim ∷ rest) some pending = keeps_take_done rest claim core s phase kept seat there pending

  go : (o : Option Transfer) → seat.pending ≡ o → has_pending test o ≡ true → IsKept (with_seat (with_cells core (map (λ claim. claim.cell) (claims_of seat)) Empty) s (with_pending None seat))
  go None is e = cc
  go (Some transfer) is e =
      subst (λ o. IsKept (with_seat (with_cells core (map (λ claim. claim.cell) (claims_in o)) Empty) s (with_pending None seat))) (sym is)
      (first transfer.phase transfer.claims (many transfer is) is)

only_is : (claims : List Claim) (claim : Claim) → only claims ≡ Some claim → claims ≡ claim ∷ []
only_is [] claim e = cc
only_is (first ∷ []) claim e = ap (λ c. c ∷ []) (same_Some first claim e)
only_is (first ∷ second ∷ rest) claim e = cc

pub after_keeps : (core : Core) (event : Event) (new : Core) → IsKept core → after core event ≡ Some new → IsKept new
after_keeps core Look new kept e = subst (λ x. IsKept x) (same_Some core new e) kept
after_keeps core (Attach i side) new kept e =
    lane_step_cases core i (can_attach side) (attached side) new e (λ x. IsKept x) (λ lane at can. keeps_attach core i side kept lane at can)
after_keeps core (Detach i side) new kept e =
    lane_step_cases core i (can_detach side) (detached side) new e (λ x. IsKept x) (λ lane at can. keeps_detach core i side kept lane at can)
after_keeps core (Reset i side) new kept e =
    lane_step_cases core i (can_reset side) was_reset new e (λ x. IsKept x) (λ lane at can. keeps_reset core i side kept lane at can)
after_keeps core (Take i) new kept e =
    take_first_cases core i Rx can_take new e (λ x. IsKept x) (λ lane packet seat at first there can.
    keeps_take_first core i Rx kept lane packet seat (taken_sound lane can (lane_at core kept i lane at)) at first there)
after_keeps core (Release i) new kept e =
    lane_step_cases core i can_release released new e (λ x. IsKept x) (λ lane at can. keeps_released core i kept lane at)
after_keeps core (Lay i n) new kept e =
    lay_cases core i n new e (λ x. IsKept x) (λ lane seat at there may. keeps_lay core i n kept lane seat at there may)
after_keeps core (Publish i) new kept e =
    publish_cases core i new e (λ x. IsKept x) (λ lane seat at there has.
    keeps_publish lane.laid core i kept lane seat at there refl (something_in lane.laid (not-true (is_empty lane.laid) has)))
after_keeps core (TakeBack i) new kept e =
    lane_step_cases core i has_laid taken_back new e (λ x. IsKept x) (λ lane at can. keeps_taken_back core i kept lane at)
after_keeps core (DrainTake i side) new kept e =
    take_first_cases core i side (can_drain side) new e (λ x. IsKept x) (λ lane packet seat at first there can.
    keeps_take_first core i side kept lane packet seat (drained_sound side lane can (lane_at core kept i lane at)) at first there)
after_keeps core (DrainRelease i side) new kept e =
    lane_step_cases core i (can_drain_release side) released new e (λ x. IsKept x) (λ lane at can. keeps_released core i kept lane at)
after_keeps core (TakeClaim s c) new kept e =
    take_claim_cases core s (c ∷ []) new e (λ x. IsKept x) (λ seat packets there full idle. keeps_take_claim core s c kept seat packets there full idle)
after_keeps core (TakeOut s) new kept e =
    seat_step_cases core s can_take_out taken_out new e (λ x. IsKept x) (λ seat there can.
    keeps_phase core s (option_map (λ transfer. in_phase (one_more_out transfer.phase) transfer) seat.pending) kept seat there
    (same_claims (λ transfer. one_more_out transfer.phase) seat.pending) (same_some (λ transfer. one_more_out transfer.phase) seat.pending) (still_taking seat.pending))
after_keeps core (TakeDone s) new kept e =
    take_done_cases core s new e (λ x. IsKept x) (λ seat there out. keeps_done core s kept seat there _ out)
after_keeps core (GiveClaim s c n) new kept e =
    give_claim_cases core s c n new e (λ x. IsKept x) (λ seat cell there at may. keeps_give_claim core s c n kept seat cell there at may)
after_keeps core (GiveIn s) new kept e =
    seat_step_cases core s can_give_in given_in new e (λ x. IsKept x) (λ seat there can.
    keeps_phase core s (option_map (in_phase GivenIn) seat.pending) kept seat there
    (same_claims (λ transfer. GivenIn) seat.pending) (same_some (λ transfer. GivenIn) seat.pending) (λ g. still_giving seat.pending can))
after_keeps core (GiveDone s) new kept e =
    give_done_cases core s new e (λ x. IsKept x) (λ seat claim there one given. keeps_give_done core s kept seat claim there (only_is (claims_of seat) claim one) given)
after_keeps core (Say s n) new kept e =
    seat_step_cases core s (λ seat. nat_le seat.said n) (λ seat. record seat { said = n }) new e (λ x. IsKept x) (λ seat there le.
    let said : seat.said ≤ n = leb-true seat.said n le in
    let heard : seat.heard ≤ seat.said = (seat_at core kept s seat there).heard in
    keeps_numbers core s seat.heard n kept seat there (omega arith))
after_keeps core (Hear s) new kept e =
    seat_step_cases core s (λ seat. true) (λ seat. record seat { heard = seat.said }) new e (λ x. IsKept x) (λ seat there le. keeps_numbers core s seat.said seat.said kept seat there (omega arith))
after_keeps core (Stop s) new kept e = go (slice_get core.seats s) e where
  go : (o : Option SeatState) → option_map (λ _. core) o ≡ Some new → IsKept new
  go None e = absurd (cc)
  go (Some seat) e = subst (λ x. IsKept x) (same_Some core new e) kept
after_keeps core (Restart s) new kept e = restart_cases core s new e (λ x. IsKept x) kept

-- a step keeps them, done or not
pub step_keeps : (old new : Core) (event : Event) (result : Stepped) → IsKept old → IsStep old event result new → IsKept new
step_keeps old new event Done kept step = after_keeps old event new kept step
step_keeps old new event NotEnabled kept step = subst (λ x. IsKept x) (sym step.1) kept
