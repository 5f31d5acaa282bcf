-- What an event that was done found: each meaning taken apart.
use Rattle.std.proofs.Common.{◌≡◌, ℕ, Bool, true, false, ◌&&◌, Option, List, [], ◌∷◌, map, Some, None, is_none, refl, subst, slice_get}
use Rattle.std.specs.Prelude.{option_and_then, ◌==◌}
use Rattle.std.specs.List.{list_all}
use Rattle.std.proofs.lemmas.Bool.{and_parts}
use Rattle.sn_core.specs.declared.events.Side.{Side}
use Rattle.sn_core.specs.declared.parts.Packet.{Packet}
use Rattle.sn_core.specs.declared.parts.Cell.{Cell}
use Rattle.sn_core.specs.declared.parts.Cell.TheVariants.{Empty, Busy, Full}
use Rattle.sn_core.specs.declared.parts.Claim.{Claim}
use Rattle.sn_core.specs.declared.parts.Phase.TheVariants.{Taking, Giving}
use Rattle.sn_core.specs.Lane.{LaneState, seat_of, first_filled, taken, with_laid, has_laid, published}
use Rattle.sn_core.specs.Seat.{SeatState, with_packet, with_packets, without_packet, without_packets, handed_over, with_pending, claims_of, is_all_out, is_given_in}
use Rattle.sn_core.specs.Core.{Core, with_lane, with_seat, with_cell, with_cells, when, lane_step, seat_step, home, packets_of, paired, only, is_empty_cell, may_hand_over, may_lay, take_first, lay, publish, take_claim, take_done, give_claim, give_done, restart}

when_cases : {A : Type 0} (b : Bool) (x y : A) → when b x ≡ Some y → (P : A → Type 0) → (b ≡ true → P x) → P y
when_cases true x y e P next = subst P (let same : x ≡ y = cc in same) (next refl)
when_cases false x y e P next = absurd (cc)

pub some_cases : {A B : Type 0} (o : Option A) (f : A → Option B) (y : B) → option_and_then f o ≡ Some y → (P : Type 0) → ((x : A) → o ≡ Some x → f x ≡ Some y → P) → P
some_cases None f y e P next = absurd (cc)
some_cases (Some x) f y e P next = next x refl e

pub lane_step_cases : (core : Core) (i : ℕ) (test : LaneState → Bool) (change : LaneState → LaneState) (new : Core) → lane_step core i test change ≡ Some new → (P : Core → Type 0) → ((lane : LaneState) → slice_get core.lanes i ≡ Some lane → test lane ≡ true → P (with_lane core i (change lane))) → P new
lane_step_cases core i test change new e P next =
    some_cases (slice_get core.lanes i) (λ lane. when (test lane) (with_lane core i (change lane))) new e (P new) (λ lane at rest.
    when_cases (test lane) (with_lane core i (change lane)) new rest P (next lane at))

pub seat_step_cases : (core : Core) (s : ℕ) (test : SeatState → Bool) (change : SeatState → SeatState) (new : Core) → seat_step core s test change ≡ Some new → (P : Core → Type 0) → ((seat : SeatState) → slice_get core.seats s ≡ Some seat → test seat ≡ true → P (with_seat core s (change seat))) → P new
seat_step_cases core s test change new e P next =
    some_cases (slice_get core.seats s) (λ seat. when (test seat) (with_seat core s (change seat))) new e (P new) (λ seat at rest.
    when_cases (test seat) (with_seat core s (change seat)) new rest P (next seat at))

pub take_first_cases : (core : Core) (i : ℕ) (side : Side) (test : LaneState → Bool) (new : Core) → take_first core i side test ≡ Some new → (P : Core → Type 0) →
    ((lane : LaneState) (packet : Packet) (seat : SeatState) → slice_get core.lanes i ≡ Some lane → first_filled lane.queue ≡ Some packet → slice_get core.seats (seat_of side lane) ≡ Some seat → test lane ≡ true →
    P (with_seat (with_lane core i (taken lane)) (seat_of side lane) (with_packet packet seat))) → P new
take_first_cases core i side test new e P next =
    some_cases (slice_get core.lanes i) _ new e (P new) (λ lane at rest.
    some_cases (first_filled lane.queue) _ new rest (P new) (λ packet first rest2.
    some_cases (slice_get core.seats (seat_of side lane)) _ new rest2 (P new) (λ seat there rest3.
    when_cases (test lane) _ new rest3 P (next lane packet seat at first there))))

pub lay_cases : (core : Core) (i n : ℕ) (new : Core) → lay core i n ≡ Some new → (P : Core → Type 0) →
    ((lane : LaneState) (seat : SeatState) → slice_get core.lanes i ≡ Some lane → slice_get core.seats lane.tx_seat ≡ Some seat → may_lay core n lane seat ≡ true → P (with_lane core i (with_laid n lane))) → P new
lay_cases core i n new e P next =
    some_cases (slice_get core.lanes i) _ new e (P new) (λ lane at rest.
    some_cases (slice_get core.seats lane.tx_seat) _ new rest (P new) (λ seat there rest2.
    when_cases (may_lay core n lane seat) _ new rest2 P (next lane seat at there)))

pub publish_cases : (core : Core) (i : ℕ) (new : Core) → publish core i ≡ Some new → (P : Core → Type 0) →
    ((lane : LaneState) (seat : SeatState) → slice_get core.lanes i ≡ Some lane → slice_get core.seats lane.tx_seat ≡ Some seat → has_laid lane ≡ true →
    P (with_seat (with_lane core i (published (map (handed_over seat) lane.laid) lane)) lane.tx_seat (without_packets lane.laid seat))) → P new
publish_cases core i new e P next =
    some_cases (slice_get core.lanes i) _ new e (P new) (λ lane at rest.
    some_cases (slice_get core.seats lane.tx_seat) _ new rest (P new) (λ seat there rest2.
    when_cases (has_laid lane) _ new rest2 P (next lane seat at there)))

pub take_claim_cases : (core : Core) (s : ℕ) (cs : List ℕ) (new : Core) → take_claim core s cs ≡ Some new → (P : Core → Type 0) →
    ((seat : SeatState) (packets : List Packet) → slice_get core.seats s ≡ Some seat → packets_of core.cells cs ≡ Some packets → (list_all (λ c. home core c == home core s) cs && is_none seat.pending) ≡ true →
    P (with_seat (with_cells core cs (Busy s)) s (with_pending (Some (record { phase = Taking 0; claims = paired cs packets })) (with_packets packets seat)))) → P new
take_claim_cases core s cs new e P next =
    some_cases (slice_get core.seats s) _ new e (P new) (λ seat there rest.
    some_cases (packets_of core.cells cs) _ new rest (P new) (λ packets full rest2.
    when_cases _ _ new rest2 P (next seat packets there full)))

pub take_done_cases : (core : Core) (s : ℕ) (new : Core) → take_done core s ≡ Some new → (P : Core → Type 0) →
    ((seat : SeatState) → slice_get core.seats s ≡ Some seat → is_all_out seat ≡ true →
    P (with_seat (with_cells core (map (λ claim. claim.cell) (claims_of seat)) Empty) s (with_pending None seat))) → P new
take_done_cases core s new e P next =
    some_cases (slice_get core.seats s) _ new e (P new) (λ seat there rest.
    when_cases (is_all_out seat) _ new rest P (next seat there))

pub give_claim_cases : (core : Core) (s c n : ℕ) (new : Core) → give_claim core s c n ≡ Some new → (P : Core → Type 0) →
    ((seat : SeatState) (cell : Cell) → slice_get core.seats s ≡ Some seat → slice_get core.cells c ≡ Some cell → (is_empty_cell cell && is_none seat.pending && may_hand_over core n seat) ≡ true →
    P (with_seat (with_cell core c (Busy s)) s (with_pending (Some (record { phase = Giving; claims = record { cell = c; packet = n } ∷ [] })) seat))) → P new
give_claim_cases core s c n new e P next =
    some_cases (slice_get core.seats s) _ new e (P new) (λ seat there rest.
    some_cases (slice_get core.cells c) _ new rest (P new) (λ cell at rest2.
    when_cases _ _ new rest2 P (λ may. next seat cell there at (and_parts (home core c == home core n) _ may).1)))

pub give_done_cases : (core : Core) (s : ℕ) (new : Core) → give_done core s ≡ Some new → (P : Core → Type 0) →
    ((seat : SeatState) (claim : Claim) → slice_get core.seats s ≡ Some seat → only (claims_of seat) ≡ Some claim → is_given_in seat ≡ true →
    P (with_seat (with_cell core claim.cell (Full (handed_over seat claim.packet))) s (with_pending None (without_packet claim.packet seat)))) → P new
give_done_cases core s new e P next =
    some_cases (slice_get core.seats s) _ new e (P new) (λ seat there rest.
    some_cases (only (claims_of seat)) _ new rest (P new) (λ claim one rest2.
    when_cases (is_given_in seat) _ new rest2 P (next seat claim there one)))

pub restart_cases : (core : Core) (s : ℕ) (new : Core) → restart core s ≡ Some new → (P : Core → Type 0) → P core → P new
restart_cases core s new e P here =
    some_cases (slice_get core.seats s) _ new e (P new) (λ seat there rest. when_cases _ core new rest P (λ _. here))
