-- Where a packet stands once, it stands nowhere else: what the counts say of single cells, lanes and seats.
use Rattle.std.proofs.Common.{◌≡◌, ℕ, ◌<◌, ◌≤◌, Option, Some, None, refl, sym, ap, arith, slice_get, cond, eqb, inl, inr}
use Rattle.std.proofs.lemmas.Bool.{eq-eqb, cases_lt}
use Rattle.sn_core.specs.declared.parts.Packet.{Packet}
use Rattle.sn_core.specs.declared.parts.Cell.TheVariants.{Full}
use Rattle.sn_core.specs.Lane.{LaneState, first_filled}
use Rattle.sn_core.specs.Seat.{SeatState, turn_of, idle_seat}
use Rattle.sn_core.specs.Core.{Core, pool, standing}
use Rattle.sn_core.specs.Sound.{StandsOnce, count_of}
use Rattle.sn_core.proofs.Weights.{weigh, weigh_of, weigh_is, cell_weight, lane_weight, seat_weight, at-le-sum_by, cell_weight-full, lane_weight-taken, seat_weight-without_packet, idle_seat_weight}

-- 1 for a packet of this number, and 0 for others
abbrev pub is_one : ℕ → Packet → ℕ
is_one n packet = cond (eqb packet.number n) 1 0

pub is_one-itself : (n turn : ℕ) → is_one n (record { number = n; turn = turn }) ≡ 1
is_one-itself n turn = ap (λ b. cond b 1 0) (eq-eqb n n refl)

pub is_one-at : (n : ℕ) (packet : Packet) → packet.number ≡ n → is_one n packet ≡ 1
is_one-at n packet e = ap (λ b. cond b 1 0) (eq-eqb packet.number n e)

pub count_is : (core : Core) (n : ℕ) → count_of n (standing core) ≡ weigh (is_one n) core
count_is core n = sym (weigh_of (is_one n) core)

-- each number is counted at most once, and one that is counted is below the pool
pub counted_at_most_once : (core : Core) → StandsOnce core → (n : ℕ) → weigh (is_one n) core ≤ 1
counted_at_most_once core stands n =
    elim (cases_lt n (pool core)) [
      | inl lt ↦ omega (arith, stands.within n lt, count_is core n)
      | inr ge ↦ omega (arith, stands.beyond n ge, count_is core n)
    ]

pub below_pool : (core : Core) → StandsOnce core → (n : ℕ) → 1 ≤ weigh (is_one n) core → n < pool core
below_pool core stands n some =
    elim (cases_lt n (pool core)) [
      | inl lt ↦ lt
      | inr ge ↦ absurd (omega (arith, stands.beyond n ge, count_is core n))
    ]

-- the packet of a full cell, of a first place, of a seat's list counts
pub cell_counts : (core : Core) (c : ℕ) (packet : Packet) → slice_get core.cells c ≡ Some (Full packet) → 1 ≤ weigh (is_one packet.number) core
cell_counts core c packet at =
    omega (arith, weigh_is (is_one packet.number) core, at-le-sum_by (cell_weight (is_one packet.number)) core.cells c (Full packet) at, cell_weight-full (is_one packet.number) packet, is_one-at packet.number packet refl)

pub lane_counts : (core : Core) (i : ℕ) (lane : LaneState) (packet : Packet) → slice_get core.lanes i ≡ Some lane → first_filled lane.queue ≡ Some packet → 1 ≤ weigh (is_one packet.number) core
lane_counts core i lane packet at first =
    omega (arith, weigh_is (is_one packet.number) core, at-le-sum_by (lane_weight (is_one packet.number)) core.lanes i lane at, lane_weight-taken (is_one packet.number) lane packet first, is_one-at packet.number packet refl)

pub seat_weight-held : (n turn : ℕ) (seat : SeatState) → turn_of n seat ≡ Some turn → 1 ≤ seat_weight (is_one n) seat
seat_weight-held n turn seat held = omega (arith, seat_weight-without_packet (is_one n) seat n turn held, is_one-itself n turn)

pub seat_counts : (core : Core) (s n turn : ℕ) (seat : SeatState) → slice_get core.seats s ≡ Some seat → turn_of n seat ≡ Some turn → 1 ≤ weigh (is_one n) core
seat_counts core s n turn seat at held =
    omega (arith, weigh_is (is_one n) core, at-le-sum_by (seat_weight (is_one n)) core.seats s seat at, seat_weight-held n turn seat held)

-- so no seat holds what stands in a cell or in a first place
pub none_if : (o : Option ℕ) → ((turn : ℕ) → o ≡ Some turn → ⊥) → o ≡ None
none_if None never = refl
none_if (Some turn) never = absurd (never turn refl)

pub not_held_in_cell : (core : Core) → StandsOnce core → (c s : ℕ) (packet : Packet) (seat : SeatState) → slice_get core.cells c ≡ Some (Full packet) → slice_get core.seats s ≡ Some seat → turn_of packet.number seat ≡ None
not_held_in_cell core stands c s packet seat at there =
    none_if (turn_of packet.number seat) (λ turn held.
    omega (
      arith,
      counted_at_most_once core stands packet.number,
      weigh_is (is_one packet.number) core,
      at-le-sum_by (cell_weight (is_one packet.number)) core.cells c (Full packet) at,
      cell_weight-full (is_one packet.number) packet,
      is_one-at packet.number packet refl,
      at-le-sum_by (seat_weight (is_one packet.number)) core.seats s seat there,
      seat_weight-held packet.number turn seat held,
    ))

pub not_held_in_lane : (core : Core) → StandsOnce core → (i s : ℕ) (lane : LaneState) (packet : Packet) (seat : SeatState) → slice_get core.lanes i ≡ Some lane → first_filled lane.queue ≡ Some packet → slice_get core.seats s ≡ Some seat → turn_of packet.number seat ≡ None
not_held_in_lane core stands i s lane packet seat at first there =
    none_if (turn_of packet.number seat) (λ turn held.
    omega (
      arith,
      counted_at_most_once core stands packet.number,
      weigh_is (is_one packet.number) core,
      at-le-sum_by (lane_weight (is_one packet.number)) core.lanes i lane at,
      lane_weight-taken (is_one packet.number) lane packet first,
      is_one-at packet.number packet refl,
      at-le-sum_by (seat_weight (is_one packet.number)) core.seats s seat there,
      seat_weight-held packet.number turn seat held,
    ))

-- a seat that holds nothing weighs nothing
pub idle_weight : (n : ℕ) → seat_weight (is_one n) (idle_seat 0) ≡ 0
idle_weight n = idle_seat_weight (is_one n)
