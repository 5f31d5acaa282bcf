-- The core as it opens has the machine's facts.
use Rattle.std.proofs.Common.{◌≡◌, ◌≢◌, ℕ, ◌+◌, ◌*◌, ◌^◌, ◌<◌, ◌≤◌, Bool, false, List, [], ◌∷◌, length, map, replicate, Some, None, refl, sym, ap, ◌∙◌, subst, arith, slice_get, zero, suc, inl, inr, cond, ◌⊎◌, ⊎_elim}
use Rattle.std.specs.List.{range_with_len, sum_by, All}
use Rattle.std.proofs.lemmas.Bool.{eq-eqb, ne_eqb, cases_eq, false≢true}
use Rattle.std.proofs.lemmas.List.{length-replicate, length-map}
use Rattle.std.proofs.lemmas.List.Sums.{sum_by-cons}
use Rattle.std.proofs.lemmas.List.Folds.{sum_by-replicate}
use Rattle.std.proofs.lemmas.List.Elements.{All-replicate, All-nil, All-cons, All-head, All-tail}
use Rattle.sn_core.specs.declared.parts.Packet.{Packet}
use Rattle.sn_core.specs.Lane.{LaneState, free_lane, laid_count}
use Rattle.sn_core.specs.Seat.{idle_seat, claim_count}
use Rattle.sn_core.specs.Core.{Core, opened, opening_cell, pool, standing, IsPairOfSeats}
use Rattle.sn_core.specs.Sound.{cell_count_in, is_busy, LaneIsSound, SeatIsSound}
use Rattle.sn_core.specs.Invariant.{GivesFresh, IsKept, JoinsSeats}
use Rattle.sn_core.proofs.Weights.{weigh, weigh_is, weigh_of, cell_weight, lane_weight, seat_weight, cell_weight-full, free_lane_weight, idle_pool_weight, at-le-sum_by}
use Rattle.sn_core.proofs.Counts.{is_one, count_is}
use Rattle.sn_core.proofs.Balances.{too_high, not_too_high, all_bounded, length_is}
use Rattle.sn_core.proofs.LaneSoundness.{free_sound}

here : (n first : ℕ) → first ≡ n → cell_weight (is_one n) (opening_cell first) ≡ 1
here n first e = cell_weight-full (is_one n) (record { number = first; turn = 0 }) ∙ ap (λ b. cond b 1 0) (eq-eqb first n e)

elsewhere : (n first : ℕ) → (first ≡ n → ⊥) → cell_weight (is_one n) (opening_cell first) ≡ 0
elsewhere n first differ = cell_weight-full (is_one n) (record { number = first; turn = 0 }) ∙ ap (λ b. cond b 1 0) (ne_eqb first n differ)

-- how often a number stands in cells that hold their own numbers
out_of_cells : (n first count : ℕ) → (n < first) ⊎ (first + count ≤ n) → sum_by (cell_weight (is_one n)) (map opening_cell (range_with_len first count)) ≡ 0
out_of_cells n first zero w = refl
out_of_cells n first (suc count) w =
    let differ : first ≡ n → ⊥ = λ e. ⊎_elim (λ lt. absurd (omega arith)) (λ ge. absurd (omega arith)) w in
    let rest : (n < first + 1) ⊎ (first + 1 + count ≤ n) = ⊎_elim (λ lt. inl (omega arith)) (λ ge. inr (omega arith)) w in
    omega (arith, sum_by-cons (cell_weight (is_one n)) (opening_cell first) (map opening_cell (range_with_len (first + 1) count)), elsewhere n first differ, out_of_cells n (first + 1) count rest)

in_cells : (n first count : ℕ) → first ≤ n → n < first + count → sum_by (cell_weight (is_one n)) (map opening_cell (range_with_len first count)) ≡ 1
in_cells n first zero ge lt = absurd (omega arith)
in_cells n first (suc count) ge lt =
    elim (cases_eq first n) [
      | inl e ↦ omega (arith, sum_by-cons (cell_weight (is_one n)) (opening_cell first) (map opening_cell (range_with_len (first + 1) count)), here n first e, out_of_cells n (first + 1) count (inl (omega arith)))
      | inr differ ↦ (let ne : first ≢ n = differ in
          omega (arith, sum_by-cons (cell_weight (is_one n)) (opening_cell first) (map opening_cell (range_with_len (first + 1) count)), elsewhere n first differ, in_cells n (first + 1) count (omega arith) (omega arith)))
    ]

length_cells : (first count : ℕ) → length (map opening_cell (range_with_len first count)) ≡ count
length_cells first zero = refl
length_cells first (suc count) = omega (arith, length_cells (first + 1) count)

-- lanes and seats as they open
free_at : (P : LaneState → Type 0) (lanes : List (ℕ × ℕ)) → ((a b : ℕ) → P (free_lane a b)) → All P (map (λ ends. free_lane ends.0 ends.1) lanes)
free_at P [] p = All-nil P
free_at P (ends ∷ lanes) p = All-cons P (free_lane ends.0 ends.1) (map (λ e. free_lane e.0 e.1) lanes) (p ends.0 ends.1) (free_at P lanes p)

free_weight : (f : Packet → ℕ) (lanes : List (ℕ × ℕ)) → sum_by (lane_weight f) (map (λ ends. free_lane ends.0 ends.1) lanes) ≡ 0
free_weight f [] = refl
free_weight f (ends ∷ lanes) =
    omega (arith, sum_by-cons (lane_weight f) (free_lane ends.0 ends.1) (map (λ e. free_lane e.0 e.1) lanes), free_lane_weight f ends.0 ends.1, free_weight f lanes)

free_puts : (lanes : List (ℕ × ℕ)) → sum_by (λ lane. lane.put) (map (λ ends. free_lane ends.0 ends.1) lanes) ≡ 0
free_puts [] = refl
free_puts (ends ∷ lanes) = omega (arith, sum_by-cons (λ lane. lane.put) (free_lane ends.0 ends.1) (map (λ e. free_lane e.0 e.1) lanes), free_puts lanes)

idle_weights : (f : Packet → ℕ) (seats pool : ℕ) → sum_by (seat_weight f) (replicate seats (idle_seat pool)) ≡ 0
idle_weights f seats pool = omega (arith, sum_by-replicate (seat_weight f) seats (idle_seat pool), ap (λ n. seats * n) (idle_pool_weight f pool))

ends_joined : (seats : ℕ) (lanes : List (ℕ × ℕ)) → All (IsPairOfSeats seats) lanes → All (JoinsSeats seats) (map (λ ends. free_lane ends.0 ends.1) lanes)
ends_joined seats [] all = All-nil (JoinsSeats seats)
ends_joined seats (ends ∷ lanes) all =
    let first = All-head (IsPairOfSeats seats) ends lanes all in
    All-cons (JoinsSeats seats) (free_lane ends.0 ends.1) (map (λ e. free_lane e.0 e.1) lanes) (record { tx = first.0; rx = first.1 }) (ends_joined seats lanes (All-tail (IsPairOfSeats seats) ends lanes all))

-- nothing is laid, and no cell is claimed
nothing_laid : (n : ℕ) (lanes : List (ℕ × ℕ)) → sum_by (laid_count n) (map (λ ends. free_lane ends.0 ends.1) lanes) ≡ 0
nothing_laid n [] = refl
nothing_laid n (ends ∷ lanes) =
    omega (arith, sum_by-cons (laid_count n) (free_lane ends.0 ends.1) (map (λ e. free_lane e.0 e.1) lanes), nothing_laid n lanes)

nothing_claimed : (n seats pool : ℕ) → sum_by (claim_count n) (replicate seats (idle_seat pool)) ≡ 0
nothing_claimed n zero pool = refl
nothing_claimed n (suc seats) pool =
    omega (arith, sum_by-cons (claim_count n) (idle_seat pool) (replicate seats (idle_seat pool)), nothing_claimed n seats pool)

no_cell_claimed : (c s seats pool : ℕ) → cell_count_in c (slice_get (replicate seats (idle_seat pool)) s) ≡ 0
no_cell_claimed c s zero pool = refl
no_cell_claimed c zero (suc seats) pool = refl
no_cell_claimed c (suc s) (suc seats) pool = no_cell_claimed c s seats pool

no_cell_busy : (first count c s : ℕ) → is_busy s (slice_get (map opening_cell (range_with_len first count)) c) ≡ false
no_cell_busy first zero c s = refl
no_cell_busy first (suc count) zero s = refl
no_cell_busy first (suc count) (suc c) s = no_cell_busy (first + 1) count c s

abbrev one_if : Bool → ℕ
one_if b = cond b 1 0

idle_sound : (pool : ℕ) → SeatIsSound (idle_seat pool)
idle_sound pool =
    record {
      claims = record { some = λ pends. absurd (false≢true pends); few = omega arith; held = λ n some. absurd (omega (arith, some)) };
      heard = omega arith;
    }

-- the packets that stand as the core opens: each number of the pool once, at turn 0
opened_weight : (f : Packet → ℕ) (pool seats : ℕ) (lanes : List (ℕ × ℕ)) → weigh f (opened pool seats lanes) ≡ sum_by (cell_weight f) (map opening_cell (range_with_len 0 pool))
opened_weight f pool seats lanes = omega (arith, weigh_is f (opened pool seats lanes), free_weight f lanes, idle_weights f seats pool)

turns_zero : (first count : ℕ) → sum_by (cell_weight too_high) (map opening_cell (range_with_len first count)) ≡ 0
turns_zero first zero = refl
turns_zero first (suc count) =
    omega (arith, sum_by-cons (cell_weight too_high) (opening_cell first) (map opening_cell (range_with_len (first + 1) count)), cell_weight-full too_high (record { number = first; turn = 0 }), not_too_high (record { number = first; turn = 0 }) (omega arith), turns_zero (first + 1) count)

ones : (first count : ℕ) → sum_by (cell_weight (λ packet. 1)) (map opening_cell (range_with_len first count)) ≡ count
ones first zero = refl
ones first (suc count) =
    omega (arith, sum_by-cons (cell_weight (λ packet. 1)) (opening_cell first) (map opening_cell (range_with_len (first + 1) count)), cell_weight-full (λ packet. 1) (record { number = first; turn = 0 }), ones (first + 1) count)

pub opened_kept : (count seats : ℕ) (lanes : List (ℕ × ℕ)) → count ≤ 16384 → seats ≤ 16 → length lanes ≤ 16 → All (IsPairOfSeats seats) lanes → IsKept (opened count seats lanes)
opened_kept count seats lanes size few_seats few_lanes ends =
    record {
      sound = record {
        stands = record {
          within = λ n lt. count_is core n ∙ opened_weight (is_one n) count seats lanes ∙ in_cells n 0 count (omega arith) (omega (arith, length_cells 0 count));
          beyond = λ n ge. count_is core n ∙ opened_weight (is_one n) count seats lanes ∙ out_of_cells n 0 count (inr (omega (arith, length_cells 0 count)));
        };
        laid = record {
          held = λ i n lane at some. absurd (nothing i n lane at some);
          once = λ n. omega (arith, nothing_laid n lanes, nothing_claimed n seats count);
        };
        claims = λ c s. no_cell_claimed c s seats count ∙ sym (ap one_if (no_cell_busy 0 count c s));
        lanes = free_at LaneIsSound lanes free_sound;
        seats = All-replicate SeatIsSound seats (idle_seat count) (idle_sound count);
        turns = record {
          turns = all_bounded (standing core) (sym (weigh_of too_high core) ∙ opened_weight too_high count seats lanes ∙ turns_zero 0 count);
          positions = omega (arith, free_puts lanes);
          below = free_at (λ lane. lane.put < 2 ^ 62) lanes (λ a b. omega arith);
        };
      };
      shape = record {
        size = omega (arith, length_cells 0 count);
        lanes = omega (arith, few_lanes, length-map lanes (λ ends. free_lane ends.0 ends.1));
        seats = omega (arith, few_seats, length-replicate seats (idle_seat count));
        ends = subst (λ n. All (JoinsSeats n) core.lanes) (sym (length-replicate seats (idle_seat count))) (ends_joined seats lanes ends);
        tables = All-replicate (λ seat. length seat.held ≡ pool core) seats (idle_seat count) (length-replicate count None ∙ sym (length_cells 0 count));
        total = length_is (standing core) ∙ sym (weigh_of (λ packet. 1) core) ∙ opened_weight (λ packet. 1) count seats lanes ∙ ones 0 count ∙ sym (length_cells 0 count);
      };
      unworn = record {
        laid = λ i n lane at some. absurd (nothing i n lane at some);
        given = All-replicate GivesFresh seats (idle_seat count) (record { fresh = λ n gives some. absurd gives });
      };
    } where
      core : Core
      core = opened count seats lanes

      nothing : (i n : ℕ) (lane : LaneState) → slice_get (map (λ ends. free_lane ends.0 ends.1) lanes) i ≡ Some lane → 0 < laid_count n lane → ⊥
      nothing i n lane at some = omega (arith, some, nothing_laid n lanes, at-le-sum_by (laid_count n) (map (λ ends. free_lane ends.0 ends.1) lanes) i lane at)
