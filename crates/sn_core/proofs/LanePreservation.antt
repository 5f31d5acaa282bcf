-- Each event on a lane keeps the machine's facts.
use Rattle.std.proofs.Common.{◌≡◌, ℕ, ◌+◌, ◌-◌, ◌<◌, ◌≤◌, Bool, true, false, not, ◌&&◌, Option, List, [], ◌∷◌, ◌++◌, length, take, drop, get_or, map, Some, None, refl, sym, ap, ◌∙◌, subst, arith, slice_get, slice_set, append_assoc, ◌≢◌, zero, suc, cond, eqb}
use Rattle.std.specs.Prelude.{unwrap_or}
use Rattle.std.specs.List.{list_any, sum_by}
use Rattle.std.proofs.lemmas.Bool.{and_parts, not-true, eq-eqb}
use Rattle.std.proofs.lemmas.Option.{same_Some, slice_get-get_or}
use Rattle.std.proofs.lemmas.List.{length-set}
use Rattle.std.proofs.lemmas.List.Sums.{sum_by-cons}
use Rattle.sn_core.specs.declared.events.Side.{Side}
use Rattle.sn_core.specs.declared.events.Side.TheVariants.{Tx, Rx}
use Rattle.sn_core.specs.declared.parts.Packet.{Packet}
use Rattle.sn_core.specs.declared.parts.Field.TheVariants.{Gone}
use Rattle.sn_core.specs.Lane.{LaneState, free_lane, seat_of, is_down, closed_by, first_filled, laid_count, lays, can_attach, attached, can_detach, detached, can_reset, was_reset, taken, released, can_lay, with_laid, has_laid, published_some, published, taken_back}
use Rattle.sn_core.specs.Seat.{SeatState, idle_seat, turn_of, with_packet, without_packet, without_packets, handed_over, is_fresh, has_claimed, claim_count}
use Rattle.sn_core.specs.declared.events.Event.TheVariants.{Publish}
use Rattle.sn_core.specs.Core.{Core, with_lane, with_seat, may_hand_over, may_lay, publish, next}
use Rattle.sn_core.specs.Sound.{LaneIsSound, laid_total, claim_total}
use Rattle.sn_core.specs.Invariant.{IsKept}
use Rattle.sn_core.proofs.Weights.{weigh-with_lane, weigh-with_seat, lane_weight-taken, lane_weight-released, lane_weight-published, seat_weight-with_packet, seat_weight-without_packet, same_lane_weight, sum_by-written}
use Rattle.sn_core.proofs.Counts.{not_held_in_lane}
use Rattle.sn_core.proofs.Balances.{moves, put_of}
use Rattle.sn_core.proofs.Writes.{get_same, write_twice, turn_of-with_packet, turn_of-without_packet}
use Rattle.sn_core.proofs.LaneSoundness.{attached_sound, detached_sound, reset_sound, released_sound, laid_sound, taken_back_sound, published_some_sound}
use Rattle.sn_core.proofs.Reservations.{Reserved, fresh_some, reserved_lane, reserved_lay, reserved_seat, agree_seat, unlaid_total, unclaimed_count, unclaimed_total, laid_total-written, laid_within, claim_within}
use Rattle.sn_core.proofs.Bounds.{end_in, first_in, table_is, laid_fresh, fresh_turn, fresh_held, first_laid, lane_at, seat_at, given_at, put_below}
use Rattle.sn_core.proofs.Preservation.{reserved_of, kept_from, lanes_after, lanes_beside_seat, seats_after, seats_same, seats_beside_lane, seat_sound_same, gives_fresh_same, claims_held, unlaid_if, unclaimed_if, keeps_lane, keeps_laid}

-- 1 where the test holds
abbrev one_if : Bool → ℕ
one_if b = cond b 1 0

pub keeps_attach : (core : Core) (i : ℕ) (side : Side) → IsKept core → (lane : LaneState) → slice_get core.lanes i ≡ Some lane → can_attach side lane ≡ true → IsKept (with_lane core i (attached side lane))
keeps_attach core i Tx kept lane at can =
    keeps_laid core i lane (attached Tx lane) kept at (attached_sound Tx lane can (lane_at core kept i lane at)) refl refl refl
    (λ f. same_lane_weight f lane (attached Tx lane) refl) (λ n. omega arith)
keeps_attach core i Rx kept lane at can =
    keeps_laid core i lane (attached Rx lane) kept at (attached_sound Rx lane can (lane_at core kept i lane at)) refl refl refl
    (λ f. same_lane_weight f lane (attached Rx lane) refl) (λ n. omega arith)

-- a lane whose other end goes has what it had
pub record SameBut (lane new : LaneState) : Type 0 where
  pub tx_seat : new.tx_seat ≡ lane.tx_seat
  pub rx_seat : new.rx_seat ≡ lane.rx_seat
  pub put : new.put ≡ lane.put
  pub queue : new.queue ≡ lane.queue
  pub laid : new.laid ≡ lane.laid

closed_same : (side : Side) (is : Bool) (lane : LaneState) → SameBut lane (closed_by side is lane)
closed_same side true lane = record { tx_seat = refl; rx_seat = refl; put = refl; queue = refl; laid = refl }
closed_same side false lane = record { tx_seat = refl; rx_seat = refl; put = refl; queue = refl; laid = refl }

same_laid : (lane new : LaneState) → new.laid ≡ lane.laid → (n : ℕ) → laid_count n new ≤ laid_count n lane
same_laid lane new same n = omega (arith, ap (λ l. sum_by (λ other. cond (eqb other n) 1 0) l) same)

pub keeps_detach : (core : Core) (i : ℕ) (side : Side) → IsKept core → (lane : LaneState) → slice_get core.lanes i ≡ Some lane → can_detach side lane ≡ true → IsKept (with_lane core i (detached side lane))
keeps_detach core i Tx kept lane at can =
    let new = detached Tx lane in
    let same = closed_same Tx (is_down (record lane { tx = Gone })) (record lane { tx = Gone }) in
    keeps_laid core i lane new kept at (detached_sound Tx lane can (lane_at core kept i lane at)) same.tx_seat same.rx_seat same.put
    (λ f. same_lane_weight f lane new same.queue) (same_laid lane new same.laid)
keeps_detach core i Rx kept lane at can =
    let new = detached Rx lane in
    let same = closed_same Rx (is_down (record lane { rx = Gone })) (record lane { rx = Gone }) in
    keeps_laid core i lane new kept at (detached_sound Rx lane can (lane_at core kept i lane at)) same.tx_seat same.rx_seat same.put
    (λ f. same_lane_weight f lane new same.queue) (same_laid lane new same.laid)

pub keeps_reset : (core : Core) (i : ℕ) (side : Side) → IsKept core → (lane : LaneState) → slice_get core.lanes i ≡ Some lane → can_reset side lane ≡ true → IsKept (with_lane core i (was_reset lane))
keeps_reset core i side kept lane at can =
    keeps_laid core i lane (was_reset lane) kept at (reset_sound side lane can (lane_at core kept i lane at)) refl refl refl
    (λ f. same_lane_weight f lane (was_reset lane) refl) (λ n. omega arith)

pub keeps_released : (core : Core) (i : ℕ) → IsKept core → (lane : LaneState) → slice_get core.lanes i ≡ Some lane → IsKept (with_lane core i (released lane))
keeps_released core i kept lane at =
    keeps_laid core i lane (released lane) kept at (released_sound lane (lane_at core kept i lane at)) refl refl refl
    (λ f. lane_weight-released f lane) (λ n. omega arith)

count_take : (n k : ℕ) (ns : List ℕ) → sum_by (λ other. cond (eqb other n) 1 0) (take k ns) ≤ sum_by (λ other. cond (eqb other n) 1 0) ns
count_take n zero ns = omega arith
count_take n (suc k) [] = omega arith
count_take n (suc k) (m ∷ ns) =
    omega (arith, sum_by-cons (λ other. cond (eqb other n) 1 0) m (take k ns), sum_by-cons (λ other. cond (eqb other n) 1 0) m ns, count_take n k ns)

pub keeps_taken_back : (core : Core) (i : ℕ) → IsKept core → (lane : LaneState) → slice_get core.lanes i ≡ Some lane → IsKept (with_lane core i (taken_back lane))
keeps_taken_back core i kept lane at =
    keeps_laid core i lane (taken_back lane) kept at (taken_back_sound lane (lane_at core kept i lane at)) refl refl refl
    (λ f. same_lane_weight f lane (taken_back lane) refl) (λ n. count_take n (length lane.laid - 1) lane.laid)

-- the first packet moves to the seat of that end
pub keeps_take_first : (core : Core) (i : ℕ) (side : Side) → IsKept core → (lane : LaneState) (packet : Packet) (seat : SeatState) → LaneIsSound (taken lane) → slice_get core.lanes i ≡ Some lane → first_filled lane.queue ≡ Some packet → slice_get core.seats (seat_of side lane) ≡ Some seat →
    IsKept (with_seat (with_lane core i (taken lane)) (seat_of side lane) (with_packet packet seat))
keeps_take_first core i side kept lane packet seat sound at first there =
    kept_from core new (record { number = 0; turn = 0 }) (record { number = 0; turn = 0 }) kept
    (moves core new refl
    (λ f. omega (arith, weigh-with_lane f core i lane (taken lane) at, weigh-with_seat f mid s seat (with_packet packet seat) there, lane_weight-taken f lane packet first, seat_weight-with_packet f seat packet in_table absent))
    (omega (arith, sum_by-written put_of core.lanes i lane (taken lane) at)))
    (reserved_seat mid s seat (with_packet packet seat) there
    (λ n some. turn_of-with_packet seat packet n (laid_differs n some))
    (λ n. omega (arith, mid_reserved.once n))
    mid_reserved)
    (agree_seat mid s seat (with_packet packet seat) there (λ c. refl) kept.sound.claims)
    (lanes_beside_seat mid s (with_packet packet seat) (lanes_after core i lane (taken lane) kept at sound refl refl))
    (seats_after mid s seat (with_packet packet seat) there (length-set seat.held packet.number (Some packet.turn))
    (seat_sound_same seat (with_packet packet seat) (seat_at core kept s seat there) refl (seat_at core kept s seat there).heard (λ n some. turn_of-with_packet seat packet n (claim_differs n some)))
    (gives_fresh_same seat (with_packet packet seat) (given_at core kept s seat there) refl (λ n some. turn_of-with_packet seat packet n (claim_differs n some)))
    (seats_beside_lane core i (taken lane) (seats_same core kept))) where
      s : ℕ
      s = seat_of side lane

      mid : Core
      mid = with_lane core i (taken lane)

      new : Core
      new = with_seat (with_lane core i (taken lane)) (seat_of side lane) (with_packet packet seat)

      in_table : packet.number < length seat.held
      in_table = omega (arith, first_in core kept i lane packet at first, table_is core kept (seat_of side lane) seat there)

      absent : turn_of packet.number seat ≡ None
      absent = not_held_in_lane core kept.sound.stands i (seat_of side lane) lane packet seat at first there

      nobody : (a : ℕ) (other : SeatState) → slice_get core.seats a ≡ Some other → turn_of packet.number other ≡ None
      nobody a other there2 = not_held_in_lane core kept.sound.stands i a lane packet other at first there2

      mid_reserved : Reserved (with_lane core i (taken lane))
      mid_reserved = reserved_lane core i lane (taken lane) at refl (λ n. omega arith) (reserved_of core kept)

      unlaid : laid_total core packet.number ≡ 0
      unlaid = unlaid_if core packet.number kept nobody

      unclaimed : claim_total core packet.number ≡ 0
      unclaimed = unclaimed_if core packet.number kept nobody

      laid_differs : (n : ℕ) → 0 < laid_total (with_lane core i (taken lane)) n → n ≡ packet.number → ⊥
      laid_differs n some e =
          let none : laid_total core n ≡ 0 = subst (λ x. laid_total core x ≡ 0) (sym e) unlaid in
          omega (arith, some, none, laid_total-written core i n lane (taken lane) at)

      claim_differs : (n : ℕ) → 0 < claim_count n seat → n ≡ packet.number → ⊥
      claim_differs n some e =
          let none : claim_total core n ≡ 0 = subst (λ x. claim_total core x ≡ 0) (sym e) unclaimed in
          omega (arith, some, none, claim_within core (seat_of side lane) n seat there)

pub may_hand_over_fresh : (core : Core) (n : ℕ) (seat : SeatState) → may_hand_over core n seat ≡ true → is_fresh (turn_of n seat) ≡ true
may_hand_over_fresh core n seat may = (and_parts (is_fresh (turn_of n seat)) (not (list_any (lays n) core.lanes)) may).0

pub may_hand_over_unlaid : (core : Core) (n : ℕ) (seat : SeatState) → may_hand_over core n seat ≡ true → laid_total core n ≡ 0
may_hand_over_unlaid core n seat may =
    unlaid_total core n (not-true (list_any (lays n) core.lanes) (and_parts (is_fresh (turn_of n seat)) (not (list_any (lays n) core.lanes)) may).1)

pub keeps_lay : (core : Core) (i n : ℕ) → IsKept core → (lane : LaneState) (seat : SeatState) → slice_get core.lanes i ≡ Some lane → slice_get core.seats lane.tx_seat ≡ Some seat → may_lay core n lane seat ≡ true → IsKept (with_lane core i (with_laid n lane))
keeps_lay core i n kept lane seat at there may =
    let parts = and_parts (can_lay lane && may_hand_over core n seat) (not (has_claimed n seat)) may in
    let both = and_parts (can_lay lane) (may_hand_over core n seat) parts.0 in
    let fresh = may_hand_over_fresh core n seat both.1 in
    keeps_lane core i lane (with_laid n lane) kept at (laid_sound n lane both.0 (lane_at core kept i lane at)) refl refl refl
    (λ f. same_lane_weight f lane (with_laid n lane) refl)
    (reserved_lay core i n lane at (rw there fresh) (may_hand_over_unlaid core n seat both.1)
    (unclaimed_total core lane.tx_seat n seat kept.sound.stands (λ a other there2 some. claims_held core kept a n other there2 some) there
    (fresh_some (turn_of n seat) fresh) (unclaimed_count n seat (not-true (has_claimed n seat) parts.1)))
    (reserved_of core kept))

-- the packet that was laid first joins the queue, and the rest stays laid
pub keeps_publish_first : (core : Core) (i n : ℕ) (rest : List ℕ) → IsKept core → (lane : LaneState) (seat : SeatState) → slice_get core.lanes i ≡ Some lane → slice_get core.seats lane.tx_seat ≡ Some seat → lane.laid ≡ n ∷ rest →
    IsKept (with_seat (with_lane core i (published_some (handed_over seat n ∷ []) rest lane)) lane.tx_seat (without_packet n seat))
keeps_publish_first core i n rest kept lane seat at there laid =
    kept_from core (with_seat (with_lane core i (published_some (handed_over seat n ∷ []) rest lane)) lane.tx_seat (without_packet n seat)) (record { number = n; turn = unwrap_or (turn_of n seat) 0 }) (handed_over seat n) kept
    (record {
      size = refl;
      weight = λ f. omega (arith, weigh-with_lane f core i lane out at, weigh-with_seat f mid lane.tx_seat seat (without_packet n seat) there, lane_weight-published f lane (handed_over seat n ∷ []), same_lane_weight f (published (handed_over seat n ∷ []) lane) out refl, sum_by-cons f (handed_over seat n) [], seat_weight-without_packet f seat n (unwrap_or (turn_of n seat) 0) held);
      same = refl;
      bound = omega (arith, fresh_turn (turn_of n seat) fresh);
      puts = omega (arith, sum_by-written put_of core.lanes i lane out at);
    })
    (reserved_seat mid lane.tx_seat seat (without_packet n seat) there
    (λ m some. turn_of-without_packet seat n m (laid_differs m some))
    (λ m. omega (arith, mid_reserved.once m))
    mid_reserved)
    (agree_seat mid lane.tx_seat seat (without_packet n seat) there (λ c. refl) kept.sound.claims)
    (lanes_beside_seat mid lane.tx_seat (without_packet n seat) (lanes_after core i lane out kept at out_sound refl refl))
    (seats_after mid lane.tx_seat seat (without_packet n seat) there (length-set seat.held n None)
    (seat_sound_same seat (without_packet n seat) (seat_at core kept lane.tx_seat seat there) refl (seat_at core kept lane.tx_seat seat there).heard (λ m some. turn_of-without_packet seat n m (claim_differs m some)))
    (gives_fresh_same seat (without_packet n seat) (given_at core kept lane.tx_seat seat there) refl (λ m some. turn_of-without_packet seat n m (claim_differs m some)))
    (seats_beside_lane core i out (seats_same core kept))) where
      out : LaneState
      out = published_some (handed_over seat n ∷ []) rest lane

      mid : Core
      mid = with_lane core i (published_some (handed_over seat n ∷ []) rest lane)

      count_rest : (m : ℕ) → laid_count m lane ≡ cond (eqb n m) 1 0 + laid_count m (published_some (handed_over seat n ∷ []) rest lane)
      count_rest m =
          omega (arith, ap (λ l. sum_by (λ other. cond (eqb other m) 1 0) l) laid, sum_by-cons (λ other. cond (eqb other m) 1 0) n rest)

      some_laid : 0 < laid_count n lane
      some_laid = first_laid lane n rest laid

      fresh : is_fresh (turn_of n seat) ≡ true
      fresh = laid_fresh core kept i n lane seat at (first_laid lane n rest laid) there

      held : turn_of n seat ≡ Some (unwrap_or (turn_of n seat) 0)
      held = fresh_held (turn_of n seat) (laid_fresh core kept i n lane seat at (first_laid lane n rest laid) there)

      length_laid : length lane.laid ≡ 1 + length rest
      length_laid = ap {B = ℕ} (λ l. length l) laid ∙ omega arith

      out_sound : LaneIsSound (published_some (handed_over seat n ∷ []) rest lane)
      out_sound = published_some_sound (handed_over seat n ∷ []) rest lane (omega (arith, length_laid)) (omega (arith, length_laid)) (omega (arith, put_below core kept i lane at)) (lane_at core kept i lane at)

      mid_reserved : Reserved (with_lane core i (published_some (handed_over seat n ∷ []) rest lane))
      mid_reserved = reserved_lane core i lane out at refl (λ m. omega (arith, count_rest m)) (reserved_of core kept)

      laid_differs : (m : ℕ) → 0 < laid_total (with_lane core i (published_some (handed_over seat n ∷ []) rest lane)) m → m ≡ n → ⊥
      laid_differs m some e =
          let here : 0 < laid_count m lane = subst (λ x. 0 < laid_count x lane) (sym e) some_laid in
          let one : one_if (eqb n m) ≡ 1 = ap one_if (eq-eqb n m (sym e)) in
          omega (arith, some, one, count_rest m, kept.sound.laid.once m, laid_total-written core i m lane out at)

      claim_differs : (m : ℕ) → 0 < claim_count m seat → m ≡ n → ⊥
      claim_differs m some e =
          let here : 0 < laid_count m lane = subst (λ x. 0 < laid_count x lane) (sym e) some_laid in
          omega (arith, some, here, kept.sound.laid.once m, laid_within core i m lane at, claim_within core lane.tx_seat m seat there)

-- packets that aren't the one that left are handed over as before
handed_over_same : (seat : SeatState) (n : ℕ) (ms : List ℕ) → sum_by (λ other. cond (eqb other n) 1 0) ms ≡ 0 → map (handed_over (without_packet n seat)) ms ≡ map (handed_over seat) ms
handed_over_same seat n [] none = refl
handed_over_same seat n (m ∷ ms) none =
    let differ : m ≢ n = λ e. (let one : one_if (eqb m n) ≡ 1 = ap one_if (eq-eqb m n e) in omega (arith, one, none, sum_by-cons (λ other. cond (eqb other n) 1 0) m ms)) in
    let rest : sum_by (λ other. cond (eqb other n) 1 0) ms ≡ 0 = omega (arith, none, sum_by-cons (λ other. cond (eqb other n) 1 0) m ms) in
    let same : handed_over (without_packet n seat) m ≡ handed_over seat m = ap (λ o. record { number = m; turn = unwrap_or o 0 + 1 }) (turn_of-without_packet seat n m differ) in
    ap (λ p. p ∷ map (handed_over (without_packet n seat)) ms) same ∙ ap (λ ps. handed_over seat m ∷ ps) (handed_over_same seat n ms rest)

-- one packet and then more, or all at once
published_twice : (packet : Packet) (packets : List Packet) (rest : List ℕ) (lane : LaneState) → published_some packets [] (published_some (packet ∷ []) rest lane) ≡ published_some (packet ∷ packets) [] lane
published_twice packet packets rest lane =
    ap (λ q. record lane { queue = q; put = lane.put + 1 + length packets; laid = [] }) (append_assoc lane.queue (Some packet ∷ []) (map Some packets))
    ∙ ap (λ k. record lane { queue = lane.queue ++ map Some (packet ∷ packets); put = k; laid = [] }) (let e : lane.put + 1 + length packets ≡ lane.put + length (packet ∷ packets) = omega arith in e)

-- the lane without the first of what was laid, and the core then
abbrev pub first_published : SeatState → ℕ → List ℕ → LaneState → LaneState
first_published seat n rest lane = published_some (handed_over seat n ∷ []) rest lane

abbrev pub after_first : Core → ℕ → LaneState → SeatState → ℕ → List ℕ → Core
after_first core i lane seat n rest = with_seat (with_lane core i (first_published seat n rest lane)) lane.tx_seat (without_packet n seat)

abbrev pub after_all : Core → ℕ → LaneState → SeatState → List ℕ → Core
after_all core i lane seat ns = with_seat (with_lane core i (published (map (handed_over seat) ns) lane)) lane.tx_seat (without_packets ns seat)

-- the rest after the first one, or all at once
pub first_then_rest : (core : Core) (i n m : ℕ) (ms : List ℕ) → IsKept core → (lane : LaneState) (seat : SeatState) → slice_get core.lanes i ≡ Some lane → lane.laid ≡ n ∷ m ∷ ms →
    after_all (after_first core i lane seat n (m ∷ ms)) i (first_published seat n (m ∷ ms) lane) (without_packet n seat) (m ∷ ms) ≡ after_all core i lane seat (n ∷ m ∷ ms)
first_then_rest core i n m ms kept lane seat at laid =
    ap (λ ls. record { cells = core.cells; lanes = ls; seats = slice_set (slice_set core.seats lane.tx_seat (without_packet n seat)) lane.tx_seat (without_packets (m ∷ ms) (without_packet n seat)) })
    (write_twice core.lanes i (first_published seat n (m ∷ ms) lane) (published (map (handed_over (without_packet n seat)) (m ∷ ms)) (first_published seat n (m ∷ ms) lane)) ∙ ap (λ l. slice_set core.lanes i l) lane_is)
    ∙ ap (λ ss. record { cells = core.cells; lanes = slice_set core.lanes i (published (map (handed_over seat) (n ∷ m ∷ ms)) lane); seats = ss })
    (write_twice core.seats lane.tx_seat (without_packet n seat) (without_packets (m ∷ ms) (without_packet n seat))) where
      once : sum_by (λ other. cond (eqb other n) 1 0) (m ∷ ms) ≡ 0
      once =
          let one : one_if (eqb n n) ≡ 1 = ap one_if (eq-eqb n n refl) in
          omega (arith, one, ap (λ l. sum_by (λ other. cond (eqb other n) 1 0) l) laid, sum_by-cons (λ other. cond (eqb other n) 1 0) n (m ∷ ms), kept.sound.laid.once n, laid_within core i n lane at)

      lane_is : published (map (handed_over (without_packet n seat)) (m ∷ ms)) (first_published seat n (m ∷ ms) lane) ≡ published (map (handed_over seat) (n ∷ m ∷ ms)) lane
      lane_is =
          ap (λ ps. published ps (first_published seat n (m ∷ ms) lane)) (handed_over_same seat n (m ∷ ms) once)
          ∙ published_twice (handed_over seat n) (map (handed_over seat) (m ∷ ms)) (m ∷ ms) lane

-- all laid packets move to the end of the queue
pub keeps_publish : (ns : List ℕ) (core : Core) (i : ℕ) → IsKept core → (lane : LaneState) (seat : SeatState) → slice_get core.lanes i ≡ Some lane → slice_get core.seats lane.tx_seat ≡ Some seat → lane.laid ≡ ns → 0 < length ns → IsKept (after_all core i lane seat ns)
keeps_publish [] core i kept lane seat at there laid some = absurd (omega (arith, some))
keeps_publish (n ∷ []) core i kept lane seat at there laid some = keeps_publish_first core i n [] kept lane seat at there laid
keeps_publish (n ∷ m ∷ ms) core i kept lane seat at there laid some =
    subst (λ x. IsKept x) (first_then_rest core i n m ms kept lane seat at laid)
    (keeps_publish (m ∷ ms) (after_first core i lane seat n (m ∷ ms)) i (keeps_publish_first core i n (m ∷ ms) kept lane seat at there laid) (first_published seat n (m ∷ ms) lane) (without_packet n seat)
    (get_same core.lanes i lane (first_published seat n (m ∷ ms) lane) at) (get_same core.seats lane.tx_seat seat (without_packet n seat) there) refl (omega arith))

-- a loop that publishes one after another: what is left of it, and where it leads
abbrev pub laid_in : Option LaneState → List ℕ
laid_in None = []
laid_in (Some lane) = lane.laid

pub record PublishesRest (old core : Core) (i count done : ℕ) : Type 0 where
  pub kept : IsKept core
  pub same : next core (Publish i) ≡ next old (Publish i)
  pub left : length (laid_in (slice_get core.lanes i)) + done ≡ count
  pub lanes : length core.lanes ≡ length old.lanes

pub publishes_next : (old core new : Core) (i count done : ℕ) → PublishesRest old core i count done → (lane : LaneState) (seat : SeatState) (n : ℕ) (rest : List ℕ) → slice_get core.lanes i ≡ Some lane → slice_get core.seats lane.tx_seat ≡ Some seat → lane.laid ≡ n ∷ rest →
    new ≡ after_first core i lane seat n rest → PublishesRest old new i count (done + 1)
publishes_next old core new i count done before lane seat n rest at there laid is =
    subst (λ x. PublishesRest old x i count (done + 1)) (sym is)
    (record {
      kept = keeps_publish_first core i n rest before.kept lane seat at there laid;
      same = go rest laid ∙ before.same;
      left = omega (arith, before.left, now, was);
      lanes = omega (arith, before.lanes, length-set core.lanes i (first_published seat n rest lane));
    }) where
      first : (rest : List ℕ) → slice_get (slice_set core.lanes i (first_published seat n rest lane)) i ≡ Some (first_published seat n rest lane)
      first rest = get_same core.lanes i lane (first_published seat n rest lane) at

      was : length (laid_in (slice_get core.lanes i)) ≡ 1 + length rest
      was = rw (at, laid) (omega arith)

      now : length (laid_in (slice_get (slice_set core.lanes i (first_published seat n rest lane)) i)) ≡ length rest
      now = rw (get_same core.lanes i lane (first_published seat n rest lane) at) refl

      go : (rest : List ℕ) → lane.laid ≡ n ∷ rest → next (after_first core i lane seat n rest) (Publish i) ≡ next core (Publish i)
      go [] laid =
          let left : next (after_first core i lane seat n []) (Publish i) ≡ after_first core i lane seat n [] =
          rw (get_same core.lanes i lane (first_published seat n [] lane) at, get_same core.seats lane.tx_seat seat (without_packet n seat) there) refl in
          let right : next core (Publish i) ≡ after_all core i lane seat (n ∷ []) = rw (at, there, laid) refl in
          left ∙ sym right
      go (m ∷ ms) laid =
          let left : next (after_first core i lane seat n (m ∷ ms)) (Publish i) ≡ after_all (after_first core i lane seat n (m ∷ ms)) i (first_published seat n (m ∷ ms) lane) (without_packet n seat) (m ∷ ms) =
          rw (get_same core.lanes i lane (first_published seat n (m ∷ ms) lane) at, get_same core.seats lane.tx_seat seat (without_packet n seat) there) refl in
          let right : next core (Publish i) ≡ after_all core i lane seat (n ∷ m ∷ ms) = rw (at, there, laid) refl in
          left ∙ first_then_rest core i n m ms before.kept lane seat at laid ∙ sym right

pub publishes_first : (old : Core) (i count : ℕ) → IsKept old → (lane : LaneState) → slice_get old.lanes i ≡ Some lane → count ≡ length lane.laid → PublishesRest old old i count 0
publishes_first old i count kept lane at count_is =
    record { kept = kept; same = refl; left = (let here : length (laid_in (slice_get old.lanes i)) ≡ length lane.laid = rw at refl in omega (arith, count_is, here)); lanes = refl }

pub publishes_more : (old core new : Core) (i count done : ℕ) → PublishesRest old core i count done → i < length core.lanes → done < count →
    ((lane : LaneState) (seat : SeatState) (n : ℕ) (rest : List ℕ) → slice_get core.lanes i ≡ Some lane → slice_get core.seats lane.tx_seat ≡ Some seat → lane.laid ≡ n ∷ rest → new ≡ after_first core i lane seat n rest) → PublishesRest old new i count (done + 1)
publishes_more old core new i count done before within more is = go lane.laid refl (omega (arith, more, before.left, here)) where
  lane : LaneState
  lane = get_or core.lanes i (free_lane 0 0)

  at : slice_get core.lanes i ≡ Some (get_or core.lanes i (free_lane 0 0))
  at = slice_get-get_or core.lanes i (free_lane 0 0) within

  here : length (laid_in (slice_get core.lanes i)) ≡ length (get_or core.lanes i (free_lane 0 0)).laid
  here = rw at refl

  go : (ns : List ℕ) → (get_or core.lanes i (free_lane 0 0)).laid ≡ ns → 0 < length ns → PublishesRest old new i count (done + 1)
  go [] laid some = absurd (omega (arith, some))
  go (n ∷ rest) laid some =
      let there = slice_get-get_or core.seats lane.tx_seat (idle_seat 0) (end_in core before.kept i lane Tx at) in
      publishes_next old core new i count done before lane (get_or core.seats lane.tx_seat (idle_seat 0)) n rest at there laid
      (is lane (get_or core.seats lane.tx_seat (idle_seat 0)) n rest at there laid)

-- where nothing is left, it has led there
no_numbers : (ns : List ℕ) → length ns ≡ 0 → ns ≡ []
no_numbers [] e = refl
no_numbers (n ∷ ns) e = absurd (omega (arith, e))

-- the packet in front of what is laid has joined the queue
pub first_done : (core : Core) (i s n number : ℕ) (lane new_lane : LaneState) (seat new_seat : SeatState) (packet : Packet) (rest : List ℕ) → lane.laid ≡ n ∷ rest → slice_get lane.laid 0 ≡ Some number → s ≡ lane.tx_seat → packet ≡ handed_over seat number →
    new_lane ≡ published_some (packet ∷ []) (drop 1 lane.laid) lane → new_seat ≡ without_packet number seat → record { cells = core.cells; lanes = slice_set core.lanes i new_lane; seats = slice_set core.seats s new_seat } ≡ after_first core i lane seat n rest
first_done core i s n number lane new_lane seat new_seat packet rest laid first seat_is packet_is lane_is new_is =
    let number_is : n ≡ number = same_Some n number (sym (ap (λ ns. slice_get ns 0) laid) ∙ first) in
    let rest_is : drop 1 lane.laid ≡ rest = ap (λ ns. drop 1 ns) laid in
    rw (lane_is, new_is, packet_is, ← seat_is, ← number_is, rest_is) refl

pub laid_first : (ns : List ℕ) (n : ℕ) → slice_get ns 0 ≡ Some n → ns ≡ n ∷ drop 1 ns
laid_first [] n e = cc
laid_first (m ∷ ns) n e = ap (λ k. k ∷ ns) (same_Some m n e)

pub published_all : (old core : Core) (i count : ℕ) (lane : LaneState) (seat : SeatState) → PublishesRest old core i count count → slice_get old.lanes i ≡ Some lane → slice_get old.seats lane.tx_seat ≡ Some seat → has_laid lane ≡ true → publish old i ≡ Some core
published_all old core i count lane seat rest at there has =
    let none : length (laid_in (slice_get core.lanes i)) ≡ 0 = omega (arith, rest.left) in
    let stays : next core (Publish i) ≡ core = go (slice_get core.lanes i) refl none in
    let leads : publish old i ≡ Some (after_all old i lane seat lane.laid) = rw (at, there, has) refl in
    let here : next old (Publish i) ≡ after_all old i lane seat lane.laid = ap (λ o. unwrap_or o old) leads in
    leads ∙ ap Some (sym here ∙ sym rest.same ∙ stays) where
      go : (o : Option LaneState) → slice_get core.lanes i ≡ o → length (laid_in o) ≡ 0 → next core (Publish i) ≡ core
      go None is none = rw is refl
      go (Some now) is none =
          let empty : now.laid ≡ [] = no_numbers now.laid none in
          seated (slice_get core.seats now.tx_seat) refl empty where
            seated : (o : Option SeatState) → slice_get core.seats now.tx_seat ≡ o → now.laid ≡ [] → next core (Publish i) ≡ core
            seated None e empty = rw (is, e) refl
            seated (Some seat) e empty = rw (is, e, empty) refl
