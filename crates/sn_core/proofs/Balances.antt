-- Packets that move, and one that is handed over: what stands once still does, and turns still bound every position.
use Rattle.std.proofs.Common.{◌≡◌, ℕ, ◌+◌, ◌*◌, ◌≤◌, List, [], ◌∷◌, length, refl, ap, arith, cond, eqb, ltb, inl, inr}
use Rattle.std.specs.List.{sum_by, All}
use Rattle.std.proofs.lemmas.Bool.{le-ltb, lt-ltb, cases_lt}
use Rattle.std.proofs.lemmas.List.Sums.{sum_by-cons, sum_by-le, get_or-le-sum_by}
use Rattle.std.proofs.lemmas.List.Elements.{All-nil, All-cons, All-head, All-tail}
use Rattle.sn_core.specs.declared.parts.Packet.{Packet}
use Rattle.sn_core.specs.Lane.{LaneState}
use Rattle.sn_core.specs.Seat.{highest_turn}
use Rattle.sn_core.specs.Core.{Core, pool, standing}
use Rattle.sn_core.specs.Sound.{StandsOnce, TurnsBound, count_of}
use Rattle.sn_core.proofs.Weights.{weigh, weigh_of}
use Rattle.sn_core.proofs.Counts.{is_one, count_is}

abbrev pub put_of : LaneState → ℕ
put_of lane = lane.put

abbrev pub turn_number : Packet → ℕ
turn_number packet = packet.turn

-- one packet stands at another turn, which is bounded; positions rise by no more than turns
pub record HandsOver (old new : Core) (before now : Packet) : Type 0 where
  pub size : pool new ≡ pool old
  pub weight : (f : Packet → ℕ) → weigh f new + f before ≡ weigh f old + f now
  pub same : before.number ≡ now.number
  pub bound : now.turn ≤ highest_turn
  pub puts : sum_by put_of new.lanes + before.turn ≤ sum_by put_of old.lanes + now.turn

-- packets only move
pub moves : (old new : Core) → pool new ≡ pool old → ((f : Packet → ℕ) → weigh f new ≡ weigh f old) → sum_by put_of new.lanes ≡ sum_by put_of old.lanes → HandsOver old new (record { number = 0; turn = 0 }) (record { number = 0; turn = 0 })
moves old new size weight puts =
    record {
      size = size;
      weight = λ f. ap (λ x. x + f (record { number = 0; turn = 0 })) (weight f);
      same = refl;
      bound = omega arith;
      puts = omega arith;
    }

-- 1 for a packet whose turn is too high
abbrev pub too_high : Packet → ℕ
too_high packet = cond (ltb highest_turn packet.turn) 1 0

pub not_too_high : (packet : Packet) → packet.turn ≤ highest_turn → too_high packet ≡ 0
not_too_high packet le = ap (λ b. cond b 1 0) (le-ltb highest_turn packet.turn le)

bounded : (packet : Packet) → too_high packet ≡ 0 → packet.turn ≤ highest_turn
bounded packet zero_is =
    elim (cases_lt highest_turn packet.turn) [
      | inl lt ↦ (let one : too_high packet ≡ 1 = ap (λ b. cond b 1 0) (lt-ltb highest_turn packet.turn lt) in omega (arith, one, zero_is))
      | inr ge ↦ ge
    ]

abbrev pub IsBounded : Packet → Type 0
IsBounded packet = packet.turn ≤ highest_turn

none_too_high : (xs : List Packet) → All IsBounded xs → sum_by too_high xs ≡ 0
none_too_high [] all = refl
none_too_high (x ∷ xs) all =
    omega (arith, sum_by-cons too_high x xs, not_too_high x (All-head IsBounded x xs all), none_too_high xs (All-tail IsBounded x xs all))

pub all_bounded : (xs : List Packet) → sum_by too_high xs ≡ 0 → All IsBounded xs
all_bounded [] e = All-nil IsBounded
all_bounded (x ∷ xs) e =
    let here : too_high x ≡ 0 = omega (arith, sum_by-cons too_high x xs) in
    let rest : sum_by too_high xs ≡ 0 = omega (arith, sum_by-cons too_high x xs) in
    All-cons IsBounded x xs (bounded x here) (all_bounded xs rest)

pub length_is : {X : Type 0} (xs : List X) → length xs ≡ sum_by (λ x. 1) xs
length_is [] = refl
length_is (x ∷ xs) = omega (arith, sum_by-cons (λ y. 1) x xs, length_is xs)

pub stands_after : (old new : Core) (before now : Packet) → HandsOver old new before now → StandsOnce old → StandsOnce new
stands_after old new before now h stands =
    record {
      within = λ n lt. omega (arith, same_count n, stands.within n (omega (arith, h.size)));
      beyond = λ n ge. omega (arith, same_count n, stands.beyond n (omega (arith, h.size)));
    } where
      same_count : (n : ℕ) → count_of n (standing new) ≡ count_of n (standing old)
      same_count n =
          let same : is_one n before ≡ is_one n now = ap (λ k. cond (eqb k n) 1 0) h.same in
          omega (arith, count_is new n, count_is old n, h.weight (is_one n), same)

pub total_after : (old new : Core) (before now : Packet) → HandsOver old new before now → length (standing old) ≡ pool old → length (standing new) ≡ pool new
total_after old new before now h total =
    omega (arith, h.weight (λ packet. 1), weigh_of (λ packet. 1) old, weigh_of (λ packet. 1) new, length_is (standing old), length_is (standing new), h.size)

pub turns_after : (old new : Core) (before now : Packet) → HandsOver old new before now → pool old ≤ 16384 → length (standing old) ≡ pool old → TurnsBound old → TurnsBound new
turns_after old new before now h size total bound =
    record {
      turns = turns_new;
      positions = positions_new;
      below = λ k d lt. omega (arith, get_or-le-sum_by put_of new.lanes k d lt, positions_new, most, length_new, h.size);
    } where
      turns_new : All IsBounded (standing new)
      turns_new =
          all_bounded (standing new)
          (omega (arith, h.weight too_high, weigh_of too_high old, weigh_of too_high new, none_too_high (standing old) bound.turns, not_too_high now h.bound))

      positions_new : sum_by put_of new.lanes ≤ sum_by turn_number (standing new)
      positions_new =
          omega (arith, h.puts, bound.positions, h.weight turn_number, weigh_of turn_number old, weigh_of turn_number new)

      length_new : length (standing new) ≡ pool new
      length_new = total_after old new before now h total

      most : sum_by turn_number (standing new) ≤ length (standing new) * highest_turn
      most = sum_by-le turn_number highest_turn (standing new) turns_new
