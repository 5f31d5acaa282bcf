-- The machine's facts from their parts, and what several events share.
use Rattle.std.proofs.Common.{◌≡◌, ℕ, ◌<◌, ◌≤◌, length, Some, None, IsSome, IsTrue, refl, sym, ◌∙◌, subst, arith, slice_get}
use Rattle.std.specs.List.{All}
use Rattle.std.proofs.lemmas.List.{length-set}
use Rattle.std.proofs.lemmas.List.Elements.{All-set}
use Rattle.sn_core.specs.declared.parts.Packet.{Packet}
use Rattle.sn_core.specs.declared.parts.Cell.{Cell}
use Rattle.sn_core.specs.Lane.{LaneState, laid_count}
use Rattle.sn_core.specs.Seat.{SeatState, most_claimed, turn_of, is_fresh, claims_in, claim_count}
use Rattle.sn_core.specs.Core.{Core, pool, with_lane, with_seat, with_cell}
use Rattle.sn_core.specs.Sound.{turn_at, laid_total, claim_total, LaneIsSound, SeatIsSound, ClaimsAgree}
use Rattle.sn_core.specs.Invariant.{JoinsSeats, IsGiving, GivesFresh, IsKept}
use Rattle.sn_core.proofs.Weights.{weigh-with_lane, lane_weight, All_at, sum_by-written}
use Rattle.sn_core.proofs.Balances.{HandsOver, moves, put_of, stands_after, total_after, turns_after}
use Rattle.sn_core.proofs.Reservations.{Reserved, fresh_some, reserved_lane, nobody_claims, nobody_lays}
use Rattle.sn_core.proofs.Bounds.{seat_at}

pub reserved_of : (core : Core) → IsKept core → Reserved core
reserved_of core kept = record { fresh = kept.unworn.laid; once = kept.sound.laid.once }

-- the facts of each lane and of each seat
pub record LanesKept (core : Core) : Type 0 where
  pub many : length core.lanes ≤ 16
  pub sound : All LaneIsSound core.lanes
  pub ends : All (JoinsSeats (length core.seats)) core.lanes

pub record SeatsKept (core : Core) : Type 0 where
  pub many : length core.seats ≤ 16
  pub sound : All SeatIsSound core.seats
  pub given : All GivesFresh core.seats
  pub tables : All (λ seat. length seat.held ≡ pool core) core.seats

pub kept_from : (old new : Core) (before now : Packet) → IsKept old → HandsOver old new before now → Reserved new → ClaimsAgree new → LanesKept new → SeatsKept new → IsKept new
kept_from old new before now kept hands reserved agree lanes seats =
    record {
      sound = record {
        stands = stands_after old new before now hands kept.sound.stands;
        laid = record {
          held = λ i n lane at some. fresh_some (turn_at new lane.tx_seat n) (reserved.fresh i n lane at some);
          once = reserved.once;
        };
        claims = agree;
        lanes = lanes.sound;
        seats = seats.sound;
        turns = turns_after old new before now hands kept.shape.size kept.shape.total kept.sound.turns;
      };
      shape = record {
        size = omega (arith, kept.shape.size, hands.size);
        lanes = lanes.many;
        seats = seats.many;
        ends = lanes.ends;
        tables = seats.tables;
        total = total_after old new before now hands kept.shape.total;
      };
      unworn = record { laid = reserved.fresh; given = seats.given };
    }

-- lanes after a write, with as many seats
pub lanes_after : (core : Core) (i : ℕ) (lane new : LaneState) → IsKept core → slice_get core.lanes i ≡ Some lane → LaneIsSound new → new.tx_seat ≡ lane.tx_seat → new.rx_seat ≡ lane.rx_seat → LanesKept (with_lane core i new)
lanes_after core i lane new kept at sound tx_is rx_is =
    record {
      many = omega (arith, kept.shape.lanes, length-set core.lanes i new);
      sound = All-set LaneIsSound core.lanes i new sound kept.sound.lanes;
      ends = All-set (JoinsSeats (length core.seats)) core.lanes i new
          (let joins = All_at (JoinsSeats (length core.seats)) core.lanes i lane kept.shape.ends at in
          record { tx = omega (arith, tx_is, joins.tx); rx = omega (arith, rx_is, joins.rx) })
          kept.shape.ends;
    }

pub lanes_same : (core : Core) → IsKept core → LanesKept core
lanes_same core kept = record { many = kept.shape.lanes; sound = kept.sound.lanes; ends = kept.shape.ends }

pub seats_same : (core : Core) → IsKept core → SeatsKept core
seats_same core kept = record { many = kept.shape.seats; sound = kept.sound.seats; given = kept.unworn.given; tables = kept.shape.tables }

-- the same after another write of a seat or a cell
pub lanes_beside_seat : (core : Core) (s : ℕ) (new : SeatState) → LanesKept core → LanesKept (with_seat core s new)
lanes_beside_seat core s new lanes =
    record {
      many = lanes.many;
      sound = lanes.sound;
      ends = subst (λ n. All (JoinsSeats n) core.lanes) (sym (length-set core.seats s new)) lanes.ends;
    }

pub lanes_beside_cell : (core : Core) (c : ℕ) (cell : Cell) → LanesKept core → LanesKept (with_cell core c cell)
lanes_beside_cell core c cell lanes = record { many = lanes.many; sound = lanes.sound; ends = lanes.ends }

pub seats_after : (core : Core) (s : ℕ) (seat new : SeatState) → slice_get core.seats s ≡ Some seat → length new.held ≡ length seat.held → SeatIsSound new → GivesFresh new → SeatsKept core → SeatsKept (with_seat core s new)
seats_after core s seat new there size sound given seats =
    record {
      many = omega (arith, seats.many, length-set core.seats s new);
      sound = All-set SeatIsSound core.seats s new sound seats.sound;
      given = All-set GivesFresh core.seats s new given seats.given;
      tables = All-set (λ x. length x.held ≡ pool core) core.seats s new (size ∙ All_at (λ x. length x.held ≡ pool core) core.seats s seat seats.tables there) seats.tables;
    }

pub seats_beside_lane : (core : Core) (i : ℕ) (new : LaneState) → SeatsKept core → SeatsKept (with_lane core i new)
seats_beside_lane core i new seats = record { many = seats.many; sound = seats.sound; given = seats.given; tables = seats.tables }

pub seats_beside_cell : (core : Core) (c : ℕ) (cell : Cell) → SeatsKept core → SeatsKept (with_cell core c cell)
seats_beside_cell core c cell seats =
    record { many = seats.many; sound = seats.sound; given = seats.given; tables = subst (λ n. All (λ x. length x.held ≡ n) core.seats) (sym (length-set core.cells c cell)) seats.tables }

-- a seat with the same transfer stays sound where it holds what it has claimed as before
pub seat_sound_same : (seat new : SeatState) → SeatIsSound seat → new.pending ≡ seat.pending → new.heard ≤ new.said → ((n : ℕ) → 0 < claim_count n seat → turn_of n new ≡ turn_of n seat) → SeatIsSound new
seat_sound_same seat new sound same heard turns =
    record {
      claims = record {
        some = λ is. subst (λ o. 0 < length (claims_in o)) (sym same) (sound.claims.some (subst (λ o. IsSome o) same is));
        few = subst (λ o. length (claims_in o) ≤ most_claimed) (sym same) sound.claims.few;
        held = λ n some. (let before : 0 < claim_count n seat = subst (λ o. 0 < claim_count n (record seat { pending = o })) same some in
            subst (λ o. IsSome o) (sym (turns n before)) (sound.claims.held n before));
      };
      heard = heard;
    }

pub gives_fresh_same : (seat new : SeatState) → GivesFresh seat → new.pending ≡ seat.pending → ((n : ℕ) → 0 < claim_count n seat → turn_of n new ≡ turn_of n seat) → GivesFresh new
gives_fresh_same seat new given same turns =
    record {
      fresh = λ n gives some. (let before : 0 < claim_count n seat = subst (λ o. 0 < claim_count n (record seat { pending = o })) same some in
          subst (λ o. IsTrue (is_fresh o)) (sym (turns n before)) (given.fresh n (subst (λ o. IsGiving o) same gives) before));
    }

-- every claimed packet stands with the seat that claimed it
pub claims_held : (core : Core) → IsKept core → (a n : ℕ) (other : SeatState) → slice_get core.seats a ≡ Some other → 0 < claim_count n other → IsSome (turn_of n other)
claims_held core kept a n other at some = (seat_at core kept a other at).claims.held n some

-- a packet that no seat holds is laid nowhere and under no claim
pub unlaid_if : (core : Core) (n : ℕ) → IsKept core → ((s : ℕ) (seat : SeatState) → slice_get core.seats s ≡ Some seat → turn_of n seat ≡ None) → laid_total core n ≡ 0
unlaid_if core n kept nobody = nobody_lays core n (reserved_of core kept) nobody

pub unclaimed_if : (core : Core) (n : ℕ) → IsKept core → ((s : ℕ) (seat : SeatState) → slice_get core.seats s ≡ Some seat → turn_of n seat ≡ None) → claim_total core n ≡ 0
unclaimed_if core n kept nobody = nobody_claims core n (λ a other at some. claims_held core kept a n other at some) nobody

-- a lane changes alone, and no packet with it
pub keeps_lane : (core : Core) (i : ℕ) (lane new : LaneState) → IsKept core → slice_get core.lanes i ≡ Some lane → LaneIsSound new → new.tx_seat ≡ lane.tx_seat → new.rx_seat ≡ lane.rx_seat → new.put ≡ lane.put → ((f : Packet → ℕ) → lane_weight f new ≡ lane_weight f lane) → Reserved (with_lane core i new) → IsKept (with_lane core i new)
keeps_lane core i lane new kept at sound tx_is rx_is put_is weight reserved =
    kept_from core (with_lane core i new) (record { number = 0; turn = 0 }) (record { number = 0; turn = 0 }) kept
    (moves core (with_lane core i new) refl
    (λ f. omega (arith, weigh-with_lane f core i lane new at, weight f))
    (omega (arith, sum_by-written put_of core.lanes i lane new at, put_is)))
    reserved kept.sound.claims (lanes_after core i lane new kept at sound tx_is rx_is) (seats_beside_lane core i new (seats_same core kept))

-- a lane changes that has laid no more than before
pub keeps_laid : (core : Core) (i : ℕ) (lane new : LaneState) → IsKept core → slice_get core.lanes i ≡ Some lane → LaneIsSound new → new.tx_seat ≡ lane.tx_seat → new.rx_seat ≡ lane.rx_seat → new.put ≡ lane.put → ((f : Packet → ℕ) → lane_weight f new ≡ lane_weight f lane) → ((n : ℕ) → laid_count n new ≤ laid_count n lane) → IsKept (with_lane core i new)
keeps_laid core i lane new kept at sound tx_is rx_is put_is weight fewer =
    keeps_lane core i lane new kept at sound tx_is rx_is put_is weight (reserved_lane core i lane new at tx_is fewer (reserved_of core kept))
