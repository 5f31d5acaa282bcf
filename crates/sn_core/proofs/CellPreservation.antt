-- Each event on a cell or on a seat alone keeps the machine's facts.
use Rattle.std.proofs.Common.{◌≡◌, ◌≢◌, ℕ, ◌+◌, ◌<◌, ◌≤◌, Bool, true, false, ◌&&◌, Option, List, [], ◌∷◌, ◌++◌, length, map, Some, None, is_none, IsSome, refl, sym, ap, ◌∙◌, subst, arith, slice_get, slice_set, append_assoc, cond, eqb, inl, inr}
use Rattle.std.specs.Prelude.{unwrap_or}
use Rattle.std.specs.List.{sum_by}
use Rattle.std.proofs.lemmas.Bool.{and_parts, cases_eq, eq-eqb, ne_eqb, false≢true}
use Rattle.std.proofs.lemmas.List.{length-set, length_push}
use Rattle.std.proofs.lemmas.List.Sums.{sum_by-cons, sum_by-append}
use Rattle.std.proofs.lemmas.Option.{same_Some, slice_get_past}
use Rattle.sn_core.specs.declared.parts.Packet.{Packet}
use Rattle.sn_core.specs.declared.parts.Cell.{Cell}
use Rattle.sn_core.specs.declared.parts.Cell.TheVariants.{Empty, Busy, Full}
use Rattle.sn_core.specs.declared.parts.Claim.{Claim}
use Rattle.sn_core.specs.declared.parts.Phase.{Phase}
use Rattle.sn_core.specs.declared.parts.Phase.TheVariants.{Taking, Giving}
use Rattle.sn_core.specs.Seat.{SeatState, Transfer, most_claimed, turn_of, is_fresh, with_packet, with_packets, without_packet, handed_over, with_pending, claims_in, claims_of, claim_count, cell_count, is_given_in, joined}
use Rattle.sn_core.specs.Core.{Core, pool, with_seat, with_cell, with_cells, written, is_empty_cell, full_packet, packets_of, paired, may_hand_over}
use Rattle.sn_core.specs.Sound.{laid_total, claim_total, cell_count_in, is_busy, SeatIsSound, ClaimsAgree}
use Rattle.sn_core.specs.Invariant.{IsGiving, GivesFresh, IsKept}
use Rattle.sn_core.proofs.Weights.{weigh-with_cell, weigh-with_seat, cell_weight-full, cell_weight-empty, cell_weight-busy, seat_weight-with_packet, seat_weight-without_packet, same_seat_weight, empty_slot}
use Rattle.sn_core.proofs.Counts.{not_held_in_cell}
use Rattle.sn_core.proofs.Balances.{moves}
use Rattle.sn_core.proofs.Writes.{get_same, get_other, write_twice, turn_of-with_packet, turn_of-without_packet, turn_of-held}
use Rattle.sn_core.proofs.Reservations.{fresh_some, reserved_seat, reserved_cell, agree_seat, agree_cell, unclaimed_total, claim_within}
use Rattle.sn_core.proofs.Bounds.{cell_packet_in, table_is, seat_at, given_at, claimed_busy, claimed_packet, given_fresh, fresh_turn, fresh_held}
use Rattle.sn_core.proofs.LanePreservation.{may_hand_over_fresh, may_hand_over_unlaid}
use Rattle.sn_core.proofs.EnabledEvents.{some_cases}
use Rattle.sn_core.proofs.Preservation.{reserved_of, kept_from, lanes_same, lanes_beside_seat, lanes_beside_cell, seats_after, seats_same, seats_beside_cell, seat_sound_same, gives_fresh_same, claims_held, unlaid_if, unclaimed_if}

-- 1 where the test holds
abbrev one_if : Bool → ℕ
one_if b = cond b 1 0

one_at_most : (b : Bool) → one_if b ≤ 1
one_at_most true = omega arith
one_at_most false = omega arith

-- how many of these claims are of a packet, and of a cell
pub packet_sum : ℕ → List Claim → ℕ
packet_sum n claims = sum_by (λ claim. one_if (eqb claim.packet n)) claims

pub cell_sum : ℕ → List Claim → ℕ
cell_sum c claims = sum_by (λ claim. one_if (eqb claim.cell c)) claims

pub claim_sum : (n : ℕ) (seat : SeatState) (claims : List Claim) → claims_of seat ≡ claims → claim_count n seat ≡ packet_sum n claims
unfolding packet_sum
claim_sum n seat claims is = ap (λ cs. sum_by (λ claim. one_if (eqb claim.packet n)) cs) is

pub cells_sum : (c : ℕ) (seat : SeatState) (claims : List Claim) → claims_of seat ≡ claims → cell_count c seat ≡ cell_sum c claims
unfolding cell_sum
cells_sum c seat claims is = ap (λ cs. sum_by (λ claim. one_if (eqb claim.cell c)) cs) is

packet_sum-none : (n : ℕ) → packet_sum n [] ≡ 0
unfolding packet_sum
packet_sum-none n = refl

packet_sum-more : (n : ℕ) (claims : List Claim) (claim : Claim) → packet_sum n (claims ++ claim ∷ []) ≡ packet_sum n claims + one_if (eqb claim.packet n)
unfolding packet_sum
packet_sum-more n claims claim =
    omega (arith, sum_by-append (λ x. one_if (eqb x.packet n)) claims (claim ∷ []), sum_by-cons (λ x. one_if (eqb x.packet n)) claim [])

cell_sum-more : (c : ℕ) (claims : List Claim) (claim : Claim) → cell_sum c (claims ++ claim ∷ []) ≡ cell_sum c claims + one_if (eqb claim.cell c)
unfolding cell_sum
cell_sum-more c claims claim =
    omega (arith, sum_by-append (λ x. one_if (eqb x.cell c)) claims (claim ∷ []), sum_by-cons (λ x. one_if (eqb x.cell c)) claim [])

packet_sum-first : (n : ℕ) (claim : Claim) (claims : List Claim) → packet_sum n (claim ∷ claims) ≡ one_if (eqb claim.packet n) + packet_sum n claims
unfolding packet_sum
packet_sum-first n claim claims = sum_by-cons (λ x. one_if (eqb x.packet n)) claim claims

cell_sum-first : (c : ℕ) (claim : Claim) (claims : List Claim) → cell_sum c (claim ∷ claims) ≡ one_if (eqb claim.cell c) + cell_sum c claims
unfolding cell_sum
cell_sum-first c claim claims = sum_by-cons (λ x. one_if (eqb x.cell c)) claim claims

-- nobody holds the number past the pool
nobody_holds : (core : Core) → IsKept core → (a : ℕ) (other : SeatState) → slice_get core.seats a ≡ Some other → turn_of (pool core) other ≡ None
nobody_holds core kept a other there = ap joined (slice_get_past other.held (pool core) (omega (arith, table_is core kept a other there)))

-- a claim is added
record AddsClaim (seat new : SeatState) (claim : Claim) : Type 0 where
  packets : (n : ℕ) → claim_count n new ≡ claim_count n seat + one_if (eqb claim.packet n)
  cells : (c : ℕ) → cell_count c new ≡ cell_count c seat + one_if (eqb claim.cell c)

adds : (seat new : SeatState) (before : List Claim) (claim : Claim) → claims_of seat ≡ before → claims_of new ≡ before ++ claim ∷ [] → AddsClaim seat new claim
adds seat new before claim was is =
    record {
      packets = λ n. omega (arith, claim_sum n seat before was, claim_sum n new (before ++ claim ∷ []) is, packet_sum-more n before claim);
      cells = λ c. omega (arith, cells_sum c seat before was, cells_sum c new (before ++ claim ∷ []) is, cell_sum-more c before claim);
    }

-- a packet that is laid or claimed nowhere is claimed once then
once_claimed : (core : Core) → IsKept core → (seat new : SeatState) (claim : Claim) → AddsClaim seat new claim → laid_total core claim.packet ≡ 0 → claim_total core claim.packet ≡ 0 → (n : ℕ) → laid_total core n + claim_total core n + claim_count n new ≤ 1 + claim_count n seat
once_claimed core kept seat new claim more unlaid unclaimed n =
    elim (cases_eq claim.packet n) [
      | inl same ↦ (let laid : laid_total core n ≡ 0 = subst (λ x. laid_total core x ≡ 0) same unlaid in
          let claimed : claim_total core n ≡ 0 = subst (λ x. claim_total core x ≡ 0) same unclaimed in
          omega (arith, more.packets n, one_at_most (eqb claim.packet n), laid, claimed))
      | inr differ ↦ (let none : one_if (eqb claim.packet n) ≡ 0 = ap one_if (ne_eqb claim.packet n differ) in
          omega (arith, more.packets n, none, kept.sound.laid.once n))
    ]

-- the cell of an added claim is busy with the seat
agree_claimed : (core : Core) → IsKept core → (s : ℕ) (seat new : SeatState) (claim : Claim) (cell : Cell) → AddsClaim seat new claim → slice_get core.seats s ≡ Some seat → slice_get core.cells claim.cell ≡ Some cell → ((a : ℕ) → is_busy a (Some cell) ≡ false) → ClaimsAgree (with_seat (with_cell core claim.cell (Busy s)) s new)
agree_claimed core kept s seat new claim cell more there at free =
    agree_cell core s claim.cell seat new cell (Busy s) there at
    (λ d differ. (let none : one_if (eqb claim.cell d) ≡ 0 = ap one_if (ne_eqb claim.cell d (λ e. differ (sym e))) in omega (arith, more.cells d, none)))
    own
    (λ a differ. ne_eqb s a (λ e. differ (sym e)) ∙ sym (free a))
    kept.sound.claims where
      before : cell_count claim.cell seat ≡ 0
      before =
          let agrees = kept.sound.claims claim.cell s in
          let left : cell_count_in claim.cell (slice_get core.seats s) ≡ cell_count claim.cell seat = rw there refl in
          let right : one_if (is_busy s (slice_get core.cells claim.cell)) ≡ 0 = ap (λ o. one_if (is_busy s o)) at ∙ ap one_if (free s) in
          sym left ∙ agrees ∙ right

      own : cell_count claim.cell new ≡ one_if (is_busy s (Some (Busy s)))
      own =
          let one : one_if (eqb claim.cell claim.cell) ≡ 1 = ap one_if (eq-eqb claim.cell claim.cell refl) in
          let busy : one_if (eqb s s) ≡ 1 = ap one_if (eq-eqb s s refl) in
          omega (arith, more.cells claim.cell, before, one, busy)

-- the seat stays sound with one claim more, of a packet that it holds
claims_more : (seat new : SeatState) (before : List Claim) (claim : Claim) → SeatIsSound seat → claims_of seat ≡ before → claims_of new ≡ before ++ claim ∷ [] → length before < most_claimed → new.heard ≤ new.said →
    IsSome (turn_of claim.packet new) → ((n : ℕ) → 0 < claim_count n seat → turn_of n new ≡ turn_of n seat) → SeatIsSound new
claims_more seat new before claim sound was is room heard held turns =
    record {
      claims = record {
        some = λ pends. omega (arith, longer);
        few = omega (arith, longer, room);
        held = λ n some.
            elim (cases_eq claim.packet n) [
              | inl same ↦ subst (λ x. IsSome (turn_of x new)) same held
              | inr differ ↦ (let none : one_if (eqb claim.packet n) ≡ 0 = ap one_if (ne_eqb claim.packet n differ) in
                  let old : 0 < claim_count n seat = omega (arith, some, none, (adds seat new before claim was is).packets n) in
                  subst (λ o. IsSome o) (sym (turns n old)) (sound.claims.held n old))
            ];
      };
      heard = heard;
    } where
      longer : length (claims_of new) ≡ length before + 1
      longer = ap (λ cs. length cs) is ∙ length_push before claim

-- one full cell more is claimed, and its packet moves to the seat
keeps_claim : (core : Core) (s c : ℕ) (before : List Claim) → IsKept core → (seat : SeatState) (packet : Packet) → slice_get core.seats s ≡ Some seat → slice_get core.cells c ≡ Some (Full packet) → claims_of seat ≡ before → length before < most_claimed →
    IsKept (with_seat (with_cell core c (Busy s)) s (with_pending (Some (record { phase = Taking 0; claims = before ++ record { cell = c; packet = packet.number } ∷ [] })) (with_packet packet seat)))
keeps_claim core s c before kept seat packet there at was room =
    kept_from core (with_seat mid s new) (record { number = 0; turn = 0 }) (record { number = 0; turn = 0 }) kept
    (moves core (with_seat mid s new) (length-set core.cells c (Busy s))
    (λ f. omega (arith, weigh-with_cell f core c (Full packet) (Busy s) at, weigh-with_seat f mid s seat new there, cell_weight-full f packet, cell_weight-busy f s, same_seat_weight f (with_packet packet seat) new refl, seat_weight-with_packet f seat packet in_table absent))
    refl)
    (reserved_seat mid s seat new there
    (λ n some. turn_of-with_packet seat packet n (λ e. (let none : laid_total core n ≡ 0 = subst (λ x. laid_total core x ≡ 0) (sym e) unlaid in omega (arith, some, none))))
    (once_claimed core kept seat new claim more unlaid unclaimed)
    (reserved_cell core c (Busy s) (reserved_of core kept)))
    (agree_claimed core kept s seat new claim (Full packet) more there at (λ a. refl))
    (lanes_beside_seat mid s new (lanes_beside_cell core c (Busy s) (lanes_same core kept)))
    (seats_after mid s seat new there (length-set seat.held packet.number (Some packet.turn))
    (claims_more seat new before claim (seat_at core kept s seat there) was refl room (seat_at core kept s seat there).heard (rw now_held refl)
    (λ n some. turn_of-with_packet seat packet n (λ e. (let none : claim_total core n ≡ 0 = subst (λ x. claim_total core x ≡ 0) (sym e) unclaimed in omega (arith, some, none, claim_within core s n seat there)))))
    (record { fresh = λ n gives some. absurd gives })
    (seats_beside_cell core c (Busy s) (seats_same core kept))) where
      claim : Claim
      claim = record { cell = c; packet = packet.number }

      new : SeatState
      new = with_pending (Some (record { phase = Taking 0; claims = before ++ record { cell = c; packet = packet.number } ∷ [] })) (with_packet packet seat)

      mid : Core
      mid = with_cell core c (Busy s)

      more : AddsClaim seat (with_pending (Some (record { phase = Taking 0; claims = before ++ record { cell = c; packet = packet.number } ∷ [] })) (with_packet packet seat)) (record { cell = c; packet = packet.number })
      more = adds seat new before claim was refl

      in_table : packet.number < length seat.held
      in_table = omega (arith, cell_packet_in core kept c packet at, table_is core kept s seat there)

      absent : turn_of packet.number seat ≡ None
      absent = not_held_in_cell core kept.sound.stands c s packet seat at there

      nobody : (a : ℕ) (other : SeatState) → slice_get core.seats a ≡ Some other → turn_of packet.number other ≡ None
      nobody a other there2 = not_held_in_cell core kept.sound.stands c a packet other at there2

      unlaid : laid_total core packet.number ≡ 0
      unlaid = unlaid_if core packet.number kept nobody

      unclaimed : claim_total core packet.number ≡ 0
      unclaimed = unclaimed_if core packet.number kept nobody

      now_held : turn_of packet.number (with_packet packet seat) ≡ Some packet.turn
      now_held = turn_of-held seat packet None (empty_slot seat packet.number in_table absent)

-- the cells of a list differ from one another
not_among : (c d : ℕ) (cs : List ℕ) → ((k : ℕ) → sum_by (λ x. one_if (eqb x k)) (c ∷ d ∷ cs) ≤ 1) → d ≢ c
not_among c d cs once e =
    let first : one_if (eqb c c) ≡ 1 = ap one_if (eq-eqb c c refl) in
    let second : one_if (eqb d c) ≡ 1 = ap one_if (eq-eqb d c e) in
    omega (arith, first, second, once c, sum_by-cons (λ x. one_if (eqb x c)) c (d ∷ cs), sum_by-cons (λ x. one_if (eqb x c)) d cs)

without_second : (c d : ℕ) (cs : List ℕ) → ((k : ℕ) → sum_by (λ x. one_if (eqb x k)) (c ∷ d ∷ cs) ≤ 1) → (k : ℕ) → sum_by (λ x. one_if (eqb x k)) (c ∷ cs) ≤ 1
without_second c d cs once k =
    omega (arith, once k, sum_by-cons (λ x. one_if (eqb x k)) c (d ∷ cs), sum_by-cons (λ x. one_if (eqb x k)) d cs, sum_by-cons (λ x. one_if (eqb x k)) c cs)

without_first : (c : ℕ) (cs : List ℕ) → ((k : ℕ) → sum_by (λ x. one_if (eqb x k)) (c ∷ cs) ≤ 1) → (k : ℕ) → sum_by (λ x. one_if (eqb x k)) cs ≤ 1
without_first c cs once k = omega (arith, once k, sum_by-cons (λ x. one_if (eqb x k)) c cs)

packets_beside : (cells : List Cell) (c : ℕ) (cell : Cell) (cs : List ℕ) (packets : List Packet) → ((k : ℕ) → sum_by (λ x. one_if (eqb x k)) (c ∷ cs) ≤ 1) → packets_of cells cs ≡ Some packets → packets_of (slice_set cells c cell) cs ≡ Some packets
packets_beside cells c cell cs packets once full = same cs once ∙ full where
  same : (ds : List ℕ) → ((k : ℕ) → sum_by (λ x. one_if (eqb x k)) (c ∷ ds) ≤ 1) → packets_of (slice_set cells c cell) ds ≡ packets_of cells ds
  same [] once = refl
  same (d ∷ ds) once = rw (get_other cells c d cell (not_among c d ds once), same ds (without_second c d ds once)) refl

-- the packets of full cells, one after another
first_packet : (cells : List Cell) (c : ℕ) (cs : List ℕ) (packets : List Packet) → packets_of cells (c ∷ cs) ≡ Some packets → (P : List Packet → Type 0) → ((packet : Packet) (rest : List Packet) → slice_get cells c ≡ Some (Full packet) → packets_of cells cs ≡ Some rest → P (packet ∷ rest)) → P packets
first_packet cells c cs packets e P next =
    some_cases (slice_get cells c) _ packets e (P packets) (λ cell at rest.
    some_cases (full_packet cell) _ packets rest (P packets) (λ packet full rest2.
    some_cases (packets_of cells cs) _ packets rest2 (P packets) (λ others others_are rest3.
    subst P (let same : packet ∷ others ≡ packets = same_Some _ _ rest3 in same) (next packet others (at ∙ ap Some (is_full cell packet full)) others_are)))) where
      is_full : (cell : Cell) (packet : Packet) → full_packet cell ≡ Some packet → cell ≡ Full packet
      is_full Empty packet e = cc
      is_full (Busy a) packet e = cc
      is_full (Full other) packet e = cc

-- a transfer that is set last is the one that stays
pending_last : (packets : List Packet) (seat : SeatState) (first last : Option Transfer) → with_pending last (with_packets packets (with_pending first seat)) ≡ with_pending last (with_packets packets seat)
pending_last [] seat first last = refl
pending_last (packet ∷ packets) seat first last = pending_last packets (with_packet packet seat) first last

-- full cells are claimed, beside those that are, and their packets move to the seat
keeps_claims : (cs : List ℕ) (c : ℕ) (before : List Claim) (core : Core) (s : ℕ) → IsKept core → (seat : SeatState) (packets : List Packet) → slice_get core.seats s ≡ Some seat → packets_of core.cells (c ∷ cs) ≡ Some packets → claims_of seat ≡ before → length before + length cs < most_claimed →
    ((k : ℕ) → sum_by (λ x. one_if (eqb x k)) (c ∷ cs) ≤ 1) →
    IsKept (with_seat (with_cells core (c ∷ cs) (Busy s)) s (with_pending (Some (record { phase = Taking 0; claims = before ++ paired (c ∷ cs) packets })) (with_packets packets seat)))
keeps_claims [] c before core s kept seat packets there full was room once =
    first_packet core.cells c [] packets full
    (λ ps. IsKept (with_seat (with_cells core (c ∷ []) (Busy s)) s (with_pending (Some (record { phase = Taking 0; claims = before ++ paired (c ∷ []) ps })) (with_packets ps seat))))
    (λ packet rest at none. subst
    (λ ps. IsKept (with_seat (with_cells core (c ∷ []) (Busy s)) s (with_pending (Some (record { phase = Taking 0; claims = before ++ paired (c ∷ []) (packet ∷ ps) })) (with_packets (packet ∷ ps) seat))))
    (let e : [] ≡ rest = same_Some [] rest none in e)
    (keeps_claim core s c before kept seat packet there at was (omega (arith, room))))
keeps_claims (d ∷ ds) c before core s kept seat packets there full was room once =
    first_packet core.cells c (d ∷ ds) packets full
    (λ ps. IsKept (with_seat (with_cells core (c ∷ d ∷ ds) (Busy s)) s (with_pending (Some (record { phase = Taking 0; claims = before ++ paired (c ∷ d ∷ ds) ps })) (with_packets ps seat))))
    (λ packet rest at others.
    let claim : Claim = record { cell = c; packet = packet.number } in
    let first : SeatState = with_pending (Some (record { phase = Taking 0; claims = before ++ claim ∷ [] })) (with_packet packet seat) in
    let next : Core = with_seat (with_cell core c (Busy s)) s first in
    let kept_next : IsKept next = keeps_claim core s c before kept seat packet there at was (omega (arith, room)) in
    let whole : IsKept (with_seat (with_cells next (d ∷ ds) (Busy s)) s (with_pending (Some (record { phase = Taking 0; claims = (before ++ claim ∷ []) ++ paired (d ∷ ds) rest })) (with_packets rest first))) =
    keeps_claims ds d (before ++ claim ∷ []) next s kept_next first rest (get_same core.seats s seat first there)
    (packets_beside core.cells c (Busy s) (d ∷ ds) rest once others) refl (omega (arith, room, length_push before claim)) (without_first c (d ∷ ds) once) in
    subst (λ x. IsKept (record { cells = written core.cells (c ∷ d ∷ ds) (Busy s); lanes = core.lanes; seats = x }))
    (write_twice core.seats s first (with_pending (Some (record { phase = Taking 0; claims = (before ++ claim ∷ []) ++ paired (d ∷ ds) rest })) (with_packets rest first))
    ∙ ap (λ x. slice_set core.seats s x) (pending_last rest (with_packet packet seat) (Some (record { phase = Taking 0; claims = before ++ claim ∷ [] })) (Some (record { phase = Taking 0; claims = (before ++ claim ∷ []) ++ paired (d ∷ ds) rest })))
    ∙ ap (λ cs. slice_set core.seats s (with_pending (Some (record { phase = Taking 0; claims = cs })) (with_packets rest (with_packet packet seat)))) (append_assoc before (claim ∷ []) (paired (d ∷ ds) rest)))
    whole)

idle_is : (o : Option Transfer) → is_none o ≡ true → claims_in o ≡ []
idle_is None e = refl
idle_is (Some transfer) e = cc

pub keeps_take_claim : (core : Core) (s c : ℕ) → IsKept core → (seat : SeatState) (packets : List Packet) → slice_get core.seats s ≡ Some seat → packets_of core.cells (c ∷ []) ≡ Some packets → is_none seat.pending ≡ true →
    IsKept (with_seat (with_cells core (c ∷ []) (Busy s)) s (with_pending (Some (record { phase = Taking 0; claims = paired (c ∷ []) packets })) (with_packets packets seat)))
keeps_take_claim core s c kept seat packets there full idle =
    keeps_claims [] c [] core s kept seat packets there full (idle_is seat.pending idle) (omega arith)
    (λ k. omega (arith, sum_by-cons (λ x. one_if (eqb x k)) c [], one_at_most (eqb c k)))

-- a seat changes alone: it holds the same packets, and has claimed the same cells
pub keeps_seat : (core : Core) (s : ℕ) → IsKept core → (seat new : SeatState) → slice_get core.seats s ≡ Some seat → new.held ≡ seat.held → claims_of new ≡ claims_of seat → SeatIsSound new → GivesFresh new → IsKept (with_seat core s new)
keeps_seat core s kept seat new there held same sound given =
    kept_from core (with_seat core s new) (record { number = 0; turn = 0 }) (record { number = 0; turn = 0 }) kept
    (moves core (with_seat core s new) refl (λ f. omega (arith, weigh-with_seat f core s seat new there, same_seat_weight f seat new held)) refl)
    (reserved_seat core s seat new there
    (λ n some. ap (λ h. joined (slice_get h n)) held)
    (λ n. omega (arith, kept.sound.laid.once n, claim_sum n new (claims_of seat) same, claim_sum n seat (claims_of seat) refl))
    (reserved_of core kept))
    (agree_seat core s seat new there (λ c. cells_sum c new (claims_of seat) same ∙ sym (cells_sum c seat (claims_of seat) refl)) kept.sound.claims)
    (lanes_beside_seat core s new (lanes_same core kept))
    (seats_after core s seat new there (ap (λ h. length h) held) sound given (seats_same core kept))

-- a number is said, or heard
pub keeps_numbers : (core : Core) (s heard said : ℕ) → IsKept core → (seat : SeatState) → slice_get core.seats s ≡ Some seat → heard ≤ said → IsKept (with_seat core s (record seat { heard = heard; said = said }))
keeps_numbers core s heard said kept seat there le =
    let new = record seat { heard = heard; said = said } in
    keeps_seat core s kept seat new there refl refl
    (seat_sound_same seat new (seat_at core kept s seat there) refl le (λ n some. refl))
    (gives_fresh_same seat new (given_at core kept s seat there) refl (λ n some. refl))

-- a transfer goes on to another phase
pub keeps_phase : (core : Core) (s : ℕ) (pending : Option Transfer) → IsKept core → (seat : SeatState) → slice_get core.seats s ≡ Some seat → claims_in pending ≡ claims_of seat → (IsSome pending → IsSome seat.pending) → (IsGiving pending → IsGiving seat.pending) → IsKept (with_seat core s (with_pending pending seat))
keeps_phase core s pending kept seat there same some gives =
    let sound = seat_at core kept s seat there in
    let new = with_pending pending seat in
    let count : (n : ℕ) → claim_count n new ≡ claim_count n seat = λ n. claim_sum n new (claims_of seat) same ∙ sym (claim_sum n seat (claims_of seat) refl) in
    keeps_seat core s kept seat new there refl same
    (record {
      claims = record {
        some = λ is. subst (λ cs. 0 < length cs) (sym same) (sound.claims.some (some is));
        few = subst (λ cs. length cs ≤ most_claimed) (sym same) sound.claims.few;
        held = λ n is. sound.claims.held n (omega (arith, is, count n));
      };
      heard = sound.heard;
    })
    (record { fresh = λ n is more. (given_at core kept s seat there).fresh n (gives is) (omega (arith, more, count n)) })

-- the first claim of a seat is done
record EndsClaim (seat new : SeatState) (claim : Claim) : Type 0 where
  packets : (n : ℕ) → claim_count n seat ≡ one_if (eqb claim.packet n) + claim_count n new
  cells : (c : ℕ) → cell_count c seat ≡ one_if (eqb claim.cell c) + cell_count c new

ends : (seat new : SeatState) (claim : Claim) (rest : List Claim) → claims_of seat ≡ claim ∷ rest → claims_of new ≡ rest → EndsClaim seat new claim
ends seat new claim rest was is =
    record {
      packets = λ n. omega (arith, claim_sum n seat (claim ∷ rest) was, claim_sum n new rest is, packet_sum-first n claim rest);
      cells = λ c. omega (arith, cells_sum c seat (claim ∷ rest) was, cells_sum c new rest is, cell_sum-first c claim rest);
    }

cell_once : (core : Core) → IsKept core → (s : ℕ) (seat : SeatState) (c : ℕ) → slice_get core.seats s ≡ Some seat → 0 < cell_count c seat → (cell_count c seat ≡ 1) × (slice_get core.cells c ≡ Some (Busy s))
cell_once core kept s seat c there some = go (slice_get core.cells c) (sym left ∙ kept.sound.claims c s) where
  left : cell_count_in c (slice_get core.seats s) ≡ cell_count c seat
  left = rw there refl

  go : (o : Option Cell) → cell_count c seat ≡ one_if (is_busy s o) → (cell_count c seat ≡ 1) × (o ≡ Some (Busy s))
  go None e = absurd (omega (arith, some, e))
  go (Some Empty) e = absurd (omega (arith, some, e))
  go (Some (Full packet)) e = absurd (omega (arith, some, e))
  go (Some (Busy a)) e =
      elim (cases_eq a s) [
        | inl same ↦ (let one : one_if (eqb a s) ≡ 1 = ap one_if (eq-eqb a s same) in (e ∙ one, ap (λ x. Some (Busy x)) same))
        | inr differ ↦ (let none : one_if (eqb a s) ≡ 0 = ap one_if (ne_eqb a s differ) in absurd (omega (arith, some, e, none)))
      ]

agree_ended : (core : Core) → IsKept core → (s : ℕ) (seat new : SeatState) (claim : Claim) (now : Cell) → EndsClaim seat new claim → slice_get core.seats s ≡ Some seat → ((a : ℕ) → is_busy a (Some now) ≡ false) → ClaimsAgree (with_seat (with_cell core claim.cell now) s new)
agree_ended core kept s seat new claim now fewer there free =
    agree_cell core s claim.cell seat new (Busy s) now there was.1
    (λ d differ. (let none : one_if (eqb claim.cell d) ≡ 0 = ap one_if (ne_eqb claim.cell d (λ e. differ (sym e))) in omega (arith, fewer.cells d, none)))
    (let none : one_if (is_busy s (Some now)) ≡ 0 = ap one_if (free s) in omega (arith, fewer.cells claim.cell, here, was.0, none))
    (λ a differ. free a ∙ sym (ne_eqb s a (λ e. differ (sym e))))
    kept.sound.claims where
      here : one_if (eqb claim.cell claim.cell) ≡ 1
      here = ap one_if (eq-eqb claim.cell claim.cell refl)

      was : (cell_count claim.cell seat ≡ 1) × (slice_get core.cells claim.cell ≡ Some (Busy s))
      was = cell_once core kept s seat claim.cell there (omega (arith, fewer.cells claim.cell, here))

-- one claimed cell is empty again
keeps_emptied : (core : Core) (s : ℕ) → IsKept core → (seat : SeatState) (claim : Claim) (rest : List Claim) (pending : Option Transfer) → slice_get core.seats s ≡ Some seat → claims_of seat ≡ claim ∷ rest → claims_in pending ≡ rest → (IsSome pending → 0 < length rest) → (IsGiving pending → IsGiving seat.pending) →
    IsKept (with_seat (with_cell core claim.cell Empty) s (with_pending pending seat))
keeps_emptied core s kept seat claim rest pending there was is some gives =
    kept_from core (with_seat mid s new) (record { number = 0; turn = 0 }) (record { number = 0; turn = 0 }) kept
    (moves core (with_seat mid s new) (length-set core.cells claim.cell Empty)
    (λ f. omega (arith, weigh-with_cell f core claim.cell (Busy s) Empty busy, weigh-with_seat f mid s seat new there, cell_weight-busy f s, cell_weight-empty f, same_seat_weight f seat new refl))
    refl)
    (reserved_seat mid s seat new there (λ n more. refl) (λ n. omega (arith, fewer.packets n, kept.sound.laid.once n)) (reserved_cell core claim.cell Empty (reserved_of core kept)))
    (agree_ended core kept s seat new claim Empty fewer there (λ a. refl))
    (lanes_beside_seat mid s new (lanes_beside_cell core claim.cell Empty (lanes_same core kept)))
    (seats_after mid s seat new there refl
    (record {
      claims = record {
        some = λ pends. subst (λ cs. 0 < length cs) (sym is) (some pends);
        few = omega (arith, sound.claims.few, length_is);
        held = λ n more. sound.claims.held n (omega (arith, more, fewer.packets n));
      };
      heard = sound.heard;
    })
    (record { fresh = λ n giving more. (given_at core kept s seat there).fresh n (gives giving) (omega (arith, more, fewer.packets n)) })
    (seats_beside_cell core claim.cell Empty (seats_same core kept))) where
      new : SeatState
      new = with_pending pending seat

      mid : Core
      mid = with_cell core claim.cell Empty

      sound : SeatIsSound seat
      sound = seat_at core kept s seat there

      fewer : EndsClaim seat (with_pending pending seat) claim
      fewer = ends seat (with_pending pending seat) claim rest was is

      length_is : length (claims_of seat) ≡ 1 + length (claims_in pending)
      length_is = ap {B = ℕ} (λ cs. length cs) was ∙ (let same : length (claims_in pending) ≡ length rest = ap (λ cs. length cs) is in omega (arith, same))

      here : one_if (eqb claim.cell claim.cell) ≡ 1
      here = ap one_if (eq-eqb claim.cell claim.cell refl)

      busy : slice_get core.cells claim.cell ≡ Some (Busy s)
      busy = (cell_once core kept s seat claim.cell there (omega (arith, (ends seat (with_pending pending seat) claim rest was is).cells claim.cell, here))).1

abbrev cells_of : List Claim → List ℕ
cells_of claims = map (λ claim. claim.cell) claims

-- all claimed cells are empty again, and the transfer is done
pub keeps_take_done : (rest : List Claim) (claim : Claim) (core : Core) (s : ℕ) (phase : Phase) → IsKept core → (seat : SeatState) → slice_get core.seats s ≡ Some seat → seat.pending ≡ Some (record { phase = phase; claims = claim ∷ rest }) →
    IsKept (with_seat (with_cells core (cells_of (claim ∷ rest)) Empty) s (with_pending None seat))
keeps_take_done [] claim core s phase kept seat there pending =
    keeps_emptied core s kept seat claim [] None there (ap (λ o. claims_in o) pending) refl (λ is. absurd (false≢true is)) (λ g. absurd g)
keeps_take_done (other ∷ rest) claim core s phase kept seat there pending =
    subst (λ x. IsKept (record { cells = written core.cells (cells_of (claim ∷ other ∷ rest)) Empty; lanes = core.lanes; seats = x }))
    (write_twice core.seats s next (with_pending None next))
    (keeps_take_done rest other (with_seat (with_cell core claim.cell Empty) s next) s phase kept_next next (get_same core.seats s seat next there) refl) where
      next : SeatState
      next = with_pending (Some (record { phase = phase; claims = other ∷ rest })) seat

      kept_next : IsKept (with_seat (with_cell core claim.cell Empty) s (with_pending (Some (record { phase = phase; claims = other ∷ rest })) seat))
      kept_next =
          keeps_emptied core s kept seat claim (other ∷ rest) (Some (record { phase = phase; claims = other ∷ rest })) there (ap (λ o. claims_in o) pending) refl (λ is. omega arith)
          (λ g. subst (λ o. IsGiving o) (sym pending) g)

-- an empty cell is claimed for a packet that the seat holds
pub keeps_give_claim : (core : Core) (s c n : ℕ) → IsKept core → (seat : SeatState) (cell : Cell) → slice_get core.seats s ≡ Some seat → slice_get core.cells c ≡ Some cell → (is_empty_cell cell && is_none seat.pending && may_hand_over core n seat) ≡ true →
    IsKept (with_seat (with_cell core c (Busy s)) s (with_pending (Some (record { phase = Giving; claims = record { cell = c; packet = n } ∷ [] })) seat))
keeps_give_claim core s c n kept seat cell there at may =
    kept_from core (with_seat mid s new) (record { number = 0; turn = 0 }) (record { number = 0; turn = 0 }) kept
    (moves core (with_seat mid s new) (length-set core.cells c (Busy s))
    (λ f. omega (arith, weigh-with_cell f core c Empty (Busy s) empty_at, weigh-with_seat f mid s seat new there, cell_weight-busy f s, cell_weight-empty f, same_seat_weight f seat new refl))
    refl)
    (reserved_seat mid s seat new there (λ m some. refl)
    (once_claimed core kept seat new claim more (may_hand_over_unlaid core n seat parts.1) unclaimed)
    (reserved_cell core c (Busy s) (reserved_of core kept)))
    (agree_claimed core kept s seat new claim Empty more there empty_at (λ a. refl))
    (lanes_beside_seat mid s new (lanes_beside_cell core c (Busy s) (lanes_same core kept)))
    (seats_after mid s seat new there refl
    (claims_more seat new [] claim (seat_at core kept s seat there) idle refl (omega arith) (seat_at core kept s seat there).heard (fresh_some (turn_of n seat) fresh) (λ m some. refl))
    (record {
      fresh = λ m giving some.
          elim (cases_eq n m) [
            | inl same ↦ subst (λ x. is_fresh (turn_of x seat) ≡ true) same fresh
            | inr differ ↦ (let none : one_if (eqb n m) ≡ 0 = ap one_if (ne_eqb n m differ) in absurd (omega (arith, some, none, more.packets m, claim_sum m seat [] idle, packet_sum-none m)))
          ];
    })
    (seats_beside_cell core c (Busy s) (seats_same core kept))) where
      claim : Claim
      claim = record { cell = c; packet = n }

      new : SeatState
      new = with_pending (Some (record { phase = Giving; claims = record { cell = c; packet = n } ∷ [] })) seat

      mid : Core
      mid = with_cell core c (Busy s)

      parts : ((is_empty_cell cell && is_none seat.pending) ≡ true) × (may_hand_over core n seat ≡ true)
      parts = and_parts (is_empty_cell cell && is_none seat.pending) (may_hand_over core n seat) may

      both : (is_empty_cell cell ≡ true) × (is_none seat.pending ≡ true)
      both = and_parts (is_empty_cell cell) (is_none seat.pending) parts.0

      fresh : is_fresh (turn_of n seat) ≡ true
      fresh = may_hand_over_fresh core n seat parts.1

      idle : claims_of seat ≡ []
      idle = idle_is seat.pending both.1

      is_empty : (x : Cell) → is_empty_cell x ≡ true → x ≡ Empty
      is_empty Empty e = refl
      is_empty (Busy a) e = cc
      is_empty (Full packet) e = cc

      empty_at : slice_get core.cells c ≡ Some Empty
      empty_at = at ∙ ap Some (is_empty cell both.0)

      more : AddsClaim seat (with_pending (Some (record { phase = Giving; claims = record { cell = c; packet = n } ∷ [] })) seat) (record { cell = c; packet = n })
      more = adds seat new [] claim idle refl

      unclaimed : claim_total core n ≡ 0
      unclaimed =
          unclaimed_total core s n seat kept.sound.stands (λ a other there2 some. claims_held core kept a n other there2 some) there (fresh_some (turn_of n seat) fresh)
          (claim_sum n seat [] idle ∙ packet_sum-none n)

-- the packet of the giving moves to the cell, handed over
pub keeps_give_done : (core : Core) (s : ℕ) → IsKept core → (seat : SeatState) (claim : Claim) → slice_get core.seats s ≡ Some seat → claims_of seat ≡ claim ∷ [] → is_given_in seat ≡ true →
    IsKept (with_seat (with_cell core claim.cell (Full (handed_over seat claim.packet))) s (with_pending None (without_packet claim.packet seat)))
keeps_give_done core s kept seat claim there one given =
    kept_from core (with_seat mid s new) (record { number = claim.packet; turn = unwrap_or (turn_of claim.packet seat) 0 }) (handed_over seat claim.packet) kept
    (record {
      size = length-set core.cells claim.cell full;
      weight = λ f. omega (arith, weigh-with_cell f core claim.cell (Busy s) full busy, weigh-with_seat f mid s seat new there, cell_weight-busy f s, cell_weight-full f (handed_over seat claim.packet), same_seat_weight f (without_packet claim.packet seat) new refl, seat_weight-without_packet f seat claim.packet (unwrap_or (turn_of claim.packet seat) 0) held);
      same = refl;
      bound = omega (arith, fresh_turn (turn_of claim.packet seat) fresh);
      puts = omega arith;
    })
    (reserved_seat mid s seat new there
    (λ n some. turn_of-without_packet seat claim.packet n (λ e. (let claimed : claim_count n seat ≡ 1 = subst (λ x. claim_count x seat ≡ 1) (sym e) (claimed_packet seat claim one) in
    omega (arith, some, claimed, kept.sound.laid.once n, claim_within core s n seat there))))
    (λ n. omega (arith, fewer.packets n, kept.sound.laid.once n))
    (reserved_cell core claim.cell full (reserved_of core kept)))
    (agree_ended core kept s seat new claim full fewer there (λ a. refl))
    (lanes_beside_seat mid s new (lanes_beside_cell core claim.cell full (lanes_same core kept)))
    (seats_after mid s seat new there (length-set seat.held claim.packet None)
    (record {
      claims = record {
        some = λ pends. absurd (false≢true pends);
        few = omega arith;
        held = λ n some. absurd (omega (arith, some, claim_sum n new [] refl, packet_sum-none n));
      };
      heard = (seat_at core kept s seat there).heard;
    })
    (record { fresh = λ n giving some. absurd giving })
    (seats_beside_cell core claim.cell full (seats_same core kept))) where
      full : Cell
      full = Full (handed_over seat claim.packet)

      new : SeatState
      new = with_pending None (without_packet claim.packet seat)

      mid : Core
      mid = with_cell core claim.cell (Full (handed_over seat claim.packet))

      fewer : EndsClaim seat (with_pending None (without_packet claim.packet seat)) claim
      fewer = ends seat (with_pending None (without_packet claim.packet seat)) claim [] one refl

      busy : slice_get core.cells claim.cell ≡ Some (Busy s)
      busy = claimed_busy core kept s seat claim there one

      fresh : is_fresh (turn_of claim.packet seat) ≡ true
      fresh = given_fresh core kept s seat claim there one given

      held : turn_of claim.packet seat ≡ Some (unwrap_or (turn_of claim.packet seat) 0)
      held = fresh_held (turn_of claim.packet seat) (given_fresh core kept s seat claim there one given)
