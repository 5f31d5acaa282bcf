-- One interlink more is laid.
use Rattle.std.proofs.Common.{◌≡◌, ℕ, suc, ◌+◌, ◌<◌, ◌==◌, Bool, cond, List, [], ◌∷◌, ◌++◌, length, get_or, set, map}
use Rattle.std.proofs.Common.{sym, ap, ◌∙◌, inl, inr, arith, append-nil, append_assoc}
use Rattle.std.proofs.Math.Seq.{map-set_same}
use Rattle.std.proofs.lemmas.Bool.Decides.{eqb_tells}
use Rattle.std.proofs.lemmas.Grind.{get_or-set_at}
use Rattle.std.proofs.lemmas.List.{get_or-set_other, length-append, length-map, map-set}
use Rattle.sn_core.specs.declared.events.Side.{Side}
use Rattle.sn_core.specs.declared.events.Side.TheVariants.{Rx, Tx}
use Rattle.sn_interlink.specs.Ends.{LaneEnd, LaneId, new_lane_end}
use Rattle.sn_scenario.specs.declared.lane.Lane.{Lane}
use Rattle.sn_seat.specs.declared.ends.Ends.{Ends}
use Rattle.sn_sharing.proofs.Lists.{column_at, read_there}
use Rattle.sn_sharing.specs.Bonds.{worker_on}
use Rattle.sn_sharing.specs.Laying.{AddsLane, AreLaid, ends_at, new_ends, rxs, txs}

-- WHERE A WORKER GETS AN END

-- its list has one end more, and the other workers' stay
pub end_more : (f : Ends → List (ℕ × LaneEnd)) (all : List Ends) (worker : ℕ) (old new : Ends) (x : ℕ × LaneEnd)
    → worker < length all → old ≡ get_or all worker old → f new ≡ f old ++ x ∷ []
    → map f (set all worker new) ≡ set (map f all) worker (get_or (map f all) worker [] ++ x ∷ [])
end_more f all worker old new x within read more =
    map-set f all worker new
    ∙ ap (set (map f all) worker)
    (more ∙ ap (λ l. l ++ x ∷ []) (sym (column_at f all worker old [] (read_there all worker old within read))))

-- its lists on the other side stay
pub end_same : (f : Ends → List (ℕ × LaneEnd)) (all : List Ends) (worker : ℕ) (old new : Ends) → old ≡ get_or all worker old
    → f new ≡ f old → map f (set all worker new) ≡ map f all
end_same f all worker old new read same = map-set_same f all worker new old (same ∙ ap f read)

-- ONE INTERLINK MORE

regrouped : (b : Bool) (x y : ℕ × LaneEnd) (rest more : List (ℕ × LaneEnd)) (c : Bool)
    → cond b (x ∷ []) [] ++ (rest ++ cond c (y ∷ []) []) ≡ (cond b (x ∷ []) [] ++ rest) ++ cond c (y ∷ []) []
regrouped b x y rest more c = sym (append_assoc (cond b (x ∷ []) []) rest (cond c (y ∷ []) []))

pub ends_more : (side : Side) (worker from : ℕ) (lanes : List Lane) (ids : List LaneId) (lane : Lane) (id : LaneId)
    → length ids ≡ length lanes
    → new_ends side worker from (lanes ++ lane ∷ []) (ids ++ id ∷ [])
    ≡ new_ends side worker from lanes ids
    ++ cond (worker_on side lane == worker) ((from + length ids, new_lane_end id side) ∷ []) []
ends_more side worker from [] [] lane id e =
    let here : from ≡ from + 0 = omega arith in
    append-nil (cond (worker_on side lane == worker) ((from, new_lane_end id side) ∷ []) [])
    ∙ ap (λ n. cond {A = List (ℕ × LaneEnd)} (worker_on side lane == worker) ((n, new_lane_end id side) ∷ []) []) here
ends_more side worker from [] (i ∷ ids) lane id e = absurd (omega (arith, e))
ends_more side worker from (l ∷ lanes) [] lane id e = absurd (omega (arith, e))
ends_more side worker from (l ∷ lanes) (i ∷ ids) lane id e =
    let next : (from + 1) + length ids ≡ from + suc (length ids) = omega arith in
    let x : ℕ × LaneEnd = (from, new_lane_end i side) in
    let y : ℕ × LaneEnd = (from + suc (length ids), new_lane_end id side) in
    let rest = new_ends side worker (from + 1) lanes ids in
    ap (λ r. cond (worker_on side l == worker) (x ∷ []) [] ++ r)
    (ends_more side worker (from + 1) lanes ids lane id (omega (arith, e))
    ∙ ap (λ n. rest ++ cond {A = List (ℕ × LaneEnd)} (worker_on side lane == worker) ((n, new_lane_end id side) ∷ []) []) next)
    ∙ regrouped (worker_on side l == worker) x y rest rest (worker_on side lane == worker)

-- each worker's ends on a side with one interlink more
pub side_more : (side : Side) (worker : ℕ) (lanes : List Lane) (ids : List LaneId) (lane : Lane) (id : LaneId)
    (xs new : List (List (ℕ × LaneEnd))) → length ids ≡ length lanes → worker_on side lane < length xs
    → new ≡ set xs (worker_on side lane) (ends_at xs (worker_on side lane) ++ (length ids, new_lane_end id side) ∷ [])
    → ends_at xs worker ≡ new_ends side worker 0 lanes ids
    → ends_at new worker ≡ new_ends side worker 0 (lanes ++ lane ∷ []) (ids ++ id ∷ [])
side_more side worker lanes ids lane id xs new e within set_is so_far =
    elim (eqb_tells (worker_on side lane) worker) [
      | inl same ↦
          ap (λ l. ends_at l worker) set_is
          ∙ (get_or-set_at xs (worker_on side lane) worker (ends_at xs (worker_on side lane) ++ x ∷ []) [] (sym same.1) within
          ∙ (ap (λ w. ends_at xs w ++ x ∷ []) same.1
          ∙ (ap (λ l. l ++ x ∷ []) so_far ∙ sym (grown ∙ ap with_if same.0))))
      | inr differs ↦
          ap (λ l. ends_at l worker) set_is
          ∙ (get_or-set_other xs (worker_on side lane) worker (ends_at xs (worker_on side lane) ++ x ∷ []) []
          (λ same. differs.1 (sym same))
          ∙ (so_far ∙ sym (grown ∙ (ap with_if differs.0 ∙ append-nil (new_ends side worker 0 lanes ids)))))
    ]
  where
    x : ℕ × LaneEnd
    x = (length ids, new_lane_end id side)

    with_if : Bool → List (ℕ × LaneEnd)
    with_if b = new_ends side worker 0 lanes ids ++ cond b ((length ids, new_lane_end id side) ∷ []) []

    grown : new_ends side worker 0 (lanes ++ lane ∷ []) (ids ++ id ∷ []) ≡ new_ends side worker 0 lanes ids
        ++ cond (worker_on side lane == worker) ((length ids, new_lane_end id side) ∷ []) []
    grown =
        let zero_on : 0 + length ids ≡ length ids = omega arith in
        ends_more side worker 0 lanes ids lane id e
        ∙ ap (λ n. new_ends side worker 0 lanes ids
        ++ cond {A = List (ℕ × LaneEnd)} (worker_on side lane == worker) ((n, new_lane_end id side) ∷ []) []) zero_on

pub laid_more : (workers : ℕ) (lanes : List Lane) (ids more : List LaneId) (all new : List Ends) (lane : Lane) → lane.tx < workers
    → lane.rx < workers → AreLaid workers lanes ids all → AddsLane lane ids all more new
    → AreLaid workers (lanes ++ lane ∷ []) more new
laid_more workers lanes ids more all new lane tx_in rx_in h a = record {
  as_many =
      ap length a.ids_are
      ∙ (let one = length-append ids (a.id ∷ []) in let two = length-append lanes (lane ∷ []) in
      let e : length (ids ++ a.id ∷ []) ≡ length (lanes ++ lane ∷ []) = omega (arith, one, two, h.as_many) in e);
  each_one = a.len ∙ h.each_one;
  tx =
      λ worker within.
      let in_txs : lane.tx < length (txs all) = omega (arith, tx_in, h.each_one, length-map all (λ e. e.tx.items)) in
      side_more Tx worker lanes ids lane a.id (txs all) (txs new) h.as_many in_txs a.tx (h.tx worker within)
      ∙ ap (new_ends Tx worker 0 (lanes ++ lane ∷ [])) (sym a.ids_are);
  rx =
      λ worker within.
      let in_rxs : lane.rx < length (rxs all) = omega (arith, rx_in, h.each_one, length-map all (λ e. e.rx.items)) in
      side_more Rx worker lanes ids lane a.id (rxs all) (rxs new) h.as_many in_rxs a.rx (h.rx worker within)
      ∙ ap (new_ends Rx worker 0 (lanes ++ lane ∷ [])) (sym a.ids_are);
}
