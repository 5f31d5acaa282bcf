-- One interlink more is closed.
use Rattle.std.proofs.Common.{◌≡◌, ◌≢◌, ℕ, ◌≤◌, List, [], ◌∷◌, ◌++◌, Some, length, slice_get, refl, sym, ap, subst, ◌∙◌}
use Rattle.std.proofs.Common.{arith}
use Rattle.std.proofs.lemmas.List.{length-append}
use Rattle.sn_core.specs.declared.events.Side.{Side}
use Rattle.sn_interlink.specs.Ends.{LaneId}
use Rattle.sn_interlink.specs.declared.receipt.LaneReceipt.{LaneReceipt}
use Rattle.sn_scenario.specs.declared.lane.Lane.{Lane}
use Rattle.sn_seat.specs.SeatEnds.{Numbered}
use Rattle.sn_sharing.proofs.Lists.{each_more, some_same}
use Rattle.sn_sharing.specs.LeftEnds.{HasOut, end_at, said}
use Rattle.sn_sharing.specs.Receipts.{AreReceipts, IsClosable, IsReceiptOf}

-- an end is out still where it stays
pub still_out : {side : Side} {number worker : ℕ} {id : LaneId} (first now : List (List Numbered))
    → end_at number worker now ≡ end_at number worker first → HasOut side number worker id first
    → HasOut side number worker id now
still_out first now stays h = record {
  end = h.end;
  there = stays ∙ h.there;
  side_is = h.side_is;
  lane_is = h.lane_is;
  out = h.out;
}

-- So far: so many interlinks are closed, the ends of the others are as at first, and the receipts are those of the ends at first.
pub record ClosedTo (lines : List Lane) (first now : List (List Numbered)) (ids : List LaneId) (receipts : List LaneReceipt)
    : Type 0 where
  pub as_many : length receipts ≡ length ids
  pub later : (number worker : ℕ) → length receipts ≤ number → end_at number worker now ≡ end_at number worker first
  pub each : (number : ℕ) (receipt : LaneReceipt) → slice_get receipts number ≡ Some receipt
      → (lane : Lane) → slice_get lines number ≡ Some lane → IsReceiptOf number lane.tx lane.rx first receipt

pub none_closed : (lines : List Lane) (first : List (List Numbered)) → ClosedTo lines first first [] []
none_closed lines first = record {
  as_many = refl;
  later = λ number worker past. refl;
  each = λ number receipt there. absurd cc;
}

module _ (lines : List Lane) (first now : List (List Numbered)) (ids : List LaneId) (id : LaneId) (receipts : List LaneReceipt)
    (line : Lane) (number : ℕ) (h : ClosedTo lines first now ids receipts) (at : number ≡ length receipts) where
  pub still_closable : IsClosable number line id first → IsClosable number line id now
  still_closable k = record {
    tx = still_out first now (h.later number line.tx (omega (arith, at))) k.tx;
    rx = still_out first now (h.later number line.rx (omega (arith, at))) k.rx;
    apart = k.apart;
  }

  module _ (there : slice_get lines number ≡ Some line) (next : List (List Numbered)) (receipt : LaneReceipt)
      (is : IsReceiptOf number line.tx line.rx now receipt)
      (others : (other w : ℕ) → other ≢ number → end_at other w next ≡ end_at other w now) where
    of_line : IsReceiptOf number line.tx line.rx first receipt
    of_line = record {
      tx_says = is.tx_says ∙ ap said (h.later number line.tx (omega (arith, at)));
      rx_says = is.rx_says ∙ ap said (h.later number line.rx (omega (arith, at)));
      fifo = is.fifo;
    }

    last_each : (n : ℕ) → number ≡ n → (lane : Lane) → slice_get lines n ≡ Some lane
        → IsReceiptOf n lane.tx lane.rx first receipt
    last_each n e lane at_n =
        subst (λ m. IsReceiptOf m lane.tx lane.rx first receipt) e
        (subst (λ (l : Lane). IsReceiptOf number l.tx l.rx first receipt)
        (some_same line lane (sym there ∙ (ap (slice_get lines) e ∙ at_n))) of_line)

    pub one_closed : ClosedTo lines first next (ids ++ id ∷ []) (receipts ++ receipt ∷ [])
    one_closed = record {
      as_many = omega (arith, length-append receipts (receipt ∷ []), length-append ids (id ∷ []), h.as_many);
      later =
          λ m worker past.
          let more = length-append receipts (receipt ∷ []) in
          others m worker (λ e. absurd (omega (arith, e, at, more, past))) ∙ h.later m worker (omega (arith, more, past));
      each =
          each_more (λ m r. (lane : Lane) → slice_get lines m ≡ Some lane → IsReceiptOf m lane.tx lane.rx first r)
          receipts receipt h.each (last_each (length receipts) at);
    }

pub all_closed : (lines : List Lane) (first now : List (List Numbered)) (ids : List LaneId) (receipts : List LaneReceipt)
    → ClosedTo lines first now ids receipts → AreReceipts lines first receipts
all_closed lines first now ids receipts h = record {
  each = λ number lane receipt line there. h.each number receipt there lane
      line;
}
