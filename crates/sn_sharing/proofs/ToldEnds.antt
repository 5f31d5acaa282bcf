-- What the journals of closed workers tell of receipts.
use Rattle.std.proofs.Common.{◌≡◌, ℕ, ◌+◌, ◌<◌, List, [], Some, All, length, map, slice_get, sym, ap, ◌∙◌, subst}
use Rattle.std.proofs.Common.{arith}
use Rattle.std.proofs.lemmas.List.{length-map}
use Rattle.std.proofs.lemmas.Option.{slice_get_within}
use Rattle.sn_group.specs.Receipts.{logs_of}
use Rattle.sn_group.specs.Seats.{IsAtRest, SeatState, log_of}
use Rattle.sn_group.specs.declared.receipt.GroupReceipt.{GroupReceipt}
use Rattle.sn_interlink.specs.declared.entry.LaneEntry.{LaneEntry}
use Rattle.sn_interlink.specs.declared.receipt.LaneReceipt.{LaneReceipt}
use Rattle.sn_journal.specs.HandOvers.{PacketName}
use Rattle.sn_journal.specs.Holding.{gains, losses, weight}
use Rattle.sn_journal.specs.declared.entry.Entry.{Entry}
use Rattle.sn_packet.specs.Hold.{Held}
use Rattle.sn_scenario.specs.Scenarios.{AreLanes}
use Rattle.sn_scenario.specs.declared.lane.Lane.{Lane}
use Rattle.sn_seat.specs.SeatEnds.{Numbered}
use Rattle.sn_seat.specs.Tellings.{TellsAll, seat_ends, seat_group, seat_hold}
use Rattle.sn_seat.specs.Told.{of_group, of_lane, told_entry}
use Rattle.sn_seat.specs.declared.seat.Seat.{Seat}
use Rattle.sn_seat.specs.declared.shared.Shared.{Shared}
use Rattle.sn_sharing.proofs.Ending.{lane_there, log_of_end}
use Rattle.sn_sharing.proofs.Lists.{all_there, column_at, column_there, columns_agree, from_row, map_twice, row_there}
use Rattle.sn_sharing.specs.Bonds.{AreBonded}
use Rattle.sn_sharing.specs.Closings.{AreHeld, AreKept, AreLogs, TellLane, AreFifo, journal_at}
use Rattle.sn_sharing.specs.Columns.{past_of}
use Rattle.sn_sharing.specs.Kept.{AreKeptBy}
use Rattle.sn_sharing.specs.LeftEnds.{end_of, said, said_at}
use Rattle.sn_sharing.specs.Receipts.{AreReceipts}

module _ (seats : List Seat) (told : (k : ℕ) (seat : Seat) → slice_get seats k ≡ Some seat → TellsAll (past_of seat) seat) where
  -- a worker's entries of an interlink are what its end says
  tells_end : (number worker : ℕ) (log : List LaneEntry) → worker < length seats
      → log ≡ said_at number worker (map seat_ends seats)
      → of_lane number (journal_at (map past_of seats) worker) ≡ map told_entry log
  tells_end number worker log within is =
      let s = row_there seats worker within in
      let t = (told worker s.row s.there).told in
      ap (of_lane number) (column_at past_of seats worker s.row [] s.there)
      ∙ (t.lanes number
      ∙ (log_of_end number (seat_ends s.row) (t.once number)
      ∙ ap (map told_entry) (ap (λ ends. said (end_of number ends)) (sym (column_at seat_ends seats worker s.row [] s.there))
      ∙ sym is)))

  -- the journals are the logs
  pub told_logs : (lanes : List Lane) (receipts : List LaneReceipt) (journals : List (List Entry)) (of : GroupReceipt)
      (groups : List SeatState)
      → AreLanes (length seats) lanes → length receipts ≡ length lanes → AreReceipts lanes (map seat_ends seats) receipts
      → journals ≡ map past_of seats → groups ≡ map seat_group seats → logs_of of ≡ map log_of groups
      → AreLogs journals lanes receipts of
  told_logs lanes receipts journals of groups are as_many from e g logs = record {
    as_many = as_many;
    each =
        λ number line receipt there at.
        let is = lane_there (length seats) lanes number line are there in
        let r = from.each number line receipt there at in
        subst (λ js. TellLane js number line receipt) (sym e)
        (record { tx = tells_end number line.tx _ is.tx r.tx_says; rx = tells_end number line.rx _ is.rx r.rx_says });
    grouped =
        ap (map of_group) e
        ∙ (map_twice past_of of_group seats
        ∙ (columns_agree (λ s. of_group (past_of s)) (λ s. (seat_group s).log) seats (λ k s here. (told k s here).told.grouped)
        ∙ (sym (map_twice seat_group (λ s. s.log) seats)
        ∙ (ap (map (λ s. s.log)) (sym g)
        ∙ (sym (map_twice log_of (λ log. log.1) groups) ∙ ap (map (λ log. log.1)) (sym logs))))));
  }

  -- the seats of the group rest
  pub at_rest : (lanes : List Lane) (shared : Shared) (groups : List SeatState) → AreBonded lanes shared seats
      → groups ≡ map seat_group seats → All (IsAtRest shared.group.id) groups
  at_rest lanes shared groups bonds e =
      all_there (IsAtRest shared.group.id) groups
      (λ k group there.
      let row = from_row seat_group seats k group (ap (λ gs. slice_get gs k) (sym e) ∙ there) in
      subst (IsAtRest shared.group.id) row.is
      (record { belongs = (bonds k row.row row.there).group_is; rests = (told k row.row row.there).quiet.pending }))

  -- what each worker received is what it gave and what is listed of it
  pub told_held : (journals : List (List Entry)) (holds : List Held) (kept : List (List PacketName))
      → journals ≡ map past_of seats
      → holds ≡ map seat_hold seats → AreKeptBy holds kept → AreHeld journals kept
  told_held journals holds kept e g k = λ worker entries names there listed f.
      let row = from_row past_of seats worker entries (ap (λ js. slice_get js worker) (sym e) ∙ there) in
      let hold = ap (λ hs. slice_get hs worker) g ∙ column_there seat_hold seats worker row.row row.there in
      let told_f = (told worker row.row row.there).told.held f in
      let weighs = (k.each worker (seat_hold row.row) names hold listed).weighs f in
      subst (λ es. gains f es ≡ losses f es + weight f names) row.is
      (told_f ∙ ap (λ n. losses f (past_of row.row) + n) weighs)

-- what is listed are the free packets
pub told_kept : (seats : List Seat) (holds : List Held) (kept : List (List PacketName)) → holds ≡ map seat_hold seats
    → AreKeptBy holds kept → AreKept seats kept
told_kept seats holds kept g k = record {
  as_many = k.as_many ∙ (ap length g ∙ length-map seats seat_hold);
  each =
      λ worker seat names there listed.
      (k.each worker (seat_hold seat) names (ap (λ hs. slice_get hs worker) g ∙ column_there seat_hold seats worker seat there)
      listed).names_are;
}

-- each interlink was first in, first out
pub all_fifo : (lanes : List Lane) (ends : List (List Numbered)) (receipts : List LaneReceipt) → length receipts ≡ length lanes
    → AreReceipts lanes ends receipts → AreFifo receipts
all_fifo lanes ends receipts as_many from = λ number receipt there.
    let within : number < length lanes = omega (arith, slice_get_within receipts number receipt there, as_many) in
    let line = row_there lanes number within in
    (from.each number line.row receipt line.there there).fifo
