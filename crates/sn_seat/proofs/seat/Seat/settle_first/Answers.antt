use Rattle.std.proofs.Common.{◌≡◌, ◌∙◌, Err, arith, refl, rules}
use Rattle.sn_seat.specs.Trays.{captures_of, seat_tray}
use Rattle.sn_seat.proofs.SettleRows.{files_stay, settled_more, settles_done, settles_fail, settles_next, settles_start}
use Rattle.sn_seat.proofs.seat.Seat.settle_first.Goals as goal

pub loop-lane-init : goal.loop-lane-init
loop-lane-init c = record {
  leads = settles_start c.args.lanes (seat_tray (captures_of c.args.shared.now) c.args.self.now);
  out = λ other side lt. absurd (let z : ⊥ = omega (arith, lt) in z);
  frees = refl;
  leaves = record { constants = refl; files = refl };
  kept = refl;
}

pub settle_lane-requires : goal.settle_lane-requires
settle_lane-requires c = record { fits = rw c.loop-lane.invariant.kept c.requires.fits }

pub loop-lane-preserved : goal.loop-lane-preserved
loop-lane-preserved c =
    let before = c.loop-lane.invariant in
    let one = c.in_ok-settle_lane.ensures in
    record {
      leads = settles_next c.args.lanes c.loop-lane.lane before.leads c.loop-lane-test.true one.reads;
      out = settled_more c.loop-lane.lane before.out one.out one.leaves.others;
      frees = one.frees ∙ before.frees;
      leaves = files_stay before.leaves one.leaves;
      kept = one.kept ∙ before.kept;
    }

pub returns-in_err-settle_lane-clause-reads : goal.returns-in_err-settle_lane-clause-reads
returns-in_err-settle_lane-clause-reads c =
    let e : c.from_residual.result ≡ Err c.in_err-settle_lane.field-0.0 = search rules in
    rw e (settles_fail c.args.lanes c.loop-lane.lane c.loop-lane.invariant.leads c.in_err-settle_lane.field-0.0
    c.loop-lane-test.true c.in_err-settle_lane.ensures.reads)

pub returns-in_err-settle_lane-clause-leaves : goal.returns-in_err-settle_lane-clause-leaves
returns-in_err-settle_lane-clause-leaves c = files_stay c.loop-lane.invariant.leaves c.in_err-settle_lane.ensures.leaves

pub returns-clause-reads : goal.returns-clause-reads
returns-clause-reads c = settles_done c.args.lanes c.loop-lane.lane c.loop-lane.invariant.leads c.loop-lane-test.false

pub returns-clause-out : goal.returns-clause-out
returns-clause-out c = λ lane side lt.
    let past = c.loop-lane-test.false in c.loop-lane.invariant.out lane side (omega (arith, lt, past))
