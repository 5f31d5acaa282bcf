use Rattle.std.proofs.Common.{rules, ◌≡◌, Err}
use Rattle.sn_core.specs.declared.events.Side.TheVariants.{Rx, Tx}
use Rattle.sn_seat.proofs.Outcomes.{on_ok_then}
use Rattle.sn_seat.proofs.SettleRows.{both_out, lane_fails, lane_reads, leaves_lane, leaves_lane_end}
use Rattle.sn_seat.proofs.seat.Seat.settle_lane.Goals as goal

pub returns-in_err-settle_end-clause-reads : goal.returns-in_err-settle_end-clause-reads
returns-in_err-settle_end-clause-reads c =
    let is : c.from_residual.result ≡ Err c.in_err-settle_end.field-0.0 = search rules in
    rw is (lane_fails c.args.lane c.in_err-settle_end.ensures.reads)

pub returns-in_err-settle_end-clause-leaves : goal.returns-in_err-settle_end-clause-leaves
returns-in_err-settle_end-clause-leaves c = leaves_lane_end c.args.lane Tx c.in_err-settle_end.ensures.leaves

pub returns-clause-reads : goal.returns-clause-reads
returns-clause-reads c = lane_reads c.args.lane c.in_ok-settle_end.ensures.reads c.settle_end-2.ensures.reads

pub returns-clause-leaves : goal.returns-clause-leaves
returns-clause-leaves c =
    leaves_lane c.args.lane (leaves_lane_end c.args.lane Tx c.in_ok-settle_end.ensures.leaves)
    (leaves_lane_end c.args.lane Rx c.settle_end-2.ensures.leaves)

pub returns-clause-out : goal.returns-clause-out
returns-clause-out c =
    on_ok_then c.settle_end-2.result (both_out c.args.lane c.settle_end-2.ensures.leaves c.in_ok-settle_end.ensures.out)
    c.settle_end-2.ensures.out
