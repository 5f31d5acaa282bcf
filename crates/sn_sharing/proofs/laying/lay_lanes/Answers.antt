use Rattle.std.proofs.Common.{sym, take}
use Rattle.std.proofs.lemmas.List.{take_more}
use Rattle.sn_sharing.proofs.Ending.{lane_there}
use Rattle.sn_sharing.proofs.LaidTurns.{laid_more}
use Rattle.sn_sharing.proofs.Lists.{read_there}
use Rattle.sn_sharing.proofs.laying.lay_lanes.Goals as goal

pub loop-line-preserved : goal.loop-line-preserved
loop-line-preserved c =
    let there = read_there c.args.lines.now c.loop-line.line-index c.line-item.result c.loop-line-test.true c.line-item.is in
    let is = lane_there c.args.workers c.args.lines.now c.loop-line.line-index c.line-item.result c.requires there in
    rw (take_more c.args.lines.now c.loop-line.line-index c.line-item.result c.loop-line-test.true, sym c.line-item.is)
    (laid_more c.args.workers (take c.loop-line.line-index c.args.lines.now) c.loop-line.interlinks.items
    c.add_lane.new.interlinks.items c.loop-line.all.items c.add_lane.new.all.items c.line-item.result is.tx is.rx
    c.loop-line.invariant c.in_ok-add_lane.ensures)
