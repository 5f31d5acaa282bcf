use Rattle.sn_run.proofs.Rows.{over_more}
use Rattle.sn_run.proofs.reporting.over.Goals as goal

pub loop-files-preserved : goal.loop-files-preserved
loop-files-preserved c =
    rw (c.in_ok-push.ensures.items, c.over_one.ensures)
    (over_more c.loop-files.all.items c.loop-files.files.items _ c.pop_front.new.self.items c.loop-files.others.items
    c.pop_front-in-loop-files.new.self.items c.in-Some.file c.pop_front-in-loop-files.result c.loop-files.invariant
    c.in-Some.ensures.items c.pop_front-in-loop-files.ensures.items c.pop_front-in-loop-files.ensures.rest)
