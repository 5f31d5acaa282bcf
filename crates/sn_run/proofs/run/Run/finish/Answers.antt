use Rattle.sn_run.proofs.RunIs.{finished_run, journals_of, kept_of}
use Rattle.sn_run.proofs.run.Run.finish.Goals as goal

pub report_of-requires-clause-journals : goal.report_of-requires-clause-journals
report_of-requires-clause-journals g c =
    journals_of c.args.self.crew c.in_ok-left.left c.requires.underway c.in_ok-left.ensures

pub report_of-requires-clause-kept : goal.report_of-requires-clause-kept
report_of-requires-clause-kept g c = kept_of c.args.self.crew c.in_ok-left.left c.requires.underway c.in_ok-left.ensures

pub returns-clause-run : goal.returns-clause-run
returns-clause-run g c =
    finished_run c.args.self.crew c.in_ok-left.left _ _ c.requires.underway c.requires.over c.in_ok-left.ensures
    c.in_ok-outcome.ensures.told
