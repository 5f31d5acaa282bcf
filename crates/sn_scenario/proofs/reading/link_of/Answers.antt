use Rattle.std.proofs.Common.{ap}
use Rattle.sn_scenario.proofs.TokenRuns.{link_none}
use Rattle.sn_scenario.specs.Results.{needed}
use Rattle.sn_scenario.specs.declared.why.Why.TheVariants as fault
use Rattle.sn_scenario.proofs.reading.link_of.Goals as goal

pub returns-in-Err-At : goal.returns-in-Err-At
returns-in-Err-At c = ap (needed fault.Link) (link_none c.args.text.now _ (c.in-Err-At.ensures.rest _ c.in-Err-At.field-0-is))
