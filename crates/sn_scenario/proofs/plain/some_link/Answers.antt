use Rattle.std.proofs.Common.{sym}
use Rattle.sn_scenario.proofs.TokenRuns.{link_none}
use Rattle.sn_scenario.proofs.plain.some_link.Goals as goal

pub returns-in-Err-At : goal.returns-in-Err-At
returns-in-Err-At c = sym (link_none c.args.text.now _ (c.in-Err-At.ensures.rest _ c.in-Err-At.field-0-is))
