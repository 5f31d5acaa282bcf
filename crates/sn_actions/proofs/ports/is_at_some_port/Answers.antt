use Rattle.std.proofs.Common.{◌∙◌}
use Rattle.sn_actions.proofs.PortKeys.{some_port}
use Rattle.sn_actions.proofs.ports.is_at_some_port.Goals as goal

pub returns : goal.returns
returns c = c.has_entry.ensures ∙ some_port c.args.ports.now.entries c.args.link.now c.recall_keys.ensures
