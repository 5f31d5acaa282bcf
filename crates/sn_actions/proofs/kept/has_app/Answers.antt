use Rattle.std.proofs.Common.{ap, is_some, sym, ◌∙◌}
use Rattle.sn_actions.proofs.FiniteMaps.{get_entries}
use Rattle.sn_names.specs.LinkOrder.{name_cmp_total}
use Rattle.sn_actions.proofs.kept.has_app.Goals as goal

pub returns : goal.returns
returns c = c.contains_key.ensures ∙ sym (ap is_some (get_entries name_cmp_total c.args.apps.now.entries c.args.name.now))
