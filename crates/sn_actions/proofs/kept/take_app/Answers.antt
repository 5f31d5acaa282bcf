use Rattle.sn_actions.proofs.FiniteMaps.{removed}
use Rattle.sn_names.specs.LinkOrder.{exact_names, name_cmp_total}
use Rattle.sn_actions.proofs.kept.take_app.Goals as goal

pub returns : goal.returns
returns c = removed name_cmp_total exact_names c.args.apps.now.entries c.remove.new.self.entries c.args.name.now c.remove.ensures.updates.0
