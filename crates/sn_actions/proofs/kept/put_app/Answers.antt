use Rattle.sn_actions.proofs.FiniteMaps.{inserted}
use Rattle.sn_names.specs.LinkOrder.{exact_names, name_cmp_total}
use Rattle.sn_actions.proofs.kept.put_app.Goals as goal

pub returns-clause-ok : goal.returns-clause-ok
returns-clause-ok c = inserted name_cmp_total exact_names c.args.apps.now.entries c.insert.new.self.entries c.args.name c.args.spec c.in_ok-insert.ensures.updates.0
