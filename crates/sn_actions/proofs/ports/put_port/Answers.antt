use Rattle.sn_actions.proofs.FiniteMaps.{inserted}
use Rattle.sn_names.specs.LinkOrder.{exact_ports, port_cmp_total}
use Rattle.sn_actions.proofs.ports.put_port.Goals as goal

pub returns-clause-ok : goal.returns-clause-ok
returns-clause-ok c = inserted port_cmp_total exact_ports c.args.ports.now.entries c.insert.new.self.entries c.args.key c.args.link c.in_ok-insert.ensures.updates.0
