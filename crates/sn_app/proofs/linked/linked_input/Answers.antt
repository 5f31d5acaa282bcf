use Rattle.std.proofs.Common.{codes}
use Rattle.sn_app.specs.Ports.{ins_of, slots_of}
use Rattle.sn_app.proofs.Naming.{if_found, if_missing}
use Rattle.sn_app.proofs.linked.linked_input.Goals as goal

pub returns-clause-row : goal.returns-clause-row
returns-clause-row c = if_found (slots_of c.args.ports.now) (ins_of c.args.ports.now) (codes "input") c.input.result c.input.ensures

pub returns-clause-none : goal.returns-clause-none
returns-clause-none c = if_missing (slots_of c.args.ports.now) (ins_of c.args.ports.now) (codes "input") c.input.result c.input.ensures
