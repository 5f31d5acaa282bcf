use Rattle.sn_app.specs.Desk.{roster_of}
use Rattle.sn_wiring.proofs.Entries.{Makes}
use Rattle.sn_wiring.proofs.wires.wired_ports.Given as goal

abbrev pub invariant-loop-key : goal.invariant-loop-key
invariant-loop-key g l =
    Makes l.links.slots (roster_of (g.C.Ctx.tray l.ctx)).links l.name l.ports.items l.key-iterator l.at.entries
