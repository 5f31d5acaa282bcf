use Rattle.sn_app.specs.Ports.{HasLinks}
use Rattle.app_rig.proofs.rig.Rig.wired.Given as goal

-- the ports so far have their links
abbrev pub invariant-loop-name : goal.invariant-loop-name
invariant-loop-name l = HasLinks l.self.links.slots l.wired.items
