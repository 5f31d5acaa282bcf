use Rattle.std.proofs.Common.{rules, sym}
use Rattle.sn_interlink.proofs.Calls.{found_now, look_allowed}
use Rattle.sn_interlink.proofs.end.End.look_state.Goals as goal

pub load-requires : goal.load-requires
load-requires c = (search rules, search rules, look_allowed _ _ _ _ c.self.invariant)

pub returns-clause-word : goal.returns-clause-word
returns-clause-word c = rw (sym c.self.view_is) (found_now _ _ _ c.self.invariant c.load.ensures.2.1)
