use Rattle.std.proofs.Common.{rules}
use Rattle.sn_interlink.proofs.RingCalls.{see_allowed}
use Rattle.sn_interlink.proofs.end.End.look.Goals as goal

pub load-write-requires : goal.load-write-requires
load-write-requires c = (search rules, search rules, see_allowed _ _ _ _ c.self.invariant (search rules) (search rules) (search rules))
