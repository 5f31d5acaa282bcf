use Rattle.std.proofs.Common.{rules}
use Rattle.sn_interlink.proofs.RingCalls.{sync_allowed}
use Rattle.sn_interlink.proofs.end.End.sync.Goals as goal

pub load-self-inside-requires : goal.load-self-inside-requires
load-self-inside-requires c = (search rules, search rules, sync_allowed _ _ _ _ c.self.invariant (search rules) (search rules))
