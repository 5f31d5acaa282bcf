use Rattle.std.proofs.Common.{rules, refl}
use Rattle.sn_interlink.proofs.RingCalls.{release_allowed}
use Rattle.sn_interlink.proofs.end.End.release.Goals as goal

pub store-requires : goal.store-requires
store-requires c = (search rules, search rules, release_allowed _ _ _ _ _ c.self.invariant (search rules) (search rules) (search rules) refl)
