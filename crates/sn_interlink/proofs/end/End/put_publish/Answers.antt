use Rattle.std.proofs.Common.{rules, refl}
use Rattle.sn_interlink.proofs.RingCalls.{put_allowed}
use Rattle.sn_interlink.proofs.end.End.put_publish.Goals as goal

pub store-requires : goal.store-requires
store-requires c = (search rules, search rules, put_allowed _ _ _ _ _ c.self.invariant (search rules) (search rules) (search rules) refl)
