use Rattle.std.proofs.Common.{rules}
use Rattle.sn_interlink.proofs.Calls.{reset_allowed}
use Rattle.sn_interlink.proofs.end.End.reset.Goals as goal

pub store-requires : goal.store-requires
store-requires c = (search rules, search rules, reset_allowed _ _ _ _ _ _ _ _ _ _ c.self.invariant (search rules) (search rules) (search rules))
