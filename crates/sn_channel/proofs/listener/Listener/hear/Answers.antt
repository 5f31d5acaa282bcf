use Rattle.std.proofs.Common.{rules}
use Rattle.sn_channel.proofs.Keeps.{hears_as}
use Rattle.sn_channel.proofs.listener.Listener.hear.Goals as goal

pub load-requires : goal.load-requires
load-requires c = (search rules, search rules, hears_as _ _ _ _ _ c.self.invariant)
