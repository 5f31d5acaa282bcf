use Rattle.std.proofs.Common.{rules}
use Rattle.sn_interlink.proofs.RingCalls.{far_room_allowed}
use Rattle.sn_interlink.proofs.end.End.room_closing.Goals as goal

pub load-read-requires : goal.load-read-requires
load-read-requires c = (search rules, search rules, far_room_allowed _ _ _ _ c.self.invariant (search rules) (search rules) (search rules))
