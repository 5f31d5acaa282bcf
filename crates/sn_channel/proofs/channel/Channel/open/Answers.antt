use Rattle.std.proofs.Common.{rules}
use Rattle.sn_channel.proofs.Keeps.{notes}
use Rattle.sn_channel.proofs.channel.Channel.open.Goals as goal

pub split_seat-other-requires : goal.split_seat-other-requires
split_seat-other-requires c = (search rules, search rules, notes _ _)
