use Rattle.std.proofs.Common.{rules}
use Rattle.sn_channel.proofs.Keeps.{notes, learns, looks_as, has_learned}
use Rattle.sn_channel.proofs.listener.Listener.learn.Goals as goal

pub split_seat-note-requires : goal.split_seat-note-requires
split_seat-note-requires c = (search rules, search rules, notes _ _)

pub join_seat-requires : goal.join_seat-requires
join_seat-requires c = (search rules, search rules, search rules, search rules, learns _ _ _ _)

pub load-requires : goal.load-requires
load-requires c = (search rules, search rules, looks_as _ _ _ _ (has_learned _ _ _ _ c.self.invariant c.speaker.invariant c.split_seat-note.ensures.4 c.join_seat.ensures.2))
