use Rattle.std.proofs.Common.{rules, subst, subst₂, All, ℕ}
use Rattle.atomic_table.specs.Table.{Me}
use Rattle.sn_channel.specs.declared.view.View.{View}
use Rattle.sn_channel.specs.Ends.{SpeakerLog, ListenerLog, IsSaid}
use Rattle.sn_channel.proofs.Keeps.{notes, collects, compares_as, has_collected}
use Rattle.sn_channel.proofs.speaker.Speaker.compare.Goals as goal

pub split_seat-note-requires : goal.split_seat-note-requires
split_seat-note-requires c = (search rules, search rules, notes _ _)

pub join_seat-requires : goal.join_seat-requires
join_seat-requires c = (search rules, search rules, search rules, search rules, collects _ _ _ _)

pub load-requires : goal.load-requires
load-requires c = (search rules, search rules, compares_as _ _ _ _ _ (has_collected _ c.listener.inside.seat.me _ _ c.self.invariant c.split_seat-note.ensures.4 c.join_seat.ensures.2))

pub returns-clause-among : goal.returns-clause-among
returns-clause-among c =
    let noted = has_collected _ c.listener.inside.seat.me _ _ c.self.invariant c.split_seat-note.ensures.4 c.join_seat.ensures.2 in
    let among = subst (λ (m : Me ℕ View). All (IsSaid m.0.said) m.0.heard) noted c.load.ensures.2.1 in
    subst₂ (λ (l : ListenerLog) (s : SpeakerLog). All (IsSaid s.said) l.heard) c.listener.view_is c.self.view_is among
