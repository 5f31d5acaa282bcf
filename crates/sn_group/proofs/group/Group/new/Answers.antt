use Rattle.std.proofs.Common.{map, All, ap, ◌∙◌, subst}
use Rattle.sn_packet.specs.Packet.{PacketState}
use Rattle.sn_group.specs.Cells.{named, full_word, IsSmall}
use Rattle.sn_group.proofs.Dealing.{opens_as}
use Rattle.sn_group.proofs.group.Group.new.Goals as goal

pub new-requires : goal.new-requires
new-requires c =
    let all = c.as_slice-all.ensures.value in
    opens_as _ _ _ _ _ (c.in_ok-names_of.ensures ∙ ap (map named) all)
    (c.as_slice.ensures.value ∙ (c.in_ok-words.ensures.words ∙ ap (map (λ (p : PacketState). full_word p.number p.turn)) all))
    c.in_ok-slots.ensures c.requires.seats (subst (All IsSmall) all c.in_ok-words.ensures.small)
