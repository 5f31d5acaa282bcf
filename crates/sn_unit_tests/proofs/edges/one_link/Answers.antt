use Rattle.std.proofs.Common.{◌∙◌, None, Some, ap, get_or}
use Rattle.sn_unit_tests.proofs.Alone.{alone_sound}
use Rattle.sn_unit_tests.proofs.edges.one_link.Goals as goal

pub returns-clause-sound : goal.returns-clause-sound
returns-clause-sound c =
    let updates = c.in_ok-key.ensures.updates in
    alone_sound c.insert.new.self.slots c.in_ok-key.key 0 (updates.changed ∙ ap Some c.in_ok-of_row.ensures)
    (λ other apart. updates.others other apart ∙ ap (λ slots. get_or slots other None) c.new-links.ensures.empty)
