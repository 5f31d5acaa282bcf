-- answers of src/links.rt, add_link
use Rattle.std.proofs.Common.{sym, ap, Some, ◌∙◌}
use Rattle.app_rig.proofs.Opening.{rows_kept, sound_kept}
use Rattle.app_rig.proofs.links.add_link.Goals as goal

pub returns-clause-rows : goal.returns-clause-rows
returns-clause-rows c =
    let here = c.in_ok-key.ensures in
    rows_kept c.args.links.now.slots c.insert.new.self.slots c.in_ok-key.key c.args.row here.was_vacant
    (here.updates.changed ∙ ap Some c.in_ok-link.ensures) here.updates.others

pub returns-clause-sound : goal.returns-clause-sound
returns-clause-sound c =
    let here = c.in_ok-key.ensures in
    sound_kept c.args.links.now.slots c.insert.new.self.slots c.in_ok-key.key c.args.row here.was_vacant
    (here.updates.changed ∙ ap Some c.in_ok-link.ensures) here.updates.others c.requires
