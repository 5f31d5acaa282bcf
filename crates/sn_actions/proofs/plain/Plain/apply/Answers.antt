use Rattle.sn_actions.proofs.Consistent.{taken_sound}
use Rattle.sn_actions.specs.PlainOf.{plain_of}
use Rattle.sn_actions.specs.declared.action.Action.TheVariants.{FreeLink, LinkInput, LinkOutput, NewLink}
use Rattle.sn_actions.specs.declared.action.Action.TheVariants.{ReconfigApp, StartApp, StopApp, UnlinkInput, UnlinkOutput}
use Rattle.sn_actions.proofs.plain.Plain.apply.Goals as goal

pub returns-in-UnlinkOutput-clause-sound : goal.returns-in-UnlinkOutput-clause-sound
returns-in-UnlinkOutput-clause-sound c =
    taken_sound (UnlinkOutput c.in-UnlinkOutput.link) (plain_of c.args.self.now) (plain_of c.unlink_output.new.self)
    c.unlink_output.result c.unlink_output.ensures.ok

pub returns-in-UnlinkInput-clause-sound : goal.returns-in-UnlinkInput-clause-sound
returns-in-UnlinkInput-clause-sound c =
    taken_sound (UnlinkInput c.in-UnlinkInput.link) (plain_of c.args.self.now) (plain_of c.unlink_input.new.self)
    c.unlink_input.result c.unlink_input.ensures.ok

pub returns-in-FreeLink-clause-sound : goal.returns-in-FreeLink-clause-sound
returns-in-FreeLink-clause-sound c =
    taken_sound (FreeLink c.in-FreeLink.link) (plain_of c.args.self.now) (plain_of c.free_link.new.self)
    c.free_link.result c.free_link.ensures.ok

pub returns-in-StopApp-clause-sound : goal.returns-in-StopApp-clause-sound
returns-in-StopApp-clause-sound c =
    taken_sound (StopApp c.in-StopApp.name) (plain_of c.args.self.now) (plain_of c.stop_app.new.self)
    c.stop_app.result c.stop_app.ensures.ok

pub returns-in-StartApp-clause-sound : goal.returns-in-StartApp-clause-sound
returns-in-StartApp-clause-sound c =
    taken_sound (StartApp c.in-StartApp.name c.in-StartApp.spec) (plain_of c.args.self.now) (plain_of c.start_app.new.self)
    c.start_app.result c.start_app.ensures.ok

pub returns-in-ReconfigApp-clause-sound : goal.returns-in-ReconfigApp-clause-sound
returns-in-ReconfigApp-clause-sound c =
    taken_sound (ReconfigApp c.in-ReconfigApp.name c.in-ReconfigApp.spec) (plain_of c.args.self.now)
    (plain_of c.reconfig_app.new.self) c.reconfig_app.result c.reconfig_app.ensures.ok

pub returns-in-NewLink-clause-sound : goal.returns-in-NewLink-clause-sound
returns-in-NewLink-clause-sound c =
    taken_sound (NewLink c.in-NewLink.link) (plain_of c.args.self.now) (plain_of c.new_link.new.self)
    c.new_link.result c.new_link.ensures.ok

pub returns-in-LinkOutput-clause-sound : goal.returns-in-LinkOutput-clause-sound
returns-in-LinkOutput-clause-sound c =
    taken_sound (LinkOutput c.in-LinkOutput.link) (plain_of c.args.self.now) (plain_of c.link_output.new.self)
    c.link_output.result c.link_output.ensures.ok

pub returns-in-LinkInput-clause-sound : goal.returns-in-LinkInput-clause-sound
returns-in-LinkInput-clause-sound c =
    taken_sound (LinkInput c.in-LinkInput.link) (plain_of c.args.self.now) (plain_of c.link_input.new.self)
    c.link_input.result c.link_input.ensures.ok
