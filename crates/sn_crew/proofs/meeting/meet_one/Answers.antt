use Rattle.std.proofs.Common.{◌≡◌, ◌∙◌, ◌<◌, Some, sym, ap, subst}
use Rattle.std.specs.Prelude.{slice_get, slice_set}
use Rattle.sn_manager.specs.Managers.{speakers_in}
use Rattle.sn_seat.specs.Trays.{captures_of}
use Rattle.sn_crew.proofs.Channels.{channel_there, set_there}
use Rattle.sn_crew.proofs.SpeakersMet.{met}
use Rattle.sn_crew.proofs.meeting.meet_one.Goals as goal

pub speaker-speaker-requires : goal.speaker-speaker-requires
speaker-speaker-requires c = subst (λ n. c.args.worker < n) (sym c.requires.said.workers) c.requires.worker

pub meet-requires-clause-speaker : goal.meet-requires-clause-speaker
meet-requires-clause-speaker c =
    let b = c.requires.unmet.slot.of.bond in
    subst (λ n. slice_get c.args.shared.now.channels.items n ≡ Some c.speaker-speaker.result.now.channel) (sym b.number)
    (channel_there (speakers_in c.args.manager.now) c.args.shared.now.channels.items c.args.worker c.speaker-speaker.result.now
    c.requires.said.channels c.speaker-speaker.ensures.value)

pub returns-clause-after : goal.returns-clause-after
returns-clause-after c =
    let e = c.meet.ensures in
    record {
      slot = met c.args.scenario.now c.args.shared.now c.args.rounds c.args.worker c.args.place.now.slot c.meet.new.self
          c.speaker-speaker.result.now.said c.requires.unmet.slot
          (c.requires.said.said c.args.worker c.speaker-speaker.result.now c.speaker-speaker.ensures.value) e.bond e.tray
          e.used e.same e.fits (e.among (captures_of c.args.shared.now)) (e.rises (captures_of c.args.shared.now));
      lacks_none = c.requires.unmet.lacks_none;
    }

pub returns-clause-speakers : goal.returns-clause-speakers
returns-clause-speakers c =
    ap (slice_set (speakers_in c.args.manager.now) c.args.worker) c.meet.ensures.speaker
    ∙ set_there (speakers_in c.args.manager.now) c.args.worker c.speaker-speaker.result.now c.speaker-speaker.ensures.value
