-- answers of src/manager.rt, Manager::round
use Rattle.std.proofs.Common.{List, ap, ap₂, length, rules, slice_get, subst, sym, ℕ, ◌++◌, ◌<◌, ◌∙◌, ◌∷◌, ◌≡◌, ◌≤◌, [], Some}
use Rattle.std.proofs.lemmas.Option.{slice_get-get_or}
use Rattle.sn_channel.specs.Ends.{ChannelId, SpeakerLog}
use Rattle.sn_manager.specs.Managers.{due_in, speakers_in}
use Rattle.sn_manager.specs.Saying.{said_more}
use Rattle.sn_scenario.specs.ConfigLines.{no_config}
use Rattle.sn_scenario.specs.Plans.{configs_of}
use Rattle.sn_scenario.specs.declared.settings.Settings.{Settings}
use Rattle.sn_manager.proofs.DueGrows.{due_grows}
use Rattle.sn_manager.proofs.SaidTo.{said_not_ahead, said_to_all, said_to_next}
use Rattle.sn_manager.proofs.manager.Manager.round.Goals as goal

pub loop-worker-preserved : goal.loop-worker-preserved
loop-worker-preserved c =
    let speakers = c.loop-worker.self.speakers.items in
    let worker = c.loop-worker.worker in
    let x : SpeakerLog = c.index_mut.result.now in
    let y : SpeakerLog = c.say.new.self in
    let few : worker < c.args.scenario.now.settings.workers =
    subst (λ (s : Settings). worker < s.workers) c.settings-workers.ensures.same c.loop-worker-test.true in
    let within : worker < length speakers =
    subst (λ n. worker < n) (sym c.requires.workers ∙ sym c.loop-worker.invariant.to.len) few in
    let there : slice_get speakers worker ≡ Some x =
    slice_get-get_or speakers worker x within ∙ ap (λ (s : SpeakerLog). Some s) (sym c.index_mut.ensures.value) in
    let said : y.said ≡ x.said ++ due_in c.args.scenario.now c.args.round worker ∷ [] =
    c.say.ensures.said ∙ ap (λ n. x.said ++ n ∷ []) c.in_ok-due.ensures.due in
    let is : y ≡ said_more (due_in c.args.scenario.now c.args.round worker) x =
    ap₂ (λ (channel : ChannelId) (numbers : List ℕ). record { channel = channel; said = numbers }) c.say.ensures.channel said in
    record {
      to =
          said_to_next (due_in c.args.scenario.now c.args.round) c.args.shared.now.channels.items (speakers_in c.args.self.now)
          worker speakers x y c.loop-worker.invariant.to there is;
    }

pub returns-clause-said : goal.returns-clause-said
returns-clause-said c =
    let past : c.settings-workers.result.workers ≤ c.loop-worker.worker =
    let h = c.loop-worker-test.false in search rules in
    let all : length (speakers_in c.args.self.now) ≤ c.loop-worker.worker =
    subst (λ n. n ≤ c.loop-worker.worker)
    (ap (λ (s : Settings). s.workers) c.settings-workers.ensures.same ∙ sym c.requires.workers) past in
    said_to_all (due_in c.args.scenario.now c.args.round) c.args.shared.now.channels.items (speakers_in c.args.self.now)
    c.loop-worker.worker (speakers_in c.loop-worker.self) all c.loop-worker.invariant.to

pub returns-clause-ahead : goal.returns-clause-ahead
returns-clause-ahead c = λ later least.
    let past : c.settings-workers.result.workers ≤ c.loop-worker.worker =
    let h = c.loop-worker-test.false in search rules in
    let all : length (speakers_in c.args.self.now) ≤ c.loop-worker.worker =
    subst (λ n. n ≤ c.loop-worker.worker)
    (ap (λ (s : Settings). s.workers) c.settings-workers.ensures.same ∙ sym c.requires.workers) past in
    said_not_ahead (due_in c.args.scenario.now c.args.round) (due_in c.args.scenario.now later) (speakers_in c.args.self.now)
    (speakers_in c.loop-worker.self)
    (λ worker. due_grows c.args.round later no_config (configs_of worker c.args.scenario.now) least)
    (said_to_all (due_in c.args.scenario.now c.args.round) c.args.shared.now.channels.items (speakers_in c.args.self.now)
    c.loop-worker.worker (speakers_in c.loop-worker.self) all c.loop-worker.invariant.to)
