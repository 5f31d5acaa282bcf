-- A manager, as contracts see it: its speakers, by their workers' numbers.
use Rattle.std.specs.Prelude.{ℕ, ◌≡◌, List, map}
use Rattle.std.specs.Borrow.{Fml, Lends, MutBor}
use Rattle.std.specs.Vec.{with_item}
use Rattle.sn_channel.specs.Ends.{ChannelId, SpeakerLog}
use Rattle.sn_channel.specs.contracts.speaker.Speaker.{the_row as speaker_row}
use Rattle.sn_manager.specs.contracts.manager.Manager.{the_row}
use Rattle.sn_manager.specs.declared.manager.Manager.{Manager}
use Rattle.sn_scenario.specs.Plans.{due_of}
use Rattle.sn_scenario.specs.Scenarios.{ScenarioForm}

-- what its speakers said
abbrev pub speakers_in : Manager → List SpeakerLog
speakers_in manager = manager.speakers.items

-- the speakers are those of these channels, in their order
abbrev pub AreOf : List SpeakerLog → List ChannelId → Type 0
AreOf speakers channels = map (λ speaker. speaker.channel) speakers ≡ channels

-- how many actions are due to each worker in a round
abbrev pub due_in : ScenarioForm → ℕ → ℕ → ℕ
due_in scenario round worker = due_of worker round scenario

-- a manager with another speaker of a worker
abbrev pub with_speaker : Manager → ℕ → SpeakerLog → Manager
with_speaker manager worker speaker = record manager { speakers = with_item manager.speakers worker speaker }

abbrev pub LendsSpeaker : MutBor Manager → ℕ → MutBor SpeakerLog → Fml
LendsSpeaker s worker r = Lends the_row speaker_row s r (with_speaker s.now worker)
