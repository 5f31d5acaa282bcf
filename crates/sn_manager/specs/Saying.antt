-- What is said to the workers: a number to each, by the worker's number.
use Rattle.std.specs.Prelude.{ℕ, ◌≡◌, ◌≤◌, List, [], ◌∷◌, ◌++◌, Some, length, slice_get}
use Rattle.sn_channel.specs.Ends.{SpeakerLog, last_said}

-- a speaker said one number more
abbrev pub said_more : ℕ → SpeakerLog → SpeakerLog
said_more n speaker = record speaker { said = speaker.said ++ n ∷ [] }

-- each speaker said its worker's number
pub record HasSaid (number : ℕ → ℕ) (old new : List SpeakerLog) : Type 0 where
  pub len : length new ≡ length old
  pub each : (worker : ℕ) (speaker : SpeakerLog) → slice_get old worker ≡ Some speaker
      → slice_get new worker ≡ Some (said_more (number worker) speaker)

-- no speaker said more than its worker's number
abbrev pub NoneAhead : (ℕ → ℕ) → List SpeakerLog → Type 0
NoneAhead number speakers = (worker : ℕ) (speaker : SpeakerLog) → slice_get speakers worker ≡ Some speaker
    → last_said speaker.said ≤ number worker
