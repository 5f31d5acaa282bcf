-- What contracts see of the two ends: the numbers that were said, and the words that were heard.
use Rattle.std.specs.Prelude.{◌≡◌, ◌⊎◌, ◌≤◌, ℕ, AllPairs, List, [], ◌∷◌, Contains}
use Rattle.atomic_table.specs.Seated.{TableId}

-- which channel it is
abbrev pub ChannelId : Type 0
ChannelId = TableId

-- the channel that a speaker belongs to, and the numbers that it said, the first first
pub record SpeakerLog : Type 0 where
  pub channel : ChannelId
  pub said : List ℕ

-- the channel that a listener belongs to, the words that it loaded, the first first,
-- and the number that the speaker had said last when the two last met, 0 before they met
pub record ListenerLog : Type 0 where
  pub channel : ChannelId
  pub heard : List ℕ
  pub met : ℕ

abbrev pub speaker_log : ChannelId → List ℕ → SpeakerLog
speaker_log channel said = record { channel = channel; said = said }

abbrev pub listener_log : ChannelId → List ℕ → ℕ → ListenerLog
listener_log channel heard met = record { channel = channel; heard = heard; met = met }

-- the number said last, and 0 where nothing was said
abbrev pub last_said : List ℕ → ℕ
last_said [] = 0
last_said (n ∷ []) = n
last_said (n ∷ m ∷ said) = last_said (m ∷ said)

-- the number is 0 or was said
abbrev pub IsSaid : List ℕ → ℕ → Type 0
IsSaid said n = (n ≡ 0) ⊎ Contains said n

-- no number is less than one before it
abbrev pub IsRising : List ℕ → Type 0
IsRising numbers = AllPairs (λ before n. before ≤ n) numbers
