-- The rule of a channel's table, what each step tells, and how views are noted and joined.
use Rattle.std.specs.Prelude.{◌≡◌, ℕ, ◌≤◌, true, false, List, [], ◌∷◌, ◌++◌, All}
use mathlib.Core.Option.{some}
use lib.ListN.{get_elem?}
use Rattle.atomic_table.specs.Table.{State, Me, Step}
use Rattle.sn_channel.specs.declared.view.View.{View}
use Rattle.sn_channel.specs.Ends.{last_said, IsRising, IsSaid}

-- the speaker's view, where it said these
abbrev pub speaker : List ℕ → View
speaker said = record { speaks = true; said = said; heard = []; reached = last_said said }

-- the listener's view, where it heard these, and the speaker's last number was `met` when they last met
abbrev pub listener : List ℕ → ℕ → View
listener heard met = record { speaks = false; said = []; heard = heard; reached = met }

-- a note of what a seat heard, and of what the word has reached
abbrev pub note : View → View
note v = listener v.heard v.reached

abbrev pub nobody : View
nobody = listener [] 0

-- the listener with what the speaker's note tells
abbrev pub learned : View → View → View
learned v told = record v { reached = told.reached }

-- the speaker with what the listener's note tells
abbrev pub collected : View → View → View
collected v told = record v { heard = told.heard }

-- What a seat knows where these numbers were said: the speaker is seat 0 and knows them all,
-- each word that was heard is 0 or among them, none is more than the last, and none is less than one before it
pub record Knows (said : List ℕ) (seat : ℕ) (v : View) : Type 0 where
  pub speaks : v.speaks ≡ true → (seat ≡ 0) × (v.said ≡ said)
  pub among : All (IsSaid said) v.heard
  pub most : All (λ n. n ≤ last_said said) v.heard
  pub rises : IsRising v.heard
  pub reached : v.reached ≤ last_said said

-- the word is the number said last, and each seat knows its part
pub record Follows (s : State ℕ View) : Type 0 where
  pub said : List ℕ
  pub word : s.words ≡ last_said said ∷ []
  pub knows : (seat : ℕ) (v : View) → get_elem? s.views seat ≡ some v → Knows said seat v

-- the speaker says the number of the step
abbrev pub Saying : Step ℕ → Me ℕ View → ℕ → Me ℕ View → Type 0
Saying step me found after = after ≡ (record me.0 { said = me.0.said ++ step.first ∷ []; reached = step.first }, me.1)

-- the listener has heard the word, which is no less than what it heard before and than what it knew that the word has reached
abbrev pub Hearing : Step ℕ → Me ℕ View → ℕ → Me ℕ View → Type 0
Hearing step me found after =
    (after ≡ (record me.0 { heard = me.0.heard ++ found ∷ [] }, me.1))
    × All (λ n. n ≤ found) me.0.heard
    × (me.0.reached ≤ found)

-- what was heard is 0 or was said, no more than the number said last, and never fell; the speaker keeps nothing of it
abbrev pub Comparing : Step ℕ → Me ℕ View → ℕ → Me ℕ View → Type 0
Comparing step me found after =
    (after ≡ (record me.0 { heard = [] }, me.1))
    × All (IsSaid me.0.said) me.0.heard
    × All (λ n. n ≤ last_said me.0.said) me.0.heard
    × IsRising me.0.heard

-- nothing is learned
abbrev pub Looking : Step ℕ → Me ℕ View → ℕ → Me ℕ View → Type 0
Looking step me found after = after ≡ me
