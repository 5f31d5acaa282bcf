-- The place at which a text can't be of a form any more.
use Rattle.std.specs.Prelude.{List, length, take, ℕ, ◌++◌, ◌<◌, ◌≤◌}

-- the text isn't of the form, and its longest prefix that some text of the form begins with has
-- this length
pub record IsFirstFault (IsText : List ℕ → Type 0) (text : List ℕ) (at : ℕ) : Type 0 where
  pub faulty : ¬ (IsText text)
  pub within : at ≤ length text
  pub begins : (rest : List ℕ) × IsText (take at text ++ rest)
  pub longest : (longer : ℕ) (rest : List ℕ) → at < longer → longer ≤ length text → IsText (take longer text ++ rest) → ⊥
