-- What a sink took of a text.
use Rattle.std.specs.Prelude.{ℕ, Bool, true, ◌<◌, ◌≡◌, List, ◌++◌, length, take}
use Rattle.sn_outside.specs.Views.{SinkView}

-- whether the sink tells what it took, and what is seen of it before and after
pub record Sunk : Type 0 where
  pub tells : Bool
  pub old : SinkView
  pub new : SinkView

abbrev pub sunk : Bool → SinkView → SinkView → Sunk
sunk tells old new = record { tells = tells; old = old; new = new }

-- all of it, where the sink tells
pub record TookAll (s : Sunk) (text : List ℕ) : Type 0 where
  pub told : s.tells ≡ true → s.new.taken ≡ s.old.taken ++ text

-- the front of it and not all, where the sink tells
pub record TookFront (s : Sunk) (text : List ℕ) : Type 0 where
  pub count : ℕ
  pub part : count < length text
  pub told : s.tells ≡ true → s.new.taken ≡ s.old.taken ++ take count text

-- all of a text of this kind
pub record TookAllOf (s : Sunk) (IsText : List ℕ → Type 0) : Type 0 where
  pub text : List ℕ
  pub is : IsText text
  pub took : TookAll s text

-- the front of one, and not all
pub record TookFrontOf (s : Sunk) (IsText : List ℕ → Type 0) : Type 0 where
  pub text : List ℕ
  pub is : IsText text
  pub took : TookFront s text
