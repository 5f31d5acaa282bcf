-- The words of a command.
use Rattle.std.specs.Prelude.{ℕ, ◌≤◌, ◌≡◌, List, [], ◌∷◌, String, length, codes, map, string_bytes}
use Rattle.std.specs.Fmt.{decimal}
use Rattle.sn_run.specs.declared.command.Command.{Command}
use Rattle.sn_run.specs.declared.command.Command.TheVariants.{Run, Check, Actions}

-- the words of a command line, as bytes
abbrev pub texts : {A : Type 0} → List (String A) → List (List ℕ)
texts words = map string_bytes words

-- the words that ask for a command over a file
abbrev pub words_for : List ℕ → Command → List (List ℕ)
words_for file Run = codes "run" ∷ file ∷ []
words_for file Check = codes "check" ∷ file ∷ []
words_for file (Actions worker) = codes "actions" ∷ file ∷ decimal worker ∷ []

-- a worker's number is at most 15
abbrev pub IsInBounds : Command → Type 0
IsInBounds Run = Unit {0}
IsInBounds Check = Unit {0}
IsInBounds (Actions worker) = worker ≤ 15

-- the words are this command over a file with a name of 1 to 4096 bytes
pub record IsCommandOf (words : List (List ℕ)) (file : List ℕ) (command : Command) : Type 0 where
  pub words_are : words ≡ words_for file command
  pub filled : 1 ≤ length file
  pub short : length file ≤ 4096
  pub bounds : IsInBounds command

abbrev pub IsCommand : List (List ℕ) → Type 0
IsCommand words = (file : List ℕ) × (command : Command) × IsCommandOf words file command
