-- What a part of the code answers, as a desk shows it.
use Rattle.std.specs.Prelude.{Result, Ok, Err}
use Rattle.sn_app.specs.declared.halt.Halt.{Halt}

-- a value as what it shows, or the halt
abbrev pub shown_as : {A B : Type 0} → (A → B) → Result A Halt → Result B Halt
shown_as show (Ok x) = Ok (show x)
shown_as show (Err halt) = Err halt
