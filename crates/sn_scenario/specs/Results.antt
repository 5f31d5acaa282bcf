-- Checks, one after another, and what a function of the code gives of them.
use Rattle.std.specs.Prelude.{Bool, Err, List, None, Ok, Option, Result, Some, [], cond, ◌∷◌, ◌≡◌, ℕ}
use Rattle.sn_scenario.specs.declared.fault.LineFault.{LineFault}
use Rattle.sn_scenario.specs.declared.fault.LineFault.TheVariants.{Bad, OutOfMemory}
use Rattle.sn_scenario.specs.declared.why.Why.{Why}
use Rattle.sn_scenario.specs.declared.why.Why.TheVariants as fault

infixl 10 ◌>>=◌
abbrev pub ◌>>=◌ : {A B : Type 0} → Result A Why → (A → Result B Why) → Result B Why
(Ok x) >>= f = f x
(Err why) >>= f = Err why

-- the fault where this is true, else what follows
abbrev pub fault_if : {A : Type 0} → Bool → Why → Result A Why → Result A Why
fault_if fails why next = cond fails (Err why) next

-- the value, or the fault where there is none
abbrev pub needed : {A : Type 0} → Why → Option A → Result A Why
needed why (Some x) = Ok x
needed why None = Err why

-- What a function of the code returned, seen by view, is what reading gives, unless memory ran out.
abbrev pub Fails : {Y : Type 0} → LineFault → Result Y Why → Type 0
Fails OutOfMemory read = Unit {0}
Fails (Bad why) read = read ≡ Err why

abbrev pub Gives : {X Y : Type 0} → (X → Y) → Result X LineFault → Result Y Why → Type 0
Gives view (Ok x) read = read ≡ Ok (view x)
Gives view (Err e) read = Fails e read

-- The same for a function that leaves what it has read in a state.
abbrev pub Leaves : {Y : Type 0} → Y → Result Unit LineFault → Result Y Why → Type 0
Leaves state (Ok done) read = read ≡ Ok state
Leaves state (Err e) read = Fails e read

-- Shape: as many tokens as there have to be
abbrev pub no_token : List (List ℕ) → Result Unit Why
no_token [] = Ok tt
no_token (a ∷ more) = Err fault.Shape

abbrev pub one_token : List (List ℕ) → Result (List ℕ) Why
one_token [] = Err fault.Shape
one_token (a ∷ more) = no_token more >>= λ done. Ok a

abbrev pub two_tokens : List (List ℕ) → Result (List ℕ × List ℕ) Why
two_tokens [] = Err fault.Shape
two_tokens (a ∷ more) = one_token more >>= λ b. Ok (a, b)

abbrev pub three_tokens : List (List ℕ) → Result (List ℕ × List ℕ × List ℕ) Why
three_tokens [] = Err fault.Shape
three_tokens (a ∷ more) = two_tokens more >>= λ b. Ok (a, b.0, b.1)

-- a name, a class and the argument, if one is there
pub record AppWords : Type 0 where
  pub name : List ℕ
  pub class : List ℕ
  pub arg : Option (List ℕ)

abbrev pub app_tokens : List (List ℕ) → Result AppWords Why
app_tokens [] = Err fault.Shape
app_tokens (a ∷ []) = Err fault.Shape
app_tokens (a ∷ b ∷ []) = Ok (record { name = a; class = b; arg = None })
app_tokens (a ∷ b ∷ c ∷ more) = no_token more >>= λ done. Ok (record { name = a; class = b; arg = Some c })
