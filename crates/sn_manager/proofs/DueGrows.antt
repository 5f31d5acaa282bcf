-- As many actions are due in a later round, or more.
use Rattle.std.proofs.Common.{◌≡◌, ℕ, ◌≤◌, Bool, true, false, cond, List, [], ◌∷◌, length, nat_le}
use Rattle.std.proofs.Common.{refl, sym, subst, ◌∙◌, arith, inl, inr}
use Rattle.std.proofs.lemmas.Bool.Decides.{leb_tells}
use Rattle.sn_config.specs.Configs.{ConfigForm}
use Rattle.sn_scenario.specs.Plans.{change_of, due_after}
use Rattle.sn_scenario.specs.declared.placed.Placed.{Placed}

still_due : (n round later : ℕ) → round ≤ later → nat_le n round ≡ true → nat_le n later ≡ true
still_due n round later least is = elim (leb_tells n later) [
  | inl within ↦ within.0
  | inr past ↦ elim (leb_tells n round) [
    | inl before ↦ absurd (omega (arith, least, past.1, before.1))
    | inr after ↦ absurd (let h = sym is ∙ after.0 in cc)
  ]
]

due_one : (a b : Bool) (n : ℕ) → (a ≡ true → b ≡ true) → cond a n 0 ≤ cond b n 0
due_one true b n leads = subst (λ c. cond true n 0 ≤ cond c n 0) (sym (leads refl)) (omega arith)
due_one false b n leads = omega arith

pub due_grows : (round later : ℕ) (before : ConfigForm) (configs : List Placed) → round ≤ later
    → due_after round before configs ≤ due_after later before configs
unfolding due_after
due_grows round later before [] least = omega arith
due_grows round later before (placed ∷ more) least =
    let here = due_one (nat_le placed.round round) (nat_le placed.round later) (length (change_of before placed.config))
    (still_due placed.round round later least) in
    let rest = due_grows round later placed.config more least in
    omega (arith, here, rest)
