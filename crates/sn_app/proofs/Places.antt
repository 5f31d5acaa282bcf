-- How often a place stands among others.
use Rattle.std.proofs.Common.{◌≡◌, ◌≢◌, ℕ, ◌+◌, ◌≤◌, ◌==◌, cond, List, [], ◌∷◌, refl, sym, ap, ◌∙◌, arith}
use Rattle.std.proofs.lemmas.Bool.{eq-eqb, ne_eqb}
use Rattle.std.proofs.lemmas.List.Sums.{sum_by-cons}
use Rattle.sn_packet.specs.Hold.{among}

-- in a list that begins with it, or with any place
pub among_first : (place : ℕ) (places : List ℕ) → among (place ∷ places) place ≡ 1 + among places place
among_first place places =
    sum_by-cons (λ other. cond (other == place) 1 0) place places
    ∙ ap (λ b. cond b 1 0 + among places place) (eq-eqb place place refl)

pub among_within : (first place : ℕ) (places : List ℕ) → among places place ≤ among (first ∷ places) place
among_within first place places = omega (arith, sum_by-cons (λ other. cond (other == place) 1 0) first places)

-- a lone place stands once
pub among_one : (place : ℕ) → among (place ∷ []) place ≡ 1
among_one place = among_first place []

pub among_one_other : (place other : ℕ) → other ≢ place → among (place ∷ []) other ≡ 0
among_one_other place other differs =
    sum_by-cons (λ x. cond (x == other) 1 0) place [] ∙ ap (λ b. cond b 1 0 + among [] other) (ne_eqb place other (λ e. differs (sym e)))
