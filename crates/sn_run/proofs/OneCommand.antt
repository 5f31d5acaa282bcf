-- Words ask for one command.
use Rattle.std.proofs.Common.{◌≡◌, ℕ, List, refl, sym, ap, ◌∙◌, arith}
use Rattle.std.specs.Fmt.{decimal}
use Rattle.sn_run.specs.Commands.{IsCommandOf, IsInBounds, words_for}
use Rattle.sn_run.specs.declared.command.Command.{Command}
use Rattle.sn_run.specs.declared.command.Command.TheVariants.{Run, Check, Actions}
use Rattle.sn_run.proofs.Numbers.{same_number}

-- the words name one file and one command
one_words : (f g : List ℕ) (c d : Command) → IsInBounds c → IsInBounds d → words_for f c ≡ words_for g d → (f ≡ g) × (c ≡ d)
one_words f g Run Run b e same = (cc, refl)
one_words f g Run Check b e same = cc
one_words f g Run (Actions n) b e same = cc
one_words f g Check Run b e same = cc
one_words f g Check Check b e same = (cc, refl)
one_words f g Check (Actions n) b e same = cc
one_words f g (Actions m) Run b e same = cc
one_words f g (Actions m) Check b e same = cc
one_words f g (Actions m) (Actions n) b e same =
    let digits : decimal m ≡ decimal n = cc in
    (cc, ap Actions (same_number m n (omega (arith, b)) (omega (arith, e)) digits))

pub one_asked : (words : List (List ℕ)) (f g : List ℕ) (c d : Command) → IsCommandOf words f c → IsCommandOf words g d
    → (f ≡ g) × (c ≡ d)
one_asked words f g c d a b = one_words f g c d a.bounds b.bounds (sym a.words_are ∙ b.words_are)
