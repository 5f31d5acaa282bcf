-- What short texts are read as, worked out on the definition.
use Rattle.std.proofs.Common.{None, Some, [], ap, arith, lit<, refl, subst, sym, ℕ, ◌++◌, ◌<◌, ◌^◌, ◌∙◌, ◌∷◌, ◌≡◌}
use Rattle.std.specs.Prelude.{codes}
use Rattle.std.proofs.lemmas.Fmt.{decimal_digit, decimal_is_IsNumeral}
use Rattle.std.proofs.lemmas.List.{append-nil}
use Rattle.std.proofs.lemmas.Str.Parse.{digit_from_value}
use Rattle.std.specs.Fmt.{decimal}
use Rattle.std.specs.Str.Parse.{AllDigits}
use Rattle.sn_journal.specs.Cutting.{line_by, pieces, read_line, with_number}
use Rattle.sn_journal.specs.JournalText.{spelled}
use Rattle.sn_journal.specs.KindWords.{kind_of}
use Rattle.sn_journal.specs.Outline.{IsFirstFault, IsFormed, IsOutline, cut_lines}
use Rattle.sn_journal.specs.declared.kind.Kind.TheVariants as kind
use Rattle.sn_journal.specs.declared.line.Line.TheVariants.{Breath, Hear, Round}
use Rattle.sn_journal.proofs.Digits.{number_none}
use Rattle.sn_journal.proofs.LineTexts.{first_read}
use Rattle.sn_journal.proofs.TextExample.{ended}

-- what print writes of a first breath is read back
pub first_breath :
    IsOutline (ended (codes "round 1") ++ (ended (codes "hear 6") ++ ended (codes "breath"))) (Round 1 ∷ Hear 6 ∷ Breath ∷ [])
unfolding spelled
first_breath = record { spelled = rw (decimal_digit 1 (lit< tt), decimal_digit 6 (lit< tt)) refl; fit = refl }

-- what follows the last byte 10 is a line of its own
pub cut_behind_the_last : cut_lines (ended (codes "breath") ++ codes "dry") ≡ ended (codes "breath") ∷ codes "dry" ∷ []
unfolding cut_lines
cut_behind_the_last = refl

x_is_no_number : (n : ℕ) → n < 2 ^ 64 → codes "x" ≡ decimal n → ⊥
x_is_no_number n small e =
    let digits = subst (AllDigits 10) (sym e) (decimal_is_IsNumeral n small).0.1 in
    let digit = digit_from_value 120 digits.0 in
    omega (arith, digit)

hear_x_unread : read_line (codes "hear x") ≡ None
unfolding read_line kind_of pieces
hear_x_unread = ap (λ o. line_by (Some kind.Hear) (with_number o (Some []))) (number_none (codes "x") x_is_no_number)

hear_x_unformed : IsFormed (ended (codes "hear x")) → ⊥
hear_x_unformed formed =
    let read = first_read formed.line (ended (codes "hear x")) [] formed.fit (formed.spelled ∙ sym (append-nil _)) in
    let no : None ≡ Some formed.line = sym hear_x_unread ∙ read in cc

-- a word in place of a number is a fault of line 1
pub hear_x : IsFirstFault (ended (codes "hear x")) 1
unfolding cut_lines
hear_x = record {
  before = [];
  bytes = ended (codes "hear x");
  behind = [];
  cut = refl;
  counted = refl;
  formed = λ k d less. absurd (omega arith);
  faulty = hear_x_unformed;
}
