-- The text of short journals, worked out on the definition.
use Rattle.std.proofs.Common.{List, [], lit<, refl, ℕ, ◌++◌, ◌∷◌, ◌≡◌}
use Rattle.std.specs.Prelude.{codes}
use Rattle.std.proofs.lemmas.Fmt.{decimal_digit}
use Rattle.sn_journal.specs.declared.entry.Entry.TheVariants.{Breath, Got, Hear, Put, Round, Unattached}
use Rattle.sn_journal.specs.JournalText.{journal_text, spelled}

-- these bytes, ended
abbrev pub ended : List ℕ → List ℕ
ended line = line ++ 10 ∷ []

pub first_breath : journal_text (Round 1 ∷ Hear 6 ∷ Breath ∷ [])
    ≡ ended (codes "round 1") ++ (ended (codes "hear 6") ++ ended (codes "breath"))
unfolding spelled
first_breath = rw (decimal_digit 1 (lit< tt), decimal_digit 6 (lit< tt)) refl

pub a_packet : journal_text (Got 5 0 ∷ Put 2 8 5 1 (7 ∷ 7 ∷ 7 ∷ []) ∷ [])
    ≡ ended (codes "got 5 0") ++ ended (codes "put 2 8 5 1 3")
unfolding spelled
a_packet =
    rw (
      decimal_digit 0 (lit< tt),
      decimal_digit 1 (lit< tt),
      decimal_digit 2 (lit< tt),
      decimal_digit 3 (lit< tt),
      decimal_digit 5 (lit< tt),
      decimal_digit 8 (lit< tt),
    ) refl

pub down_was_loaded : journal_text (Unattached 0 8 8 ∷ []) ≡ ended (codes "unattached 0 8 8")
unfolding spelled
down_was_loaded = rw (decimal_digit 0 (lit< tt), decimal_digit 8 (lit< tt)) refl
