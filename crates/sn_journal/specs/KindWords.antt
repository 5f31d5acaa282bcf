-- The kind of line that a word stands for.
use Rattle.std.specs.Prelude.{List, Option, [], find, ℕ, ◌∷◌}
use Rattle.std.specs.Str.{bytes_eq}
use Rattle.sn_journal.specs.JournalText.{kind_word}
use Rattle.sn_journal.specs.declared.kind.Kind.{Kind}
use Rattle.sn_journal.specs.declared.kind.Kind.TheVariants as kind

-- all kinds
abbrev pub all_kinds : List Kind
all_kinds =
    kind.Round ∷ kind.Hear ∷ kind.Breath ∷ kind.Attach ∷ kind.Unattached ∷ kind.Detach ∷ kind.Reset ∷ kind.Seen ∷
    kind.Room ∷ kind.Put ∷ kind.Take ∷ kind.Drain ∷ kind.Got ∷ kind.Dry ∷ kind.Gave ∷ kind.Full ∷ kind.Worn ∷
    kind.Spent ∷ kind.Stop ∷ kind.Close ∷ kind.Reclaimed ∷ kind.Restart ∷ []

-- the kind of this word, if there is one
unfoldable pub kind_of : List ℕ → Option Kind
kind_of word = find (λ kind. bytes_eq word (kind_word kind)) all_kinds
