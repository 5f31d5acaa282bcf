use Rattle.std.proofs.Common.{[], ◌∷◌, refl}
use Rattle.std.proofs.lemmas.Bool.{and_from}
use Rattle.sn_journal.proofs.Balances.{held_from-append, speak-append}
use Rattle.sn_journal.proofs.laws.holding_grows.Goals as goal

pub returns-clause-held : goal.returns-clause-held
returns-clause-held c = λ entries entry. held_from-append [] entries (entry ∷ [])

pub returns-clause-only : goal.returns-clause-only
returns-clause-only c = λ entries entry only one.
    record { each = speak-append [] entries (entry ∷ []) only.each (and_from _ _ one refl) }
