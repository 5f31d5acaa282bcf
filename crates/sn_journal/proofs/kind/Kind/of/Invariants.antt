-- The kind is still to come, if there is one.
use Rattle.std.proofs.Common.{◌≡◌}
use Rattle.sn_journal.specs.KindWords.{kind_of}
use Rattle.sn_journal.proofs.KindPlaces.{kind_from}
use Rattle.sn_journal.proofs.kind.Kind.of.Given as goal

abbrev pub invariant-loop-kind : goal.invariant-loop-kind
invariant-loop-kind l = kind_of l.text ≡ kind_from l.kind-index l.text
