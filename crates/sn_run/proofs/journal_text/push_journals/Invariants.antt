use Rattle.std.proofs.Common.{◌≡◌, ◌++◌, drop, map}
use Rattle.sn_run.specs.Written.{journals_text}
use Rattle.sn_run.proofs.journal_text.push_journals.Given as goal

-- the text so far and that of the journals that are left are the whole text
abbrev pub invariant-loop-journal : goal.invariant-loop-journal
invariant-loop-journal l = record {
  number : l.worker ≡ l.journal-index;
  text :
      l.into.items ++ journals_text l.worker (map (λ j. j.entries) (drop l.journal-index l.journals))
      ≡ l.fn.into.items ++ journals_text 0 (map (λ j. j.entries) l.journals);
}
