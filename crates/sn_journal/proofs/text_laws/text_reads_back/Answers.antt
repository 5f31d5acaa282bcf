use Rattle.std.proofs.Common.{map, refl}
use Rattle.sn_journal.specs.JournalText.{journal_text, line_of}
use Rattle.sn_journal.proofs.Outlines.{one_outline}
use Rattle.sn_journal.proofs.text_laws.text_reads_back.Goals as goal

pub returns-clause-only : goal.returns-clause-only
returns-clause-only c = λ entries lines fit read.
    one_outline (journal_text entries) lines (map line_of entries) read (record { spelled = refl; fit = fit })
