use Rattle.std.proofs.Common.{◌≡◌, ◌∙◌, ◌++◌, ◌∷◌, [], None, Some, ap, refl, sym}
use Rattle.sn_journal.specs.declared.entry.Entry.TheVariants.{Dry}
use Rattle.sn_app.specs.Rows.{refill_one}
use Rattle.sn_app.proofs.Claiming.{dry_is, first_told, reads_dry}
use Rattle.sn_app.proofs.BenchFields.{state_of}
use Rattle.sn_app.proofs.OnTrays.{halt_lost, tray_lost}
use Rattle.sn_app.proofs.bench.Bench.read_dry.Goals as goal

pub returns-clause-reads : goal.returns-clause-reads
returns-clause-reads c =
    let b = c.self.inside in
    let read = c.advance.ensures.read in
    let told = rw (sym c.self.view_is) at c.requires in
    let was = sym c.in_ok-reserve.ensures.script ∙ read.was in
    let is : read.entry ≡ Dry =
    dry_is read.entry (first_told b.tape.script c.advance.new.self.script read.entry (Some None) was told) in
    rw (sym c.self.view_is)
    (reads_dry (state_of b) c.advance.new.self.past
    (read.joins ∙ (ap (λ past. past ++ read.entry ∷ []) c.in_ok-reserve.ensures.past
    ∙ ap (λ entry. b.tape.past ++ entry ∷ []) is)))

pub returns-in_err-reserve-clause-reads : goal.returns-in_err-reserve-clause-reads
returns-in_err-reserve-clause-reads c =
    rw (sym c.self.view_is, halt_lost c.from_residual.result c.from_residual.ensures.1)
    (tray_lost refill_one (record { constants = refl; started = λ file h. h }))
