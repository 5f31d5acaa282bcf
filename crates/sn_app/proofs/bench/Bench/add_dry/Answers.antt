use Rattle.std.proofs.Common.{◌∙◌, ◌++◌, ◌∷◌, [], ap, refl, sym}
use Rattle.sn_journal.specs.declared.entry.Entry.TheVariants.{Dry}
use Rattle.sn_app.specs.Rows.{refill_one}
use Rattle.sn_app.proofs.Claiming.{reads_dry}
use Rattle.sn_app.proofs.BenchFields.{state_of}
use Rattle.sn_app.proofs.OnTrays.{halt_lost, tray_lost}
use Rattle.sn_app.proofs.bench.Bench.add_dry.Goals as goal

pub returns-clause-reads : goal.returns-clause-reads
returns-clause-reads c =
    let b = c.self.inside in
    rw (sym c.self.view_is)
    (reads_dry (state_of b) c.note.new.self.past
    (c.note.ensures.past ∙ ap (λ past. past ++ Dry ∷ []) c.in_ok-reserve.ensures.past))

pub returns-in_err-reserve-clause-reads : goal.returns-in_err-reserve-clause-reads
returns-in_err-reserve-clause-reads c =
    rw (sym c.self.view_is, halt_lost c.from_residual.result c.from_residual.ensures.1)
    (tray_lost refill_one (record { constants = refl; started = λ file h. h }))
