use Rattle.std.proofs.Common.{◌∙◌, ◌++◌, ◌∷◌, [], Some, ap, refl, sym}
use Rattle.sn_packet.specs.Hold.{frees_of, used_of}
use Rattle.sn_app.specs.Rows.{refill_one}
use Rattle.sn_app.proofs.Claiming.{first_told, reads_got}
use Rattle.sn_app.proofs.BenchFields.{state_of}
use Rattle.sn_app.proofs.OnTrays.{halt_lost, tray_lost}
use Rattle.sn_app.proofs.Playing.{may_read}
use Rattle.sn_app.proofs.bench.Bench.take_claimed.Goals as goal

pub returns-clause-reads : goal.returns-clause-reads
returns-clause-reads c =
    let b = c.self.inside in
    let read = c.advance.ensures.read in
    let told = rw (sym c.self.view_is) at c.requires in
    let was = sym c.in_ok-reserve-2.ensures.script ∙ read.was in
    let frees = c.lay_free.ensures.frees ∙ (ap (λ hold. frees_of hold ++ c.in_ok-packet.packet ∷ []) c.in_ok-reserve.ensures.rest
    ∙ ap (λ packet. frees_of b.hold ++ packet ∷ []) c.in_ok-packet.ensures) in
    rw (sym c.self.view_is)
    (reads_got (state_of b) c.lay_free.new.hold
    c.advance.new.self.past read.entry c.args.number c.args.turn
    (first_told b.tape.script c.advance.new.self.script read.entry (Some (Some (c.args.number, c.args.turn))) was told)
    (may_read b.bare b.tape.script c.advance.new.self.script read.entry c.self.invariant.script was)
    (read.joins ∙ ap (λ past. past ++ read.entry ∷ []) c.in_ok-reserve-2.ensures.past)
    frees)

pub returns-clause-used : goal.returns-clause-used
returns-clause-used c =
    rw (sym c.self.view_is) (c.lay_free.ensures.used ∙ ap used_of c.in_ok-reserve.ensures.rest)

pub returns-in_err-packet-clause-reads : goal.returns-in_err-packet-clause-reads
returns-in_err-packet-clause-reads c =
    rw (halt_lost c.from_residual.result c.from_residual.ensures.1)
    (tray_lost refill_one (record { constants = refl; started = λ file h. h }))

pub returns-in_err-reserve-clause-reads : goal.returns-in_err-reserve-clause-reads
returns-in_err-reserve-clause-reads c =
    rw (sym c.self.view_is, halt_lost c.from_residual-in_err-reserve.result c.from_residual-in_err-reserve.ensures.1)
    (tray_lost refill_one (record { constants = refl; started = λ file h. h }))

pub returns-in_err-reserve-2-clause-reads : goal.returns-in_err-reserve-2-clause-reads
returns-in_err-reserve-2-clause-reads c =
    rw (sym c.self.view_is, halt_lost c.from_residual-in_err-reserve-2.result c.from_residual-in_err-reserve-2.ensures.1)
    (tray_lost refill_one (record { constants = refl; started = λ file h. h }))
