use Rattle.std.proofs.Common.{◌<◌, ◌∙◌, None, arith, length}
use Rattle.std.proofs.lemmas.List.{get_or_read}
use Rattle.sn_app.specs.Rows.{row_file_start}
use Rattle.sn_app.proofs.Filing.{lost_filed, row_begun}
use Rattle.sn_app.proofs.OnTrays.{halt_lost}
use Rattle.sn_seat.specs.Trays.{seat_tray}
use Rattle.sn_seat.proofs.seat.Seat.file_start.Goals as goal

pub returns-clause-reads : goal.returns-clause-reads
returns-clause-reads c = λ captures. rw c.in_ok-start.ensures.begun (row_begun (seat_tray captures c.args.self.now) c.args.file)

pub returns-in_err-start-clause-reads : goal.returns-in_err-start-clause-reads
returns-in_err-start-clause-reads c =
    λ captures.
    let b = c.args.self.now in
    let within : c.args.file < length b.files.items = omega (arith, c.requires, b.rows.files_are) in
    let there = get_or_read b.files.items c.args.file c.index_mut.result.now within c.index_mut.ensures.value None in
    rw (halt_lost c.from_residual.result c.from_residual.ensures.1)
    (lost_filed (row_file_start c.args.file) (seat_tray captures b) c.args.file c.start.new.self
    (c.in_err-start.ensures.refused ∙ there))
