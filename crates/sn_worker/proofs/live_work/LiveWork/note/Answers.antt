-- answers of src/live_work.rt, note of Work
use Rattle.sn_seat.specs.Trays.{captures_of}
use Rattle.sn_worker.proofs.OwnEntries.{own_plain}
use Rattle.sn_worker.proofs.Seats.{on_err}
use Rattle.sn_worker.proofs.live_work.LiveWork.note.Goals as goal

pub note-requires : goal.note-requires
note-requires g c = own_plain c.args.entry c.requires

pub returns-in_err-note-clause-refused : goal.returns-in_err-note-clause-refused
returns-in_err-note-clause-refused g c =
    on_err c.from_residual.result (c.in_err-note.ensures.refused (captures_of c.args.self.now.shared.now))

pub returns-clause-noted : goal.returns-clause-noted
returns-clause-noted g c = c.in_ok-note.ensures.noted (captures_of c.args.self.now.shared.now)
