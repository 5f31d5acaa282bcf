use Rattle.sn_seat.specs.Trays.{captures_of}
use Rattle.sn_seat.proofs.Outcomes.{on_err_at, on_ok_at}
use Rattle.sn_seat.proofs.live.Live.note.Goals as goal

pub returns-clause-noted : goal.returns-clause-noted
returns-clause-noted g c = on_ok_at c.note.result _ (captures_of c.args.self.now.shared.now) c.note.ensures.noted

pub returns-clause-refused : goal.returns-clause-refused
returns-clause-refused g c = on_err_at c.note.result _ (captures_of c.args.self.now.shared.now) c.note.ensures.refused
