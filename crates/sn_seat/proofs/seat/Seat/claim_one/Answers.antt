use Rattle.std.proofs.Common.{ap}
use Rattle.sn_packet.proofs.Puts.{some_laid}
use Rattle.sn_app.specs.Desk.{name_of}
use Rattle.sn_app.proofs.Gaining.{gained}
use Rattle.sn_seat.proofs.ClaimRows.{there_laid}
use Rattle.sn_seat.proofs.TrayParts.{more_free, tray_freed}
use Rattle.sn_seat.specs.SeatEnds.{ends_in}
use Rattle.sn_seat.proofs.seat.Seat.claim_one.Goals as goal

pub free-requires : goal.free-requires
free-requires c =
    let came = c.in-Some.ensures.step.came in
    some_laid _ _ _ _ came.used

pub returns-in-Some-clause-used : goal.returns-in-Some-clause-used
returns-in-Some-clause-used c =
    let came = c.in-Some.ensures.step.came in
    gained _ _ _ _ c.in-Some.ensures.step.packet came.fresh came.used c.free.ensures.used

pub returns-in-Some-clause-step : goal.returns-in-Some-clause-step
returns-in-Some-clause-step c =
    λ captures.
    let s = c.args.self.now in
    let l = c.in-Some.ensures in
    let p = l.step.packet in
    let came = l.step.came in
    record {
      name = name_of p;
      number = came.number;
      turn = came.turn;
      tray = tray_freed s.stops.items s.roster captures _ _ _ _ 0 _ _ _ _ s.counters s.files.items p (ap (λ w. w.ends) l.wiring)
          l.step.noted (more_free _ _ _ _ p c.free.ensures.frees came.frees (there_laid c.claim.new.self.hold _ _ p came.used))
          (ap (λ e. ends_in e.items) l.ends);
    }
