-- answers of src/slot.rt, Slot::new
use Rattle.std.proofs.Common.{ap, refl}
use Rattle.sn_app.specs.World.{desk_of}
use Rattle.sn_seat.specs.Trays.{no_captures, seat_tray, seat_used}
use Rattle.sn_worker.specs.Lives.{Life}
use Rattle.sn_worker.proofs.slot.Slot.new.Goals as goal

pub returns-clause-life : goal.returns-clause-life
returns-clause-life c = λ captures.
    ap (λ (life : Life). record { life = life; breathed = 0 })
    (c.new.ensures.life (seat_used c.args.seat) (seat_tray captures c.args.seat))

pub returns-clause-desk : goal.returns-clause-desk
returns-clause-desk c = λ captures.
    ap desk_of (c.new.ensures.queues (seat_used c.args.seat) (seat_tray captures c.args.seat))

pub returns-clause-can : goal.returns-clause-can
returns-clause-can c = λ captures finds. record {
  works = c.new.ensures.works (seat_used c.args.seat) (seat_tray captures c.args.seat) finds;
  runs = refl;
  open_yet = refl;
}

pub returns-clause-unspent : goal.returns-clause-unspent
returns-clause-unspent c =
    ap (λ (life : Life). life.spent) (c.new.ensures.life (seat_used c.args.seat) (seat_tray no_captures c.args.seat))
