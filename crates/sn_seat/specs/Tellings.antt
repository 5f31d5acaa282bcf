-- That a seat's journal tells all that its shared objects and its hold know.
use Rattle.std.specs.Prelude.{List}
use Rattle.sn_channel.specs.Ends.{ListenerLog}
use Rattle.sn_group.specs.Seats.{SeatState}
use Rattle.sn_journal.specs.declared.entry.Entry.{Entry}
use Rattle.sn_packet.specs.Hold.{Held}
use Rattle.sn_seat.specs.Resting.{Quiet}
use Rattle.sn_seat.specs.SeatEnds.{Numbered}
use Rattle.sn_seat.specs.Told.{Told}
use Rattle.sn_seat.specs.declared.seat.Seat.{Seat}

-- what a journal tells of
abbrev pub seat_ends : Seat → List Numbered
seat_ends seat = seat.ledger.ends.items

abbrev pub seat_hold : Seat → Held
seat_hold seat = seat.ledger.hold

abbrev pub seat_group : Seat → SeatState
seat_group seat = seat.ledger.group

abbrev pub seat_listener : Seat → ListenerLog
seat_listener seat = seat.ledger.listener

-- the entries are those that the seat's ends, its group's seat, its listener and its hold tell, and nothing is half done
pub record TellsAll (entries : List Entry) (seat : Seat) : Type 0 where
  pub told : Told entries (seat_hold seat) (seat_ends seat) (seat_group seat) (seat_listener seat)
  pub quiet : Quiet (seat_ends seat) (seat_group seat)
