use Rattle.std.proofs.Common.{ap, ap₂, length, ◌∙◌}
use Rattle.sn_names.specs.Rosters.{RosterRows}
use Rattle.sn_seat.specs.Openings.{all_ends, new_tray}
use Rattle.sn_seat.specs.SeatEnds.{wires}
use Rattle.sn_sharing.specs.Opened.{stops_of}
use Rattle.sn_sharing.proofs.seating.seat_of.Goals as goal

pub returns : goal.returns
returns c =
    let ends = c.args.ends in
    let all = all_ends ends.tx.items ends.rx.items in
    let stops = c.in_ok-stops.ensures ∙ ap (stops_of c.args.worker) c.stops.ensures.same in
    record {
      tray =
          λ captures. c.in_ok-seat.ensures.tray captures
          ∙ ap₂ (λ pairs roster. new_tray pairs roster captures all) stops c.in_ok-roster.ensures;
      used = c.in_ok-seat.ensures.used;
      bond =
          c.in_ok-seat.ensures.bond
          ∙ ap₂ (λ (roster : RosterRows) met. record {
            worker = c.args.worker;
            wiring = record { ends = wires all; group = c.args.group.group; channel = c.args.listener.channel; met = met };
            captures = length roster.captures;
            lanes = length roster.lanes;
          }) c.in_ok-roster.ensures c.requires.met;
    }
