use Rattle.std.proofs.Common.{rules, sym, ap, ◌∙◌}
use Rattle.sn_app.specs.Desk.{End}
use Rattle.sn_seat.specs.SeatEnds.{desk_state}
use Rattle.sn_seat.proofs.EndLists.{found, found_within}
use Rattle.sn_seat.proofs.LedgerEnds.{stands}
use Rattle.sn_seat.proofs.SettleRows.{none_out}
use Rattle.sn_seat.proofs.seat_settle.state_or_out.Goals as goal

pub returns-in-None : goal.returns-in-None
returns-in-None c =
    none_out c.args.ledger.now.ends.items c.args.number c.args.side (sym c.find_end.ensures ∙ c.in-None.is)

pub index-requires : goal.index-requires
index-requires c =
    let within = found_within c.args.number c.args.side c.args.ledger.now.ends.items c.in-Some.place
    (sym c.find_end.ensures ∙ c.in-Some.is) in
    search rules

pub returns-in-Some : goal.returns-in-Some
returns-in-Some c =
    let l = c.args.ledger.now in
    let at = found c.args.number c.args.side l.ends.items _ (sym c.find_end.ensures ∙ c.in-Some.is) in
    ap (λ (e : End). e.state) (stands l.told l.quiet _ _ _ c.index.result.now at c.index.ensures)
    ∙ ap desk_state (sym c.state.ensures)
