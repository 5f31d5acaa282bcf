use Rattle.std.proofs.Common.{sym, ap, ◌∙◌}
use Rattle.sn_app.specs.Desk.{End}
use Rattle.sn_seat.specs.SeatEnds.{desk_state}
use Rattle.sn_seat.proofs.LedgerEnds.{stands}
use Rattle.sn_seat.proofs.ledger_ends.state_at.Goals as goal

pub returns : goal.returns
returns c =
    let l = c.args.ledger.now in
    ap (λ (e : End). e.state) (stands l.told l.quiet _ _ _ c.index.result.now c.end_place-place.ensures.at c.index.ensures)
    ∙ ap desk_state (sym c.state.ensures)
