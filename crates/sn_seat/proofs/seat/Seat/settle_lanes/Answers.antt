use Rattle.std.proofs.Common.{◌∙◌, ap, length, map, refl, subst, sym}
use Rattle.sn_app.specs.Desk.{name_of}
use Rattle.sn_seat.specs.Fitting.{Belongs, Bond}
use Rattle.sn_seat.specs.Trays.{bond_of}
use Rattle.sn_seat.proofs.FreeNames.{all_used}
use Rattle.sn_seat.proofs.Outcomes.{on_ok_then}
use Rattle.sn_seat.proofs.SettleRows.{all_out, lanes_read}
use Rattle.sn_seat.proofs.seat.Seat.settle_lanes.Goals as goal

pub returns-clause-reads : goal.returns-clause-reads
returns-clause-reads c = lanes_read c.lanes-lanes.result (sym c.lanes-lanes.ensures) c.settle_first.ensures.reads

pub returns-clause-none : goal.returns-clause-none
returns-clause-none c = ap (map name_of) c.settle_first.ensures.frees ∙ c.requires.none

pub returns-clause-used : goal.returns-clause-used
returns-clause-used c =
    all_used c.settle_first.new.self.ledger.hold (ap (map name_of) c.settle_first.ensures.frees ∙ c.requires.none)

pub returns-clause-out : goal.returns-clause-out
returns-clause-out c =
    let kept = c.settle_first.ensures.kept in
    let s = c.args.shared.now in
    let fits = subst (λ b. Belongs b s.lanes.items s.group s.channels.items (length s.captures.items)) (sym kept)
    c.requires.fits in
    on_ok_then c.settle_first.result
    (all_out {bond = bond_of c.settle_first.new.self} fits c.settle_first.new.self.ledger.ends.items refl c.lanes-lanes.result
    (ap (λ (b : Bond). b.lanes) kept ∙ sym c.lanes-lanes.ensures))
    c.settle_first.ensures.out
