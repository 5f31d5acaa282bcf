use Rattle.std.proofs.Common.{slice_get, subst, sym, ap, ◌∙◌}
use Rattle.sn_seat.specs.Tellings.{seat_hold}
use Rattle.sn_sharing.proofs.Ending.{closable}
use Rattle.sn_sharing.proofs.Lists.{from_row}
use Rattle.sn_sharing.proofs.ToldEnds.{all_fifo, at_rest, told_held, told_kept, told_logs}
use Rattle.sn_sharing.specs.Columns.{pasts}
use Rattle.sn_sharing.specs.Kept.{IsAllFree}
use Rattle.sn_sharing.specs.LeftEnds.{lists}
use Rattle.sn_sharing.specs.Receipts.{AreReceipts}
use Rattle.sn_sharing.proofs.closing.close.Goals as goal

pub close_lanes-requires : goal.close_lanes-requires
close_lanes-requires c =
    let parts = c.in_ok-journals.ensures in
    rw parts.ends
    (closable c.args.lanes.now c.args.shared c.args.seats.items c.requires.lanes c.requires.interlinks c.requires.bonds
    c.requires.out)

pub keep_all-requires : goal.keep_all-requires
keep_all-requires c = λ worker hold there.
    let parts = c.in_ok-journals.ensures in
    let row = from_row seat_hold c.args.seats.items worker hold (ap (λ hs. slice_get hs worker) (sym parts.holds) ∙ there) in
    subst IsAllFree row.is (c.requires.free worker row.row row.there)

pub close-requires-clause-rest : goal.close-requires-clause-rest
close-requires-clause-rest c =
    let parts = c.in_ok-journals.ensures in
    at_rest c.args.seats.items parts.told c.args.lanes.now c.args.shared c.in_ok-journals.field-0.groups.items c.requires.bonds
    parts.groups

pub returns-clause-logs : goal.returns-clause-logs
returns-clause-logs c =
    let parts = c.in_ok-journals.ensures in
    let receipts = c.in_ok-receipts.receipts.items in
    told_logs c.args.seats.items parts.told c.args.lanes.now receipts (pasts c.in_ok-journals.field-0.journals.items)
    c.close.result c.in_ok-journals.field-0.groups.items c.requires.lanes c.in_ok-receipts.ensures.count
    (subst (λ ends. AreReceipts c.args.lanes.now ends receipts) parts.ends c.in_ok-receipts.ensures.receipts) parts.journals
    parts.groups c.close.ensures.logs

pub returns-clause-fifo : goal.returns-clause-fifo
returns-clause-fifo c =
    all_fifo c.args.lanes.now (lists c.in_ok-journals.field-0.ends.items) c.in_ok-receipts.receipts.items
    c.in_ok-receipts.ensures.count c.in_ok-receipts.ensures.receipts

pub returns-clause-kept : goal.returns-clause-kept
returns-clause-kept c =
    let parts = c.in_ok-journals.ensures in
    told_kept c.args.seats.items c.in_ok-journals.field-0.holds.items (lists c.in_ok-kept.kept.items) parts.holds
    c.in_ok-kept.ensures

pub returns-clause-held : goal.returns-clause-held
returns-clause-held c =
    let parts = c.in_ok-journals.ensures in
    told_held c.args.seats.items parts.told (pasts c.in_ok-journals.field-0.journals.items)
    c.in_ok-journals.field-0.holds.items (lists c.in_ok-kept.kept.items) parts.journals parts.holds c.in_ok-kept.ensures
