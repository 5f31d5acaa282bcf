use Rattle.std.proofs.Common.{rules, ◌≡◌, ◌∙◌, Err, ap, refl, sym}
use Rattle.sn_app.specs.Reader.{repeated}
use Rattle.sn_app.proofs.OnTrays.{leaves_then}
use Rattle.sn_seat.specs.Tellings.{seat_hold}
use Rattle.sn_seat.specs.Trays.{captures_of, seat_tray, seat_used}
use Rattle.sn_seat.proofs.Again.{repeats_more, repeats_start}
use Rattle.sn_reclaim.specs.Attempts.{give_or_end}
use Rattle.sn_reclaim.proofs.Attempting.{on_err_then, on_ok_then}
use Rattle.sn_reclaim.proofs.Givings.{ended, ended_leaves, lost_ends}
use Rattle.sn_reclaim.proofs.Walking.{nothing_left, walk_starts}
use Rattle.sn_reclaim.proofs.giving.give_all.Goals as goal

pub loop-left-init : goal.loop-left-init
loop-left-init c =
    let s = c.args.seat.now in
    let held = c.held-left.ensures in
    record {
      repeats = repeats_start give_or_end (seat_tray (captures_of c.args.shared.now) s);
      walks = walk_starts (seat_hold s) (seat_used s) c.requires.used c.held-left.result held.held held.least held.none;
      leaves = record { constants = refl; files = refl; ends = refl };
      kept = refl;
    }

pub loop-left-preserved : goal.loop-left-preserved
loop-left-preserved c =
    let before = c.loop-left.invariant in
    let one = c.in_ok-left.ensures in
    record {
      repeats = repeats_more before.repeats one.reads one.one_more;
      walks = one.walks;
      leaves = leaves_then before.leaves one.leaves;
      kept = one.kept ∙ before.kept;
    }

pub returns-in_err-left-clause-reads : goal.returns-in_err-left-clause-reads
returns-in_err-left-clause-reads c =
    let is : c.from_residual.result ≡ Err c.in_err-left.field-0.0 = search rules in
    rw is (lost_ends (repeated give_or_end) (leaves_then c.loop-left.invariant.leaves c.in_err-left.ensures.leaves))

pub returns-in_err-left-clause-leaves : goal.returns-in_err-left-clause-leaves
returns-in_err-left-clause-leaves c = leaves_then c.loop-left.invariant.leaves c.in_err-left.ensures.leaves

pub returns-clause-reads : goal.returns-clause-reads
returns-clause-reads c =
    let caps = captures_of c.args.shared.now in
    ended (seat_tray caps c.args.seat.now) (seat_tray caps c.loop-left.seat) (seat_tray caps c.note.new.self) c.note.result
    (λ e. refl) c.loop-left.invariant.repeats c.loop-left.invariant.leaves
    (on_ok_then c.note.result (λ noted. noted caps) c.note.ensures.noted)
    (on_err_then c.note.result (λ refused. refused caps) c.note.ensures.refused)

pub returns-clause-leaves : goal.returns-clause-leaves
returns-clause-leaves c =
    let caps = captures_of c.args.shared.now in
    ended_leaves (seat_tray caps c.args.seat.now) (seat_tray caps c.loop-left.seat) (seat_tray caps c.note.new.self) c.note.result
    c.loop-left.invariant.leaves
    (on_ok_then c.note.result (λ noted. noted caps) c.note.ensures.noted)
    (on_err_then c.note.result (λ refused. refused caps) c.note.ensures.refused)

pub returns-clause-used : goal.returns-clause-used
returns-clause-used c =
    let none = sym c.is_some.ensures ∙ c.loop-left-test.false in
    on_ok_then c.note.result
    (λ noted. λ place.
    ap (λ used. used place) c.note.ensures.used ∙ nothing_left c.loop-left.left none c.loop-left.invariant.walks place)
    c.note.ensures.noted
