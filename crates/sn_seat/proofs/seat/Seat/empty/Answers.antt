use Rattle.std.proofs.Common.{◌≡◌, ◌∙◌, Err, Ok, refl, rules, subst}
use Rattle.sn_app.specs.Answers.{OnTray}
use Rattle.sn_app.specs.Rows.{drain_one}
use Rattle.sn_seat.specs.Settling.{phase_by}
use Rattle.sn_seat.specs.Trays.{captures_of, seat_tray}
use Rattle.sn_seat.proofs.Again.{repeat_last, repeat_lost, repeats_more, repeats_start}
use Rattle.sn_seat.proofs.DetachRows.{leaves_on}
use Rattle.sn_seat.proofs.LaneRows.{leaves_same}
use Rattle.sn_seat.proofs.seat.Seat.empty.Goals as goal

pub loop-init : goal.loop-init
loop-init c = record {
  repeats = repeats_start _ (seat_tray (captures_of c.args.shared.now) c.args.self.now);
  closing = c.requires.closing;
  loaded = c.requires.loaded;
  used = λ on. refl;
  frees = λ on. refl;
  leaves = leaves_same c.args.lane c.args.side _ _ refl;
  kept = refl;
}

pub returns-in_err-drain-clause-reads : goal.returns-in_err-drain-clause-reads
returns-in_err-drain-clause-reads c =
    let is : c.from_residual.result ≡ Err c.in_err-drain.field-0.0 = search rules in
    let e = c.in_err-drain.ensures in
    rw is (c.loop.invariant.repeats.ends _ (Err c.in_err-drain.field-0.0) e.memory
    (repeat_lost (drain_one (phase_by c.args.freeing) c.args.lane c.args.side) e.memory e.reads))

pub returns-in_err-drain-clause-leaves : goal.returns-in_err-drain-clause-leaves
returns-in_err-drain-clause-leaves c =
    leaves_on c.args.lane c.args.side _ _ _ c.loop.invariant.leaves c.in_err-drain.ensures.leaves

pub loop-preserved : goal.loop-preserved
loop-preserved c =
    let caps = captures_of c.args.shared.now in
    let before = c.loop.invariant in
    let one = c.in_ok-drain.ensures in
    let came = c.if-branch.true in
    record {
      repeats = repeats_more before.repeats
          (subst (λ b. OnTray (drain_one (phase_by c.args.freeing) c.args.lane c.args.side) (seat_tray caps c.loop.self)
          (seat_tray caps c.drain.new.self) (Ok b))
          came one.reads) one.one_more;
      closing = one.closing came;
      loaded = one.loaded came;
      used = λ on. one.used on ∙ before.used on;
      frees = λ on. one.frees on ∙ before.frees on;
      leaves = leaves_on c.args.lane c.args.side _ _ _ before.leaves one.leaves;
      kept = one.kept ∙ before.kept;
    }

pub returns-clause-reads : goal.returns-clause-reads
returns-clause-reads c =
    let caps = captures_of c.args.shared.now in
    let m = drain_one (phase_by c.args.freeing) c.args.lane c.args.side in
    c.loop.invariant.repeats.ends _ (Ok tt) tt
    (repeat_last m (subst (λ b. OnTray m (seat_tray caps c.loop.self) (seat_tray caps c.drain.new.self) (Ok b)) c.if-branch.false
    c.in_ok-drain.ensures.reads))

pub returns-clause-leaves : goal.returns-clause-leaves
returns-clause-leaves c =
    leaves_on c.args.lane c.args.side _ _ _ c.loop.invariant.leaves c.in_ok-drain.ensures.leaves
