use Rattle.std.proofs.Common.{◌≡◌, if◌then◌else◌, Ok, Err, refl, sym, ap, subst, ◌∙◌, IsTrue, arith, rules}
use Rattle.sn_names.specs.Rosters.{RosterRows}
use Rattle.sn_app.specs.Bench.{BenchState, Played, has_lane, tray_of}
use Rattle.sn_app.specs.Desk.{closing_end, out_end}
use Rattle.sn_app.specs.Gates.{working}
use Rattle.sn_app.specs.Rows.{drain_one}
use Rattle.sn_app.proofs.DetachPlays.{leaves_same, leaves_then, only_then, plays_first, plays_more}
use Rattle.sn_app.proofs.Repeating.{played_halt, played_last}
use Rattle.sn_app.proofs.bench.Bench.empty.Goals as goal

pub loop-init : goal.loop-init
loop-init c = record {
  plays = plays_first _ (tray_of c.args.self.now) c.args.self.now.script;
  closing = c.requires.closing;
  used = refl;
  leaves = leaves_same c.args.lane c.args.side (tray_of c.args.self.now);
  rest = refl;
}

pub drain-requires-clause-end : goal.drain-requires-clause-end
drain-requires-clause-end c =
    subst (λ (r : RosterRows). IsTrue (has_lane r.lanes c.args.lane c.args.side))
    (sym (ap (λ (b : BenchState). b.roster) c.loop.invariant.rest)) c.requires.end

pub drain-requires-clause-closing : goal.drain-requires-clause-closing
drain-requires-clause-closing c = c.loop.invariant.closing

pub returns-in_err-drain-clause-plays : goal.returns-in_err-drain-clause-plays
returns-in_err-drain-clause-plays c =
    let once = drain_one working c.args.lane c.args.side in
    let now : BenchState = c.drain.new.self in
    let is : c.from_residual.result ≡ Err c.in_err-drain.field-0.0 = search rules in
    rw is
    (c.loop.invariant.plays.ends (tray_of now) now.script (Err c.in_err-drain.field-0.0)
    (played_halt once (tray_of c.loop.self) (tray_of now) c.loop.self.script now.script c.in_err-drain.field-0.0
    c.in_err-drain.ensures.plays))

pub returns-in_err-drain-clause-used : goal.returns-in_err-drain-clause-used
returns-in_err-drain-clause-used c = c.drain.ensures.used ∙ c.loop.invariant.used

pub returns-in_err-drain-clause-leaves : goal.returns-in_err-drain-clause-leaves
returns-in_err-drain-clause-leaves c =
    leaves_then c.args.lane c.args.side (tray_of c.args.self.now) (tray_of c.loop.self) (tray_of c.drain.new.self)
    c.loop.invariant.leaves
    c.drain.ensures.leaves

pub returns-in_err-drain-clause-rest : goal.returns-in_err-drain-clause-rest
returns-in_err-drain-clause-rest c =
    only_then c.args.self.now c.loop.self c.drain.new.self c.loop.invariant.rest c.drain.ensures.rest

pub loop-smaller : goal.loop-smaller
loop-smaller c = let one = c.in_ok-drain.ensures.one_less in omega (arith, one)

pub loop-preserved : goal.loop-preserved
loop-preserved c =
    let once = drain_one working c.args.lane c.args.side in
    let before : BenchState = c.loop.self in
    let now : BenchState = c.drain.new.self in
    let turn =
    subst (λ on. Played once (tray_of before) (tray_of now) before.script now.script (Ok on)) c.if-branch.true
    c.in_ok-drain.ensures.plays in
    record {
      plays = plays_more once (tray_of c.args.self.now) (tray_of before) (tray_of now) c.args.self.now.script before.script
          now.script
          c.loop.invariant.plays turn c.in_ok-drain.ensures.one_more c.in_ok-drain.ensures.one_less;
      closing = c.in_ok-drain.ensures.ends ∙ ap (λ b. if b then closing_end 0 else out_end) c.if-branch.true;
      used = c.drain.ensures.used ∙ c.loop.invariant.used;
      leaves = leaves_then c.args.lane c.args.side (tray_of c.args.self.now) (tray_of before) (tray_of now)
          c.loop.invariant.leaves
          c.drain.ensures.leaves;
      rest = only_then c.args.self.now before now c.loop.invariant.rest c.drain.ensures.rest;
    }

pub returns-clause-plays : goal.returns-clause-plays
returns-clause-plays c =
    let once = drain_one working c.args.lane c.args.side in
    let before : BenchState = c.loop.self in
    let now : BenchState = c.drain.new.self in
    let turn =
    subst (λ on. Played once (tray_of before) (tray_of now) before.script now.script (Ok on)) c.if-branch.false
    c.in_ok-drain.ensures.plays in
    c.loop.invariant.plays.ends (tray_of now) now.script (Ok tt)
    (played_last once (tray_of before) (tray_of now) before.script now.script turn)

pub returns-clause-used : goal.returns-clause-used
returns-clause-used c = c.drain.ensures.used ∙ c.loop.invariant.used

pub returns-clause-leaves : goal.returns-clause-leaves
returns-clause-leaves c =
    leaves_then c.args.lane c.args.side (tray_of c.args.self.now) (tray_of c.loop.self) (tray_of c.drain.new.self)
    c.loop.invariant.leaves
    c.drain.ensures.leaves

pub returns-clause-rest : goal.returns-clause-rest
returns-clause-rest c = only_then c.args.self.now c.loop.self c.drain.new.self c.loop.invariant.rest c.drain.ensures.rest
