use Rattle.std.proofs.Common.{◌≡◌, ◌∙◌, IsTrue, Err, refl, sym, ap, subst, arith, rules}
use Rattle.sn_core.specs.declared.events.Side.TheVariants.{Tx}
use Rattle.sn_app.specs.Apps.{next_of, put_packet}
use Rattle.sn_app.specs.Ports.{in_row, slots_of}
use Rattle.sn_app.specs.Reader.{times}
use Rattle.sn_app.specs.World.{nowhere, world}
use Rattle.sn_app.proofs.Looping.{did_as, did_gave, goes_start, in_row_kept, in_within, ready_then, times_first, turn_end, turn_halt, turn_next, turn_stop}
use Rattle.sn_edge.proofs.transmitter.put_some.Goals as goal

pub loop-turn-init : goal.loop-turn-init
loop-turn-init g c =
    let once = next_of (in_row c.args.ports.now c.args.i) (put_packet c.args.row c.args.lane) in
    record {
      lent = refl;
      up = c.requires.up;
      known = omega (arith, c.requires.known);
      goes = times_first c.args.count 0 once
          (goes_start (times c.args.count once)
          (world (g.C.Ctx.tray c.args.ctx.now) (g.C.Ctx.used c.args.ctx.now) (slots_of c.args.ports.now)) nowhere
          c.args.ports.now c.requires.ready.sound);
    }

pub put_next-requires-clause-ready : goal.put_next-requires-clause-ready
put_next-requires-clause-ready g c = ready_then c.requires.ready c.loop-turn.invariant.goes

pub put_next-requires-clause-end : goal.put_next-requires-clause-end
put_next-requires-clause-end g c =
    subst (λ constants. IsTrue (constants.has_end c.args.lane Tx)) (sym c.loop-turn.invariant.goes.stays.constants) c.requires.end

pub put_next-requires-clause-up : goal.put_next-requires-clause-up
put_next-requires-clause-up g c = c.loop-turn.invariant.up

pub put_next-requires-clause-known : goal.put_next-requires-clause-known
put_next-requires-clause-known g c = omega (arith, c.loop-turn.invariant.known, c.loop-turn-test.true)

pub put_next-requires-clause-i : goal.put_next-requires-clause-i
put_next-requires-clause-i g c = in_within c.loop-turn.invariant.goes.same c.args.i c.requires.i

pub returns-in_err-put_next-clause-did : goal.returns-in_err-put_next-clause-did
returns-in_err-put_next-clause-did g c =
    let kept = c.loop-turn.invariant.goes in
    let m = put_packet c.args.row c.args.lane in
    let same = ap (λ row. next_of row m) (in_row_kept kept.same kept.rows c.args.i) in
    let e : c.from_residual.result ≡ Err c.in_err-put_next.field-0.0 = search rules in
    rw e (turn_halt c.args.count c.loop-turn._turn (next_of (in_row c.args.ports.now c.args.i) m) kept c.loop-turn-test.true
    (did_as same c.in_err-put_next.ensures.did))

pub returns-then-not-branch-clause-did : goal.returns-then-not-branch-clause-did
returns-then-not-branch-clause-did g c =
    let kept = c.loop-turn.invariant.goes in
    let m = put_packet c.args.row c.args.lane in
    let same = ap (λ row. next_of row m) (in_row_kept kept.same kept.rows c.args.i) in
    turn_stop c.args.count c.loop-turn._turn (next_of (in_row c.args.ports.now c.args.i) m) kept c.loop-turn-test.true
    (did_gave c.if-not-branch.true (did_as same c.in_ok-put_next.ensures.did))

pub loop-turn-preserved : goal.loop-turn-preserved
loop-turn-preserved g c =
    let kept = c.loop-turn.invariant.goes in
    let m = put_packet c.args.row c.args.lane in
    let same = ap (λ row. next_of row m) (in_row_kept kept.same kept.rows c.args.i) in
    record {
      lent = c.in_ok-put_next.ensures.lent ∙ c.loop-turn.invariant.lent;
      up = c.in_ok-put_next.ensures.up;
      known = omega (arith, c.in_ok-put_next.ensures.known, c.loop-turn.invariant.known, c.loop-turn-test.true);
      goes = turn_next c.args.count c.loop-turn._turn (next_of (in_row c.args.ports.now c.args.i) m) kept c.loop-turn-test.true
          (did_gave c.if-not-branch.false (did_as same c.in_ok-put_next.ensures.did));
    }

pub returns-clause-did : goal.returns-clause-did
returns-clause-did g c =
    turn_end c.args.count c.loop-turn._turn (next_of (in_row c.args.ports.now c.args.i) (put_packet c.args.row c.args.lane))
    c.loop-turn.invariant.goes c.loop-turn-test.false
