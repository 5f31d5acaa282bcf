use Rattle.std.proofs.Common.{◌≡◌, ◌∙◌, ◌-◌, IsTrue, Err, refl, sym, ap, subst, arith, rules}
use Rattle.sn_core.specs.declared.events.Side.TheVariants.{Rx}
use Rattle.sn_app.specs.Apps.{receive_one}
use Rattle.sn_app.specs.Calls.{known_at}
use Rattle.sn_app.specs.Desk.{End}
use Rattle.sn_app.specs.Ports.{out_row, slots_of}
use Rattle.sn_app.specs.Reader.{times}
use Rattle.sn_app.specs.World.{nowhere, world}
use Rattle.sn_app.proofs.Looping.{did_as, goes_start, out_row_kept, out_within, ready_then, times_first, turn_end, turn_halt, turn_next}
use Rattle.sn_edge.proofs.receiver.receive_some.Goals as goal

pub loop-turn-init : goal.loop-turn-init
loop-turn-init g c =
    let once = receive_one c.args.row c.args.lane (out_row c.args.ports.now c.args.o) in
    record {
      lent = refl;
      up = c.requires.up;
      known = omega (arith, c.requires.known);
      goes = times_first c.args.count 0 once
          (goes_start (times c.args.count once)
          (world (g.C.Ctx.tray c.args.ctx.now) (g.C.Ctx.used c.args.ctx.now) (slots_of c.args.ports.now)) nowhere
          c.args.ports.now c.requires.ready.sound);
    }

pub receive_one-requires-clause-ready : goal.receive_one-requires-clause-ready
receive_one-requires-clause-ready g c = ready_then c.requires.ready c.loop-turn.invariant.goes

pub receive_one-requires-clause-end : goal.receive_one-requires-clause-end
receive_one-requires-clause-end g c =
    subst (λ constants. IsTrue (constants.has_end c.args.lane Rx)) (sym c.loop-turn.invariant.goes.stays.constants) c.requires.end

pub receive_one-requires-clause-up : goal.receive_one-requires-clause-up
receive_one-requires-clause-up g c = c.loop-turn.invariant.up

pub receive_one-requires-clause-known : goal.receive_one-requires-clause-known
receive_one-requires-clause-known g c = omega (arith, c.loop-turn.invariant.known, c.loop-turn-test.true)

pub receive_one-requires-clause-o : goal.receive_one-requires-clause-o
receive_one-requires-clause-o g c = out_within c.loop-turn.invariant.goes.same c.args.o c.requires.o

pub returns-in_err-receive_one-clause-did : goal.returns-in_err-receive_one-clause-did
returns-in_err-receive_one-clause-did g c =
    let kept = c.loop-turn.invariant.goes in
    let same = ap (receive_one c.args.row c.args.lane) (out_row_kept kept.same kept.rows c.args.o) in
    let e : c.from_residual.result ≡ Err c.in_err-receive_one.field-0.0 = search rules in
    rw e (turn_halt c.args.count c.loop-turn._turn (receive_one c.args.row c.args.lane (out_row c.args.ports.now c.args.o)) kept
    c.loop-turn-test.true (did_as same c.in_err-receive_one.ensures.did))

pub loop-turn-preserved : goal.loop-turn-preserved
loop-turn-preserved g c =
    let kept = c.loop-turn.invariant.goes in
    let same = ap (receive_one c.args.row c.args.lane) (out_row_kept kept.same kept.rows c.args.o) in
    let used : known_at c.args.lane Rx (g.C.Ctx.tray c.receive_one.new.ctx) ≡ known_at c.args.lane Rx
    (g.C.Ctx.tray c.loop-turn.ctx) - 1 =
    ap (λ (end : End). end.known) c.in_ok-receive_one.ensures.known in
    record {
      lent = c.in_ok-receive_one.ensures.lent ∙ c.loop-turn.invariant.lent;
      up = ap (λ (end : End). end.state) c.in_ok-receive_one.ensures.known ∙ c.loop-turn.invariant.up;
      known = omega (arith, used, c.loop-turn.invariant.known, c.loop-turn-test.true);
      goes = turn_next c.args.count c.loop-turn._turn
          (receive_one c.args.row c.args.lane (out_row c.args.ports.now c.args.o)) kept
          c.loop-turn-test.true (did_as same c.in_ok-receive_one.ensures.did);
    }

pub returns-clause-did : goal.returns-clause-did
returns-clause-did g c =
    turn_end c.args.count c.loop-turn._turn (receive_one c.args.row c.args.lane (out_row c.args.ports.now c.args.o))
    c.loop-turn.invariant.goes c.loop-turn-test.false
