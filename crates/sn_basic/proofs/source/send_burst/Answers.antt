use Rattle.std.proofs.Common.{◌≡◌, Err, ap, refl, ◌∙◌, rules}
use Rattle.sn_app.specs.Apps.{source_burst, source_one}
use Rattle.sn_app.specs.Ports.{out_row, slots_of}
use Rattle.sn_app.specs.Reader.{times}
use Rattle.sn_app.specs.World.{nowhere, world}
use Rattle.sn_app.proofs.Looping.{did_as, did_gave, goes_start, out_row_kept, out_within, ready_then, times_first, turn_end, turn_halt, turn_next, turn_stop}
use Rattle.sn_basic.proofs.source.send_burst.Goals as goal

pub loop-turn-init : goal.loop-turn-init
unfolding source_burst
loop-turn-init g c =
    let once = source_one c.args.row c.args.size (out_row c.args.ports.now c.args.o) in
    record {
      lent = refl;
      goes = times_first 102 0 once
          (goes_start (times 102 once) (world (g.C.Ctx.tray c.args.ctx.now) (g.C.Ctx.used c.args.ctx.now) (slots_of c.args.ports.now)) nowhere
          c.args.ports.now c.requires.ready.sound);
    }

pub send_one-requires-clause-ready : goal.send_one-requires-clause-ready
send_one-requires-clause-ready g c = ready_then c.requires.ready c.loop-turn.invariant.goes

pub send_one-requires-clause-o : goal.send_one-requires-clause-o
send_one-requires-clause-o g c = out_within c.loop-turn.invariant.goes.same c.args.o c.requires.o

pub returns-in_err-send_one-clause-did : goal.returns-in_err-send_one-clause-did
returns-in_err-send_one-clause-did g c =
    let kept = c.loop-turn.invariant.goes in
    let same = ap (source_one c.args.row c.args.size) (out_row_kept kept.same kept.rows c.args.o) in
    let e : c.from_residual.result ≡ Err c.in_err-send_one.field-0.0 = search rules in
    rw e (turn_halt 102 c.loop-turn._turn (source_one c.args.row c.args.size (out_row c.args.ports.now c.args.o)) kept c.loop-turn-test.true
    (did_as same c.in_err-send_one.ensures.did))

pub returns-then-not-branch-clause-did : goal.returns-then-not-branch-clause-did
returns-then-not-branch-clause-did g c =
    let kept = c.loop-turn.invariant.goes in
    let same = ap (source_one c.args.row c.args.size) (out_row_kept kept.same kept.rows c.args.o) in
    turn_stop 102 c.loop-turn._turn (source_one c.args.row c.args.size (out_row c.args.ports.now c.args.o)) kept c.loop-turn-test.true
    (did_gave c.if-not-branch.true (did_as same c.in_ok-send_one.ensures.did))

pub loop-turn-preserved : goal.loop-turn-preserved
loop-turn-preserved g c =
    let kept = c.loop-turn.invariant.goes in
    let same = ap (source_one c.args.row c.args.size) (out_row_kept kept.same kept.rows c.args.o) in
    record {
      lent = c.in_ok-send_one.ensures.lent ∙ c.loop-turn.invariant.lent;
      goes = turn_next 102 c.loop-turn._turn (source_one c.args.row c.args.size (out_row c.args.ports.now c.args.o)) kept c.loop-turn-test.true
          (did_gave c.if-not-branch.false (did_as same c.in_ok-send_one.ensures.did));
    }

pub returns-clause-did : goal.returns-clause-did
returns-clause-did g c =
    turn_end 102 c.loop-turn._turn (source_one c.args.row c.args.size (out_row c.args.ports.now c.args.o)) c.loop-turn.invariant.goes c.loop-turn-test.false
