use Rattle.std.proofs.Common.{◌≡◌, Err, ap, refl, ◌∙◌, rules}
use Rattle.sn_app.specs.Apps.{next_of, write_packet}
use Rattle.sn_app.specs.Ports.{in_row, slots_of}
use Rattle.sn_app.specs.Reader.{times}
use Rattle.sn_app.specs.World.{nowhere, world}
use Rattle.sn_app.proofs.Looping.{did_as, did_gave, goes_start, in_row_kept, in_within, ready_then, times_first, turn_end, turn_halt, turn_next, turn_stop}
use Rattle.sn_edge.proofs.pcap_writer.append_some.Goals as goal

pub loop-turn-init : goal.loop-turn-init
loop-turn-init g c =
    let once = next_of (in_row c.args.ports.now c.args.i) (write_packet c.args.row c.args.file) in
    record {
      lent = refl;
      goes = times_first c.args.count 0 once
          (goes_start (times c.args.count once)
          (world (g.C.Ctx.tray c.args.ctx.now) (g.C.Ctx.used c.args.ctx.now) (slots_of c.args.ports.now)) nowhere
          c.args.ports.now c.requires.ready.sound);
    }

pub append_next-requires-clause-ready : goal.append_next-requires-clause-ready
append_next-requires-clause-ready g c = ready_then c.requires.ready c.loop-turn.invariant.goes

pub append_next-requires-clause-file : goal.append_next-requires-clause-file
append_next-requires-clause-file g c = c.loop-turn.invariant.goes.stays.started c.args.file c.requires.file

pub append_next-requires-clause-i : goal.append_next-requires-clause-i
append_next-requires-clause-i g c = in_within c.loop-turn.invariant.goes.same c.args.i c.requires.i

pub returns-in_err-append_next-clause-did : goal.returns-in_err-append_next-clause-did
returns-in_err-append_next-clause-did g c =
    let kept = c.loop-turn.invariant.goes in
    let m = write_packet c.args.row c.args.file in
    let same = ap (λ row. next_of row m) (in_row_kept kept.same kept.rows c.args.i) in
    let e : c.from_residual.result ≡ Err c.in_err-append_next.field-0.0 = search rules in
    rw e (turn_halt c.args.count c.loop-turn._turn (next_of (in_row c.args.ports.now c.args.i) m) kept c.loop-turn-test.true
    (did_as same c.in_err-append_next.ensures.did))

pub returns-then-not-branch-clause-did : goal.returns-then-not-branch-clause-did
returns-then-not-branch-clause-did g c =
    let kept = c.loop-turn.invariant.goes in
    let m = write_packet c.args.row c.args.file in
    let same = ap (λ row. next_of row m) (in_row_kept kept.same kept.rows c.args.i) in
    turn_stop c.args.count c.loop-turn._turn (next_of (in_row c.args.ports.now c.args.i) m) kept c.loop-turn-test.true
    (did_gave c.if-not-branch.true (did_as same c.in_ok-append_next.ensures.did))

pub loop-turn-preserved : goal.loop-turn-preserved
loop-turn-preserved g c =
    let kept = c.loop-turn.invariant.goes in
    let m = write_packet c.args.row c.args.file in
    let same = ap (λ row. next_of row m) (in_row_kept kept.same kept.rows c.args.i) in
    record {
      lent = c.in_ok-append_next.ensures.lent ∙ c.loop-turn.invariant.lent;
      goes = turn_next c.args.count c.loop-turn._turn (next_of (in_row c.args.ports.now c.args.i) m) kept c.loop-turn-test.true
          (did_gave c.if-not-branch.false (did_as same c.in_ok-append_next.ensures.did));
    }

pub returns-clause-did : goal.returns-clause-did
returns-clause-did g c =
    turn_end c.args.count c.loop-turn._turn (next_of (in_row c.args.ports.now c.args.i) (write_packet c.args.row c.args.file))
    c.loop-turn.invariant.goes c.loop-turn-test.false
