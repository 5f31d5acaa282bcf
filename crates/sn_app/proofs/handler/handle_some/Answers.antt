use Rattle.std.proofs.Common.{◌≡◌, Err, ap, refl, ◌∙◌, rules}
use Rattle.sn_app.specs.Apps.{next_of}
use Rattle.sn_app.specs.Ports.{in_row, slots_of}
use Rattle.sn_app.specs.Reader.{times}
use Rattle.sn_app.specs.World.{nowhere, world}
use Rattle.sn_app.proofs.Looping.{did_as, did_gave, goes_start, in_row_kept, in_within, ready_then, times_first, turn_end, turn_halt, turn_next, turn_stop}
use Rattle.sn_app.proofs.handler.handle_some.Goals as goal

pub loop-turn-init : goal.loop-turn-init
loop-turn-init g c =
    let once = next_of (in_row c.args.ports.now c.args.i) (g.H.Handler.handles c.args.handler.now c.args.ports.now) in
    record {
      lent = refl;
      goes = times_first c.args.count 0 once
          (goes_start (times c.args.count once) (world (g.C.Ctx.tray c.args.ctx.now) (g.C.Ctx.used c.args.ctx.now) (slots_of c.args.ports.now)) nowhere
          c.args.ports.now c.requires.ready.sound);
    }

pub handle_next-requires-clause-ready : goal.handle_next-requires-clause-ready
handle_next-requires-clause-ready g c = ready_then c.requires.ready c.loop-turn.invariant.goes

pub handle_next-requires-clause-fits : goal.handle_next-requires-clause-fits
handle_next-requires-clause-fits g c =
    let kept = c.loop-turn.invariant.goes in
    g.met.H.Handler.fits_later c.args.handler.now c.args.ports.now c.loop-turn.ports kept.same kept.rows c.requires.fits

pub handle_next-requires-clause-i : goal.handle_next-requires-clause-i
handle_next-requires-clause-i g c = in_within c.loop-turn.invariant.goes.same c.args.i c.requires.i

pub returns-in_err-handle_next-clause-did : goal.returns-in_err-handle_next-clause-did
returns-in_err-handle_next-clause-did g c =
    let kept = c.loop-turn.invariant.goes in
    let later = g.met.H.Handler.handles_later c.args.handler.now c.args.ports.now c.loop-turn.ports kept.same kept.rows in
    let same = ap (λ row. next_of row (g.H.Handler.handles c.args.handler.now c.loop-turn.ports)) (in_row_kept kept.same kept.rows c.args.i)
    ∙ ap (next_of (in_row c.args.ports.now c.args.i)) later in
    let e : c.from_residual.result ≡ Err c.in_err-handle_next.field-0.0 = search rules in
    rw e (turn_halt c.args.count c.loop-turn._turn (next_of (in_row c.args.ports.now c.args.i) (g.H.Handler.handles c.args.handler.now c.args.ports.now))
    kept c.loop-turn-test.true (did_as same c.in_err-handle_next.ensures.did))

pub returns-then-not-branch-clause-did : goal.returns-then-not-branch-clause-did
returns-then-not-branch-clause-did g c =
    let kept = c.loop-turn.invariant.goes in
    let later = g.met.H.Handler.handles_later c.args.handler.now c.args.ports.now c.loop-turn.ports kept.same kept.rows in
    let same = ap (λ row. next_of row (g.H.Handler.handles c.args.handler.now c.loop-turn.ports)) (in_row_kept kept.same kept.rows c.args.i)
    ∙ ap (next_of (in_row c.args.ports.now c.args.i)) later in
    turn_stop c.args.count c.loop-turn._turn (next_of (in_row c.args.ports.now c.args.i) (g.H.Handler.handles c.args.handler.now c.args.ports.now))
    kept c.loop-turn-test.true (did_gave c.if-not-branch.true (did_as same c.in_ok-handle_next.ensures.did))

pub loop-turn-preserved : goal.loop-turn-preserved
loop-turn-preserved g c =
    let kept = c.loop-turn.invariant.goes in
    let later = g.met.H.Handler.handles_later c.args.handler.now c.args.ports.now c.loop-turn.ports kept.same kept.rows in
    let same = ap (λ row. next_of row (g.H.Handler.handles c.args.handler.now c.loop-turn.ports)) (in_row_kept kept.same kept.rows c.args.i)
    ∙ ap (next_of (in_row c.args.ports.now c.args.i)) later in
    record {
      lent = c.in_ok-handle_next.ensures.lent ∙ c.loop-turn.invariant.lent;
      goes = turn_next c.args.count c.loop-turn._turn (next_of (in_row c.args.ports.now c.args.i) (g.H.Handler.handles c.args.handler.now c.args.ports.now))
          kept c.loop-turn-test.true (did_gave c.if-not-branch.false (did_as same c.in_ok-handle_next.ensures.did));
    }

pub returns-clause-did : goal.returns-clause-did
returns-clause-did g c =
    turn_end c.args.count c.loop-turn._turn (next_of (in_row c.args.ports.now c.args.i) (g.H.Handler.handles c.args.handler.now c.args.ports.now))
    c.loop-turn.invariant.goes c.loop-turn-test.false
