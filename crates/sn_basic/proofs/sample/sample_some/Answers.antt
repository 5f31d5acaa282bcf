use Rattle.std.proofs.Common.{◌≡◌, ◌∙◌, ℕ, Bool, true, false, Err, ap, refl, sym, rules}
use Rattle.sn_link.specs.Counts.{raised}
use Rattle.sn_app.specs.Apps.{next_of, sample_one, sample_packet}
use Rattle.sn_app.specs.Ports.{in_row, out_row, slots_of}
use Rattle.sn_app.specs.Reader.{stepping, pure}
use Rattle.sn_app.specs.World.{nowhere, world}
use Rattle.sn_app.proofs.Handling.{did_fails, did_gives}
use Rattle.sn_app.proofs.Looping.{did_as, did_gave, goes_start, in_row_kept, in_within, out_row_kept, out_within, ready_then, step_end, step_halt, step_next, step_stop, steps_first}
use Rattle.sn_basic.proofs.sample.sample_some.Goals as goal

pub loop-turn-init : goal.loop-turn-init
loop-turn-init g c =
    let once = sample_one c.args.app c.args.n (in_row c.args.ports.now c.args.i) (out_row c.args.ports.now c.args.o) in
    record {
      lent = refl;
      goes = steps_first c.args.count 0 once c.args.seen
          (goes_start (stepping c.args.count once c.args.seen) (world (g.C.Ctx.tray c.args.ctx.now) (g.C.Ctx.used c.args.ctx.now) (slots_of c.args.ports.now)) nowhere
          c.args.ports.now c.requires.ready.sound);
    }

pub handle_next-requires-clause-ready : goal.handle_next-requires-clause-ready
handle_next-requires-clause-ready g c = ready_then c.requires.ready c.loop-turn.invariant.goes

pub handle_next-requires-clause-fits : goal.handle_next-requires-clause-fits
handle_next-requires-clause-fits g c = out_within c.loop-turn.invariant.goes.same c.args.o c.requires.o

pub handle_next-requires-clause-i : goal.handle_next-requires-clause-i
handle_next-requires-clause-i g c = in_within c.loop-turn.invariant.goes.same c.args.i c.requires.i

pub returns-in_err-on-clause-did : goal.returns-in_err-on-clause-did
unfolding sample_one
returns-in_err-on-clause-did g c =
    let kept = c.loop-turn.invariant.goes in
    let now = c.loop-turn.now in
    let input = in_row c.args.ports.now c.args.i in
    let out = out_row c.args.ports.now c.args.o in
    let same = ap (λ row. next_of row (sample_packet c.args.app c.args.n (out_row c.loop-turn.ports c.args.o) now)) (in_row_kept kept.same kept.rows c.args.i)
    ∙ ap (λ row. next_of input (sample_packet c.args.app c.args.n row now)) (out_row_kept kept.same kept.rows c.args.o) in
    let e : c.from_residual.result ≡ Err c.in_err-on.field-0.0 = search rules in
    rw e (step_halt c.args.count c.loop-turn._turn (sample_one c.args.app c.args.n input out) now kept c.loop-turn-test.true
    (did_fails (λ on. pure (on, raised 1 now)) (did_as same c.in_err-on.ensures.did)))

pub returns-then-not-on-clause-did : goal.returns-then-not-on-clause-did
unfolding sample_one
returns-then-not-on-clause-did g c =
    let kept = c.loop-turn.invariant.goes in
    let now = c.loop-turn.now in
    let input = in_row c.args.ports.now c.args.i in
    let out = out_row c.args.ports.now c.args.o in
    let same = ap (λ row. next_of row (sample_packet c.args.app c.args.n (out_row c.loop-turn.ports c.args.o) now)) (in_row_kept kept.same kept.rows c.args.i)
    ∙ ap (λ row. next_of input (sample_packet c.args.app c.args.n row now)) (out_row_kept kept.same kept.rows c.args.o) in
    let gives : (c.in_ok-on.on, raised 1 now) ≡ (false, c.saturating_add-now.result) =
    ap (λ (b : Bool). (b, raised 1 now)) c.if-not-on.true ∙ ap (λ (n : ℕ). (false, n)) (sym c.saturating_add-now.ensures) in
    step_stop c.args.count c.loop-turn._turn (sample_one c.args.app c.args.n input out) now kept c.saturating_add-now.result c.loop-turn-test.true
    (did_gave gives (did_gives (λ on. (on, raised 1 now)) (did_as same c.in_ok-on.ensures.did)))

pub loop-turn-preserved : goal.loop-turn-preserved
unfolding sample_one
loop-turn-preserved g c =
    let kept = c.loop-turn.invariant.goes in
    let now = c.loop-turn.now in
    let input = in_row c.args.ports.now c.args.i in
    let out = out_row c.args.ports.now c.args.o in
    let same = ap (λ row. next_of row (sample_packet c.args.app c.args.n (out_row c.loop-turn.ports c.args.o) now)) (in_row_kept kept.same kept.rows c.args.i)
    ∙ ap (λ row. next_of input (sample_packet c.args.app c.args.n row now)) (out_row_kept kept.same kept.rows c.args.o) in
    let gives : (c.in_ok-on.on, raised 1 now) ≡ (true, c.saturating_add-now.result) =
    ap (λ (b : Bool). (b, raised 1 now)) c.if-not-on.false ∙ ap (λ (n : ℕ). (true, n)) (sym c.saturating_add-now.ensures) in
    record {
      lent = c.in_ok-on.ensures.lent ∙ c.loop-turn.invariant.lent;
      goes = step_next c.args.count c.loop-turn._turn (sample_one c.args.app c.args.n input out) now kept c.saturating_add-now.result c.loop-turn-test.true
          (did_gave gives (did_gives (λ on. (on, raised 1 now)) (did_as same c.in_ok-on.ensures.did)));
    }

pub returns-clause-did : goal.returns-clause-did
returns-clause-did g c =
    step_end c.args.count c.loop-turn._turn (sample_one c.args.app c.args.n (in_row c.args.ports.now c.args.i) (out_row c.args.ports.now c.args.o)) c.loop-turn.now
    c.loop-turn.invariant.goes c.loop-turn-test.false
