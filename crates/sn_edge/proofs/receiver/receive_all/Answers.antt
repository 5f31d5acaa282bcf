use Rattle.std.proofs.Common.{◌≡◌, false, Err, rules}
use Rattle.sn_app.specs.Apps.{receive_where, receiver_pull}
use Rattle.sn_app.specs.Ports.{out_row, slots_of}
use Rattle.sn_app.specs.World.{nowhere, world}
use Rattle.sn_app.proofs.Leaving.{runs_gave, runs_kept}
use Rattle.sn_app.proofs.Looping.{did_still}
use Rattle.sn_app.proofs.Running.{runs_bind, runs_fail, runs_pure}
use Rattle.sn_edge.proofs.receiver.receive_all.Goals as goal

pub returns-in_err-lane_attach-clause-did : goal.returns-in_err-lane_attach-clause-did
unfolding receiver_pull
returns-in_err-lane_attach-clause-did g c =
    let e : c.from_residual.result ≡ Err c.in_err-lane_attach.field-0.0 = search rules in
    rw e (did_still (runs_fail (receive_where c.args.row c.args.lane (out_row c.args.ports.now c.args.o)) nowhere
    (runs_kept (g.C.Ctx.used c.args.ctx.now) (g.C.Ctx.used c.lane_attach.new.self) (slots_of c.args.ports.now) nowhere
    c.in_err-lane_attach.ensures.reads c.in_err-lane_attach.ensures.used)))

pub returns-then-not-branch-clause-did : goal.returns-then-not-branch-clause-did
unfolding receiver_pull receive_where
returns-then-not-branch-clause-did g c =
    let v = g.C.Ctx.used c.lane_attach.new.self in
    let slots = slots_of c.args.ports.now in
    did_still (runs_bind (receive_where c.args.row c.args.lane (out_row c.args.ports.now c.args.o))
    (runs_gave c.if-not-branch.true (runs_kept (g.C.Ctx.used c.args.ctx.now) v slots nowhere c.in_ok-lane_attach.ensures.reads
    c.in_ok-lane_attach.ensures.used))
    (runs_pure false (world (g.C.Ctx.tray c.lane_attach.new.self) v slots) nowhere))

pub returns-in_err-receive_seen-clause-did : goal.returns-in_err-receive_seen-clause-did
unfolding receiver_pull
returns-in_err-receive_seen-clause-did g c =
    let did = c.in_err-receive_seen.ensures.did in
    let e : c.from_residual-in_err-receive_seen.result ≡ Err c.in_err-receive_seen.field-0.0 = search rules in
    rw e (record {
      runs = runs_bind (receive_where c.args.row c.args.lane (out_row c.args.ports.now c.args.o))
          (runs_gave c.if-not-branch.false (runs_kept (g.C.Ctx.used c.args.ctx.now) (g.C.Ctx.used c.lane_attach.new.self)
          (slots_of c.args.ports.now) nowhere c.in_ok-lane_attach.ensures.reads c.in_ok-lane_attach.ensures.used))
          did.runs;
      same = did.same;
      rows = did.rows;
    })

pub returns-clause-did : goal.returns-clause-did
unfolding receiver_pull
returns-clause-did g c =
    let did = c.in_ok-receive_seen.ensures.did in
    record {
      runs = runs_bind (receive_where c.args.row c.args.lane (out_row c.args.ports.now c.args.o))
          (runs_gave c.if-not-branch.false (runs_kept (g.C.Ctx.used c.args.ctx.now) (g.C.Ctx.used c.lane_attach.new.self)
          (slots_of c.args.ports.now) nowhere c.in_ok-lane_attach.ensures.reads c.in_ok-lane_attach.ensures.used))
          did.runs;
      same = did.same;
      rows = did.rows;
    }
