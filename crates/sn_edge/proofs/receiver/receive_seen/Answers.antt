use Rattle.std.proofs.Common.{◌≡◌, Err, min, ap, rules}
use Rattle.sn_app.specs.Apps.{most_pulled, receive_one, receive_where}
use Rattle.sn_app.specs.Ports.{out_row, slots_of}
use Rattle.sn_app.specs.Reader.{times}
use Rattle.sn_app.specs.World.{nowhere}
use Rattle.sn_app.proofs.Leaving.{runs_kept}
use Rattle.sn_app.proofs.Looping.{did_as, did_still}
use Rattle.sn_app.proofs.Running.{runs_bind, runs_fail}
use Rattle.sn_edge.proofs.receiver.receive_seen.Goals as goal

pub returns-in_err-seen-clause-did : goal.returns-in_err-seen-clause-did
unfolding receive_where
returns-in_err-seen-clause-did g c =
    let once = receive_one c.args.row c.args.lane (out_row c.args.ports.now c.args.o) in
    let e : c.from_residual.result ≡ Err c.in_err-seen.field-0.0 = search rules in
    rw e (did_still (runs_fail (λ n. times (min n most_pulled) once) nowhere
    (runs_kept (g.C.Ctx.used c.args.ctx.now) (g.C.Ctx.used c.lane_look.new.self) (slots_of c.args.ports.now) nowhere
    c.in_err-seen.ensures.reads c.in_err-seen.ensures.used)))

pub returns-clause-did : goal.returns-clause-did
unfolding receive_where
returns-clause-did g c =
    let once = receive_one c.args.row c.args.lane (out_row c.args.ports.now c.args.o) in
    let did = did_as (ap (λ n. times n once) c.lesser_of-count.ensures.value) c.receive_some.ensures.did in
    record {
      runs = runs_bind (λ n. times (min n most_pulled) once)
          (runs_kept (g.C.Ctx.used c.args.ctx.now) (g.C.Ctx.used c.lane_look.new.self) (slots_of c.args.ports.now) nowhere
          c.in_ok-seen.ensures.reads c.in_ok-seen.ensures.used)
          did.runs;
      same = did.same;
      rows = did.rows;
    }
