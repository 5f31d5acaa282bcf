use Rattle.std.proofs.Common.{◌+◌, ◌-◌, ◌∷◌, ◌++◌, ◌∙◌, [], sym, subst, arith}
use Rattle.sn_packet.specs.Hold.{among}
use Rattle.sn_app.specs.Apps.{keep_one}
use Rattle.sn_app.specs.Hands.{packets_at}
use Rattle.sn_app.specs.Loops.{Goes}
use Rattle.sn_app.specs.Ports.{in_row, slots_of}
use Rattle.sn_app.specs.Reader.{stepping}
use Rattle.sn_app.specs.World.{Used, world}
use Rattle.sn_app.proofs.Looping.{in_row_kept, ports_then, rows_then, steps_end, steps_next, steps_stop}
use Rattle.sn_basic.proofs.Repeating.{kept_none, kept_one, taken_at}
use Rattle.sn_basic.proofs.repeater.take_some.Goals as goal

pub returns-in_default-clause-did : goal.returns-in_default-clause-did
returns-in_default-clause-did g c =
    let u : Used = g.C.Ctx.used c.args.ctx.now in
    let from = c.args.ports.now in
    let to = c.loop-turn.ports in
    let later = c.take.new.ports in
    let input = in_row from c.args.i in
    let kept = c.loop-turn.kept.items in
    let goes = c.loop-turn.invariant.goes in
    let taken = taken_at u to later c.take.result (in_row_kept goes.same goes.rows c.args.i) c.take.ensures.runs in
    record {
      runs = steps_stop c.args.count c.loop-turn._turn (keep_one input) (packets_at u kept)
          (packets_at u kept) c.loop-turn-test.true goes
          (kept_none u to later input kept c.take.result taken c.in_default.is);
      same = ports_then goes.same c.take.ensures.same;
      rows = rows_then goes.rows c.take.ensures.rows;
    }

pub loop-turn-preserved : goal.loop-turn-preserved
loop-turn-preserved g c =
    let t = g.C.Ctx.tray c.args.ctx.now in
    let u : Used = g.C.Ctx.used c.args.ctx.now in
    let from = c.args.ports.now in
    let to = c.loop-turn.ports in
    let later = c.take.new.ports in
    let input = in_row from c.args.i in
    let kept = c.loop-turn.kept.items in
    let before = c.args.kept.now.items in
    let place = c.in-Some.place in
    let goes = c.loop-turn.invariant.goes in
    let taken = taken_at u to later c.take.result (in_row_kept goes.same goes.rows c.args.i) c.take.ensures.runs in
    record {
      most = omega (arith, c.push_reserved.ensures.len, c.loop-turn.invariant.most);
      room = c.push_reserved.ensures.capacity ∙ c.loop-turn.invariant.room;
      goes = subst (λ more. Goes (stepping (c.args.count - (c.loop-turn._turn + 1)) (keep_one input) (packets_at u more))
          (stepping c.args.count (keep_one input) (packets_at u before)) (world t u (slots_of from))
          (world t u (slots_of later)) (among before) (among more) from later)
          (sym c.push_reserved.ensures.items)
          (steps_next c.args.count c.loop-turn._turn (keep_one input) (packets_at u kept)
          (packets_at u (kept ++ place ∷ [])) c.loop-turn-test.true goes
          (kept_one u to later input kept c.take.result taken place c.in-Some.is) c.take.ensures.same c.take.ensures.rows);
    }

pub returns-clause-did : goal.returns-clause-did
returns-clause-did g c =
    let u : Used = g.C.Ctx.used c.args.ctx.now in
    let goes = c.loop-turn.invariant.goes in
    record {
      runs = steps_end c.args.count c.loop-turn._turn (keep_one (in_row c.args.ports.now c.args.i))
          (packets_at u c.loop-turn.kept.items) c.loop-turn-test.false goes;
      same = goes.same;
      rows = goes.rows;
    }
