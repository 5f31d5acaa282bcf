use Rattle.std.proofs.Common.{◌≡◌, ◌<◌, ◌∙◌, ℕ, Bool, length, Err, ap, sym, arith, rules}
use Rattle.sn_app.specs.Apps.{readable, tee_one}
use Rattle.sn_app.specs.Desk.{Tray}
use Rattle.sn_app.specs.Loops.{Goes, IsReady}
use Rattle.sn_app.specs.Ports.{in_line, in_row, ins_of, out_ports, slots_of}
use Rattle.sn_app.specs.Reader.{Meaning}
use Rattle.sn_app.specs.World.{Used, desk_of, nowhere, world}
use Rattle.sn_app.specs.declared.ports.Ports.{Ports}
use Rattle.sn_app.proofs.Handling.{readable_is}
use Rattle.sn_app.proofs.Looping.{did_as, did_gave, in_row_kept, in_within, inputs_kept, out_ports_kept, ports_then, rows_then}
use Rattle.sn_basic.proofs.Copies.{input_empty, input_full, input_halt, input_next, input_stop}
use Rattle.sn_basic.proofs.tee.copy_input.Goals as goal

-- how many packets the input has, by its row at the start
module _ {left whole : Meaning (Bool × ℕ)} {app : ℕ} {t s : Tray} {u v : Used} (from to : Ports) (i n : ℕ)
    (h : IsReady app t u from) (within : i < length (ins_of from))
    (c : Goes left whole (world t u (slots_of from)) (world s v (slots_of to)) nowhere nowhere from to) where
  has : n ≡ length (in_line to i).queued → readable (in_row from i) (desk_of (world s v (slots_of to))) ≡ n
  has is =
      ap (λ row. readable row (desk_of (world s v (slots_of to)))) (sym (in_row_kept c.same c.rows i))
      ∙ (readable_is {t = s} {u = v} to i (inputs_kept c.same c.rows h.ins) (in_within c.same i within) c.sound ∙ sym is)

  one_same : tee_one app (in_row to i) (out_ports to) ≡ tee_one app (in_row from i) (out_ports from)
  one_same =
      ap (λ row. tee_one app row (out_ports to)) (in_row_kept c.same c.rows i)
      ∙ ap (λ outs. tee_one app (in_row from i) outs) (out_ports_kept c.same c.rows)

pub returns-then-readable-eq0-clause-did : goal.returns-then-readable-eq0-clause-did
returns-then-readable-eq0-clause-did g c =
    let from = c.args.ports.now in
    let to = c.loop-turn.ports in
    let kept = c.loop-turn.invariant.goes in
    record {
      runs = input_empty c.args.app (in_row from c.args.i) c.args.room c.loop-turn.turn
          (out_ports from) c.loop-turn-test.true kept
          (has from to c.args.i c.readable.result c.requires.ready c.requires.i kept c.readable.ensures ∙ c.if-readable-eq0.true);
      same = kept.same;
      rows = kept.rows;
    }

pub returns-in_err-copy_one-clause-did : goal.returns-in_err-copy_one-clause-did
returns-in_err-copy_one-clause-did g c =
    let from = c.args.ports.now in
    let to = c.loop-turn.ports in
    let kept = c.loop-turn.invariant.goes in
    let some : 0 < readable (in_row from c.args.i)
    (desk_of (world (g.C.Ctx.tray c.loop-turn.ctx) (g.C.Ctx.used c.loop-turn.ctx) (slots_of to))) =
    omega (
      arith,
      has from to c.args.i c.readable.result c.requires.ready c.requires.i kept c.readable.ensures,
      c.if-readable-eq0.false,
    ) in
    let did = did_as (one_same from to c.args.i 0 c.requires.ready c.requires.i kept) c.in_err-copy_one.ensures.did in
    let e : c.from_residual.result ≡ Err c.in_err-copy_one.field-0.0 = search rules in
    rw e (record {
      runs = input_halt c.args.app (in_row from c.args.i) c.args.room c.loop-turn.turn
          (out_ports from) c.loop-turn-test.true kept some did;
      same = ports_then kept.same did.same;
      rows = rows_then kept.rows did.rows;
    })

pub returns-then-not-branch-clause-did : goal.returns-then-not-branch-clause-did
returns-then-not-branch-clause-did g c =
    let from = c.args.ports.now in
    let to = c.loop-turn.ports in
    let kept = c.loop-turn.invariant.goes in
    let some : 0 < readable (in_row from c.args.i)
    (desk_of (world (g.C.Ctx.tray c.loop-turn.ctx) (g.C.Ctx.used c.loop-turn.ctx) (slots_of to))) =
    omega (
      arith,
      has from to c.args.i c.readable.result c.requires.ready c.requires.i kept c.readable.ensures,
      c.if-readable-eq0.false,
    ) in
    let did = did_gave c.if-not-branch.true
    (did_as (one_same from to c.args.i 0 c.requires.ready c.requires.i kept) c.in_ok-copy_one.ensures.did) in
    record {
      runs = input_stop c.args.app (in_row from c.args.i) c.args.room c.loop-turn.turn
          (out_ports from) c.loop-turn-test.true kept some did;
      same = ports_then kept.same did.same;
      rows = rows_then kept.rows did.rows;
    }

pub loop-turn-preserved : goal.loop-turn-preserved
loop-turn-preserved g c =
    let from = c.args.ports.now in
    let to = c.loop-turn.ports in
    let kept = c.loop-turn.invariant.goes in
    let some : 0 < readable (in_row from c.args.i)
    (desk_of (world (g.C.Ctx.tray c.loop-turn.ctx) (g.C.Ctx.used c.loop-turn.ctx) (slots_of to))) =
    omega (
      arith,
      has from to c.args.i c.readable.result c.requires.ready c.requires.i kept c.readable.ensures,
      c.if-readable-eq0.false,
    ) in
    let did = did_gave c.if-not-branch.false
    (did_as (one_same from to c.args.i 0 c.requires.ready c.requires.i kept) c.in_ok-copy_one.ensures.did) in
    record {
      lent = c.in_ok-copy_one.ensures.lent ∙ c.loop-turn.invariant.lent;
      room = c.in_ok-copy_one.ensures.room ∙ c.loop-turn.invariant.room;
      goes = input_next c.args.app (in_row from c.args.i) c.args.room c.loop-turn.turn
          (out_ports from) c.loop-turn-test.true kept some did;
    }

pub returns-clause-did : goal.returns-clause-did
returns-clause-did g c =
    let from = c.args.ports.now in
    let kept = c.loop-turn.invariant.goes in
    record {
      runs = input_full c.args.app (in_row from c.args.i) c.args.room c.loop-turn.turn
          (out_ports from) c.loop-turn-test.false kept;
      same = kept.same;
      rows = kept.rows;
    }
