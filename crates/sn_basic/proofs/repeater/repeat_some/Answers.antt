use Rattle.std.proofs.Common.{◌≡◌, ◌<◌, ◌==◌, ◌∙◌, ℕ, Bool, false, List, length, inl, inr, sym, arith}
use Rattle.std.proofs.lemmas.Bool.{eqb-true, false≢true}
use Rattle.std.proofs.lemmas.Bool.Decides.{eqb_tells}
use Rattle.std.proofs.lemmas.List.{length-map}
use Rattle.sn_app.specs.Hands.{packets_at}
use Rattle.sn_app.specs.Ports.{out_row}
use Rattle.sn_app.specs.World.{Used, packet_at}
use Rattle.sn_app.proofs.Handling.{room_is}
use Rattle.sn_app.proofs.Looping.{did_still}
use Rattle.sn_basic.proofs.Repeating.{repeated_none, repeated_some}
use Rattle.sn_basic.proofs.repeater.repeat_some.Goals as goal

not_none : (kept : List ℕ) (none : Bool) → none ≡ (length kept == 0) → none ≡ false → 0 < length kept
not_none kept none is differs = elim (eqb_tells (length kept) 0) [
  | inl empty ↦ absurd (false≢true (sym differs ∙ (is ∙ empty.0)))
  | inr apart ↦ omega (arith, apart.1)
]

pub returns-then-is_empty-clause-did : goal.returns-then-is_empty-clause-did
returns-then-is_empty-clause-did g c =
    let u : Used = g.C.Ctx.used c.args.ctx.now in
    let kept = c.args.kept.now in
    let none : length (packets_at u kept)
    ≡ 0 = omega (
      arith,
      length-map kept (λ (p : ℕ). packet_at u p),
      eqb-true (length kept) 0
          (sym c.is_empty.ensures ∙ c.if-is_empty.true),
    ) in
    did_still (repeated_none c.args.app (out_row c.args.ports.now c.args.o) c.args.next (packets_at u kept) none)

pub returns-clause-did : goal.returns-clause-did
returns-clause-did g c =
    let u : Used = g.C.Ctx.used c.args.ctx.now in
    let ports = c.args.ports.now in
    let kept = c.args.kept.now in
    let some : 0 < length (packets_at u kept) =
    omega (
      arith,
      length-map kept (λ (p : ℕ). packet_at u p),
      not_none kept c.is_empty.result c.is_empty.ensures
          c.if-is_empty.false,
    ) in
    repeated_some ports c.repeat_times.new.ports c.args.app (out_row ports c.args.o) c.args.next c.room-room.result
    (packets_at u kept) some
    (room_is {t = g.C.Ctx.tray c.args.ctx.now} {u = u} ports c.args.o c.room-room.result c.requires.ready.outs c.requires.o
    c.requires.ready.sound c.room-room.ensures)
    c.repeat_times.ensures.did
