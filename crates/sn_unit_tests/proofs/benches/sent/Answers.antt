use Rattle.std.proofs.Common.{◌≡◌, ◌<◌, ℕ, replicate, sym, ap, subst, ◌∙◌, arith}
use Rattle.sn_core.specs.declared.events.Side.{Side}
use Rattle.sn_core.specs.declared.events.Side.TheVariants.{Tx}
use Rattle.sn_packet.specs.Hold.{used_of}
use Rattle.sn_packet.specs.Packet.{with_bytes}
use Rattle.sn_packet.proofs.Puts.{some_laid}
use Rattle.sn_app.specs.Bench.{tray_of}
use Rattle.sn_app.specs.Desk.{End, Tray, with_known}
use Rattle.sn_app.specs.World.{packet_at}
use Rattle.sn_unit_tests.proofs.benches.sent.Goals as goal

pub worn-requires : goal.worn-requires
worn-requires c =
    let used = used_of c.allocate.new.self.held in
    some_laid used (used_of c.zeros.new.self.held) c.in-Some.place (with_bytes (replicate 2 0) (packet_at used c.in-Some.place))
    c.zeros.ensures.used

-- the end as it is put at, by what the look for room left
end_then : (attached roomy allocated zeroed : Tray) (n : ℕ) → zeroed ≡ allocated → allocated.ends ≡ roomy.ends
    → roomy.ends 0 Tx ≡ with_known n (attached.ends 0 Tx) → zeroed.ends 0 Tx ≡ with_known n (attached.ends 0 Tx)
end_then attached roomy allocated zeroed n zeros allocates knows =
    ap (λ (t : Tray). t.ends 0 Tx) zeros ∙ (ap (λ (ends : ℕ → Side → End). ends 0 Tx) allocates ∙ knows)

pub lane_put-requires-clause-up : goal.lane_put-requires-clause-up
lane_put-requires-clause-up c =
    let end = end_then (tray_of c.lane_attach.new.self) (tray_of c.lane_room.new.self) (tray_of c.allocate.new.self)
    (tray_of c.zeros.new.self) c.in_ok-lane_room.field-0 c.zeros.ensures.tray c.allocate.ensures.leaves.ends
    c.in_ok-lane_room.ensures.known in
    ap (λ (e : End). e.state) end ∙ c.in_ok-lane_attach.ensures.up c.if-not-branch.false

pub lane_put-requires-clause-known : goal.lane_put-requires-clause-known
lane_put-requires-clause-known c =
    let end = end_then (tray_of c.lane_attach.new.self) (tray_of c.lane_room.new.self) (tray_of c.allocate.new.self)
    (tray_of c.zeros.new.self) c.in_ok-lane_room.field-0 c.zeros.ensures.tray c.allocate.ensures.leaves.ends
    c.in_ok-lane_room.ensures.known in
    subst (λ (e : End). 0 < e.known) (sym end) (omega (arith, c.if-branch-eq0.false))

pub lane_put-requires-clause-place : goal.lane_put-requires-clause-place
lane_put-requires-clause-place c =
    let used = used_of c.allocate.new.self.held in
    some_laid used (used_of c.zeros.new.self.held) c.in-Some.place (with_bytes (replicate 2 0) (packet_at used c.in-Some.place))
    c.zeros.ensures.used
