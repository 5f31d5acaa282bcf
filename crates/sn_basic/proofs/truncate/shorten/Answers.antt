use Rattle.std.proofs.Common.{◌≡◌, ◌≤◌, ℕ, length, take, Option, Some, None, IsSome, unwrap_or, refl, sym, ap, ◌∙◌, arith}
use Rattle.std.proofs.lemmas.List.{take_all}
use Rattle.std.proofs.lemmas.Bool.{false≢true}
use Rattle.sn_packet.specs.Hold.{put_at}
use Rattle.sn_packet.specs.Packet.{PacketState, no_packet, with_bytes}
use Rattle.sn_app.specs.Calls.{bytes_at, rewritten_at}
use Rattle.sn_app.specs.World.{Used, packet_at}
use Rattle.sn_app.proofs.Making.{put_as_is}
use Rattle.sn_basic.proofs.truncate.shorten.Goals as goal

is_there : (slot : Option PacketState) → IsSome slot → slot ≡ Some (unwrap_or slot no_packet)
is_there None some = absurd (false≢true some)
is_there (Some packet) some = refl

-- a packet that is short enough stays as it is
as_is : (u : Used) (place most : ℕ) → IsSome (u place) → length (bytes_at u place) ≤ most → u ≡ rewritten_at place (take most (bytes_at u place)) u
as_is u place most some short =
    sym (ap (λ bytes. put_at place (Some (with_bytes bytes (packet_at u place))) u) (take_all most (bytes_at u place) short)
    ∙ put_as_is place u (packet_at u place) (is_there (u place) some))

pub returns-else-size-most-clause-used : goal.returns-else-size-most-clause-used
returns-else-size-most-clause-used g c =
    as_is (g.C.Ctx.used c.args.ctx.now) c.args.place c.args.most c.requires (omega (arith, c.size.ensures.value))
