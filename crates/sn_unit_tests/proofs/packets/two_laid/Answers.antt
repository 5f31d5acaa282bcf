use Rattle.std.proofs.Common.{◌≡◌, ◌≢◌, ℕ, Option, Some, None, IsSome, subst, rules}
use Rattle.sn_packet.specs.Packet.{PacketState}
use Rattle.sn_packet.specs.Hold.{put_at}
use Rattle.sn_packet.proofs.Puts.{some_at, some_laid}
use Rattle.sn_unit_tests.proofs.packets.two_laid.Goals as goal

apart : (before after : ℕ → Option PacketState) (first second : ℕ) (packet : PacketState)
    → after ≡ put_at first (Some packet) before → after second ≡ None → first ≢ second
apart before after first second packet laid fresh same =
    let there : IsSome (after first) = some_laid before after first packet laid in
    let P : ℕ → Type 0 = λ place. IsSome (after place) in
    let Q : Option PacketState → Type 0 = IsSome in
    absurd (no_none (subst Q fresh (subst P same there)))
  where
    no_none : IsSome {T = PacketState} None → ⊥
    no_none h = search rules

pub returns-clause-first : goal.returns-clause-first
returns-clause-first c =
    some_at _ _ _ _ _ c.lay-second.ensures.used (some_laid _ _ _ _ c.lay-first.ensures.used)

pub returns-clause-second : goal.returns-clause-second
returns-clause-second c = some_laid _ _ _ _ c.lay-second.ensures.used

pub returns-clause-apart : goal.returns-clause-apart
returns-clause-apart c = apart _ _ _ _ _ c.lay-first.ensures.at c.lay-second.ensures.fresh
