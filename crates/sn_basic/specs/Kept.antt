-- What a repeater keeps.
use Rattle.std.specs.Prelude.{ℕ, ◌<◌, ◌≡◌, List, max}
use Rattle.std.proofs.Common.{ap}
use Rattle.sn_packet.specs.Hold.{among}
use Rattle.sn_app.specs.Apps.{repeater}
use Rattle.sn_app.specs.Hands.{packets_at}
use Rattle.sn_app.specs.World.{Used}
use Rattle.sn_app.proofs.Hands.{read_kept}

-- the place of the next one among so many that are kept: one of them, or 0 where there is none
abbrev pub IsNext : ℕ → ℕ → Type 0
IsNext kept next = next < max 1 kept

-- while the packets at its places stay, so does its state
pub repeater_stays : (row next : ℕ) (places : List ℕ) (u v : Used) → ((place : ℕ) → 0 < among places place → v place ≡ u place)
    → repeater row (packets_at v places) next ≡ repeater row (packets_at u places) next
repeater_stays row next places u v same = ap (λ packets. repeater row packets next) (read_kept (λ packet. packet) u v places same)
