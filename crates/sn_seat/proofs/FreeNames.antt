-- Where no packet is free, each one that is held is used.
use Rattle.std.proofs.Common.{◌≡◌, ◌==◌, ℕ, List, [], ◌∷◌, None, ap, map, refl, if◌then◌else◌}
use Rattle.sn_packet.specs.Hold.{Held, among, at_of, frees_of, there, used_of}
use Rattle.sn_app.specs.Desk.{name_of}

used_by : (hold : Held) (free : List ℕ) → hold.free ≡ free → map name_of (map (there hold) free) ≡ [] → used_of hold ≡ at_of hold
used_by hold [] is none = ap (λ free place. if among free place == 0 then at_of hold place else None) is
used_by hold (place ∷ free) is none = absurd cc

pub all_used : (hold : Held) → map name_of (frees_of hold) ≡ [] → used_of hold ≡ at_of hold
all_used hold none = used_by hold hold.free refl none
