-- A link between two apps of one worker.
use Rattle.std.specs.Prelude.{ℕ}
use Rattle.sn_app.specs.Desk.{Tray}
use Rattle.sn_app.specs.Ports.{HasLinks}
use Rattle.sn_app.specs.World.{IsSound, Used, world}
use Rattle.seat_bench.specs.declared.wire.Wire.{Wire}

-- The link is there at both its ports, and the world is sound with an app's places.
pub record IsWired (wire : Wire) (t : Tray) (used : Used) (mine : ℕ → ℕ) : Type 0 where
  pub sound : IsSound (world t used wire.links.slots) mine
  pub outs : HasLinks wire.links.slots wire.outs.items
  pub ins : HasLinks wire.links.slots wire.ins.items

-- the same with any packets, and no place in hand
abbrev pub IsNewWire : Wire → Type 0
IsNewWire wire = (t : Tray) (used : Used) → IsWired wire t used (λ place. 0)
