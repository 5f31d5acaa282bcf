use Rattle.std.proofs.Common.{◌≡◌, ◌<◌, ℕ, Some, map, slice_get}
use Rattle.sn_actions.specs.PlainOf.{plain_of}
use Rattle.sn_app.specs.Desk.{roster_of}
use Rattle.sn_wiring.specs.Wired.{Wired}
use Rattle.sn_network.specs.Places.{bare}
use Rattle.sn_network.specs.declared.place.Place.{Place}
use Rattle.sn_network.proofs.ports.wire_all.Given as goal

-- the apps so far are wired, and all are the same
abbrev pub invariant-loop-at : goal.invariant-loop-at
invariant-loop-at g l = record {
  wired :
      (i : ℕ) (place : Place) → i < l.at → slice_get l.places.items i ≡ Some place
      → Wired l.links.slots (roster_of (g.C.Ctx.tray l.ctx)).links (plain_of l.plain).ins place.name place.ins.items
      × Wired l.links.slots (roster_of (g.C.Ctx.tray l.ctx)).links (plain_of l.plain).outs place.name place.outs.items;
  same : map bare l.places.items ≡ map bare l.fn.places.items;
}
