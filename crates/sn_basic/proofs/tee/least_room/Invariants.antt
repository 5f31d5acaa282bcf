use Rattle.std.proofs.Common.{◌≡◌, ◌≤◌, drop, min}
use Rattle.sn_app.specs.Apps.{least_room}
use Rattle.sn_app.specs.Desk.{Tray}
use Rattle.sn_app.specs.Ports.{out_ports, slots_of}
use Rattle.sn_app.specs.World.{IsSound, Used, desk_of, nowhere, world}
use Rattle.sn_basic.proofs.tee.least_room.Given as goal

abbrev pub invariant-loop-o : goal.invariant-loop-o
invariant-loop-o l = record {
  most : l.least ≤ 1023;
  least : (t : Tray) (u : Used) → IsSound (world t u (slots_of l.ports)) nowhere
      → least_room (out_ports l.ports) (desk_of (world t u (slots_of l.ports)))
      ≡ min l.least (least_room (drop l.o (out_ports l.ports)) (desk_of (world t u (slots_of l.ports))));
}
