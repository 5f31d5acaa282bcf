use Rattle.std.proofs.Common.{◌≡◌, ◌<◌, length}
use Rattle.sn_app.specs.Bench.{tray_of}
use Rattle.sn_app.specs.World.{nowhere}
use Rattle.sn_packet.specs.Hold.{used_of}
use Rattle.app_bench.proofs.ways.line.Given as goal
use Rattle.app_rig.specs.Rigs.{IsRig}

-- the world is sound with no place in hand, and each app may be called
abbrev pub invariant-loop-round : goal.invariant-loop-round
invariant-loop-round l = record {
  rig : IsRig (tray_of l.rig.bench) (used_of l.rig.bench.held) l.rig.links.slots l.rig.some l.rig.more nowhere;
  apps : length l.rig.bench.roster.apps ≡ 3;
  source : l.source.row < 3;
  sink : l.sink.row < 3;
}
