use Rattle.std.proofs.Common.{◌≡◌, ◌<◌, length}
use Rattle.sn_app.specs.Bench.{tray_of}
use Rattle.sn_packet.specs.Hold.{used_of}
use Rattle.app_rig.proofs.trials.trial.Given as goal
use Rattle.app_rig.specs.Rigs.{IsRig}

-- the world is sound with the app's places, and each of the three may be called
abbrev pub invariant-loop-turn : goal.invariant-loop-turn
invariant-loop-turn g l = record {
  rig : IsRig (tray_of l.rig.bench) (used_of l.rig.bench.held) l.rig.links.slots l.rig.some l.rig.more (g.A.App.places l.app);
  ready : g.A.App.can_run l.app (tray_of l.rig.bench);
  source : l.source.row < length l.rig.bench.roster.apps;
  sample : l.sample.row < length l.rig.bench.roster.apps;
  apps : length l.rig.bench.roster.apps ≡ length l.fn.rig.bench.roster.apps;
}
