use Rattle.std.proofs.Common.{◌≡◌, List}
use Rattle.sn_group.specs.declared.entry.Probe.{Probe}
use Rattle.sn_group.specs.Scans.{PassedFull, Passes}
use Rattle.sn_group.specs.Finds.{IsScanning}
use Rattle.sn_group.proofs.take_scan.find_full.Given as goal

abbrev pub invariant-loop-k : goal.invariant-loop-k
invariant-loop-k l = (l.seat.table_id ≡ l.initial.seat.table_id) × (scan : List Probe)
    × Passes PassedFull l.cells l.start l.k scan × IsScanning l.initial.seat.me.0 scan l.seat.me
