-- The state that a machine is in.
use Rattle.sn_core.specs.declared.machine.Machine.{Machine}
use Rattle.sn_core.specs.Core.{Core}

abbrev pub core_of : Machine → Core
core_of machine = record { cells = machine.cells.items; lanes = machine.lanes.items; seats = machine.seats.items }
