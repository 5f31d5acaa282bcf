use Rattle.std.proofs.Common.{◌≡◌, map}
use Rattle.std.specs.List.{range_with_len}
use Rattle.sn_core.specs.Core.{opening_cell}
use Rattle.sn_core.proofs.machine.full_cells.Given as goal

abbrev pub invariant-loop-number : goal.invariant-loop-number
invariant-loop-number l = l.cells.items ≡ map opening_cell (range_with_len 0 l.number)
