use Rattle.std.proofs.Common.{arith}
use Rattle.std.proofs.lemmas.Grind.{common_steps}
use Rattle.std.proofs.lemmas.List.FromFn.{map-range_with_len_more}
use Rattle.sn_core.specs.Core.{opening_cell}
use Rattle.sn_core.proofs.machine.full_cells.Goals as goal

pub loop-number-preserved : goal.loop-number-preserved
loop-number-preserved c =
    let more = map-range_with_len_more opening_cell 0 c.loop-number.number c.loop-number.number (omega arith) in
    grind (arith, common_steps, more)
