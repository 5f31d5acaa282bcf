-- answers of src/live_work.rt, is_full of Work
use Rattle.std.proofs.Common.{ap, nat_le, ◌∙◌}
use Rattle.sn_journal.specs.Cost.{cost_of}
use Rattle.sn_seat.specs.Trays.{no_captures}
use Rattle.sn_worker.specs.Own.{full_cost}
use Rattle.sn_worker.proofs.live_work.LiveWork.is_full.Goals as goal

pub returns : goal.returns
returns g c = ap (λ cost. nat_le full_cost cost) (c.cost.ensures ∙ ap cost_of (c.journal.ensures.entries no_captures))
