use Rattle.std.proofs.Common.{◌∙◌}
use Rattle.sn_run.proofs.TextPieces.{piece_more, piece_within}
use Rattle.sn_run.proofs.printing.print_text.Goals as goal

pub loop-at-preserved : goal.loop-at-preserved
loop-at-preserved g c = record {
  within = piece_within _ _ _ c.loop-at.invariant.within c.in_ok-at.ensures.within;
  still = c.in_ok-at.ensures.cause.still ∙ c.loop-at.invariant.still;
  taken = λ t. piece_more _ _ _ _ _ _ c.in_ok-at.ensures.within (c.loop-at.invariant.taken t) (c.in_ok-at.ensures.told t);
}
