-- answers of src/ranks.rt, all_of
use Rattle.std.proofs.Common.{ap, ◌∙◌}
use Rattle.std.specs.BTreeSet.{insert_key}
use Rattle.std.specs.Ordering.{nat_cmp}
use Rattle.sn_order.proofs.Sets.{all_more}
use Rattle.sn_order.proofs.ranks.all_of.Goals as goal

pub loop-app-preserved : goal.loop-app-preserved
loop-app-preserved c =
    record {
      all = c.in_ok-insert.ensures.keys
          ∙ ap (λ apps. insert_key nat_cmp apps c.loop-app.app) c.loop-app.invariant.all ∙ all_more c.loop-app.app;
      rising = c.in_ok-insert.ensures.ordered;
    }
