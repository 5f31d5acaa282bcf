-- answers of src/ranks.rt, free_of
use Rattle.std.proofs.Common.{ap, arith, length, slice_index, sym, ◌∙◌, ◌≡◌, ◌<◌}
use Rattle.std.proofs.lemmas.Bool.{eq-eqb}
use Rattle.std.proofs.lemmas.Grind.{get_or_default_zero}
use Rattle.std.specs.BTreeSet.{insert_key}
use Rattle.std.specs.Ordering.{nat_cmp}
use Rattle.sn_order.proofs.Sets.{kept_more, kept_same, not_same}
use Rattle.sn_order.proofs.ranks.free_of.Goals.{then-index-eq0+in_ok-insert, else-index-eq0}
use Rattle.sn_order.proofs.ranks.free_of.Goals as goal
use Rattle.sn_order.specs.Ranks.{is_free}

pub loop-app-preserved : goal.loop-app-preserved
loop-app-preserved c =
    let counts = c.args.counts.now.items in
    let app = c.loop-app.app in
    let within : app < length counts = omega (arith, c.loop-app-test.true, c.len-app-end.ensures) in
    let is : c.index.result.now ≡ slice_index counts app = c.index.ensures ∙ get_or_default_zero counts app c.index.result.now within in
    elim c.if-index-eq0.branch [
      | then-index-eq0+in_ok-insert w ↦ ap (λ free. free.keys) w.free-is ∙ w.in_ok-insert.ensures.keys
          ∙ ap (λ apps. insert_key nat_cmp apps app) c.loop-app.invariant
          ∙ kept_more (is_free counts) app (eq-eqb (slice_index counts app) 0 (sym is ∙ w.if-index-eq0.true))
      | else-index-eq0 w ↦ ap (λ free. free.keys) w.free-is ∙ c.loop-app.invariant
          ∙ kept_same (is_free counts) app (not_same (slice_index counts app) 0 (λ z. w.if-index-eq0.false (is ∙ z)))
    ]
