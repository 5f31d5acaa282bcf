-- answers of src/ranks.rt, counts_of
use Rattle.std.proofs.Common.{arith, count_by, drop, length, length-set, nat_eq, slice_index, slice_index_or, slice_set, subst, sym, ℕ, ◌+◌, ◌<◌, ◌≡◌, ◌∙◌}
use Rattle.std.proofs.lemmas.Grind.{get_or_default_zero}
use Rattle.sn_order.proofs.Counts.{first_counted, one_at_most, one_if, raised_by}
use Rattle.sn_order.proofs.ranks.counts_of.Goals as goal
use Rattle.sn_order.specs.Ranks.{leads_to}

pub loop-place-preserved : goal.loop-place-preserved
loop-place-preserved c =
    let counts = c.loop-place.counts.items in
    let i = c.loop-place.place in
    let to : ℕ = (slice_index_or c.args.edges.now i (0, 0)).1 in
    let n = c.index_mut.result.now in
    let within : to < length counts = subst (λ k. to < k) (sym c.loop-place.invariant.len) (c.requires i (0, 0) c.loop-place-test.true).1 in
    let by : (app : ℕ) → slice_index (slice_set counts to (n + 1)) app ≡ slice_index counts app + one_if (nat_eq to app) =
    raised_by counts to n within (c.index_mut.ensures.value ∙ get_or_default_zero counts to n within) in
    let first : (app : ℕ) → count_by (leads_to app) (drop i c.args.edges.now)
    ≡ one_if (nat_eq to app) + count_by (leads_to app) (drop (i + 1) c.args.edges.now) =
    λ app. first_counted (leads_to app) c.args.edges.now i (0, 0) c.loop-place-test.true in
    record {
      len = length-set counts to (n + 1) ∙ c.loop-place.invariant.len;
      few = λ app. omega (arith, by app, one_at_most (nat_eq to app), c.loop-place.invariant.few app);
      counts = λ app. omega (arith, by app, first app, c.loop-place.invariant.counts app);
    }
