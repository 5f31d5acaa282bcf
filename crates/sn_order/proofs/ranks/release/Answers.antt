-- answers of src/ranks.rt, release
use Rattle.std.proofs.Common.{ap, arith, cond, length, length-set, nat_eq, sym, subst, ℕ, ◌+◌, ◌-◌, ◌<◌, ◌≤◌, ◌≡◌, ◌∙◌, count_by, drop, slice_index, slice_index_or}
use Rattle.std.proofs.lemmas.Grind.{get_or_default_zero}
use Rattle.std.specs.BTreeSet.{insert_key}
use Rattle.std.specs.Ordering.{nat_cmp}
use Rattle.sn_order.proofs.Releases.{comes_free, left_first, lowered, lowered_by, one_counted, placed_before, still_blocked}
use Rattle.sn_order.proofs.ranks.release.Goals.{then-index-eq0+then-contains+in_ok-insert, else-index-eq0, else-index-eq0-via-then-index-eq0+else-contains, else-index-eq0-via-else-index-eq0}
use Rattle.sn_order.proofs.ranks.release.Goals as goal

pub overflow_sub-index_mut : goal.overflow_sub-index_mut
overflow_sub-index_mut c =
    let counts = c.loop-app.counts.items in
    let app : ℕ = slice_index_or c.args.targets.now c.loop-app.app-index 0 in
    let within : app < length counts =
    subst (λ n. app < n) (sym c.loop-app.invariant.len) (c.requires.targets c.loop-app.app-index 0 c.loop-app-test.true) in
    subst (λ n. 1 ≤ n) (sym (c.index_mut.ensures.value ∙ get_or_default_zero counts app c.index_mut.result.now within))
    (one_counted counts c.args.targets.now c.loop-app.app-index c.loop-app-test.true c.loop-app.invariant.enough)

pub loop-app-preserved : goal.loop-app-preserved
loop-app-preserved c =
    let counts = c.loop-app.counts.items in
    let targets = c.args.targets.now in
    let left = c.args.left.now.keys in
    let i = c.loop-app.app-index in
    let app : ℕ = slice_index_or targets i 0 in
    let n = c.index_mut.result.now in
    let within : app < length counts = subst (λ n. app < n) (sym c.loop-app.invariant.len) (c.requires.targets i 0 c.loop-app-test.true) in
    let is : n ≡ slice_index counts app = c.index_mut.ensures.value ∙ get_or_default_zero counts app n within in
    let first : (x : ℕ) → count_by (nat_eq x) (drop i targets) ≡ cond (nat_eq x app) 1 0 + count_by (nat_eq x) (drop (i + 1) targets) =
    λ x. left_first x i targets c.loop-app-test.true in
    let some : 1 ≤ slice_index counts app = one_counted counts targets i c.loop-app-test.true c.loop-app.invariant.enough in
    let by : (x : ℕ) → slice_index (lowered counts app n) x + cond (nat_eq x app) 1 0 ≡ slice_index counts x =
    lowered_by counts app n within is some in
    let length_is : length (lowered counts app n) ≡ length counts = length-set counts app (n - 1) in
    let now_is : c.index.result.now ≡ slice_index (lowered counts app n) app =
    c.index.ensures ∙ get_or_default_zero (lowered counts app n) app c.index.result.now (subst (λ k. app < k) (sym length_is) within) in
    record {
      len = length_is ∙ c.loop-app.invariant.len;
      counts = λ x. omega (arith, by x, first x, c.loop-app.invariant.counts x);
      enough = λ x. omega (arith, by x, first x, c.loop-app.invariant.enough x);
      free = elim c.if-index-eq0.branch [
        | then-index-eq0+then-contains+in_ok-insert w ↦ ap (λ free. free.keys) w.free-is ∙ w.in_ok-insert.ensures.keys
            ∙ ap (λ apps. insert_key nat_cmp apps app) c.loop-app.invariant.free
            ∙ comes_free counts app n within is some left c.requires.rising (sym now_is ∙ w.if-index-eq0.true)
            (sym w.contains.ensures ∙ w.if-contains.true)
        | else-index-eq0 w ↦ ap (λ free. free.keys) w.free-is ∙ c.loop-app.invariant.free ∙ elim w.else-index-eq0.branch [
          | else-index-eq0-via-then-index-eq0+else-contains v ↦
              placed_before counts app n within is some left (sym v.contains.ensures ∙ v.if-contains.false)
          | else-index-eq0-via-else-index-eq0 v ↦
              still_blocked counts app n within is some left (λ z. v.if-index-eq0.false (now_is ∙ z))
        ]
      ];
    }
