-- answers of src/ranks.rt, place_all
use Rattle.std.proofs.Common.{All, Bool, true, if◌then◌else◌, Some, [], ap, append_assoc, arith, count_by, length, nat_eq, not, slice_get, slice_index, subst, suc, sym, ℕ, ◌+◌, ◌++◌, ◌-◌, ◌<◌, ◌≤◌, ◌≡◌, ◌∙◌, ◌∷◌}
use Rattle.std.proofs.lemmas.List.Elements.{All-append, All-cons, All-nil}
use Rattle.std.proofs.lemmas.List.FromFn.{length-range_with_len}
use Rattle.std.proofs.lemmas.List.{get_or_default, length-append}
use Rattle.std.specs.List.{filter, range_with_len}
use Rattle.sn_order.proofs.Placed.{counted_then, enough, free_left, is_left, left_is, placed_next, rest_within, targets_within, waits_at_first, within_count, within_range}
use Rattle.sn_order.proofs.Waits.{nothing_left}
use Rattle.sn_order.proofs.ranks.place_all.Goals as goal
use Rattle.sn_order.specs.Order.{placing}
use Rattle.sn_order.specs.Ranks.{is_free, rank_waits, targets_of, waits_for}

pub loop-init : goal.loop-init
loop-init c =
    let edges = c.args.edges.now in
    let count = c.args.count in
    let all : c.in_ok-left.left.keys ≡ range_with_len 0 count = c.in_ok-left.ensures.all in
    record {
      order = ap (λ xs. xs ++ placing nat_eq (rank_waits edges) (count - 0) c.in_ok-left.left.keys) c.in_ok-order.ensures.items
          ∙ ap (λ n. placing nat_eq (rank_waits edges) n c.in_ok-left.left.keys) (let e : count - 0 ≡ count = omega arith in e)
          ∙ ap (λ xs. placing nat_eq (rank_waits edges) count xs) all;
      placed = subst (All (λ app. app < count)) (sym c.in_ok-order.ensures.items) (All-nil (λ app. app < count));
      so_far = ap length c.in_ok-order.ensures.items;
      len = c.in_ok-counts.ensures.len;
      counts = λ app. c.in_ok-counts.ensures.counts app ∙ waits_at_first edges count app c.requires
          ∙ ap (λ xs. waits_for edges xs app) (sym all);
      free = c.in_ok-free.ensures ∙ ap (λ n. filter (is_free c.in_ok-counts.counts.items) (range_with_len 0 n)) c.in_ok-counts.ensures.len
          ∙ ap (filter (is_free c.in_ok-counts.counts.items)) (sym all);
      many = ap (λ xs. length xs + 0) all ∙ (let e : length (range_with_len 0 count) ≡ count = length-range_with_len 0 count in omega (arith, e));
      rising = c.in_ok-left.ensures.rising;
      within = subst (All (λ app. app < count)) (sym all) (within_range count);
    }

pub unreachable-requires : goal.unreachable-requires
unreachable-requires c =
    let none : length c.loop.left.keys ≡ 0 = nothing_left c.loop.free.keys c.loop.left.keys (sym c.next_of.ensures ∙ c.in_default.is) in
    omega (arith, none, c.loop.invariant.many, c.loop-test.true)

pub index-requires : goal.index-requires
index-requires c =
    let within : c.in-Some.app < c.args.count = within_count c.args.edges.now c.args.count c.loop.counts.items c.loop.left.keys c.loop.free.keys c.in-Some.app
    c.loop.invariant.counts c.loop.invariant.free c.loop.invariant.rising c.loop.invariant.within (sym c.next_of.ensures ∙ c.in-Some.is) in
    omega (arith, within, c.in_ok-targets.ensures.len, c.in_ok-targets.targets.ok.0)

pub release-requires-clause-within : goal.release-requires-clause-within
release-requires-clause-within c =
    subst (All (λ app. app < length c.loop.counts.items)) (sym (c.remove.ensures.keys ∙ left_is c.args.edges.now c.args.count c.loop.counts.items c.loop.left.keys c.loop.free.keys c.in-Some.app
    c.loop.invariant.counts c.loop.invariant.free c.loop.invariant.rising c.loop.invariant.within (sym c.next_of.ensures ∙ c.in-Some.is)))
    (subst (λ n. All (λ app. app < n) (filter (λ other. not (nat_eq other c.in-Some.app)) c.loop.left.keys)) (sym c.loop.invariant.len)
    (rest_within c.args.edges.now c.args.count c.loop.counts.items c.loop.left.keys c.loop.free.keys c.in-Some.app
    c.loop.invariant.counts c.loop.invariant.free c.loop.invariant.rising c.loop.invariant.within (sym c.next_of.ensures ∙ c.in-Some.is)))

targets_are : (c : goal.After-all) → c.all.result.now ≡ targets_of c.args.edges.now c.in-Some.app
targets_are c =
    let app_within : c.in-Some.app < c.args.count = within_count c.args.edges.now c.args.count c.loop.counts.items c.loop.left.keys c.loop.free.keys c.in-Some.app
    c.loop.invariant.counts c.loop.invariant.free c.loop.invariant.rising c.loop.invariant.within (sym c.next_of.ensures ∙ c.in-Some.is) in
    c.all.ensures ∙ c.index.ensures
    ∙ get_or_default c.in_ok-targets.targets.items c.in-Some.app c.index.result.now [] (subst (λ n. c.in-Some.app < n) (sym c.in_ok-targets.ensures.len) app_within)
    ∙ c.in_ok-targets.ensures.targets c.in-Some.app app_within

pub release-requires-clause-targets : goal.release-requires-clause-targets
release-requires-clause-targets c =
    subst (All (λ app. app < length c.loop.counts.items)) (sym (targets_are c))
    (subst (λ n. All (λ app. app < n) (targets_of c.args.edges.now c.in-Some.app)) (sym c.loop.invariant.len)
    (targets_within c.args.edges.now c.args.count c.in-Some.app c.requires))

pub release-requires-clause-enough : goal.release-requires-clause-enough
release-requires-clause-enough c =
    subst (λ xs. (app : ℕ) → count_by (nat_eq app) xs ≤ slice_index c.loop.counts.items app) (sym (targets_are c))
    (enough c.args.edges.now c.args.count c.loop.counts.items c.loop.left.keys c.loop.free.keys c.in-Some.app
    c.loop.invariant.counts c.loop.invariant.free c.loop.invariant.rising c.loop.invariant.within (sym c.next_of.ensures ∙ c.in-Some.is))

pub release-requires-clause-free : goal.release-requires-clause-free
release-requires-clause-free c =
    c.remove-in-loop.ensures.keys ∙ free_left c.args.edges.now c.args.count c.loop.counts.items c.loop.left.keys c.loop.free.keys c.in-Some.app
    c.loop.invariant.counts c.loop.invariant.free c.loop.invariant.rising c.loop.invariant.within (sym c.next_of.ensures ∙ c.in-Some.is)
    ∙ ap (filter (is_free c.loop.counts.items)) (sym (c.remove.ensures.keys ∙ left_is c.args.edges.now c.args.count c.loop.counts.items c.loop.left.keys c.loop.free.keys c.in-Some.app
    c.loop.invariant.counts c.loop.invariant.free c.loop.invariant.rising c.loop.invariant.within (sym c.next_of.ensures ∙ c.in-Some.is)))

pub loop-preserved : goal.loop-preserved
loop-preserved c =
    let edges = c.args.edges.now in
    let count = c.args.count in
    let counts = c.loop.counts.items in
    let left = c.loop.left.keys in
    let app = c.in-Some.app in
    let inv = c.loop.invariant in
    let next : slice_get (c.loop.free.keys ++ left) 0 ≡ Some app = sym c.next_of.ensures ∙ c.in-Some.is in
    let rest = filter (λ other. not (nat_eq other app)) left in
    let left_then : c.remove.new.self.keys ≡ rest =
    c.remove.ensures.keys ∙ left_is edges count counts left c.loop.free.keys app inv.counts inv.free inv.rising inv.within next in
    let app_within : app < count = within_count edges count counts left c.loop.free.keys app inv.counts inv.free inv.rising inv.within next in
    let targets_are : c.all.result.now ≡ targets_of edges app =
    c.all.ensures ∙ c.index.ensures
    ∙ get_or_default c.in_ok-targets.targets.items app c.index.result.now [] (subst (λ n. app < n) (sym c.in_ok-targets.ensures.len) app_within)
    ∙ c.in_ok-targets.ensures.targets app app_within in
    let removed : c.remove.result ≡ true =
    c.remove.ensures.test ∙ is_left edges count counts left c.loop.free.keys app inv.counts inv.free inv.rising inv.within next in
    let one_gone : length c.remove.new.self.keys + 1 ≡ length left =
    subst (λ (b : Bool). length c.remove.new.self.keys + (if b then 1 else 0) ≡ length left) removed c.remove.ensures.len in
    let one_less : count - c.loop.counter ≡ suc (count - (c.loop.counter + 1)) = omega (arith, c.loop-test.true) in
    record {
      order = ap (λ xs. xs ++ placing nat_eq (rank_waits edges) (count - (c.loop.counter + 1)) c.remove.new.self.keys) c.in_ok-push.ensures.items
          ∙ append_assoc c.loop.order.items (app ∷ []) (placing nat_eq (rank_waits edges) (count - (c.loop.counter + 1)) c.remove.new.self.keys)
          ∙ ap (λ xs. c.loop.order.items ++ app ∷ placing nat_eq (rank_waits edges) (count - (c.loop.counter + 1)) xs) left_then
          ∙ ap (λ xs. c.loop.order.items ++ xs)
          (sym (placed_next edges count counts left c.loop.free.keys app inv.counts inv.free inv.rising inv.within next (count - (c.loop.counter + 1))))
          ∙ ap (λ n. c.loop.order.items ++ placing nat_eq (rank_waits edges) n left) (sym one_less)
          ∙ inv.order;
      placed = subst (All (λ x. x < count)) (sym c.in_ok-push.ensures.items)
          (All-append (λ x. x < count) c.loop.order.items (app ∷ []) inv.placed (All-cons (λ x. x < count) app [] app_within (All-nil (λ x. x < count))));
      so_far = ap length c.in_ok-push.ensures.items ∙ length-append c.loop.order.items (app ∷ [])
          ∙ ap (λ n. n + 1) inv.so_far;
      len = c.in_ok-release.ensures.len ∙ inv.len;
      counts = λ x. counted_then edges count counts left c.loop.free.keys app inv.counts inv.free inv.rising inv.within next c.release.new.counts.items
          (λ y. ap (λ xs. slice_index c.release.new.counts.items y + count_by (nat_eq y) xs) (sym targets_are) ∙ c.in_ok-release.ensures.counts y) x
          ∙ ap (λ xs. waits_for edges xs x) (sym left_then);
      free = c.in_ok-release.ensures.free;
      many = omega (arith, one_gone, inv.many);
      rising = c.remove.ensures.ordered;
      within = subst (All (λ x. x < count)) (sym left_then)
          (rest_within edges count counts left c.loop.free.keys app inv.counts inv.free inv.rising inv.within next);
    }
