-- Actions applied to a plain form one after another.
use Rattle.std.proofs.Common.{◌≡◌, ℕ, zero, suc, ◌+◌, ◌-◌, ◌<◌, ◌≤◌, List, [], ◌∷◌, drop, get_or, length, min, take}
use Rattle.std.proofs.Common.{IsOk, Result, Ok, Err, refl, sym, ap, subst, ◌∙◌, arith, slice_range}
use Rattle.sn_actions.specs.PlainForms.{PlainForm}
use Rattle.sn_actions.specs.Plains.{apply, apply_all}
use Rattle.sn_actions.specs.declared.action.Action.{Action}
use Rattle.sn_actions.specs.declared.fault.ActionFault.{ActionFault}
use Rattle.sn_actions.proofs.AppliedActions.{apply_append}
use Rattle.sn_worker.specs.Plans.{CanTake}
use Rattle.sn_worker.proofs.Ranges.{take_more, take_taken}

abbrev next : List Action → Result PlainForm ActionFault → Result PlainForm ActionFault
next actions r = elim r [ Ok after ↦ apply_all actions after | Err fault ↦ Err fault ]

-- one action alone
one_by : (r : Result PlainForm ActionFault) → next [] r ≡ r
one_by (Ok x) = refl
one_by (Err f) = refl

pub one_applied : (a : Action) (p : PlainForm) → apply_all (a ∷ []) p ≡ apply a p
one_applied a p = one_by (apply a p)

-- one action more
more_applied : (xs : List Action) (i : ℕ) (d : Action) (p q : PlainForm) → i < length xs → apply_all (take i xs) p ≡ Ok q
    → apply_all (take (i + 1) xs) p ≡ apply (get_or xs i d) q
more_applied xs i d p q within e =
    ap (λ ys. apply_all ys p) (take_more xs i d within)
    ∙ (apply_append (take i xs) (get_or xs i d ∷ []) p q e ∙ one_applied (get_or xs i d) q)

pub next_taken : (xs : List Action) (i : ℕ) (d : Action) (p q : PlainForm) → i < length xs → CanTake xs p
    → apply_all (take i xs) p ≡ Ok q → IsOk (apply (get_or xs i d) q)
next_taken xs i d p q within can e = subst (λ r. IsOk r) (more_applied xs i d p q within e) (can (i + 1))

pub next_applied : (xs : List Action) (i : ℕ) (d : Action) (p q r : PlainForm) → i < length xs
    → apply_all (take i xs) p ≡ Ok q → apply (get_or xs i d) q ≡ Ok r → apply_all (take (i + 1) xs) p ≡ Ok r
next_applied xs i d p q r within e f = more_applied xs i d p q within e ∙ f

-- what comes behind the actions that were applied can be taken from there
pub rest_taken : (plan : List Action) (from to : ℕ) (p q : PlainForm) → from ≤ length plan → CanTake plan p
    → apply_all (take from plan) p ≡ Ok q → CanTake (slice_range plan from to) q
rest_taken plan from to p q within can e n =
    subst (λ r. IsOk r)
    (ap (λ ys. apply_all ys p) (take_taken plan from (min n (to - from)) within)
    ∙ (apply_append (take from plan) (take (min n (to - from)) (drop from plan)) p q e
    ∙ ap (λ ys. apply_all ys q) (sym (take_of_take n (to - from) (drop from plan)))))
    (can (from + min n (to - from)))
  where
    take_of_take : (n m : ℕ) (xs : List Action) → take n (take m xs) ≡ take (min n m) xs
    take_of_take zero m xs = let none : zero ≡ min zero m = omega arith in ap (λ k. take k xs) none
    take_of_take (suc n) zero xs = let none : zero ≡ min (suc n) zero = omega arith in ap (λ k. take k xs) none
    take_of_take (suc n) (suc m) [] = let more : suc (min n m) ≡ min (suc n) (suc m) = omega arith in ap (λ k. take k []) more
    take_of_take (suc n) (suc m) (x ∷ xs) =
        let more : suc (min n m) ≡ min (suc n) (suc m) = omega arith in
        ap (λ ys. x ∷ ys) (take_of_take n m xs) ∙ ap (λ k. take k (x ∷ xs)) more

-- the actions that wait are applied behind the others
pub rest_applied : (plan : List Action) (from to : ℕ) (p q r : PlainForm) → from ≤ to → to ≤ length plan
    → apply_all (take from plan) p ≡ Ok q → apply_all (slice_range plan from to) q ≡ Ok r → apply_all (take to plan) p ≡ Ok r
rest_applied plan from to p q r order within e f =
    ap (λ ys. apply_all ys p)
    (ap (λ n. take n plan) (let same : to ≡ from + (to - from) = omega (arith, order) in same)
    ∙ take_taken plan from (to - from) (let h : from ≤ length plan = omega (arith, order, within) in h))
    ∙ (apply_append (take from plan) (slice_range plan from to) p q e ∙ f)
