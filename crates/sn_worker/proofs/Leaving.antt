-- What a worker has left: the actions that weren't applied, and what its network has left.
use Rattle.std.proofs.Common.{◌≡◌, ℕ, ◌+◌, ◌-◌, List, ap, ◌∙◌, arith, drop, length, min, slice_range}
use Rattle.std.proofs.Common.{length-drop, length-take}
use Rattle.sn_actions.specs.PlainForms.{PlainForm}
use Rattle.sn_actions.specs.declared.action.Action.{Action}
use Rattle.sn_worker.specs.Workers.{IsWithin}

-- those that were taken and don't wait were applied
unapplied_is : (plan : List Action) (applied taken : ℕ) (form : PlainForm) → IsWithin plan applied taken form
    → length plan - applied ≡ length plan - (taken - length (slice_range plan applied taken))
unapplied_is plan applied taken form h =
    let t = length-take (taken - applied) (drop applied plan) in
    let d = length-drop applied plan in
    let o = h.order in
    let w = h.within in
    omega (arith, t, d, o, w)

pub left_sum : (plan : List Action) (applied taken : ℕ) (form : PlainForm) (most unapplied left sum queued : ℕ)
    → IsWithin plan applied taken form → sum ≡ min (unapplied + left) most → unapplied ≡ length plan - applied → left ≡ queued
    → sum ≡ min (length plan - (taken - length (slice_range plan applied taken)) + queued) most
left_sum plan applied taken form most unapplied left sum queued h total some rest =
    let same = unapplied_is plan applied taken form h in
    let both : unapplied + left ≡ length plan - (taken - length (slice_range plan applied taken)) + queued =
    omega (arith, same, some, rest) in
    total ∙ ap (λ (n : ℕ). min n most) both
