use Rattle.std.proofs.Common.{◌≡◌, ◌<◌, ◌≤◌, length, None, arith, refl, sym, subst, inl, inr}
use Rattle.std.proofs.lemmas.Bool.{cases_lt, false≢true}
use Rattle.sn_core.specs.Lane.{first_filled}
use Rattle.sn_core.proofs.Queues.{first_read, first_past}
use Rattle.sn_core.proofs.lane.Lane.first.Goals as goal

pub returns-in-Some : goal.returns-in-Some
returns-in-Some c =
    let queue = c.self.inside.queue in
    let within : c.self.inside.emptied < length queue.items = omega (arith, queue.ok, (c.in-Some.ensures.variant).0 refl) in
    subst (λ l. c.in-Some.place.now ≡ first_filled l.queue) c.self.view_is
    (first_read queue.items c.self.inside.emptied c.in-Some.place.now c.self.invariant.2 within c.in-Some.ensures.lookup)

pub returns-in-None : goal.returns-in-None
returns-in-None c =
    let queue = c.self.inside.queue in
    let past : length queue.items ≤ c.self.inside.emptied =
    elim (cases_lt c.self.inside.emptied (length queue.items)) [
      | inl lt ↦ absurd (false≢true ((c.in-None.ensures.variant).1 (omega (arith, queue.ok, lt))))
      | inr le ↦ le
    ] in
    subst (λ l. None ≡ first_filled l.queue) c.self.view_is (sym (first_past queue.items c.self.inside.emptied c.self.invariant.2 past))
