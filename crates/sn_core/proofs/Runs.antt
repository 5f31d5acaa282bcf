-- A run over a list of events, one event further.
use Rattle.std.proofs.Common.{◌≡◌, ℕ, ◌+◌, ◌≤◌, Bool, true, false, List, [], ◌∷◌, ◌++◌, length, is_some, cond, take, get_or, ◌<◌, refl, sym, ap, ◌∙◌, arith}
use Rattle.std.proofs.lemmas.List.{take_more}
use Rattle.sn_core.specs.declared.events.Event.{Event}
use Rattle.sn_core.specs.Core.{Core, after, next, all_after, done_count}

pub all_after_more : (core : Core) (events : List Event) (event : Event) → all_after core (events ++ event ∷ []) ≡ next (all_after core events) event
all_after_more core [] event = refl
all_after_more core (first ∷ events) event = all_after_more (next core first) events event

pub done_count_more : (core : Core) (events : List Event) (event : Event) → done_count core (events ++ event ∷ []) ≡ done_count core events + cond (is_some (after (all_after core events) event)) 1 0
done_count_more core [] event = omega arith
done_count_more core (first ∷ events) event = omega (arith, done_count_more (next core first) events event)

one_at_most : (b : Bool) → cond b 1 0 ≤ 1
one_at_most true = omega arith
one_at_most false = omega arith

pub run_more : (core mid new : Core) (events : List Event) (i done made : ℕ) (d : Event) → i < length events → mid ≡ all_after core (take i events) → done ≡ done_count core (take i events) → done ≤ i →
    new ≡ next mid (get_or events i d) → made ≡ cond (is_some (after mid (get_or events i d))) 1 0 →
    (new ≡ all_after core (take (i + 1) events)) × (done + made ≡ done_count core (take (i + 1) events)) × (done + made ≤ i + 1)
run_more core mid new events i done made d lt mid_is done_is le new_is made_is =
    let event = get_or events i d in
    let more : take (i + 1) events ≡ take i events ++ event ∷ [] = take_more events i d lt in
    let count : done_count core (take i events ++ event ∷ []) ≡ done + made =
    done_count_more core (take i events) event ∙ omega (arith, done_is, made_is, ap {B = ℕ} (λ m. cond (is_some (after m event)) 1 0) mid_is) in (
      new_is ∙ ap (λ m. next m event) mid_is ∙ sym (all_after_more core (take i events) event) ∙ ap (λ es. all_after core es) (sym more),
      sym count ∙ ap (λ es. done_count core es) (sym more),
      omega (arith, made_is, one_at_most (is_some (after mid event))),
    )
