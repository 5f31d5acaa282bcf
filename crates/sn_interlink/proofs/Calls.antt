-- What the calls of an end ask of its fields, and what they leave of them.
use Rattle.std.proofs.Common.{◌≡◌, ◌≤◌, ℕ, ◌+◌, ◌-◌, ◌%◌, ◌^◌, Bool, true, false, eqb, Some, refl, sym, ap, ◌∙◌, subst, arith}
use Rattle.std.specs.Prelude.{unwrap_or}
use mathlib.Core.Option.{none}
use prog.Atomic.{either}
use Rattle.atomic_table.specs.Table.{Me, step, Allows}
use Rattle.sn_core.specs.declared.events.Side.{Side}
use Rattle.sn_core.specs.declared.events.Side.TheVariants.{Tx, Rx}
use Rattle.sn_interlink.specs.declared.view.EndState.{EndState}
use Rattle.sn_interlink.specs.declared.view.EndState.TheVariants.{Out, Up, Closing}
use Rattle.sn_interlink.specs.declared.view.Hand.TheVariants.{Reading}
use Rattle.sn_interlink.specs.declared.view.Known.{Known}
use Rattle.sn_interlink.specs.declared.view.View.{View}
use Rattle.sn_interlink.specs.declared.view.View.TheVariants.{One}
use Rattle.sn_interlink.specs.Course.{unit, came_word, is_down}
use Rattle.sn_interlink.specs.Rule.{Lying, lies_in, Rule}
use Rattle.sn_interlink.specs.Moves.{Half, idle, load_of, out_of}
use Rattle.sn_interlink.specs.Plays.{known_of, Finds, FindsWord, LookPlay, AttachPlay, DetachPlay, ResetPlay}
use Rattle.sn_interlink.specs.Ends.{half_by, reach_by, Fields, fields, hand_by, FieldsFit, IsEnd}
use Rattle.sn_interlink.proofs.StateSteps.{look_steps, attach_steps, detach_steps, reset_steps}
use Rattle.sn_interlink.proofs.Steps.{allow, Steps}

abbrev pub closing_state : EndState → Bool
closing_state Out = false
closing_state Up = false
closing_state Closing = true

-- WHAT IS KNOWN OF AN END'S VIEW

-- a step is allowed where the end's view is of this form
pub allowed : (slots id : ℕ) (f : Fields) (m : Me Lying View) (half : Half) (i : ℕ) (g : ℕ → ℕ) (tells : Me Lying View → ℕ → Me Lying View → Type 0) → IsEnd f m
    → half_by f.half (known_of m.0).hand (load_of m.1) ≡ half → Steps f.side (known_of m.0) half i g (tells (One f.side (known_of m.0), out_of (known_of m.0).hand half))
    → Allows Rule slots id m i g (tells m)
allowed slots id f m half i g tells inv half_is steps =
    let v : Known = known_of m.0 in
    let me : m ≡ (One f.side v, out_of v.hand half) = inv.me ∙ ap (λ h. (One f.side v, out_of v.hand h)) half_is in
    subst (λ u. Allows Rule slots id u i g (tells u)) (sym me) (allow slots id f.side v half i g (tells (One f.side v, out_of v.hand half)) steps)

-- THE STATE WORD

-- the word that an end found is as its fields say
pub found_now : (f : Fields) (m : Me Lying View) (n : ℕ) → IsEnd f m → FindsWord m.0 n → Finds f.side f.state n
found_now f m n inv finds = subst (λ st. Finds f.side st n) inv.fit.state (finds f.side (known_of m.0) (ap (λ x. x.0) inv.me))

pub look_allowed : (slots id : ℕ) (f : Fields) (m : Me Lying View) → IsEnd f m → Allows Rule slots id m 0 (λ n. n) (LookPlay (step slots 0 0 0 none) m)
look_allowed slots id f m inv =
    allowed slots id f m (half_by f.half (known_of m.0).hand (load_of m.1)) 0 (λ n. n) (LookPlay (step slots 0 0 0 none)) inv refl (look_steps slots f.side (known_of m.0) (half_by f.half (known_of m.0).hand (load_of m.1)))

-- an end that is out has loaded no far word, and has nothing half done
record Resting (loaded half : Bool) : Type 0 where
  pub no_load : loaded ≡ false
  pub no_half : half ≡ false

resting : (f : Fields) (v : Known) (x : Lying) → FieldsFit f v x → f.state ≡ Out → Resting f.loaded f.half
resting f v x t out = record { no_load = t.out out; no_half = by f.half (λ e. t.knows e ∙ refl) }
  where
    by : (b : Bool) → (b ≡ true → f.loaded ≡ true) → b ≡ false
    by true knows = let e = knows refl in let o = t.out out in cc
    by false knows = refl

pub attach_allowed : (slots id : ℕ) (side : Side) (state : EndState) (place bound : ℕ) (loaded synced half : Bool) (m : Me Lying View) (seen new : ℕ) → IsEnd (fields side state place bound loaded synced half) m
    → state ≡ Out → is_down seen ≡ false → new ≡ came_word side seen → Allows Rule slots id m 0 (λ n. either (eqb n seen) new n) (AttachPlay (step slots 0 seen new none) m)
attach_allowed slots id side state place bound loaded synced half m seen new inv out open_yet new_is =
    let f = fields side state place bound loaded synced half in
    let t = inv.fit in
    let r = resting f (known_of m.0) (load_of m.1) t out in
    subst (λ w. Allows Rule slots id m 0 (λ n. either (eqb n seen) w n) (AttachPlay (step slots 0 seen w none) m)) (sym new_is)
    (allowed slots id f m idle 0 (λ n. either (eqb n seen) (came_word side seen) n) (AttachPlay (step slots 0 seen (came_word side seen) none)) inv
    (ap (λ b. half_by b (known_of m.0).hand (load_of m.1)) r.no_half)
    (attach_steps slots side (known_of m.0) seen (t.state ∙ out) open_yet))

-- the end goes
pub detach_allowed : (slots id : ℕ) (side : Side) (state : EndState) (place bound : ℕ) (loaded synced half : Bool) (m : Me Lying View) (k : ℕ) → IsEnd (fields side state place bound loaded synced half) m
    → state ≡ Up → half ≡ false → k ≡ unit side → Allows Rule slots id m 0 (λ n. (n + k) % 2 ^ 64) (DetachPlay (step slots 0 k 0 none) m)
detach_allowed slots id side state place bound loaded synced half m k inv is_state no_half k_is =
    let f = fields side state place bound loaded synced half in
    subst (λ w. Allows Rule slots id m 0 (λ n. (n + w) % 2 ^ 64) (DetachPlay (step slots 0 w 0 none) m)) (sym k_is)
    (allowed slots id f m idle 0 (λ n. (n + unit side) % 2 ^ 64) (DetachPlay (step slots 0 (unit side) 0 none)) inv
    (ap (λ b. half_by b (known_of m.0).hand (load_of m.1)) no_half)
    (detach_steps slots side (known_of m.0) (inv.fit.state ∙ is_state)))

-- the closing end sets the interlink free
pub reset_allowed : (slots id : ℕ) (side : Side) (state : EndState) (place bound : ℕ) (loaded synced half : Bool) (m : Me Lying View) → IsEnd (fields side state place bound loaded synced half) m
    → state ≡ Closing → half ≡ false → reach_by loaded place bound ≡ Some 0 → Allows Rule slots id m 0 (λ _. 0) (λ _. ResetPlay (step slots 0 0 0 none) m 0)
reset_allowed slots id side state place bound loaded synced half m inv is_state no_half none_left =
    let f = fields side state place bound loaded synced half in
    let t = inv.fit in
    allowed slots id f m idle 0 (λ _. 0) (λ u n. ResetPlay (step slots 0 0 0 none) u 0) inv
    (ap (λ b. half_by b (known_of m.0).hand (load_of m.1)) no_half)
    (reset_steps slots side (known_of m.0) (t.state ∙ is_state) (record { first = place; lying = lies_in (known_of m.0).hand; hand = t.hand ∙ by side state loaded is_state none_left t.order }))
  where
    nothing_left : (place bound : ℕ) → Some (bound - place) ≡ Some 0 → place ≤ bound → bound ≡ place
    nothing_left place bound e order = let f : bound - place ≡ 0 = ap (λ o. unwrap_or o 0) e in omega (arith, f, order)

    by : (side : Side) (state : EndState) (loaded : Bool) → state ≡ Closing → reach_by loaded place bound ≡ Some 0 → (loaded ≡ true → place ≤ bound)
        → hand_by loaded (fields side state place bound loaded synced half) (lies_in (known_of m.0).hand) ≡ Reading place place (lies_in (known_of m.0).hand)
    by side Out loaded c e order = absurd (let f : false ≡ true = ap closing_state c in cc)
    by side Up loaded c e order = absurd (let f : false ≡ true = ap closing_state c in cc)
    by Tx Closing true c e order = ap (λ b. Reading place b (lies_in (known_of m.0).hand)) (nothing_left place bound e (order refl))
    by Rx Closing true c e order = ap (λ b. Reading place b (lies_in (known_of m.0).hand)) (nothing_left place bound e (order refl))
    by side Closing false c e order = cc
