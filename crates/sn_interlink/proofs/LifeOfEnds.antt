-- Each end's log is a life.
use Rattle.std.proofs.Common.{◌≡◌, ℕ, Bool, true, false, not, ◌&&◌, eqb, Option, List, [], ◌∷◌, ◌++◌, Some, None, refl, sym, ap, ◌∙◌}
use Rattle.std.specs.Prelude.{option_and_then}
use Rattle.std.proofs.lemmas.Bool.{or_parts}
use Rattle.std.proofs.lemmas.List.{append-nil}
use Rattle.sn_core.specs.declared.events.Side.{Side}
use Rattle.sn_core.specs.declared.events.Side.TheVariants.{Tx, Rx}
use Rattle.sn_interlink.specs.declared.entry.LaneEntry.{LaneEntry}
use Rattle.sn_interlink.specs.declared.entry.LaneEntry.TheVariants.{Attach, Unattached, Detach, Reset}
use Rattle.sn_interlink.specs.declared.view.EndState.{EndState}
use Rattle.sn_interlink.specs.declared.view.EndState.TheVariants.{Out, Up, Closing}
use Rattle.sn_interlink.specs.Course.{Status, absent, up, gone, closing, Course, other, mine, is_up, is_closing, is_on, is_shut, state_of, field_in, left_state, state_after, leaves, is_down, Deed, looks, attaches, misses, detaches, resets, sees, rooms, puts, takes, drains, after, Comes, Enabled, History, course, Legal, Sane, entries_of, log_of}
use Rattle.sn_interlink.specs.Receipt.{where_true, both_or_neither, next_state, state_by}
use Rattle.sn_interlink.proofs.Machine.{sane, is_one, other_up, field_of_side, down_is}
use Rattle.sn_interlink.proofs.Hands.{tx_state_stays, rx_state_stays, side_differs}
use Rattle.sn_interlink.proofs.Steps.{mine_with, mine_freed, left_of}

state_by-append : (side : Side) (s : EndState) (xs ys : List LaneEntry) → state_by side s (xs ++ ys) ≡ option_and_then (λ t. state_by side t ys) (state_by side s xs)
state_by-append side s [] ys = refl
state_by-append side s (x ∷ xs) ys = by (λ t. state_by-append side t xs ys) (next_state side s x)
  where
    by : ((t : EndState) → state_by side t (xs ++ ys) ≡ option_and_then (λ u. state_by side u ys) (state_by side t xs)) → (o : Option EndState)
        → option_and_then (λ t. state_by side t (xs ++ ys)) o ≡ option_and_then (λ t. state_by side t ys) (option_and_then (λ t. state_by side t xs) o)
    by ih None = refl
    by ih (Some t) = ih t

one : (side : Side) (s t : EndState) (x : LaneEntry) → next_state side s x ≡ Some t → state_by side s (x ∷ []) ≡ Some t
one side s t x e = ap (λ o. option_and_then (λ n. state_by side n []) o) e

-- a status that is neither up nor closing is out
out_if : (s : Status) → is_up s ≡ false → is_closing s ≡ false → state_of s ≡ Out
out_if absent a b = refl
out_if up a b = cc
out_if gone a b = refl
out_if closing a b = cc

not_closing : (side : Side) (c : Course) → is_shut c ≡ false → is_closing (mine side c) ≡ false
not_closing Tx c e = (or_parts (is_closing c.tx) (is_closing c.rx) e).0
not_closing Rx c e = (or_parts (is_closing c.tx) (is_closing c.rx) e).1

neither : (a b : Bool) → a ≡ false → b ≡ false → (not a && not b) ≡ true
neither true b e f = cc
neither false true e f = cc
neither false false e f = refl

alike : (a b : Bool) → a ≡ b → both_or_neither a b ≡ true
alike true true e = refl
alike true false e = cc
alike false true e = cc
alike false false e = refl

coming : (side : Side) (word : ℕ) (c : Course) → Sane c → Comes side word c → next_state side Out (Attach word) ≡ Some Up
coming side word c s en =
    ap (λ b. where_true b Up) (neither (is_down word) (eqb (field_in side word) 1) (ap is_down en.found ∙ down_is c s ∙ en.open_yet)
    (ap (λ w. eqb (field_in side w) 1) en.found ∙ ap (λ n. eqb n 1) (field_of_side side c) ∙ is_one (mine side c) ∙ en.away))

missing : (side : Side) (s : Status) (seen found : ℕ) → is_up s ≡ false → is_down seen ≡ eqb found seen → state_by side (state_of s) (Unattached seen found ∷ []) ≡ Some (state_of s)
missing side absent seen found a w = ap (λ b. option_and_then (λ n. state_by side n []) (where_true b Out)) (alike (is_down seen) (eqb found seen) w)
missing side up seen found a w = cc
missing side gone seen found a w = ap (λ b. option_and_then (λ n. state_by side n []) (where_true b Out)) (alike (is_down seen) (eqb found seen) w)
missing side closing seen found a w = ap (λ b. option_and_then (λ n. state_by side n []) (where_true b Closing)) (alike (is_down seen) (eqb found seen) w)

-- the step of an end leads its state on
own_step : (side : Side) (d : Deed) (c : Course) → Sane c → Enabled side d c → state_by side (state_of (mine side c)) (entries_of d) ≡ Some (state_of (mine side (after side d c)))
own_step side looks c s en = refl
own_step side (attaches word) c s en =
    ap (λ t. state_by side t (Attach word ∷ [])) (out_if (mine side c) en.away (not_closing side c en.open_yet))
    ∙ one side Out Up (Attach word) (coming side word c s en) ∙ ap (λ t. Some (state_of t)) (sym (mine_with side up c))
own_step side (misses seen found) c s en = missing side (mine side c) seen found en.away en.why
own_step side (detaches word) c s en =
    let b : Bool = is_up (mine (other side) c) in
    let there : eqb (field_in side word) 1 ≡ true = ap (λ w. eqb (field_in side w) 1) en.found ∙ ap (λ n. eqb n 1) (field_of_side side c) ∙ is_one (mine side c) ∙ ap is_up en.is_there in
    let closer : eqb (field_in (other side) word) 1 ≡ b = ap (λ x. eqb (field_in (other side) x) 1) en.found ∙ other_up side c in
    ap (λ t. state_by side t (Detach word ∷ [])) (ap state_of en.is_there)
    ∙ one side Up (state_after side word) (Detach word) (ap (λ x. where_true x (state_after side word)) there)
    ∙ ap Some (ap left_state closer ∙ left_of b ∙ ap state_of (sym (mine_with side (leaves b) c)))
own_step side resets c s en = ap (λ t. state_by side t (Reset ∷ [])) (ap state_of en.closes) ∙ ap (λ t. Some (state_of t)) (sym (mine_freed side c))
own_step Tx (sees n) c s en = absurd (side_differs en.whose)
own_step Rx (sees n) c s en = seen_by c.rx en.is_there
  where
    seen_by : (t : Status) → is_on t ≡ true → state_by Rx (state_of t) (entries_of (sees n)) ≡ Some (state_of t)
    seen_by absent e = cc
    seen_by up e = refl
    seen_by gone e = cc
    seen_by closing e = refl
own_step Rx (rooms n) c s en = absurd (side_differs (sym en.whose))
own_step Tx (rooms n) c s en = seen_by c.tx en.is_there
  where
    seen_by : (t : Status) → is_on t ≡ true → state_by Tx (state_of t) (entries_of (rooms n)) ≡ Some (state_of t)
    seen_by absent e = cc
    seen_by up e = refl
    seen_by gone e = cc
    seen_by closing e = refl
own_step Rx (puts place packets) c s en = absurd (side_differs (sym en.whose))
own_step Tx (puts place packets) c s en = ap (λ t. state_by Tx t (entries_of (puts place packets))) (ap state_of en.is_there) ∙ ap (λ t. Some (state_of t)) (sym en.is_there)
own_step Tx (takes place packets) c s en = absurd (side_differs en.whose)
own_step Rx (takes place packets) c s en = ap (λ t. state_by Rx t (entries_of (takes place packets))) (ap state_of en.is_there) ∙ ap (λ t. Some (state_of t)) (sym en.is_there)
own_step Tx (drains place packets) c s en = ap (λ t. state_by Tx t (entries_of (drains place packets))) (ap state_of en.closes) ∙ ap (λ t. Some (state_of t)) (sym en.closes)
own_step Rx (drains place packets) c s en = ap (λ t. state_by Rx t (entries_of (drains place packets))) (ap state_of en.closes) ∙ ap (λ t. Some (state_of t)) (sym en.closes)

-- an end's log leads to its state
pub lives : (side : Side) (hist : History) → Legal hist → state_by side Out (log_of side hist) ≡ Some (state_of (mine side (course hist)))
lives Tx [] legal = refl
lives Rx [] legal = refl
lives Tx ((Tx, d) ∷ es) legal =
    state_by-append Tx Out (log_of Tx es) (entries_of d) ∙ ap (λ o. option_and_then (λ t. state_by Tx t (entries_of d)) o) (lives Tx es legal.1) ∙ own_step Tx d (course es) (sane es legal.1) legal.0
lives Tx ((Rx, d) ∷ es) legal = ap (state_by Tx Out) (append-nil (log_of Tx es)) ∙ lives Tx es legal.1 ∙ ap Some (sym (tx_state_stays d (course es) (sane es legal.1) legal.0))
lives Rx ((Rx, d) ∷ es) legal =
    state_by-append Rx Out (log_of Rx es) (entries_of d) ∙ ap (λ o. option_and_then (λ t. state_by Rx t (entries_of d)) o) (lives Rx es legal.1) ∙ own_step Rx d (course es) (sane es legal.1) legal.0
lives Rx ((Tx, d) ∷ es) legal = ap (state_by Rx Out) (append-nil (log_of Rx es)) ∙ lives Rx es legal.1 ∙ ap Some (sym (rx_state_stays d (course es) (sane es legal.1) legal.0))
