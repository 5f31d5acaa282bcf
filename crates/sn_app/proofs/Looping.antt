-- Loops over a context: a turn that goes on, one that stops, one that halts, and the end.
use Rattle.std.proofs.Common.{◌≡◌, ℕ, zero, suc, ◌+◌, ◌-◌, ◌<◌, ◌≤◌, Bool, true, false, if◌then◌else◌, List, [], ◌∷◌, map, length, drop, get_or, Option, Result, Ok, Err, refl, sym, ap, subst, ◌∙◌, arith, drop-cons, add-one}
use Rattle.sn_app.specs.Loops.{Did, Goes, IsReady}
use mathlib.Core.Path.{fun_ext}
use Rattle.std.proofs.lemmas.List.{length-map}
use Rattle.sn_link.specs.Link.{Line}
use Rattle.sn_app.specs.Answers.{Stays}
use Rattle.sn_app.specs.Desk.{Tray}
use Rattle.sn_app.specs.Ports.{HasInputs, HasLinks, HasOutputs, KeepsRows, SamePorts, in_ports, in_row, ins_of, key_at, line_at, out_ports, out_row, outs_of, rows_of, slots_of}
use Rattle.sn_app.specs.Reader.{Meaning, pure, ◌>>=◌, times, on_each, stepping}
use Rattle.sn_app.specs.Runs.{Runs}
use Rattle.sn_app.specs.World.{IsSound, Used, World, desk_of, nowhere, world}
use Rattle.sn_app.specs.declared.halt.Halt.{Halt}
use Rattle.sn_app.specs.declared.ports.Ports.{Ports}
use Rattle.sn_app.proofs.Moving.{sound_moved}
use Rattle.sn_app.proofs.Readings.{stays_same, stays_then}
use Rattle.sn_app.proofs.Running.{continues_as, continues_bind, continues_done, continues_fail, continues_start, runs_pure}

pub ports_same : (ports : Ports) → SamePorts ports ports
ports_same ports = record { ins = refl; outs = refl; links = refl }

pub ports_then : {a b c : Ports} → SamePorts a b → SamePorts b c → SamePorts a c
ports_then x y = record { ins = y.ins ∙ x.ins; outs = y.outs ∙ x.outs; links = y.links ∙ x.links }

pub rows_same : (slots : List _) → KeepsRows slots slots
rows_same slots = record { rows = λ key. refl; held = λ key h. h; none = λ key h. h }

pub rows_then : {a b c : List _} → KeepsRows a b → KeepsRows b c → KeepsRows a c
rows_then x y = record {
  rows = λ key. y.rows key ∙ x.rows key;
  held = λ key h. y.held key (x.held key h);
  none = λ key h. y.none key (x.none key h);
}

-- a port's row, and that its link is there, stay
pub out_row_kept : {from to : Ports} → SamePorts from to → KeepsRows (slots_of from) (slots_of to) → (o : ℕ) → out_row to o ≡ out_row from o
out_row_kept {from} {to} same rows o =
    ap (λ ports. (line_at (slots_of to) (key_at ports o)).row) same.outs ∙ rows.rows (key_at (outs_of from) o)

pub in_row_kept : {from to : Ports} → SamePorts from to → KeepsRows (slots_of from) (slots_of to) → (i : ℕ) → in_row to i ≡ in_row from i
in_row_kept {from} {to} same rows i =
    ap (λ ports. (line_at (slots_of to) (key_at ports i)).row) same.ins ∙ rows.rows (key_at (ins_of from) i)

links_kept : {a b : List (Option Line)} (from to : List (List ℕ × ℕ)) → to ≡ from → KeepsRows a b → HasLinks a from → HasLinks b to
links_kept {a} {b} from to same rows has =
    subst (λ ports. HasLinks b ports) (sym same) (record { held = λ i within. rows.held (key_at from i) (has.held i within) })

pub outputs_kept : {from to : Ports} → SamePorts from to → KeepsRows (slots_of from) (slots_of to) → HasOutputs from → HasOutputs to
outputs_kept {from} {to} same rows has = links_kept (outs_of from) (outs_of to) same.outs rows has

pub inputs_kept : {from to : Ports} → SamePorts from to → KeepsRows (slots_of from) (slots_of to) → HasInputs from → HasInputs to
inputs_kept {from} {to} same rows has = links_kept (ins_of from) (ins_of to) same.ins rows has

pub out_within : {from to : Ports} → SamePorts from to → (o : ℕ) → o < length (outs_of from) → o < length (outs_of to)
out_within {from} same o within = subst (λ ports. o < length ports) (sym same.outs) within

pub in_within : {from to : Ports} → SamePorts from to → (i : ℕ) → i < length (ins_of from) → i < length (ins_of to)
in_within {from} same i within = subst (λ ports. i < length ports) (sym same.ins) within

-- an app that was ready is so at a later turn
pub ready_then : {R : Type 0} {left whole : Meaning R} {row : ℕ} {t s : Tray} {u v : Used} {from to : Ports} → IsReady row t u from
    → Goes left whole (world t u (slots_of from)) (world s v (slots_of to)) nowhere nowhere from to → IsReady row s v to
ready_then {row = row} h c = record {
  counts = subst (λ constants. row < length constants.roster.apps) (sym c.stays.constants) h.counts;
  ins = inputs_kept c.same c.rows h.ins;
  outs = outputs_kept c.same c.rows h.outs;
  sound = c.sound;
}

-- and after a part of its call
pub ready_after : {R : Type 0} {m : Meaning R} {x : R} {row : ℕ} {t s : Tray} {u v : Used} {from to : Ports} → IsReady row t u from
    → Did m t s u v from to (Ok x) → IsReady row s v to
unfolding desk_of
ready_after {x = x} {row = row} h d = record {
  counts = subst (λ constants. row < length constants.roster.apps) (sym d.runs.answers.stays.constants) h.counts;
  ins = inputs_kept d.same d.rows h.ins;
  outs = outputs_kept d.same d.rows h.outs;
  sound = sound_moved (d.runs.moves x refl) h.sound;
}

-- what it keeps of the context
pub did_stays : {R : Type 0} {m : Meaning R} {t s : Tray} {u v : Used} {from to : Ports} {r : Result R Halt} → Did m t s u v from to r → Stays t s
unfolding desk_of
did_stays d = d.runs.answers.stays

-- one part of a call does another part's meaning where that is the same
pub did_as : {R : Type 0} {m n : Meaning R} {t s : Tray} {u v : Used} {from to : Ports} {r : Result R Halt} → m ≡ n
    → Did m t s u v from to r → Did n t s u v from to r
did_as {t = t} {s} {u} {v} {from} {to} {r} e d = subst (λ k. Did k t s u v from to r) e d

-- and gives what its value is
pub did_gave : {R : Type 0} {m : Meaning R} {t s : Tray} {u v : Used} {from to : Ports} {x y : R} → x ≡ y
    → Did m t s u v from to (Ok x) → Did m t s u v from to (Ok y)
did_gave {m = m} {t} {s} {u} {v} {from} {to} e d = subst (λ z. Did m t s u v from to (Ok z)) e d

-- a part of a call that left the ports
pub did_still : {R : Type 0} {m : Meaning R} {t s : Tray} {u v : Used} {ports : Ports} {r : Result R Halt}
    → Runs m (world t u (slots_of ports)) (world s v (slots_of ports)) nowhere nowhere r → Did m t s u v ports ports r
did_still {ports = ports} run = record { runs = run; same = ports_same ports; rows = rows_same (slots_of ports) }

-- before the first turn
pub goes_start : {R : Type 0} (m : Meaning R) (w : World) (mine : ℕ → ℕ) (ports : Ports) → IsSound w mine → Goes m m w w mine mine ports ports
goes_start m w mine ports h = record {
  same = ports_same ports;
  rows = rows_same (slots_of ports);
  stays = stays_same w.tray;
  sound = h;
  continues = continues_start m w mine;
}

-- what is left is another meaning that is the same
pub goes_as : {R : Type 0} {left other whole : Meaning R} {start now : World} {before mine : ℕ → ℕ} {from to : Ports}
    → left ≡ other → Goes left whole start now before mine from to → Goes other whole start now before mine from to
goes_as e c = record { same = c.same; rows = c.rows; stays = c.stays; sound = c.sound; continues = continues_as e c.continues }

-- a step that goes on
pub goes_bind : {R S : Type 0} {m : Meaning R} (k : R → Meaning S) {whole : Meaning S} {start now next : World} {before mine mid : ℕ → ℕ}
    {from to later : Ports} {x : R} → Goes (m >>= k) whole start now before mine from to → Runs m now next mine mid (Ok x)
    → SamePorts to later → KeepsRows (slots_of to) (slots_of later) → Goes (k x) whole start next before mid from later
unfolding desk_of
goes_bind k {x = x} c f same rows = record {
  same = ports_then c.same same;
  rows = rows_then c.rows rows;
  stays = stays_then c.stays f.answers.stays;
  sound = sound_moved (f.moves x refl) c.sound;
  continues = continues_bind k c.continues f;
}

pub goes_fail : {R S : Type 0} {m : Meaning R} (k : R → Meaning S) {whole : Meaning S} {start now later : World} {before mine mid : ℕ → ℕ}
    {from to : Ports} {h : Halt} (after : ℕ → ℕ) → Goes (m >>= k) whole start now before mine from to → Runs m now later mine mid (Err h)
    → Runs whole start later before after (Err h)
goes_fail k after c f = continues_fail k after c.continues f

pub goes_done : {R : Type 0} {left whole : Meaning R} {start now later : World} {before mine after : ℕ → ℕ} {from to : Ports} {r : Result R Halt}
    → Goes left whole start now before mine from to → Runs left now later mine after r → Runs whole start later before after r
goes_done c f = continues_done c.continues f

-- where what is left is nothing
pub goes_end : {R : Type 0} {x : R} {whole : Meaning R} {start now : World} {before mine : ℕ → ℕ} {from to : Ports}
    → Goes (pure x) whole start now before mine from to → Runs whole start now before mine (Ok x)
goes_end {x = x} {now = now} {mine = mine} c = goes_done c (runs_pure x now mine)

-- SO MANY TIMES

on_or_off : Meaning Bool → Bool → Meaning Bool
on_or_off m on = if on then m else pure false

times_left : (n i : ℕ) (m : Meaning Bool) → i < n → times (n - i) m ≡ (m >>= on_or_off (times (n - (i + 1)) m))
unfolding times on_or_off
times_left n i m within = let e : n - i ≡ suc (n - (i + 1)) = omega arith in ap (λ k. times k m) e

times_over : (n i : ℕ) (m : Meaning Bool) → n ≤ i → times (n - i) m ≡ pure true
unfolding times
times_over n i m past = let e : n - i ≡ zero = omega arith in ap (λ k. times k m) e

module _ {whole : Meaning Bool} {start now : World} {before mine : ℕ → ℕ} {from to : Ports} (n i : ℕ) (m : Meaning Bool) where
  pub times_first : Goes (times n m) whole start now before mine from to → Goes (times (n - 0) m) whole start now before mine from to
  times_first c = let e : n ≡ n - 0 = omega arith in goes_as (ap (λ k. times k m) e) c

  pub times_next : {next : World} {mid : ℕ → ℕ} {later : Ports} → i < n → Goes (times (n - i) m) whole start now before mine from to
      → Runs m now next mine mid (Ok true) → SamePorts to later → KeepsRows (slots_of to) (slots_of later)
      → Goes (times (n - (i + 1)) m) whole start next before mid from later
  unfolding on_or_off
  times_next within c f same rows = goes_bind (on_or_off (times (n - (i + 1)) m)) (goes_as (times_left n i m within) c) f same rows

  pub times_stop : {later : World} {after : ℕ → ℕ} → i < n → Goes (times (n - i) m) whole start now before mine from to
      → Runs m now later mine after (Ok false) → Runs whole start later before after (Ok false)
  unfolding on_or_off
  times_stop {later} {after} within c f =
      continues_done (continues_bind (on_or_off (times (n - (i + 1)) m)) (continues_as (times_left n i m within) c.continues) f) (runs_pure false later after)

  pub times_halt : {later : World} {mid : ℕ → ℕ} {h : Halt} (after : ℕ → ℕ) → i < n → Goes (times (n - i) m) whole start now before mine from to
      → Runs m now later mine mid (Err h) → Runs whole start later before after (Err h)
  times_halt after within c f = goes_fail (on_or_off (times (n - (i + 1)) m)) after (goes_as (times_left n i m within) c) f

  pub times_end : n ≤ i → Goes (times (n - i) m) whole start now before mine from to → Runs whole start now before mine (Ok true)
  times_end past c = goes_end (goes_as (times_over n i m past) c)

-- FOR EACH OF A LIST

module _ {A : Type 0} where
  each_left : (xs : List A) (i : ℕ) (d : A) (m : A → Meaning Bool) → i < length xs
      → on_each (drop i xs) m ≡ (m (get_or xs i d) >>= on_or_off (on_each (drop (i + 1) xs) m))
  unfolding on_each on_or_off
  each_left xs i d m within = rw add-one (ap (λ ys. on_each ys m) (drop-cons xs i d within))

  each_over : (xs : List A) (i : ℕ) (m : A → Meaning Bool) → length xs ≤ i → on_each (drop i xs) m ≡ pure true
  unfolding on_each
  each_over xs i m past = ap (λ ys. on_each ys m) (drop_past xs i past)
    where
      drop_past : (xs : List A) (i : ℕ) → length xs ≤ i → drop i xs ≡ []
      drop_past [] zero past = refl
      drop_past [] (suc i) past = refl
      drop_past (x ∷ xs) zero past = absurd (omega (arith, past))
      drop_past (x ∷ xs) (suc i) past = drop_past xs i (omega (arith, past))

  module _ {whole : Meaning Bool} {start now : World} {before mine : ℕ → ℕ} {from to : Ports} (xs : List A) (i : ℕ) (m : A → Meaning Bool) where
    pub each_next : (d : A) {next : World} {mid : ℕ → ℕ} {later : Ports} → i < length xs → Goes (on_each (drop i xs) m) whole start now before mine from to
        → Runs (m (get_or xs i d)) now next mine mid (Ok true) → SamePorts to later → KeepsRows (slots_of to) (slots_of later)
        → Goes (on_each (drop (i + 1) xs) m) whole start next before mid from later
    unfolding on_or_off
    each_next d within c f same rows = goes_bind (on_or_off (on_each (drop (i + 1) xs) m)) (goes_as (each_left xs i d m within) c) f same rows

    pub each_stop : (d : A) {later : World} {after : ℕ → ℕ} → i < length xs → Goes (on_each (drop i xs) m) whole start now before mine from to
        → Runs (m (get_or xs i d)) now later mine after (Ok false) → Runs whole start later before after (Ok false)
    unfolding on_or_off
    each_stop d {later} {after} within c f =
        continues_done (continues_bind (on_or_off (on_each (drop (i + 1) xs) m)) (continues_as (each_left xs i d m within) c.continues) f) (runs_pure false later after)

    pub each_halt : (d : A) {later : World} {mid : ℕ → ℕ} {h : Halt} (after : ℕ → ℕ) → i < length xs
        → Goes (on_each (drop i xs) m) whole start now before mine from to
        → Runs (m (get_or xs i d)) now later mine mid (Err h) → Runs whole start later before after (Err h)
    each_halt d after within c f = goes_fail (on_or_off (on_each (drop (i + 1) xs) m)) after (goes_as (each_left xs i d m within) c) f

    pub each_end : length xs ≤ i → Goes (on_each (drop i xs) m) whole start now before mine from to → Runs whole start now before mine (Ok true)
    each_end past c = goes_end (goes_as (each_over xs i m past) c)

-- SO MANY TIMES, WITH A STATE

module _ {S : Type 0} where
  next_or_last : (S → Meaning S) → Bool × S → Meaning S
  next_or_last next t = if t.0 then next t.1 else pure t.1

  steps_left : (n i : ℕ) (m : S → Meaning (Bool × S)) (s : S) → i < n → stepping (n - i) m s ≡ (m s >>= next_or_last (stepping (n - (i + 1)) m))
  unfolding stepping next_or_last
  steps_left n i m s within = let e : n - i ≡ suc (n - (i + 1)) = omega arith in ap (λ k. stepping k m s) e

  steps_over : (n i : ℕ) (m : S → Meaning (Bool × S)) (s : S) → n ≤ i → stepping (n - i) m s ≡ pure s
  unfolding stepping
  steps_over n i m s past = let e : n - i ≡ zero = omega arith in ap (λ k. stepping k m s) e

  module _ {whole : Meaning S} {start now : World} {before mine : ℕ → ℕ} {from to : Ports} (n i : ℕ) (m : S → Meaning (Bool × S)) (s : S) where
    pub steps_first : Goes (stepping n m s) whole start now before mine from to → Goes (stepping (n - 0) m s) whole start now before mine from to
    steps_first c = let e : n ≡ n - 0 = omega arith in goes_as (ap (λ k. stepping k m s) e) c

    pub steps_next : {next : World} {mid : ℕ → ℕ} {later : Ports} (t : S) → i < n → Goes (stepping (n - i) m s) whole start now before mine from to
        → Runs (m s) now next mine mid (Ok (true, t)) → SamePorts to later → KeepsRows (slots_of to) (slots_of later)
        → Goes (stepping (n - (i + 1)) m t) whole start next before mid from later
    unfolding next_or_last
    steps_next t within c f same rows = goes_bind (next_or_last (stepping (n - (i + 1)) m)) (goes_as (steps_left n i m s within) c) f same rows

    pub steps_stop : {later : World} {after : ℕ → ℕ} (t : S) → i < n → Goes (stepping (n - i) m s) whole start now before mine from to
        → Runs (m s) now later mine after (Ok (false, t)) → Runs whole start later before after (Ok t)
    unfolding next_or_last
    steps_stop {later} {after} t within c f =
        continues_done (continues_bind (next_or_last (stepping (n - (i + 1)) m)) (continues_as (steps_left n i m s within) c.continues) f) (runs_pure t later after)

    pub steps_halt : {later : World} {mid : ℕ → ℕ} {h : Halt} (after : ℕ → ℕ) → i < n → Goes (stepping (n - i) m s) whole start now before mine from to
        → Runs (m s) now later mine mid (Err h) → Runs whole start later before after (Err h)
    steps_halt after within c f = goes_fail (next_or_last (stepping (n - (i + 1)) m)) after (goes_as (steps_left n i m s within) c) f

    pub steps_end : n ≤ i → Goes (stepping (n - i) m s) whole start now before mine from to → Runs whole start now before mine (Ok s)
    steps_end past c = goes_end (goes_as (steps_over n i m s past) c)

-- TURNS OF A LOOP, as parts of an app's call

module _ {whole : Meaning Bool} {t s : Tray} {u v : Used} {from to : Ports} (n i : ℕ) (m : Meaning Bool)
    (c : Goes (times (n - i) m) whole (world t u (slots_of from)) (world s v (slots_of to)) nowhere nowhere from to) where
  pub turn_next : {z : Tray} {w : Used} {later : Ports} → i < n → Did m s z v w to later (Ok true)
      → Goes (times (n - (i + 1)) m) whole (world t u (slots_of from)) (world z w (slots_of later)) nowhere nowhere from later
  turn_next within d = times_next n i m within c d.runs d.same d.rows

  pub turn_stop : {z : Tray} {w : Used} {later : Ports} → i < n → Did m s z v w to later (Ok false) → Did whole t z u w from later (Ok false)
  turn_stop within d = record { runs = times_stop n i m within c d.runs; same = ports_then c.same d.same; rows = rows_then c.rows d.rows }

  pub turn_halt : {z : Tray} {w : Used} {later : Ports} {h : Halt} → i < n → Did m s z v w to later (Err h) → Did whole t z u w from later (Err h)
  turn_halt within d = record { runs = times_halt n i m nowhere within c d.runs; same = ports_then c.same d.same; rows = rows_then c.rows d.rows }

  pub turn_end : n ≤ i → Did whole t s u v from to (Ok true)
  turn_end past = record { runs = times_end n i m past c; same = c.same; rows = c.rows }

module _ {A : Type 0} {whole : Meaning Bool} {t s : Tray} {u v : Used} {from to : Ports} (xs : List A) (i : ℕ) (m : A → Meaning Bool)
    (c : Goes (on_each (drop i xs) m) whole (world t u (slots_of from)) (world s v (slots_of to)) nowhere nowhere from to) where
  pub item_next : (d : A) {z : Tray} {w : Used} {later : Ports} → i < length xs → Did (m (get_or xs i d)) s z v w to later (Ok true)
      → Goes (on_each (drop (i + 1) xs) m) whole (world t u (slots_of from)) (world z w (slots_of later)) nowhere nowhere from later
  item_next d within did = each_next xs i m d within c did.runs did.same did.rows

  pub item_stop : (d : A) {z : Tray} {w : Used} {later : Ports} → i < length xs → Did (m (get_or xs i d)) s z v w to later (Ok false)
      → Did whole t z u w from later (Ok false)
  item_stop d within did = record { runs = each_stop xs i m d within c did.runs; same = ports_then c.same did.same; rows = rows_then c.rows did.rows }

  pub item_halt : (d : A) {z : Tray} {w : Used} {later : Ports} {h : Halt} → i < length xs → Did (m (get_or xs i d)) s z v w to later (Err h)
      → Did whole t z u w from later (Err h)
  item_halt d within did = record { runs = each_halt xs i m d nowhere within c did.runs; same = ports_then c.same did.same; rows = rows_then c.rows did.rows }

  pub item_end : length xs ≤ i → Did whole t s u v from to (Ok true)
  item_end past = record { runs = each_end xs i m past c; same = c.same; rows = c.rows }

module _ {S : Type 0} {whole : Meaning S} {t s : Tray} {u v : Used} {from to : Ports} (n i : ℕ) (m : S → Meaning (Bool × S)) (x : S)
    (c : Goes (stepping (n - i) m x) whole (world t u (slots_of from)) (world s v (slots_of to)) nowhere nowhere from to) where
  pub step_next : (y : S) {z : Tray} {w : Used} {later : Ports} → i < n → Did (m x) s z v w to later (Ok (true, y))
      → Goes (stepping (n - (i + 1)) m y) whole (world t u (slots_of from)) (world z w (slots_of later)) nowhere nowhere from later
  step_next y within d = steps_next n i m x y within c d.runs d.same d.rows

  pub step_stop : (y : S) {z : Tray} {w : Used} {later : Ports} → i < n → Did (m x) s z v w to later (Ok (false, y)) → Did whole t z u w from later (Ok y)
  step_stop y within d = record { runs = steps_stop n i m x y within c d.runs; same = ports_then c.same d.same; rows = rows_then c.rows d.rows }

  pub step_halt : {z : Tray} {w : Used} {later : Ports} {h : Halt} → i < n → Did (m x) s z v w to later (Err h) → Did whole t z u w from later (Err h)
  step_halt within d = record { runs = steps_halt n i m x nowhere within c d.runs; same = ports_then c.same d.same; rows = rows_then c.rows d.rows }

  pub step_end : n ≤ i → Did whole t s u v from to (Ok x)
  step_end past = record { runs = steps_end n i m x past c; same = c.same; rows = c.rows }

-- ports by their places: an output's row is that of the port as a desk has it
pub row_at_place : (slots : List (Option Line)) (ports : List (List ℕ × ℕ)) (i : ℕ) → i < length ports
    → (get_or (rows_of slots ports) i ([], 0)).1 ≡ (line_at slots (key_at ports i)).row
unfolding rows_of
row_at_place slots [] i within = absurd (omega (arith, within))
row_at_place slots (port ∷ ports) zero within = refl
row_at_place slots (port ∷ ports) (suc i) within = row_at_place slots ports i (omega (arith, within))

pub length_rows : (slots : List (Option Line)) (ports : List (List ℕ × ℕ)) → length (rows_of slots ports) ≡ length ports
unfolding rows_of
length_rows slots ports = length-map ports (λ port. (port.0, (line_at slots port.1).row))

-- what is done at an output, or at an input, is what is done at the port that a desk has for it
pub at_output : {from to : Ports} (m : ℕ → Meaning Bool) (o : ℕ) → o < length (outs_of from) → SamePorts from to → KeepsRows (slots_of from) (slots_of to)
    → m (out_row to o) ≡ m (get_or (out_ports from) o ([], 0)).1
at_output {from} {to} m o within same rows = ap m (out_row_kept same rows o ∙ sym (row_at_place (slots_of from) (outs_of from) o within))

pub at_input : {from to : Ports} (m : ℕ → Meaning Bool) (i : ℕ) → i < length (ins_of from) → SamePorts from to → KeepsRows (slots_of from) (slots_of to)
    → m (in_row to i) ≡ m (get_or (in_ports from) i ([], 0)).1
at_input {from} {to} m i within same rows = ap m (in_row_kept same rows i ∙ sym (row_at_place (slots_of from) (ins_of from) i within))

-- as many ports as outputs, and as inputs
pub outputs_count : (ports : Ports) → length (out_ports ports) ≡ length (outs_of ports)
outputs_count ports = length_rows (slots_of ports) (outs_of ports)

pub inputs_count : (ports : Ports) → length (in_ports ports) ≡ length (ins_of ports)
inputs_count ports = length_rows (slots_of ports) (ins_of ports)

-- and a desk has the same outputs
pub out_ports_kept : {from to : Ports} → SamePorts from to → KeepsRows (slots_of from) (slots_of to) → out_ports to ≡ out_ports from
unfolding rows_of
out_ports_kept {from} {to} same rows =
    ap (λ ports. rows_of (slots_of to) ports) same.outs
    ∙ ap (λ f. map f (outs_of from)) (fun_ext (λ (port : List ℕ × ℕ). ap (λ r. (port.0, r)) (rows.rows port.1)))
