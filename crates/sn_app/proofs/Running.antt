-- How runs go together, and how loops continue.
use Rattle.std.proofs.Common.{◌≡◌, ℕ, List, Result, Ok, Err, refl, sym, subst}
use Rattle.sn_app.specs.Answers.{Answers}
use Rattle.sn_app.specs.Desk.{Desk}
use Rattle.sn_app.specs.Reader.{Meaning, pure, ◌>>=◌, look}
use Rattle.sn_app.specs.Runs.{Moves, Runs, Continues}
use Rattle.sn_app.specs.World.{World, desk_of, ◌⊕◌}
use Rattle.sn_app.specs.declared.halt.Halt.{Halt}
use Rattle.sn_app.proofs.Readings.{answers_pure, answers_bind, answers_fail, answers_look, answers_at}
use Rattle.sn_app.proofs.Moving.{moves_same, moves_then, moves_beside, moves_as}

pub runs_pure : {R : Type 0} (x : R) (w : World) (mine : ℕ → ℕ) → Runs (pure x) w w mine mine (Ok x)
runs_pure x w mine = record { answers = answers_pure x (desk_of w); moves = λ y e. moves_same w mine }

pub runs_bind : {R S : Type 0} {m : Meaning R} (k : R → Meaning S) {w v z : World} {before mid after : ℕ → ℕ} {x : R} {r : Result S Halt}
    → Runs m w v before mid (Ok x) → Runs (k x) v z mid after r → Runs (m >>= k) w z before after r
runs_bind k {x = x} f g = record {
  answers = answers_bind k f.answers g.answers;
  moves = λ y e. moves_then (f.moves x refl) (g.moves y e);
}

pub runs_fail : {R S : Type 0} {m : Meaning R} (k : R → Meaning S) {w v : World} {before mid : ℕ → ℕ} {h : Halt} (after : ℕ → ℕ)
    → Runs m w v before mid (Err h) → Runs (m >>= k) w v before after (Err h)
runs_fail k after f = record { answers = answers_fail k f.answers; moves = λ y e. absurd (cc) }

pub runs_look : {R : Type 0} (f : Desk → Meaning R) {w v : World} {before after : ℕ → ℕ} {r : Result R Halt}
    → Runs (f (desk_of w)) w v before after r → Runs (look f) w v before after r
runs_look f x = record { answers = answers_look f x.answers; moves = x.moves }

-- two meanings that are one on this desk
pub runs_at : {R : Type 0} {m n : Meaning R} {w v : World} {before after : ℕ → ℕ} {r : Result R Halt}
    → ((entries : List _) → n (desk_of w) entries ≡ m (desk_of w) entries) → Runs m w v before after r → Runs n w v before after r
runs_at e x = record { answers = answers_at e x.answers; moves = x.moves }

-- a step before that no desk shows
pub runs_silent : {R : Type 0} {m : Meaning R} {w v z : World} {before mid after : ℕ → ℕ} {r : Result R Halt}
    → desk_of v ≡ desk_of w → Moves w v before mid → Runs m v z mid after r → Runs m w z before after r
runs_silent {m = m} {z = z} {r = r} same f g = record {
  answers = subst (λ d. Answers m d (desk_of z) r) same g.answers;
  moves = λ y e. moves_then f (g.moves y e);
}

pub runs_beside : {R : Type 0} {m : Meaning R} {w v : World} {before after : ℕ → ℕ} {r : Result R Halt} (beside : ℕ → ℕ)
    → Runs m w v before after r → Runs m w v (before ⊕ beside) (after ⊕ beside) r
runs_beside beside f = record { answers = f.answers; moves = λ y e. moves_beside beside (f.moves y e) }

pub runs_as : {R : Type 0} {m : Meaning R} {w v : World} {before after : ℕ → ℕ} {r : Result R Halt} (earlier later : ℕ → ℕ)
    → ((q : ℕ) → earlier q ≡ before q) → ((q : ℕ) → later q ≡ after q) → Runs m w v before after r → Runs m w v earlier later r
runs_as earlier later first last f = record { answers = f.answers; moves = λ y e. moves_as earlier later first last (f.moves y e) }

-- LOOPS

pub continues_start : {R : Type 0} (m : Meaning R) (w : World) (mine : ℕ → ℕ) → Continues m m w w mine mine
continues_start m w mine = record { ends = λ later after result run. run }

pub continues_bind : {R S : Type 0} {m : Meaning R} (k : R → Meaning S) {whole : Meaning S} {start now next : World} {before mine mid : ℕ → ℕ} {x : R}
    → Continues (m >>= k) whole start now before mine → Runs m now next mine mid (Ok x) → Continues (k x) whole start next before mid
continues_bind k c f = record { ends = λ later after result run. c.ends later after result (runs_bind k f run) }

pub continues_silent : {R : Type 0} {left whole : Meaning R} {start now next : World} {before mine mid : ℕ → ℕ}
    → Continues left whole start now before mine → desk_of next ≡ desk_of now → Moves now next mine mid → Continues left whole start next before mid
continues_silent c same f = record { ends = λ later after result run. c.ends later after result (runs_silent same f run) }

-- what is left is another meaning that is the same
pub continues_as : {R : Type 0} {left other whole : Meaning R} {start now : World} {before mine : ℕ → ℕ}
    → left ≡ other → Continues left whole start now before mine → Continues other whole start now before mine
continues_as {whole = whole} {start} {now} {before} {mine} e c = subst (λ m. Continues m whole start now before mine) e c

pub continues_fail : {R S : Type 0} {m : Meaning R} (k : R → Meaning S) {whole : Meaning S} {start now later : World} {before mine mid : ℕ → ℕ} {h : Halt} (after : ℕ → ℕ)
    → Continues (m >>= k) whole start now before mine → Runs m now later mine mid (Err h) → Runs whole start later before after (Err h)
continues_fail k {later = later} {h = h} after c f = c.ends later after (Err h) (runs_fail k after f)

pub continues_done : {R : Type 0} {left whole : Meaning R} {start now later : World} {before mine after : ℕ → ℕ} {r : Result R Halt}
    → Continues left whole start now before mine → Runs left now later mine after r → Runs whole start later before after r
continues_done {later = later} {after = after} {r = r} c f = c.ends later after r f

-- a step behind that no desk shows
pub runs_silent_after : {R : Type 0} {m : Meaning R} {w v z : World} {before mid after : ℕ → ℕ} {x : R}
    → Runs m w v before mid (Ok x) → desk_of z ≡ desk_of v → Moves v z mid after → Runs m w z before after (Ok x)
runs_silent_after {m = m} {w} {x = x} f same g = record {
  answers = subst (λ d. Answers m (desk_of w) d (Ok x)) (sym same) f.answers;
  moves = λ y e. moves_then (f.moves x refl) g;
}
