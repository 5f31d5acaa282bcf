-- That an app ran its meaning, and how its places moved.
use Rattle.std.specs.Prelude.{ℕ, ◌<◌, ◌≡◌, Result, Ok, Err}
use Rattle.sn_app.specs.Answers.{Answers}
use Rattle.sn_app.specs.Reader.{Meaning}
use Rattle.sn_app.specs.World.{World, IsSound, desk_of, ◌⊕◌}
use Rattle.sn_app.specs.declared.halt.Halt.{Halt}

-- The places that were the app's became these, whatever other places there are: the world stays sound, and the packets at the
-- others' places stay.
pub record Moves (w v : World) (before after : ℕ → ℕ) : Type 0 where
  pub sound : (others : ℕ → ℕ) → IsSound w (before ⊕ others) → IsSound v (after ⊕ others)
  pub kept : (others : ℕ → ℕ) → IsSound w (before ⊕ others) → (place : ℕ) → 0 < others place → v.used place ≡ w.used place

-- the call answered as the meaning reads, and where it went through its places moved
pub record Runs {R : Type 0} (m : Meaning R) (w v : World) (before after : ℕ → ℕ) (result : Result R Halt) : Type 0 where
  pub answers : Answers m (desk_of w) (desk_of v) result
  pub moves : (x : R) → result ≡ Ok x → Moves w v before after

-- however what is left runs from now on, the whole runs from the start
pub record Continues {R : Type 0} (left whole : Meaning R) (start now : World) (before mine : ℕ → ℕ) : Type 0 where
  pub ends : (later : World) (after : ℕ → ℕ) (result : Result R Halt)
      → Runs left now later mine after result → Runs whole start later before after result

-- a call that answers nothing, as one that answers this
abbrev pub stands_at : {R : Type 0} → R → Result Unit Halt → Result R Halt
stands_at x (Ok done) = Ok x
stands_at x (Err halt) = Err halt
