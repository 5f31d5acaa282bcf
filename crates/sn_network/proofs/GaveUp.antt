-- Memory was refused before anything was done.
use Rattle.std.proofs.Common.{◌≡◌, ℕ, Result, Err, subst, sym}
use Rattle.sn_app.specs.Reader.{Meaning}
use Rattle.sn_app.specs.Runs.{Runs, stands_at}
use Rattle.sn_app.specs.World.{World, desk_of}
use Rattle.sn_app.specs.declared.halt.Halt.{Halt}
use Rattle.sn_app.specs.declared.halt.Halt.TheVariants.{OutOfMemory}
use Rattle.sn_app.proofs.Readings.{answers_lost, stays_same}

pub gave_up : {R : Type 0} (m : Meaning R) (w : World) (before after : ℕ → ℕ) → Runs m w w before after (Err OutOfMemory)
unfolding desk_of
gave_up m w before after = record { answers = answers_lost m (stays_same w.tray); moves = λ x e. absurd cc }

-- as an answer has it
pub gave_up_at : {R : Type 0} (m : Meaning R) (w : World) (before after : ℕ → ℕ) (x : R) (r : Result Unit Halt)
    → r ≡ Err OutOfMemory
    → Runs m w w before after (stands_at x r)
gave_up_at m w before after x r is = subst (λ answer. Runs m w w before after (stands_at x answer)) (sym is)
    (gave_up m w before after)
