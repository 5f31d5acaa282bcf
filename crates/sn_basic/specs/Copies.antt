-- What became of the gathering of free packets for copies.
use Rattle.std.specs.Prelude.{ℕ, Bool, true, false, List, [], Result, Ok, Err}
use Rattle.sn_packet.specs.Hold.{among}
use Rattle.sn_app.specs.Apps.{tee_gather}
use Rattle.sn_app.specs.Hands.{Leads, Names, names_at}
use Rattle.sn_app.specs.Reader.{Meaning}
use Rattle.sn_app.specs.Runs.{Runs}
use Rattle.sn_app.specs.World.{World, nowhere}
use Rattle.sn_app.specs.declared.halt.Halt.{Halt}

-- So many free packets came, and what is left is the next step, with their names; or one didn't come, and the call ended with
-- none in hand; or it halted.
unfoldable pub GatheredCase : ℕ → ℕ → (Names → Meaning Bool) → World → World → List ℕ → Result Bool Halt → Type 0
GatheredCase n app next w v copies (Ok true) =
    Leads (next (names_at v.used copies)) (tee_gather n app [] next) w v nowhere (among copies)
GatheredCase n app next w v copies (Ok false) = Runs (tee_gather n app [] next) w v nowhere nowhere (Ok false)
GatheredCase n app next w v copies (Err halt) = Runs (tee_gather n app [] next) w v nowhere nowhere (Err halt)

pub record Gathered (n app : ℕ) (next : Names → Meaning Bool) (w v : World) (copies : List ℕ)
    (result : Result Bool Halt) : Type 0 where
  pub by_case : GatheredCase n app next w v copies result
