-- What stands at each turn of an app's loop.
use Rattle.std.specs.Prelude.{ℕ, ◌<◌, length, Result}
use Rattle.sn_app.specs.Answers.{Stays}
use Rattle.sn_app.specs.Desk.{Tray, roster_of}
use Rattle.sn_app.specs.Ports.{HasInputs, HasOutputs, KeepsRows, SamePorts, slots_of}
use Rattle.sn_app.specs.Reader.{Meaning}
use Rattle.sn_app.specs.Runs.{Continues, Runs}
use Rattle.sn_app.specs.World.{IsSound, Used, World, nowhere, world}
use Rattle.sn_app.specs.declared.halt.Halt.{Halt}
use Rattle.sn_app.specs.declared.ports.Ports.{Ports}

-- The ports are the same, the links are at their rows, the constants stayed, the world is sound, and however what is left runs,
-- the whole runs from
-- the start.
pub record Goes {R : Type 0} (left whole : Meaning R) (start now : World) (before mine : ℕ → ℕ) (from to : Ports) : Type 0 where
  pub same : SamePorts from to
  pub rows : KeepsRows (slots_of from) (slots_of to)
  pub stays : Stays start.tray now.tray
  pub sound : IsSound now mine
  pub continues : Continues left whole start now before mine

-- An app may go on: its row is there, so are its links, and the world is sound where it holds no place in hand.
pub record IsReady (row : ℕ) (t : Tray) (u : Used) (ports : Ports) : Type 0 where
  pub counts : row < length (roster_of t).apps
  pub ins : HasInputs ports
  pub outs : HasOutputs ports
  pub sound : IsSound (world t u (slots_of ports)) nowhere

-- A part of an app's call ran this meaning, with no place in hand before it and after it.
pub record Did {R : Type 0} (m : Meaning R) (t s : Tray) (u v : Used) (from to : Ports) (result : Result R Halt) : Type 0 where
  pub runs : Runs m (world t u (slots_of from)) (world s v (slots_of to)) nowhere nowhere result
  pub same : SamePorts from to
  pub rows : KeepsRows (slots_of from) (slots_of to)
