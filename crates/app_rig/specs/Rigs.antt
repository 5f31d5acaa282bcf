-- A bench with four links, as contracts see it.
use Rattle.std.specs.Prelude.{ℕ, List, Option}
use Rattle.sn_link.specs.Link.{Line}
use Rattle.sn_app.specs.Desk.{Tray}
use Rattle.sn_packet.specs.Hold.{used_of}
use Rattle.sn_app.specs.Bench.{BenchState, tray_of}
use Rattle.sn_app.specs.World.{IsSound, Used, World, world}
use Rattle.app_rig.specs.Links.{AreLinked}
use Rattle.app_rig.specs.declared.rig.At.{At}
use Rattle.app_rig.specs.declared.rig.At.TheVariants.{First, Second, Third, Fourth}

-- The world is sound with an app's places, and four links are at these keys.
pub record IsRig (t : Tray) (u : Used) (slots : List (Option Line)) (some more : ℕ × ℕ) (mine : ℕ → ℕ) : Type 0 where
  pub sound : IsSound (world t u slots) mine
  pub linked : AreLinked slots some more

-- the same of a bench and the links of a slab
abbrev pub IsWhole : BenchState → List (Option Line) → ℕ × ℕ → ℕ × ℕ → (ℕ → ℕ) → Type 0
IsWhole bench slots some more mine = IsRig (tray_of bench) (used_of bench.held) slots some more mine

-- the world of a bench and these links
abbrev pub world_of : BenchState → List (Option Line) → World
world_of bench slots = world (tray_of bench) (used_of bench.held) slots

-- the key of a link
abbrev pub key_of : At → ℕ × ℕ → ℕ × ℕ → ℕ
key_of First some more = some.0
key_of Second some more = some.1
key_of Third some more = more.0
key_of Fourth some more = more.1
