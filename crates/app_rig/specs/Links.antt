-- Links by their keys.
use Rattle.std.specs.Prelude.{ℕ, List, Option, None, IsSome, slice_index_or}
use Rattle.sn_link.specs.Link.{Line}
use Rattle.sn_app.specs.Desk.{Tray}
use Rattle.sn_app.specs.World.{IsSound, Used, world}

-- a link is at this key
abbrev pub IsLinked : List (Option Line) → ℕ → Type 0
IsLinked slots key = IsSome (slice_index_or slots key None)

-- links are at these four keys
pub record AreLinked (slots : List (Option Line)) (some more : ℕ × ℕ) : Type 0 where
  pub first : IsLinked slots some.0
  pub second : IsLinked slots some.1
  pub third : IsLinked slots more.0
  pub fourth : IsLinked slots more.1

-- what was linked still is
abbrev pub KeepsLinks : List (Option Line) → List (Option Line) → Type 0
KeepsLinks old new = (key : ℕ) → IsLinked old key → IsLinked new key

-- where a world is sound over the old links, it is over the new ones
abbrev pub KeepsSound : List (Option Line) → List (Option Line) → Type 0
KeepsSound old new = (t : Tray) (u : Used) (mine : ℕ → ℕ) → IsSound (world t u old) mine → IsSound (world t u new) mine
