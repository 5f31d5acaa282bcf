-- What a read does to the list that it appends to.
use Rattle.std.specs.Prelude.{ℕ, ◌+◌, ◌≤◌, ◌≡◌, List, length, take}

-- the list was gone on with, by at most so many bytes
pub record Appends (before now : List ℕ) (limit : ℕ) : Type 0 where
  pub front : take (length before) now ≡ before
  pub longer : length before ≤ length now
  pub within : length now ≤ length before + limit
