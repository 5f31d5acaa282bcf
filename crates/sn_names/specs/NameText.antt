-- Names of apps, ports and interlinks.
use Rattle.std.specs.Prelude.{Bool, List, length, true, ℕ, ◌==◌, ◌||◌, ◌≡◌, ◌≤◌}
use Rattle.std.specs.Char.{is_ascii_alphanumeric}
use Rattle.std.specs.List.{list_all}

-- a letter, a digit or _
abbrev pub is_name_byte : ℕ → Bool
is_name_byte c = is_ascii_alphanumeric c || c == 95

-- 1 to 64 of them
pub record IsName (text : List ℕ) : Type 0 where
  pub filled : 1 ≤ length text
  pub short : length text ≤ 64
  pub plain : list_all is_name_byte text ≡ true
