-- Names of files.
use Rattle.std.specs.Prelude.{List, length, ℕ, ◌≤◌}
use Rattle.std.specs.Str.{IsUtf8}

-- 1 to 4096 bytes of UTF-8
pub record IsFileName (text : List ℕ) : Type 0 where
  pub filled : 1 ≤ length text
  pub short : length text ≤ 4096
  pub utf8 : IsUtf8 text
