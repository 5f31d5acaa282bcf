-- Numbers in decimal digits.
use Rattle.std.specs.Prelude.{List, length, ℕ, ◌≡◌, ◌≤◌}
use Rattle.std.specs.Fmt.{decimal}

-- the text writes the number, which is at most max, in 1 to 10 digits; std's decimal writes no
-- sign, and no leading zero but in 0
pub record IsDecimal (text : List ℕ) (max n : ℕ) : Type 0 where
  pub digits : text ≡ decimal n
  pub short : length text ≤ 10
  pub within : n ≤ max
