-- The names of a worker's rows.
use Rattle.std.specs.Prelude.{List, ℕ}
use Rattle.sn_names.specs.declared.link.LinkSpec.{LinkSpec}

-- a roster, with each list as the list of its values
pub record RosterRows : Type 0 where
  pub apps : List (List ℕ)
  pub links : List LinkSpec
  pub captures : List (List ℕ)
  pub files : List (List ℕ)
  pub lanes : List (List ℕ)
