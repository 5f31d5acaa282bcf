-- What the name of what was lent tells: the name of the borrow, and to what the seat belongs.
use Rattle.std.proofs.Common.{◌≡◌, ℕ, ap}
use Rattle.sn_seat.specs.Fitting.{Bond}
use Rattle.sn_seat.specs.Lenders.{lent_as, lent_code}

abbrev name_in : ℕ × Bond → ℕ
name_in lent = lent.0

abbrev bond_in : ℕ × Bond → Bond
bond_in lent = lent.1

module _ (name other : ℕ) (bond another : Bond) where
  pub same_name : lent_as name bond ≡ lent_as other another → name ≡ other
  unfolding lent_as
  same_name same = ap name_in (lent_code.inj (name, bond) (other, another) same)

  pub same_bond : lent_as name bond ≡ lent_as other another → bond ≡ another
  unfolding lent_as
  same_bond same = ap bond_in (lent_code.inj (name, bond) (other, another) same)
