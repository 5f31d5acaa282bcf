-- How many actions were said to be due when a seat's listener met its speaker last, by how the seat was lent.
use Rattle.std.specs.Prelude.{ℕ}
use base.Stored.{Gv, gcons, gnum}

abbrev pub lent_floor : Gv → ℕ
lent_floor (gcons name (gcons worker (gcons ends (gcons group (gcons channel (gcons (gnum met) more)))))) = met
lent_floor _ = 0
