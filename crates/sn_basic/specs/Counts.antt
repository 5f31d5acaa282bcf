-- What an app needs of its context to count.
use Rattle.std.specs.Prelude.{ℕ, ◌<◌, length}
use Rattle.std.proofs.Common.{sym, subst}
use Rattle.sn_app.specs.Answers.{Stays}
use Rattle.sn_app.specs.Desk.{Tray, roster_of}

-- the row is one of the roster's apps
abbrev pub HasRow : ℕ → Tray → Type 0
HasRow row t = row < length (roster_of t).apps

-- it is so after others' calls
pub HasRow-stays : (row : ℕ) (t s : Tray) → Stays t s → HasRow row t → HasRow row s
HasRow-stays row t s stays h = subst (λ constants. row < length constants.roster.apps) (sym stays.constants) h
