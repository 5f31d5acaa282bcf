-- How a slot gives free packets back to the group.
use Rattle.std.specs.Prelude.{ℕ, ◌==◌, Bool, true, false, length, nat_lt, Option, Some, None}
use Rattle.sn_app.specs.Reader.{Meaning, pure, ◌>>=◌, look, times}
use Rattle.sn_app.specs.Rows.{frees, row_give, take_last, ◌>>◌}
use Rattle.sn_journal.specs.HandOvers.{PacketName}

-- a packet that couldn't be given is free again; whether it was given
unfoldable pub given_or_freed : PacketName → Bool → Meaning Bool
given_or_freed name true = pure true
given_or_freed name false = frees name >> pure false

unfoldable pub gives_named : Option PacketName → Meaning Bool
gives_named None = pure false
gives_named (Some name) = row_give name >>= given_or_freed name

unfoldable pub gives_where : Bool → Meaning Bool
gives_where true = take_last >>= gives_named
gives_where false = pure false

-- where more packets are free than this, the one that was freed last is given; whether it was
unfoldable pub gives_one : ℕ → Meaning Bool
gives_one keep = look (λ d. gives_where (nat_lt keep (length d.tray.free)))

-- Again and again, until no more are free than this, or one couldn't be given: at most as often as packets were free.
unfoldable pub gives_over : ℕ → Meaning Unit
gives_over keep = look (λ d. times (length d.tray.free) (gives_one keep)) >> pure tt

-- this is done each time that a hundred breaths are full
unfoldable pub gives_when : Bool → ℕ → Meaning Unit
gives_when true keep = gives_over keep
gives_when false keep = pure tt

unfoldable pub gives_after : ℕ → ℕ → Meaning Unit
gives_after keep breathed = gives_when (breathed == 0) keep
