-- The entries that a worker itself notes in its journal, and what reading each of them means.
use Rattle.std.specs.Prelude.{ℕ, ◌==◌, Bool, true, false, if◌then◌else◌, nat_le, Option, Some, None}
use Rattle.sn_app.specs.Desk.{Tray}
use Rattle.sn_journal.specs.Cost.{cost_of}
use Rattle.sn_journal.specs.declared.entry.Entry.{Entry}
use Rattle.sn_journal.specs.declared.entry.Entry.TheVariants.{Breath, Close, Round, Spent}

-- an entry of the worker's own: a round, a breath, or that the journal is full
abbrev pub is_own : Entry → Bool
is_own (Round number) = true
is_own Breath = true
is_own Spent = true
is_own _ = false

-- the round of this number
abbrev pub a_round : ℕ → Entry → Option Unit
a_round number (Round other) = if other == number then Some tt else None
a_round number _ = None

-- a breath; that the journal is full
abbrev pub a_breath : Entry → Option Unit
a_breath Breath = Some tt
a_breath _ = None

abbrev pub a_spent : Entry → Option Unit
a_spent Spent = Some tt
a_spent _ = None

-- that the slot is closed
abbrev pub a_close : Entry → Option Unit
a_close Close = Some tt
a_close _ = None

-- the cost from which on a journal is full
abbrev pub full_cost : ℕ
full_cost = 134217728

abbrev pub is_full : Tray → Bool
is_full t = nat_le full_cost (cost_of t.log.past)
