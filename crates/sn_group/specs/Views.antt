-- What a seat knows, and how each step changes it.
use Rattle.std.specs.Prelude.{ℕ, ◌+◌, ◌-◌, List, [], ◌∷◌, ◌++◌, sum_by}
use Rattle.sn_group.specs.declared.view.View.{View}
use Rattle.sn_group.specs.declared.entry.GroupEntry.{GroupEntry}
use Rattle.sn_group.specs.declared.entry.GroupEntry.TheVariants.{Got, Dry, Full, Gave}
use Rattle.sn_group.specs.declared.entry.Probe.{Probe}
use Rattle.sn_group.specs.declared.entry.Probe.TheVariants.{Exchanged}
use Rattle.sn_group.specs.Cells.{number_in, turn_in}

-- the view of a seat that has done nothing, of this number, with so many parts of the group
abbrev pub dealt : ℕ → ℕ → ℕ → View
dealt groups number parts =
    record { number = number; groups = groups; parts = parts; log = []; joined = []; cells = []; scan = []; last = [] }

-- the view of a seat that was joined into another
abbrev pub nobody : View
nobody = dealt 0 0 0

-- a seat keeps one part for itself, and the next seat has the others
abbrev pub keeps_one : View → View
keeps_one v = record v { parts = 1 }

abbrev pub next_one : View → View
next_one v = dealt v.groups (v.number + 1) (v.parts - 1)

-- all logs that a seat has: those of the seats that were joined into it, and its own, each with the seat's number
abbrev pub logs_in : View → List (ℕ × List (List GroupEntry))
logs_in v = v.joined ++ (v.number, v.log) ∷ []

-- a seat with all that another one had
abbrev pub gathered : View → View → View
gathered v other = record v { parts = v.parts + other.parts; joined = logs_in other ++ v.joined }

-- a scan goes on
abbrev pub probed : Probe → View → View
probed probe v = record v { scan = probe ∷ v.scan }

-- a full cell is claimed, by an exchange from this word
abbrev pub took : ℕ → ℕ → View → View
took cell word v = record v {
  log = v.log ++ (Got (number_in word) (turn_in word) ∷ []) ∷ [];
  cells = cell ∷ [];
  scan = [];
  last = Exchanged cell word word ∷ v.scan;
}

-- an empty cell is claimed
abbrev pub reserved : ℕ → View → View
reserved cell v = record v { cells = cell ∷ []; scan = []; last = Exchanged cell 0 0 ∷ v.scan }

-- a taking is done
abbrev pub let_go : View → View
let_go v = record v { cells = [] }

-- a giving is done, by a store of this word
abbrev pub gave : ℕ → View → View
gave word v = record v { log = v.log ++ (Gave (number_in word) (turn_in word) ∷ []) ∷ []; cells = [] }

-- a scan found no full cell
abbrev pub ran_dry : View → View
ran_dry v = record v { log = v.log ++ (Dry ∷ []) ∷ []; scan = []; last = v.scan }

-- a scan found no empty cell for the packet of this word
abbrev pub ran_full : ℕ → View → View
ran_full word v = record v { log = v.log ++ (Full (number_in word) (turn_in word) ∷ []) ∷ []; scan = []; last = v.scan }

-- what an entry takes out of the group, and what it puts into it, by a function of number and turn
abbrev pub gain : (ℕ → ℕ → ℕ) → GroupEntry → ℕ
gain h (Got number turn) = h number turn
gain h Dry = 0
gain h (Full number turn) = 0
gain h (Gave number turn) = 0

abbrev pub loss : (ℕ → ℕ → ℕ) → GroupEntry → ℕ
loss h (Got number turn) = 0
loss h Dry = 0
loss h (Full number turn) = 0
loss h (Gave number turn) = h number turn

-- the same of a log, and of all logs
abbrev pub gained : (ℕ → ℕ → ℕ) → List (List GroupEntry) → ℕ
gained h log = sum_by (sum_by (gain h)) log

abbrev pub given : (ℕ → ℕ → ℕ) → List (List GroupEntry) → ℕ
given h log = sum_by (sum_by (loss h)) log

abbrev pub all_gained : (ℕ → ℕ → ℕ) → List (ℕ × List (List GroupEntry)) → ℕ
all_gained h logs = sum_by (λ log. gained h log.1) logs

abbrev pub all_given : (ℕ → ℕ → ℕ) → List (ℕ × List (List GroupEntry)) → ℕ
all_given h logs = sum_by (λ log. given h log.1) logs
