-- What a run reports, and how it ends.
use Rattle.std.specs.Prelude.{ℕ, ◌+◌, ◌==◌, if◌then◌else◌, Bool, true, false, List, [], ◌∷◌, Option, Some, None}
use Rattle.std.specs.FinMap.{insert}
use Rattle.std.specs.List.{list_any}
use Rattle.sn_app.specs.Counts.{CounterRows}
use Rattle.sn_group.specs.declared.receipt.GroupReceipt.{GroupReceipt}
use Rattle.sn_interlink.specs.declared.receipt.LaneReceipt.{LaneReceipt}
use Rattle.sn_journal.specs.declared.slot_state.SlotState.{SlotState}
use Rattle.sn_journal.specs.declared.entry.Entry.{Entry}
use Rattle.sn_journal.specs.declared.entry.Entry.TheVariants.{Spent}
use Rattle.sn_outside.specs.Contents.{Contents}
use Rattle.sn_run.specs.declared.outcome.Outcome.{Outcome}
use Rattle.sn_run.specs.declared.report.Kept.{Kept}
use Rattle.sn_run.specs.declared.outcome.Outcome.TheVariants.{Drained, RoundsUsed, JournalLimit}

-- a file that a run writes
pub record WrittenFile : Type 0 where
  pub name : List ℕ
  pub bytes : List ℕ

-- What a report tells: the entries of each worker's journal, the receipts of the interlinks and of the group, the packets that
-- workers still hold, what the apps and links of each worker have counted, the files of the run, how each slot stands, and how
-- much was left.
pub record RunReport : Type 0 where
  pub journals : List (List Entry)
  pub lanes : List LaneReceipt
  pub group : GroupReceipt
  pub kept : List Kept
  pub counters : List CounterRows
  pub files : List WrittenFile
  pub states : List SlotState
  pub left : ℕ

-- whether an entry says that the journal is full, and whether one of a journal's does
abbrev pub is_spent : Entry → Bool
is_spent Spent = true
is_spent entry = false

abbrev pub has_spent : List Entry → Bool
has_spent entries = list_any is_spent entries

-- the first worker of these with such a journal, where they are numbered on from this one
abbrev pub first_full : ℕ → List (List Entry) → Option ℕ
first_full worker [] = None
first_full worker (journal ∷ more) = if has_spent journal then Some worker else first_full (worker + 1) more

-- how a run ends: with the first full journal, if there is one, and else by how much was left
abbrev pub ended_by_limit : Option ℕ → ℕ → Outcome
ended_by_limit (Some worker) left = JournalLimit worker
ended_by_limit None left = if left == 0 then Drained else RoundsUsed left

-- how a run ended of which this is reported
abbrev pub outcome_of : RunReport → Outcome
outcome_of report = ended_by_limit (first_full 0 report.journals) report.left

-- the contents with these files written, one after another
abbrev pub with_files : Contents → List WrittenFile → Contents
with_files before [] = before
with_files before (file ∷ files) = with_files (insert before file.name file.bytes) files
