-- What the claims of a bench read and add, and what they leave of its script.
use Rattle.std.specs.Prelude.{ℕ, suc, ◌≡◌, Bool, true, false, List, [], ◌∷◌, ◌++◌}
use Rattle.sn_journal.specs.declared.entry.Entry.{Entry}
use Rattle.sn_app.specs.Bench.{BenchState, claims_of}
use Rattle.sn_app.specs.Rows.{most_refilled}

-- what the claims do that are left of a refill: none are, where one found nothing
abbrev pub claims_left : Bool → ℕ → List Entry → List Entry × List Entry
claims_left true n script = claims_of n script
claims_left false n script = ([], script)

-- One claim of a refill, whatever number of claims is left then, and whether a packet came.
pub record ClaimsOne (old new : BenchState) (came : Bool) : Type 0 where
  pub past : (n : ℕ) → old.past ++ (claims_of (suc n) old.script).0 ≡ new.past ++ (claims_left came n new.script).0
  pub script : (n : ℕ) → (claims_of (suc n) old.script).1 ≡ (claims_left came n new.script).1

-- the claims of one refill
pub record ClaimsAll (old new : BenchState) : Type 0 where
  pub past : new.past ≡ old.past ++ (claims_of most_refilled old.script).0
  pub script : new.script ≡ (claims_of most_refilled old.script).1

-- what an allocation does: nothing is read where a packet is free
abbrev pub claims_where : List ℕ → List Entry → List Entry × List Entry
claims_where [] script = claims_of most_refilled script
claims_where (place ∷ free) script = ([], script)

pub record Claims (old new : BenchState) : Type 0 where
  pub past : new.past ≡ old.past ++ (claims_where old.held.free old.script).0
  pub script : new.script ≡ (claims_where old.held.free old.script).1
