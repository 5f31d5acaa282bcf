-- What a scan over the cells saw: a list of probes, the newest first.
use Rattle.std.specs.Prelude.{◌≡◌, ◌≢◌, ◌<◌, ◌≤◌, ◌⊎◌, ℕ, zero, suc, ◌+◌, ◌-◌, nat_lt, if◌then◌else◌, List, [], ◌∷◌, ◌++◌}
use Rattle.sn_group.specs.declared.entry.Probe.{Probe}
use Rattle.sn_group.specs.declared.entry.Probe.TheVariants.{Loaded, Exchanged}

-- the cell that is k further than `start`, round over so many cells
abbrev pub around : ℕ → ℕ → ℕ → ℕ
around cells start k = if nat_lt (start + k) cells then start + k else start + k - cells

-- a cell was loaded, and wasn't full; or an exchange from the full word just loaded there found another word
abbrev pub PassedFull : ℕ → List Probe → List Probe → Type 0
PassedFull cell before scan = (word : ℕ) × (((word < 2) × (scan ≡ Loaded cell word ∷ before))
    ⊎ ((2 ≤ word) × (found : ℕ) × (found ≢ word) × (scan ≡ Exchanged cell word found ∷ Loaded cell word ∷ before)))

-- a cell was loaded, and wasn't empty; or an exchange from the 0 just loaded there found another word
abbrev pub PassedEmpty : ℕ → List Probe → List Probe → Type 0
PassedEmpty cell before scan = (word : ℕ) × (((word ≢ 0) × (scan ≡ Loaded cell word ∷ before))
    ⊎ ((word ≡ 0) × (found : ℕ) × (found ≢ 0) × (scan ≡ Exchanged cell 0 found ∷ Loaded cell 0 ∷ before)))

-- the scan passed k cells, one after another, from `start` on
abbrev pub Passes : (ℕ → List Probe → List Probe → Type 0) → ℕ → ℕ → ℕ → List Probe → Type 0
Passes Passed cells start zero scan = scan ≡ []
Passes Passed cells start (suc k) scan =
    (before : List Probe) × Passes Passed cells start k before × Passed (around cells start k) before scan

-- each cell was passed somewhere in the scan
abbrev pub PassesEach : (ℕ → List Probe → List Probe → Type 0) → ℕ → List Probe → Type 0
PassesEach Passed cells scan = (cell : ℕ) → cell < cells →
    (later here before : List Probe) × (scan ≡ later ++ here) × Passed cell before here

-- the scan passed all cells before this one, then loaded this word there and exchanged it
pub record Claims (Passed : ℕ → List Probe → List Probe → Type 0) (cells start cell word : ℕ) (scan : List Probe) : Type 0 where
  pub passed : ℕ
  pub before : List Probe
  pub passes : Passes Passed cells start passed before
  pub within : passed < cells
  pub place : cell ≡ around cells start passed
  pub saw : scan ≡ Exchanged cell word word ∷ Loaded cell word ∷ before
