-- What the two scans leave of a seat.
use Rattle.std.specs.Prelude.{◌≡◌, ◌<◌, ℕ, Some, None, List, [], ◌∷◌}
use Rattle.sn_packet.specs.Packet.{PacketState}
use Rattle.sn_group.specs.declared.view.View.{View}
use Rattle.sn_group.specs.declared.entry.Probe.{Probe}
use Rattle.sn_group.specs.declared.entry.Probe.TheVariants.{Loaded}
use Rattle.sn_group.specs.Cells.{IsSmall, full_word}
use Rattle.sn_group.specs.Views.{took, reserved, ran_dry, ran_full}
use Rattle.sn_group.specs.Scans.{around, PassedFull, PassedEmpty, Passes}
use Rattle.sn_group.specs.Plays.{Mine}

-- nothing is under way: no cell is claimed, no slot is taken, and no scan has begun
pub record IsIdle (me : Mine) : Type 0 where
  pub parts : me.0.parts ≡ 1
  pub cells : me.0.cells ≡ []
  pub scan : me.0.scan ≡ []
  pub slots : me.1 ≡ []

-- the same seat in a scan that has seen this
abbrev pub scanning : View → List Probe → View
scanning v scan = record v { scan = scan }

pub record IsScanning (v : View) (scan : List Probe) (me : Mine) : Type 0 where
  pub is : me ≡ (scanning v scan, [])

-- a full cell with this word was claimed, after all cells before it were passed
pub record FoundFull (cells start : ℕ) (v : View) (cell word : ℕ) (me : Mine) : Type 0 where
  pub passed : ℕ
  pub before : List Probe
  pub packet : PacketState
  pub passes : Passes PassedFull cells start passed before
  pub within : passed < cells
  pub place : cell ≡ around cells start passed
  pub small : IsSmall packet
  pub of_word : full_word packet.number packet.turn ≡ word
  pub after : me ≡ (took cell word (scanning v (Loaded cell word ∷ before)), (cell, Some packet) ∷ [])

-- no full cell was claimed, and all were passed
pub record FoundNoneFull (cells start : ℕ) (v : View) (me : Mine) : Type 0 where
  pub scan : List Probe
  pub passes : Passes PassedFull cells start cells scan
  pub after : me ≡ (ran_dry (scanning v scan), [])

-- an empty cell was claimed, after all cells before it were passed
pub record FoundEmpty (cells start : ℕ) (v : View) (cell : ℕ) (me : Mine) : Type 0 where
  pub passed : ℕ
  pub before : List Probe
  pub passes : Passes PassedEmpty cells start passed before
  pub within : passed < cells
  pub place : cell ≡ around cells start passed
  pub after : me ≡ (reserved cell (scanning v (Loaded cell 0 ∷ before)), (cell, None) ∷ [])

-- no empty cell was claimed, and all were passed; the packet that found none has this word
pub record FoundNoneEmpty (cells start : ℕ) (v : View) (word : ℕ) (me : Mine) : Type 0 where
  pub scan : List Probe
  pub passes : Passes PassedEmpty cells start cells scan
  pub after : me ≡ (ran_full word (scanning v scan), [])

-- what a scan requires of its arguments
pub record CanScan (words slots cells start : ℕ) (me : Mine) : Type 0 where
  pub all_words : words ≡ cells
  pub all_slots : slots ≡ cells
  pub within : start < cells
  pub idle : IsIdle me
