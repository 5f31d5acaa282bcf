-- What each step on a cell's word tells.
use Rattle.std.specs.Prelude.{◌≡◌, ◌≢◌, ℕ, Option, Some, None, [], ◌∷◌}
use Rattle.atomic_table.specs.Table.{Me, Step}
use Rattle.sn_packet.specs.Packet.{PacketState}
use Rattle.sn_group.specs.declared.view.View.{View}
use Rattle.sn_group.specs.declared.entry.Probe.TheVariants.{Loaded, Exchanged}
use Rattle.sn_group.specs.Cells.{IsSmall, full_word}
use Rattle.sn_group.specs.Views.{probed, took, reserved, let_go, gave, ran_dry, ran_full}

-- a seat's view, and the slots that it has
abbrev pub Mine : Type 0
Mine = Me (Option PacketState) View

abbrev pub Deed : Type 0
Deed = Step (Option PacketState)

-- a cell's word is loaded
abbrev pub Probing : Deed → Mine → ℕ → Mine → Type 0
Probing step me found after = after ≡ (probed (Loaded step.word found) me.0, me.1)

-- a full cell is claimed, and its packet lies in the slot; or another word was found
abbrev pub TakeClaiming : Deed → Mine → ℕ → Mine → Type 0
TakeClaiming step me found after =
    (found ≡ step.first → (packet : PacketState) × (full_word packet.number packet.turn ≡ found) × IsSmall packet
    × (after ≡ (took step.word found me.0, (step.word, Some packet) ∷ [])))
    × (found ≢ step.first → after ≡ (probed (Exchanged step.word step.first found) me.0, me.1))

-- an empty cell is claimed, and nothing lies in the slot; or another word was found
abbrev pub GiveClaiming : Deed → Mine → ℕ → Mine → Type 0
GiveClaiming step me found after =
    (found ≡ step.first → after ≡ (reserved step.word me.0, (step.word, None) ∷ []))
    × (found ≢ step.first → after ≡ (probed (Exchanged step.word step.first found) me.0, me.1))

-- the emptied cell is let go
abbrev pub TakeEnding : Deed → Mine → ℕ → Mine → Type 0
TakeEnding step me found after = after ≡ (let_go me.0, [])

-- the filled cell is let go
abbrev pub GiveEnding : Deed → Mine → ℕ → Mine → Type 0
GiveEnding step me found after = after ≡ (gave step.first me.0, [])

-- a scan ends with nothing, and the word that is met then tells nothing
abbrev pub Drying : Deed → Mine → ℕ → Mine → Type 0
Drying step me found after = after ≡ (ran_dry me.0, me.1)

-- the same, where the packet of the exchanged word found no cell
abbrev pub Filling : Deed → Mine → ℕ → Mine → Type 0
Filling step me found after = after ≡ (ran_full step.first me.0, me.1)
