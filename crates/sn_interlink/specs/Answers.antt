-- What a call makes of an end, by its answer.
use Rattle.std.specs.Prelude.{◌≡◌, ◌≢◌, ◌<◌, ℕ, true, false, Bool, ◌==◌, Option, Some, None}
use Rattle.sn_packet.specs.Packet.{PacketState}
use Rattle.sn_interlink.specs.declared.answers.Attached.{Attached}
use Rattle.sn_interlink.specs.declared.answers.Attached.TheVariants.{Up, Again}
use Rattle.sn_interlink.specs.declared.answers.Detached.{Detached}
use Rattle.sn_interlink.specs.declared.answers.Detached.TheVariants.{Other, Closer}
use Rattle.sn_interlink.specs.Course.{other, field_in}
use Rattle.sn_interlink.specs.Ends.{LaneEnd, comes_up, stays_out, goes, drains_out, reach_of}

-- the end came up from the word that it had seen, or another word was found
abbrev pub AttachStep : ℕ → LaneEnd → Attached → LaneEnd → Type 0
AttachStep seen old Up new = new ≡ comes_up seen old
AttachStep seen old (Again found) new = (found ≢ seen) × (new ≡ stays_out seen found old)

-- the other end's field of this word is 1
abbrev pub other_is_up : LaneEnd → ℕ → Bool
other_is_up e word = field_in (other e.side) word == 1

-- the end went: it closes the interlink where the old word shows the other end not up
abbrev pub DetachStep : LaneEnd → Detached → LaneEnd → Type 0
DetachStep old (Other word) new = (other_is_up old word ≡ true) × (new ≡ goes word old)
DetachStep old (Closer word) new = (other_is_up old word ≡ false) × (new ≡ goes word old)

-- a packet is drained, or nothing is left and nothing was done
abbrev pub DrainStep : LaneEnd → Option PacketState → LaneEnd → Type 0
DrainStep old None new = (old.reach ≡ Some 0) × (new ≡ old)
DrainStep old (Some packet) new = (0 < reach_of old) × (new ≡ drains_out packet old)

-- the state word that was found at an attaching, and at a detaching
abbrev pub found_in : ℕ → Attached → ℕ
found_in seen Up = seen
found_in seen (Again found) = found

abbrev pub left_word : Detached → ℕ
left_word (Other word) = word
left_word (Closer word) = word
