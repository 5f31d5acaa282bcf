-- What a step of an end does to the table: which slots are out with it before and after.
use Rattle.std.specs.Prelude.{◌≡◌, ℕ, ◌%◌, Bool, true, false, List, [], ◌∷◌, Some, None, nat_lt}
use Rattle.atomic_table.specs.Table.{State, Act, keeps, takes, gives, chain, stepped, Valid, carried_after}
use Rattle.sn_core.specs.declared.events.Side.{Side}
use Rattle.sn_core.specs.declared.events.Side.TheVariants.{Tx, Rx}
use Rattle.sn_packet.specs.Packet.{PacketState}
use Rattle.sn_interlink.specs.declared.view.Hand.{Hand}
use Rattle.sn_interlink.specs.declared.view.Known.{Known}
use Rattle.sn_interlink.specs.declared.view.View.{View}
use Rattle.sn_interlink.specs.declared.view.View.TheVariants.{One}
use Rattle.sn_interlink.specs.Course.{Deed, History}
use Rattle.sn_interlink.specs.Rule.{Lying, first_of, bound_of, lies_in, Ends, with_side, parted, Meets}

-- what an end has half done: nothing, a packet laid, or the packet taken
pub data Half : Type 0 where
  idle : Half
  laid : PacketState → Half
  taken : Half

-- what lies then in the slot that is out with the end
abbrev pub carry : Hand → Half → Lying
carry h idle = lies_in h
carry h (laid packet) = Some packet
carry h taken = None

-- the hand lends a slot: that of its first position
abbrev pub lends : Hand → Bool
lends h = nat_lt (first_of h) (bound_of h)

abbrev pub if_out : Bool → ℕ → Lying → List (ℕ × Lying)
if_out true slot lying = (slot, lying) ∷ []
if_out false slot lying = []

-- what lies in the first slot that is out
abbrev pub load_of : List (ℕ × Lying) → Lying
load_of [] = None
load_of (x ∷ xs) = x.1

-- the slots that are out with an end
abbrev pub out_of : Hand → Half → List (ℕ × Lying)
out_of h half = if_out (lends h) (first_of h % 1024) (carry h half)

abbrev pub if_gives : Bool → Act Lying
if_gives true = gives
if_gives false = keeps

abbrev pub if_takes : Bool → ℕ → Lying → Act Lying
if_takes true slot lying = takes slot lying
if_takes false slot lying = keeps

-- the slot of the old hand is given back, and that of the new one taken, which may be the same
abbrev pub turn : Hand → Hand → Act Lying
turn old new = chain (if_gives (lends old)) (if_takes (lends new) (first_of new % 1024) (lies_in new))

-- the number of an end's seat
abbrev pub seat_of : Side → ℕ
seat_of Tx = 0
seat_of Rx = 1

-- the table after an end's step on word i, which is n then: the end has done half of this before, and knows w afterwards
abbrev pub moved : State Lying View → ℕ → ℕ → Side → Known → Half → Known → State Lying View
moved s i n side v half w = stepped s i n (seat_of side) (out_of v.hand half) (One side w) (turn v.hand w.hand)

-- the same for a step that moves no slot
abbrev pub stayed : State Lying View → ℕ → ℕ → Side → Known → Half → Known → State Lying View
stayed s i n side v half w = stepped s i n (seat_of side) (out_of v.hand half) (One side w) keeps

-- what a step leaves: the slots may be moved so, the end has those of its new hand out, and the state is where the longer
-- history leads
pub record Left (s : State Lying View) (hist : History) (k : Ends) (side : Side) (d : Deed)
    (v : Known) (half : Half) (w : Known) (i n : ℕ) : Type 0 where
  pub valid : Valid s.homes (out_of v.hand half) (turn v.hand w.hand)
  pub carried : carried_after (out_of v.hand half) (turn v.hand w.hand) ≡ out_of w.hand idle
  pub meets : Meets (moved s i n side v half w) ((side, d) ∷ hist) parted (with_side side w k)
