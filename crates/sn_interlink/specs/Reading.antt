-- The core's state of a lane, as it is read off an interlink's words, slots and views, and off what its ends have half done.
use Rattle.std.specs.Prelude.{ℕ, zero, suc, ◌+◌, ◌-◌, ◌/◌, ◌%◌, ◌==◌, Bool, true, false, Option, Some, None, option_map, option_to_list, List, [], ◌∷◌, map, slice_index}
use mathlib.Core.Option.{none, some}
use mathlib.Core.Option as maybe
use lib.ListN.{get_elem?}
use Rattle.atomic_table.specs.Table.{State}
use Rattle.sn_core.specs.declared.events.Side.{Side}
use Rattle.sn_core.specs.declared.parts.Field.{Field}
use Rattle.sn_core.specs.declared.parts.Field.TheVariants.{Absent, Up, Gone}
use Rattle.sn_core.specs.declared.parts.Packet.{Packet}
use Rattle.sn_core.specs.Lane.{LaneState}
use Rattle.sn_packet.specs.Packet.{PacketState}
use Rattle.sn_interlink.specs.declared.view.EndState.{EndState}
use Rattle.sn_interlink.specs.declared.view.EndState.TheVariants.{Out, Closing}
use Rattle.sn_interlink.specs.declared.view.EndState.TheVariants as states
use Rattle.sn_interlink.specs.declared.view.View.{View}
use Rattle.sn_interlink.specs.declared.view.View.TheVariants.{Fresh, One, Both, Spent}
use Rattle.sn_interlink.specs.Rule.{Lying}

-- a field of the state word
abbrev pub field_read : ℕ → Field
field_read zero = Absent
field_read (suc zero) = Up
field_read (suc (suc n)) = Gone

-- what lies in a slot: out with an end, or at home
abbrev pub at_home : maybe.Option (maybe.Option Lying) → Lying
at_home none = None
at_home (some none) = None
at_home (some (some lying)) = lying

abbrev pub lying_if : Bool → Lying → Lying → Lying
lying_if true here else_there = here
lying_if false here else_there = else_there

abbrev pub slot_at : List (maybe.Option Lying) → List (ℕ × Lying) → ℕ → Lying
slot_at homes [] slot = at_home (get_elem? homes slot)
slot_at homes (x ∷ out) slot = lying_if (x.0 == slot) x.1 (slot_at homes out slot)

-- what lies in the slots of so many places, from this one on
abbrev pub row : (ℕ → Lying) → ℕ → ℕ → List Lying
row f place zero = []
row f place (suc n) = f (place % 1024) ∷ row f (place + 1) n

-- a packet as the core has it
abbrev pub tag : PacketState → Packet
tag packet = record { number = packet.number; turn = packet.turn }

-- the end that closes, by what the views say
abbrev pub closes_as : EndState → Side → Option Side → Option Side
closes_as Out side others = others
closes_as states.Up side others = others
closes_as Closing side others = Some side

abbrev pub closer_in : List View → Option Side
closer_in [] = None
closer_in (Fresh tx rx ∷ views) = closer_in views
closer_in (One side v ∷ views) = closes_as v.state side (closer_in views)
closer_in (Both tx rx ∷ views) = closer_in views
closer_in (Spent ∷ views) = closer_in views

-- the lane between these two seats, with these slots out
abbrev pub read_lane : ℕ → ℕ → State Lying View → List (ℕ × Lying) → LaneState
read_lane tx_seat rx_seat s out =
    record {
      tx_seat = tx_seat;
      rx_seat = rx_seat;
      tx = field_read (slice_index s.words 0 / 4);
      rx = field_read (slice_index s.words 0 % 4);
      put = slice_index s.words 1;
      read = slice_index s.words 2;
      queue =
          map (option_map tag)
          (row (slot_at s.homes out) (slice_index s.words 2) (slice_index s.words 1 - slice_index s.words 2));
      laid = option_to_list (option_map (λ packet. packet.number) (slot_at s.homes out (slice_index s.words 1 % 1024)));
      closes = closer_in s.views;
    }
