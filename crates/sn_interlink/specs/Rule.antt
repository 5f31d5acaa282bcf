-- The rule of an interlink's table: one history leads to its words, slots and views.
use Rattle.std.specs.Prelude.{◌≡◌, ◌≤◌, ◌<◌, ℕ, ◌+◌, ◌%◌, ◌^◌, Bool, true, List, [], ◌∷◌, length, Option, Some, None, slice_get}
use mathlib.Core.Option.{some}
use mathlib.Core.Option as maybe
use lib.ListN.{get_elem?}
use Rattle.atomic_table.specs.Table.{State}
use Rattle.sn_core.specs.declared.events.Side.{Side}
use Rattle.sn_core.specs.declared.events.Side.TheVariants.{Tx, Rx}
use Rattle.sn_packet.specs.Packet.{PacketState}
use Rattle.sn_interlink.specs.declared.view.EndState.TheVariants.{Out}
use Rattle.sn_interlink.specs.declared.view.Hand.{Hand}
use Rattle.sn_interlink.specs.declared.view.Hand.TheVariants.{Nothing, Writing, Reading}
use Rattle.sn_interlink.specs.declared.view.Known.{Known}
use Rattle.sn_interlink.specs.declared.view.View.{View}
use Rattle.sn_interlink.specs.declared.view.View.TheVariants.{Fresh, One, Both, Spent}
use Rattle.sn_interlink.specs.Course.{Status, up, closing, Course, mine, is_closing, is_on, word_of, state_of, History, course, Legal, log_of}

-- what lies in a slot: a packet, or nothing
abbrev pub Lying : Type 0
Lying = Option PacketState

-- the next position of a hand, its bound, and what lies in that slot when it goes out
abbrev pub first_of : Hand → ℕ
first_of Nothing = 0
first_of (Writing first bound) = first
first_of (Reading first bound lying) = first

abbrev pub bound_of : Hand → ℕ
bound_of Nothing = 0
bound_of (Writing first bound) = bound
bound_of (Reading first bound lying) = bound

abbrev pub lies_in : Hand → Lying
lies_in Nothing = None
lies_in (Writing first bound) = None
lies_in (Reading first bound lying) = lying

-- the position's slot is out with the end that has this hand
pub record Lends (h : Hand) (place : ℕ) : Type 0 where
  pub here : place ≡ first_of h
  pub within : first_of h < bound_of h

-- an end reads: the receiver that is up, or the closing end
abbrev pub reads_as : Side → Status → Bool
reads_as Tx status = is_closing status
reads_as Rx status = is_on status

-- what a hand is worth where the machine is at c
pub record MayWrite (c : Course) (side : Side) (first bound : ℕ) : Type 0 where
  pub whose : side ≡ Tx
  pub is_there : c.tx ≡ up
  pub next : first ≡ length c.puts
  pub room : bound ≤ c.read + 1023
  pub below : bound ≤ 2 ^ 62

pub record MayRead (c : Course) (side : Side) (first bound : ℕ) (lying : Lying) : Type 0 where
  pub reads : reads_as side (mine side c) ≡ true
  pub next : first ≡ c.read
  pub most : bound ≤ length c.puts
  pub what : first < bound → lying ≡ slice_get c.puts first
  pub ended : mine side c ≡ closing → bound ≡ length c.puts  -- a closer's hand begins after it went

abbrev pub HandOk : Side → Hand → Course → Type 0
HandOk side Nothing c = Unit {0}
HandOk side (Writing first bound) c = MayWrite c side first bound
HandOk side (Reading first bound lying) c = MayRead c side first bound lying

-- the receiver's position is known while it is up or closes; the transmitter's always
pub record ReadsAt (place : ℕ) (c : Course) : Type 0 where
  pub is_there : is_on c.rx ≡ true
  pub here : place ≡ c.read

abbrev pub PlaceOk : Side → Option ℕ → Course → Type 0
PlaceOk Tx place c = place ≡ Some (length c.puts)
PlaceOk Rx None c = Unit {0}
PlaceOk Rx (Some place) c = ReadsAt place c

-- what an end knows fits the history
pub record Fits (side : Side) (v : Known) (hist : History) : Type 0 where
  pub log : v.log ≡ log_of side hist
  pub state : v.state ≡ state_of (mine side (course hist))
  pub place : PlaceOk side v.place (course hist)
  pub hand : HandOk side v.hand (course hist)

-- what both ends know
pub record Ends : Type 0 where
  pub tx : Known
  pub rx : Known

abbrev pub of_side : Side → Ends → Known
of_side Tx ends = ends.tx
of_side Rx ends = ends.rx

abbrev pub with_side : Side → Known → Ends → Ends
with_side Tx v ends = record { tx = v; rx = ends.rx }
with_side Rx v ends = record { tx = ends.tx; rx = v }

-- how far the two ends have come apart
pub data Stage : Type 0 where
  whole : Stage
  parted : Stage
  joined : Stage

abbrev pub views_of : Stage → Ends → List View
views_of whole ends = Fresh ends.tx ends.rx ∷ []
views_of parted ends = One Tx ends.tx ∷ One Rx ends.rx ∷ []
views_of joined ends = Both ends.tx ends.rx ∷ Spent ∷ []

-- each place of the window is at home in its slot, with its packet where it is published, unless it is out with an end
abbrev pub Cells : List (maybe.Option Lying) → Course → Hand → Hand → Type 0
Cells homes c tx rx = (place : ℕ) → c.read ≤ place → place < c.read + 1024 → (Lends tx place → ⊥) → (Lends rx place → ⊥)
    → get_elem? homes (place % 1024) ≡ some (some (slice_get c.puts place))

abbrev pub words_of : Course → List ℕ
words_of c = word_of c ∷ length c.puts ∷ c.read ∷ []

-- the state is where this history leads, and the ends know this
pub record Meets (s : State Lying View) (hist : History) (stage : Stage) (ends : Ends) : Type 0 where
  pub legal : Legal hist
  pub views : s.views ≡ views_of stage ends
  pub tx : Fits Tx ends.tx hist
  pub rx : Fits Rx ends.rx hist
  pub cells : Cells s.homes (course hist) ends.tx.hand ends.rx.hand
  pub words : s.words ≡ words_of (course hist)
  pub long : length s.homes ≡ 1024

pub record Rule (s : State Lying View) : Type 0 where
  pub hist : History
  pub stage : Stage
  pub ends : Ends
  pub meets : Meets s hist stage ends

-- what an end of a new interlink knows
abbrev pub new_end : Option ℕ → Known
new_end place = record { log = []; state = Out; loads = 0; seen = None; far = 0; place = place; hand = Nothing }

abbrev pub opening_view : View
opening_view = Fresh (new_end (Some 0)) (new_end None)
