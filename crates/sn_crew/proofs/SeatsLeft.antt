-- The seats that closed slots leave, one by one and all together.
use Rattle.std.proofs.Common.{◌≡◌, ◌∙◌, ◌++◌, ℕ, zero, suc, List, [], ◌∷◌, Some, None, length, map, refl, sym, ap}
use Rattle.std.proofs.Common.{ap₂, arith, subst}
use Rattle.std.specs.Prelude.{slice_get}
use Rattle.std.proofs.lemmas.List.{length_push}
use Rattle.sn_app.specs.Answers.{Reads}
use Rattle.sn_app.specs.Desk.{Desk}
use Rattle.sn_app.specs.World.{desk_of}
use Rattle.sn_app.specs.declared.end_state.EndState.TheVariants.{Out}
use Rattle.sn_core.specs.declared.events.Side.{Side}
use Rattle.sn_seat.specs.Trays.{bond_of, captures_of, seat_used, tray_in}
use Rattle.sn_seat.specs.declared.seat.Seat.{Seat}
use Rattle.sn_seat.specs.declared.shared.Shared.{Shared}
use Rattle.sn_sharing.proofs.Lists.{some_same}
use Rattle.sn_sharing.specs.Closings.{closed_tray}
use Rattle.sn_worker.specs.SlotTurns.{slot_closes}
use Rattle.sn_worker.specs.SlotViews.{slot_bond, slot_desk, slot_seat, slot_tray, slot_used}
use Rattle.sn_worker.specs.declared.slot.Slot.{Slot}
use Rattle.sn_crew.specs.Endings.{LeaveSeats, LeavesSeat}
use Rattle.sn_crew.specs.declared.place.Place.{Place}

-- something holds of two lists' elements of each place
abbrev pub EachPair : {A B : Type 0} → (A → B → Type 0) → List A → List B → Type 0
EachPair {A} {B} holds xs ys =
    (n : ℕ) (x : A) (y : B) → slice_get xs n ≡ Some x → slice_get ys n ≡ Some y → holds x y

-- and of those with one more, of which it holds
pub pair_pushed : {A B : Type 0} (holds : A → B → Type 0) (xs : List A) (ys : List B) (x : A) (y : B) → length ys ≡ length xs
    → EachPair holds xs ys → holds x y → EachPair holds (xs ++ x ∷ []) (ys ++ y ∷ [])
pair_pushed holds [] [] x y as_many each last zero v w atv atw =
    subst (λ a. holds a w) (some_same x v atv) (subst (holds x) (some_same y w atw) last)
pair_pushed {A} holds [] [] x y as_many each last (suc n) v w atv atw =
    absurd (let h : slice_get {X = A} [] n ≡ Some v = atv in cc)
pair_pushed holds [] (b ∷ ys) x y as_many each last n v w atv atw = absurd (omega (arith, as_many))
pair_pushed holds (a ∷ xs) [] x y as_many each last n v w atv atw = absurd (omega (arith, as_many))
pair_pushed holds (a ∷ xs) (b ∷ ys) x y as_many each last zero v w atv atw = each 0 v w atv atw
pair_pushed holds (a ∷ xs) (b ∷ ys) x y as_many each last (suc n) v w atv atw =
    pair_pushed holds xs ys x y (omega (arith, as_many)) (λ k c d atc atd. each (suc k) c d atc atd) last n v w atv atw

-- the seat of a slot that was closed
module _ (shared : Shared) (place : Place) (after : Slot) (seat : Seat) where
  pub seat_left : seat ≡ slot_seat after
      → Reads slot_closes (slot_desk (captures_of shared) place.slot) (slot_desk (captures_of shared) after) tt
      → ((lane : ℕ) (side : Side) → ((slot_tray (captures_of shared) after).ends lane side).state ≡ Out)
      → ((packet : ℕ) → slot_used after packet ≡ None) → slot_bond after ≡ slot_bond place.slot → LeavesSeat shared place seat
  unfolding desk_of
  seat_left is closing out free bond = record {
    end = slot_desk (captures_of shared) after;
    closing = closing;
    tray = ap (tray_in shared) (sym is);
    out = subst (λ s. (lane : ℕ) (side : Side) → ((closed_tray s).ends lane side).state ≡ Out) (sym is) out;
    free = subst (λ s. (packet : ℕ) → seat_used s packet ≡ None) (sym is) free;
    bond = ap bond_of is ∙ bond;
  }

module _ (shared : Shared) where
  pub seat_more : (places : List Place) (seats : List Seat) (place : Place) (seat : Seat) → LeaveSeats shared places seats
      → LeavesSeat shared place seat → LeaveSeats shared (places ++ place ∷ []) (seats ++ seat ∷ [])
  seat_more places seats place seat so_far one = record {
    as_many = omega (arith, so_far.as_many, length_push places place, length_push seats seat);
    each = pair_pushed (LeavesSeat shared) places seats place seat so_far.as_many so_far.each one;
  }

  -- the closing of a place's slot is read on to this desk
  abbrev pub ClosesTo : Place → Desk → Type 0
  ClosesTo place end = Reads slot_closes (slot_desk (captures_of shared) place.slot) end tt

  -- the desks at the ends of places, in their order, which have these seats' trays
  pub record HaveEnds (places : List Place) (seats : List Seat) : Type 0 where
    pub ends : List Desk
    pub as_many : length ends ≡ length places
    pub closings : EachPair ClosesTo places ends
    pub trays : map (λ end. end.tray) ends ≡ map (tray_in shared) seats

  pub ends_of : (places : List Place) (seats : List Seat) → LeaveSeats shared places seats → HaveEnds places seats
  ends_of [] [] left = record {
    ends = [];
    as_many = refl;
    closings = λ n place end there end_there. let h : slice_get {X = Place} [] n ≡ Some place = there in absurd cc;
    trays = refl;
  }
  ends_of [] (seat ∷ seats) left = absurd (omega (arith, left.as_many))
  ends_of (place ∷ places) [] left = absurd (omega (arith, left.as_many))
  ends_of (place ∷ places) (seat ∷ seats) left =
      let first : LeavesSeat shared place seat = left.each 0 place seat refl refl in
      let rest : HaveEnds places seats = ends_of places seats (record {
        as_many = omega (arith, left.as_many);
        each = λ worker p s atp ats. left.each (suc worker) p s atp ats;
      }) in
      record {
        ends = first.end ∷ rest.ends;
        as_many = ap suc rest.as_many;
        closings = closings first rest;
        trays = ap₂ (λ t ts. t ∷ ts) first.tray rest.trays;
      }
    where
      closings : (first : LeavesSeat shared place seat) (rest : HaveEnds places seats)
          → EachPair ClosesTo (place ∷ places) (first.end ∷ rest.ends)
      closings first rest zero p e atp ate =
          subst (λ q. ClosesTo q e) (some_same place p atp) (subst (ClosesTo place) (some_same first.end e ate) first.closing)
      closings first rest (suc n) p e atp ate = rest.closings n p e atp ate
