-- What a ledger's step at one of its ends leaves.
use Rattle.std.proofs.Common.{◌≡◌, ℕ, zero, suc, ◌<◌, ◌≤◌, ◌==◌, Bool, true, false, cond, List, [], ◌∷◌, ◌++◌, get_or, set}
use Rattle.std.proofs.Common.{Some, None, refl, sym, ap, subst, ◌∙◌, slice_get, arith, append-nil}
use Rattle.std.proofs.lemmas.Bool.{and_from, and_parts, eq-eqb, eqb-true, lt-ltb}
use Rattle.sn_channel.specs.Ends.{ListenerLog}
use Rattle.sn_core.specs.declared.events.Side.{Side}
use Rattle.sn_core.specs.declared.events.Side.TheVariants.{Tx, Rx}
use Rattle.sn_group.specs.Seats.{SeatState}
use Rattle.sn_interlink.specs.Course.{entries_of}
use Rattle.sn_interlink.specs.Ends.{LaneEnd, LaneId, reach_of}
use Rattle.sn_interlink.specs.Plays.{Finds, is_up_state, look_deed_as}
use Rattle.sn_interlink.specs.declared.entry.LaneEntry.{LaneEntry}
use Rattle.sn_interlink.specs.declared.view.EndState.{EndState}
use Rattle.sn_interlink.specs.declared.view.EndState.TheVariants as lane
use Rattle.sn_journal.specs.declared.entry.Entry.{Entry}
use Rattle.sn_journal.specs.declared.entry.Entry.TheVariants.{Unattached}
use Rattle.sn_packet.specs.Hold.{Held}
use Rattle.sn_app.specs.Desk.{End, same_side, set_end}
use Rattle.sn_app.specs.declared.end_state.EndState.TheVariants as desk
use Rattle.sn_app.specs.Words.{is_word}
use Rattle.sn_app.proofs.OtherEnds.{set_end_kept}
use Rattle.sn_seat.specs.LaneSteps.{AtEnd, FoundAs, Links, Stands}
use Rattle.sn_seat.specs.Places.{IsEndAt}
use Rattle.sn_seat.specs.Resting.{AtRest, Quiet}
use Rattle.sn_seat.specs.SeatEnds.{Numbered, desk_end, desk_state, end_in, ends_in, is_at, reach_in, side_in, times_at, wires}
use Rattle.sn_seat.specs.Told.{Told, group_part, heard_part, lane_part, told_log}
use Rattle.sn_seat.specs.declared.seat_end.SeatEnd.{SeatEnd}
use Rattle.sn_seat.proofs.EndKinds.{Wrote}
use Rattle.sn_seat.proofs.EndLists.{Here, ends_written, first_differs, here, here_is, link_here, reach_here, reach_written}
use Rattle.sn_seat.proofs.EndLists.{some_same, stands_here, times_set, wires_written}
use Rattle.sn_seat.proofs.Telling.{Weighs, told_lane, told_silent}

-- states as a desk has them
pub was_out : (s : EndState) → desk_state s ≡ desk.Out → s ≡ lane.Out
was_out lane.Out e = refl
was_out lane.Up e = absurd cc
was_out lane.Closing e = absurd cc

pub was_up : (s : EndState) → desk_state s ≡ desk.Up → s ≡ lane.Up
was_up lane.Out e = absurd cc
was_up lane.Up e = refl
was_up lane.Closing e = absurd cc

pub was_closing : (s : EndState) → desk_state s ≡ desk.Closing → s ≡ lane.Closing
was_closing lane.Out e = absurd cc
was_closing lane.Up e = absurd cc
was_closing lane.Closing e = refl

-- facts of each end, after one was written
written_rests : (ends : List Numbered) (k : ℕ) (y : Numbered) → ((j : ℕ) (z : Numbered) → slice_get ends j ≡ Some z → AtRest z.1)
    → AtRest y.1 → (j : ℕ) (z : Numbered) → slice_get (set ends k y) j ≡ Some z → AtRest z.1
written_rests [] k y all rests j z there = all j z there
written_rests (x ∷ ends) zero y all rests zero z there =
    let same : y ≡ z = some_same y z there in subst (λ (w : Numbered). AtRest w.1) same rests
written_rests (x ∷ ends) zero y all rests (suc j) z there = all (suc j) z there
written_rests (x ∷ ends) (suc k) y all rests zero z there = all zero z there
written_rests (x ∷ ends) (suc k) y all rests (suc j) z there =
    written_rests ends k y (λ i w at. all (suc i) w at) rests j z there

written_holds : (number : ℕ) (side : Side) (ends : List Numbered) (k : ℕ) (x : Numbered) (y : SeatEnd) → times_at x.0 ends ≤ 1
    → Here number side ends k x → (holds : LaneEnd → Type 0) → holds (end_in y) → (j : ℕ) (z : Numbered)
    → slice_get (set ends k (x.0, y)) j ≡ Some z → is_at number side z ≡ true → holds (end_in z.1)
written_holds number side [] k x y once h holds now j z there is = absurd (let e : None ≡ Some x = h.there in cc)
written_holds number side (v ∷ ends) zero x y once h holds now zero z there is =
    let same : (x.0, y) ≡ z = some_same (x.0, y) z there in subst (λ (w : Numbered). holds (end_in w.1)) same now
written_holds number side (v ∷ ends) zero x y once h holds now (suc j) z there is =
    let z_is : z.0 ≡ x.0 = eqb-true z.0 number (and_parts (z.0 == number) (same_side (side_in z.1) side) is).0 ∙ sym
    h.number_is in
    let same : v ≡ x = some_same v x h.there in
    let differs : (v.0 == z.0) ≡ false =
    first_differs v ends j z (subst (λ n. times_at n (v ∷ ends) ≤ 1) (sym z_is) once) there in
    absurd (let e : true ≡ false = sym (eq-eqb v.0 z.0 (ap (λ (w : Numbered). w.0) same ∙ sym z_is)) ∙ differs in cc)
written_holds number side (v ∷ ends) (suc k) x y once h holds now zero z there is =
    let z_is : z.0 ≡ x.0 = eqb-true z.0 number (and_parts (z.0 == number) (same_side (side_in z.1) side) is).0 ∙ sym
    h.number_is in
    let same : v ≡ z = some_same v z there in
    let differs : (v.0 == x.0) ≡ false = first_differs v ends k x once h.there in
    absurd (let e : true ≡ false = sym (eq-eqb v.0 x.0 (ap (λ (w : Numbered). w.0) same ∙ z_is)) ∙ differs in cc)
written_holds number side (v ∷ ends) (suc k) x y once h holds now (suc j) z there is =
    written_holds number side ends k x y (omega (arith, once))
    (record { there = h.there; number_is = h.number_is; side_is = h.side_is }) holds now j z there is

-- one end of a ledger, before a step
module _ {entries : List Entry} {hold : Held} {ends : List Numbered} {seat : SeatState} {listener : ListenerLog}
    (told : Told entries hold ends seat listener) (quiet : Quiet ends seat) (number : ℕ) (side : Side) (k : ℕ) (x : Numbered)
    (at : IsEndAt number side ends k) (read : x ≡ get_or ends k x) where
  at_here : Here number side ends k x
  at_here = here number side ends k x at read

  pub rests : AtRest x.1
  rests = quiet.rests k x at_here.there

  pub link_is : {link : LaneId} → Links ends number link → (end_in x.1).lane ≡ link
  link_is links = link_here links at_here

  pub stands : ends_in ends number side ≡ desk_end (end_in x.1)
  stands = stands_here number side ends k x (told.once x.0) at_here

  pub is_out : Stands ends number side desk.Out → (end_in x.1).state ≡ lane.Out
  is_out out = was_out (end_in x.1).state (sym (ap (λ (e : End). e.state) stands) ∙ out)

  pub is_up : Stands ends number side desk.Up → (end_in x.1).state ≡ lane.Up
  is_up up = was_up (end_in x.1).state (sym (ap (λ (e : End). e.state) stands) ∙ up)

  pub is_closing : Stands ends number side desk.Closing → (end_in x.1).state ≡ lane.Closing
  is_closing closing = was_closing (end_in x.1).state (sym (ap (λ (e : End). e.state) stands) ∙ closing)

  pub side_is : side_in x.1 ≡ side
  side_is = at_here.side_is

  pub holds_here : (holds : LaneEnd → Type 0) → AtEnd ends number side holds → holds (end_in x.1)
  holds_here holds all = all k x at_here.there (here_is at_here)

  -- after the step
  module _ (y : SeatEnd) (parts : List LaneEntry) (now : End) (w : Wrote x.1 y parts now) where
    pub quiet_now : Quiet (set ends k (x.0, y)) seat
    quiet_now = record {
      rests = λ j z there. by j z there;
      pending = quiet.pending;
      carried = quiet.carried;
    }
      where
        by : (j : ℕ) (z : Numbered) → slice_get (set ends k (x.0, y)) j ≡ Some z → AtRest z.1
        by j z there = written_rests ends k (x.0, y) quiet.rests w.rests j z there

    pub ends_now : ends_in (set ends k (x.0, y)) ≡ set_end number side now (ends_in ends)
    ends_now =
        ends_written number side ends k x y (told.once x.0) at_here w.side
        ∙ ap (λ e. set_end number side e (ends_in ends)) w.desk

    pub ends_same : now ≡ desk_end (end_in x.1) → ends_in (set ends k (x.0, y)) ≡ ends_in ends
    ends_same same =
        ends_now ∙ (ap (λ e. set_end number side e (ends_in ends)) (same ∙ sym stands) ∙ set_end_kept number side (ends_in ends))

    pub reach_less : reach_of (end_in y) < reach_of (end_in x.1)
        → reach_in (set ends k (x.0, y)) number side < reach_in ends number side
    reach_less less =
        let before = reach_here number side ends k x (told.once x.0) at_here in
        let still : times_at x.0 (set ends k (x.0, y)) ≤ 1 = omega
        (arith, told.once x.0, times_set x.0 ends k x y at_here.there) in
        let after = reach_written number side ends k x y (told.once x.0) still at_here w.side in
        omega (arith, less, before, after)

    pub wires_now : wires (set ends k (x.0, y)) ≡ wires ends
    wires_now = wires_written number side ends k x y at_here w.side w.lane

    pub holds_now : (holds : LaneEnd → Type 0) → holds (end_in y) → AtEnd (set ends k (x.0, y)) number side holds
    holds_now holds h j z there is = written_holds number side ends k x y (told.once x.0) at_here holds h j z there is

    -- an entry tells of it
    pub told_step : (later : Held) (entry : Entry) (part : LaneEntry) → parts ≡ part ∷ [] → lane_part entry ≡ Some (number, part)
        → group_part entry ≡ [] → heard_part entry ≡ [] → Weighs entry hold later
        → Told (entries ++ entry ∷ []) later (set ends k (x.0, y)) seat listener
    told_step later entry part one lane group heard weighs =
        told_lane told k x y later entry part at_here.there (w.log ∙ ap (λ l. told_log (end_in x.1) ++ l) one)
        (lane ∙ ap (λ n. Some (n, part)) (sym at_here.number_is)) group heard weighs

    -- or none
    pub told_still : parts ≡ [] → Told entries hold (set ends k (x.0, y)) seat listener
    told_still none = told_silent told k x y at_here.there
        (w.log ∙ (ap (λ l. told_log (end_in x.1) ++ l) none ∙ append-nil (told_log (end_in x.1))))

-- STATE WORDS

-- a load of the state word
pub told_look : {entries : List Entry} {hold : Held} {ends : List Numbered} {seat : SeatState} {listener : ListenerLog}
    (told : Told entries hold ends seat listener) (quiet : Quiet ends seat) (number : ℕ) (side : Side) (k : ℕ) (x : Numbered)
    (at : IsEndAt number side ends k) (read : x ≡ get_or ends k x) (y : SeatEnd) (now : End) (word : ℕ) (b : Bool)
    → Wrote x.1 y (entries_of (look_deed_as b word)) now
    → Told (entries ++ cond b (Unattached number word word ∷ []) []) hold (set ends k (x.0, y)) seat listener
told_look told quiet number side k x at read y now word true w =
    told_step told quiet number side k x at read y _ now w _ (Unattached number word word) _ refl refl refl refl (λ f. refl)
told_look {entries} {hold} {ends} {seat} {listener} told quiet number side k x at read y now word false w =
    subst (λ es. Told es hold (set ends k (x.0, y)) seat listener) (sym (append-nil entries))
    (told_still told quiet number side k x at read y _ now w refl)

-- what was found, in the words of a desk
found_as : (e_side side : Side) (state : EndState) (word : ℕ) (up : Bool) → e_side ≡ side → is_up_state state ≡ up
    → Finds e_side state word → FoundAs side up word
found_as Tx Tx state word up same is f = record { word_is = both f; own = f.own ∙ is }
  where
    both : Finds Tx state word → is_word word ≡ true
    both f = and_from _ _ (lt-ltb _ _ f.tx) (lt-ltb _ _ f.rx)
found_as Rx Rx state word up same is f = record { word_is = both f; own = f.own ∙ is }
  where
    both : Finds Rx state word → is_word word ≡ true
    both f = and_from _ _ (lt-ltb _ _ f.tx) (lt-ltb _ _ f.rx)
found_as Tx Rx state word up same is f = absurd (apart same)
  where
    apart : Tx ≡ Rx → ⊥
    apart e = let b : true ≡ false = ap tx e in cc
      where
        tx : Side → Bool
        tx Tx = true
        tx Rx = false
found_as Rx Tx state word up same is f = absurd (apart same)
  where
    apart : Rx ≡ Tx → ⊥
    apart e = let b : false ≡ true = ap tx e in cc
      where
        tx : Side → Bool
        tx Tx = true
        tx Rx = false

pub found_out : {x : SeatEnd} (side : Side) (word : ℕ) → AtRest x → side_in x ≡ side → (end_in x).state ≡ lane.Out
    → Finds (end_in x).side (end_in x).state word → FoundAs side false word
found_out {x} side word rests is out f = found_as (end_in x).side side (end_in x).state word false (rests.side ∙ is)
    (ap is_up_state out) f

pub found_up : {x : SeatEnd} (side : Side) (word : ℕ) → AtRest x → side_in x ≡ side → (end_in x).state ≡ lane.Up
    → Finds (end_in x).side (end_in x).state word → FoundAs side true word
found_up {x} side word rests is up f = found_as (end_in x).side side (end_in x).state word true (rests.side ∙ is)
    (ap is_up_state up) f
