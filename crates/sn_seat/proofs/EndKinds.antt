-- What each kind of step of an end writes: what the journal tells of it, and how the end stands on the desk then.
use Rattle.std.proofs.Common.{◌≡◌, ◌≢◌, ℕ, ◌-◌, Bool, true, false, cond, List, [], ◌∷◌, ◌++◌, map, None, refl, sym, ap, ◌∙◌}
use Rattle.std.proofs.Common.{append-nil}
use Rattle.std.proofs.lemmas.List.{map-append}
use Rattle.sn_core.specs.declared.events.Side.{Side}
use Rattle.sn_core.specs.declared.events.Side.TheVariants.{Tx, Rx}
use Rattle.sn_packet.specs.Packet.{PacketState, with_bytes}
use Rattle.sn_interlink.specs.Course.{entries_of, is_down, left_state, state_after}
use Rattle.sn_interlink.specs.Ends.{LaneEnd, comes_up, drains_out, goes, is_tx, lays, looks_at, publishes, raised, reach_of}
use Rattle.sn_interlink.specs.Ends.{releases, sets_free, stays_out, synced_left, takes_out}
use Rattle.sn_interlink.specs.Plays.{look_deed, look_deed_as}
use Rattle.sn_interlink.specs.declared.entry.LaneEntry.{LaneEntry}
use Rattle.sn_interlink.specs.declared.entry.LaneEntry.TheVariants.{Attach, Unattached, Detach, Reset, Put, Take, Drain}
use Rattle.sn_interlink.specs.declared.view.EndState.{EndState}
use Rattle.sn_interlink.specs.declared.view.EndState.TheVariants.{Out, Up, Closing}
use Rattle.sn_app.specs.Desk.{End, all_published, all_released, closing_end, out_end, up_end, with_known, with_laid, with_taken}
use Rattle.sn_seat.specs.EndSteps.{SeesFar, far_entry, up_at}
use Rattle.sn_seat.specs.Resting.{AtRest}
use Rattle.sn_seat.specs.SeatEnds.{desk_end, end_in, known_by, side_in}
use Rattle.sn_seat.specs.Told.{told_entry, told_log}
use Rattle.sn_seat.specs.declared.seat_end.SeatEnd.{SeatEnd}

-- y is x after a step that its log names so, and stands so on the desk
pub record Wrote (x y : SeatEnd) (parts : List LaneEntry) (stands : End) : Type 0 where
  pub side : side_in y ≡ side_in x
  pub lane : (end_in y).lane ≡ (end_in x).lane
  pub rests : AtRest y
  pub log : told_log (end_in y) ≡ told_log (end_in x) ++ parts
  pub desk : desk_end (end_in y) ≡ stands

-- the log grows by what isn't unreleased any more
grows : (e e' : LaneEnd) (more : List LaneEntry) → e'.log ≡ e.log ++ more → e.unreleased ≡ [] → e'.unreleased ≡ []
    → told_log e' ≡ told_log e ++ map told_entry more
grows e e' more log before after =
    let now : told_log e' ≡ map told_entry (e.log ++ more) =
    ap (λ l. map told_entry (e'.log ++ l)) after ∙ (ap (map told_entry) (append-nil e'.log) ∙ ap (map told_entry) log) in
    let then_log : told_log e ≡ map told_entry e.log =
    ap (λ l. map told_entry (e.log ++ l)) before ∙ ap (map told_entry) (append-nil e.log) in
    now ∙ (map-append told_entry e.log more ∙ ap (λ l. l ++ map told_entry more) (sym then_log))

-- an end as what a step makes of it
module _ (x y : SeatEnd) (r : AtRest x) (same : side_in y ≡ side_in x) where
  whose : (e : LaneEnd) → end_in y ≡ e → e.side ≡ (end_in x).side → (end_in y).side ≡ side_in y
  whose e step kept = ap (λ (z : LaneEnd). z.side) step ∙ (kept ∙ (r.side ∙ sym same))

  -- A LOAD OF THE STATE WORD

  look_told : (b : Bool) (word : ℕ) → map told_entry (entries_of (look_deed_as b word)) ≡ entries_of (look_deed_as b word)
  look_told true word = refl
  look_told false word = refl

  pub looked : (word : ℕ) → end_in y ≡ looks_at word (end_in x)
      → Wrote x y (entries_of (look_deed word)) (desk_end (end_in x))
  looked word step = record {
    side = same;
    lane = ap (λ (z : LaneEnd). z.lane) step;
    rests = record {
      side = whose (looks_at word (end_in x)) step refl;
      half = ap (λ (z : LaneEnd). z.half) step ∙ r.half;
      laid = ap (λ (z : LaneEnd). z.laid) step ∙ r.laid;
      released = ap (λ (z : LaneEnd). z.unreleased) step ∙ r.released;
      out = λ e. ap (λ (z : LaneEnd). z.reach) step ∙ r.out (sym (ap (λ (z : LaneEnd). z.state) step) ∙ e);
      synced = λ e. ap (λ (z : LaneEnd). z.synced) step ∙ r.synced (sym (ap (λ (z : LaneEnd). z.state) step) ∙ e);
      closes = λ e. ap (λ (z : LaneEnd). z.synced) step ∙ r.closes (sym (ap (λ (z : LaneEnd). z.state) step) ∙ e);
    };
    log = grows (end_in x) (end_in y) (entries_of (look_deed word)) (ap (λ (z : LaneEnd). z.log) step) r.released
        (ap (λ (z : LaneEnd). z.unreleased) step ∙ r.released)
        ∙ ap (λ l. told_log (end_in x) ++ l) (look_told (is_down word) word);
    desk = ap desk_end step;
  }

  -- an end that is what these say rests
  resting : (e : LaneEnd) → end_in y ≡ e → e.side ≡ (end_in x).side → e.half ≡ false → e.laid ≡ [] → e.unreleased ≡ []
      → (e.state ≡ Out → e.reach ≡ None) → (e.state ≡ Up → e.synced ≡ true) → (e.state ≡ Closing → e.synced ≡ true) → AtRest y
  resting e step side half laid released out synced closes = record {
    side = whose e step side;
    half = ap (λ (z : LaneEnd). z.half) step ∙ half;
    laid = ap (λ (z : LaneEnd). z.laid) step ∙ laid;
    released = ap (λ (z : LaneEnd). z.unreleased) step ∙ released;
    out = λ s. ap (λ (z : LaneEnd). z.reach) step ∙ out (sym (ap (λ (z : LaneEnd). z.state) step) ∙ s);
    synced = λ s. ap (λ (z : LaneEnd). z.synced) step ∙ synced (sym (ap (λ (z : LaneEnd). z.state) step) ∙ s);
    closes = λ s. ap (λ (z : LaneEnd). z.synced) step ∙ closes (sym (ap (λ (z : LaneEnd). z.state) step) ∙ s);
  }

  wrote : (e : LaneEnd) (more : List LaneEntry) (stands : End) → end_in y ≡ e → e.lane ≡ (end_in x).lane → AtRest y
      → e.log ≡ (end_in x).log ++ more → desk_end e ≡ stands → Wrote x y (map told_entry more) stands
  wrote e more stands step lane rests log desk = record {
    side = same;
    lane = ap (λ (z : LaneEnd). z.lane) step ∙ lane;
    rests = rests;
    log = grows (end_in x) (end_in y) more (ap (λ (z : LaneEnd). z.log) step ∙ log) r.released rests.released;
    desk = ap desk_end step ∙ desk;
  }

  -- states apart
  state_code : EndState → ℕ
  state_code Out = 0
  state_code Up = 1
  state_code Closing = 2

  up_not_out : {A : Type 0} → Up ≡ Out → A
  up_not_out e = absurd (let f : 1 ≡ 0 = ap (λ s. code s) e in cc)
    where
      code : EndState → ℕ
      code Out = 0
      code Up = 1
      code Closing = 2

  up_not_closing : {A : Type 0} → Up ≡ Closing → A
  up_not_closing e = absurd (let f : 1 ≡ 2 = ap (λ s. code s) e in cc)
    where
      code : EndState → ℕ
      code Out = 0
      code Up = 1
      code Closing = 2

  out_not_closing : {A : Type 0} → Out ≡ Closing → A
  out_not_closing e = absurd (let f : 0 ≡ 2 = ap (λ s. code s) e in cc)
    where
      code : EndState → ℕ
      code Out = 0
      code Up = 1
      code Closing = 2

  -- AN ATTACHING

  pub missed : (seen found : ℕ) → end_in y ≡ stays_out seen found (end_in x)
      → Wrote x y (Unattached seen found ∷ []) (desk_end (end_in x))
  missed seen found step =
      wrote (stays_out seen found (end_in x)) (Unattached seen found ∷ []) (desk_end (end_in x)) step refl
      (resting (stays_out seen found (end_in x)) step refl r.half r.laid r.released r.out r.synced r.closes) refl refl

  -- an end that has come up knows nothing, and its position
  up_desk : (e : LaneEnd) → e.state ≡ Up → e.reach ≡ None → e.laid ≡ [] → e.unreleased ≡ [] → e.synced ≡ true → desk_end e
      ≡ up_end
  up_desk e state reach laid unreleased synced = rw (state, reach, laid, unreleased, synced) refl

  pub came_up : (seen : ℕ) (side : Side) → side ≡ side_in x → (end_in x).state ≡ Out
      → end_in y ≡ up_at side (end_in y).place (comes_up seen (end_in x))
      → Wrote x y (Attach seen ∷ []) up_end
  came_up seen Tx whose_side out step =
      let e : LaneEnd = comes_up seen (end_in x) in
      let synced : e.synced ≡ true = ap is_tx (r.side ∙ sym whose_side) in
      wrote e (Attach seen ∷ []) up_end step refl
      (resting e step refl r.half r.laid r.released (λ s. up_not_out s) (λ s. synced) (λ s. synced)) refl
      (up_desk e refl (r.out out) r.laid r.released synced)
  came_up seen Rx whose_side out step =
      let e : LaneEnd = up_at Rx (end_in y).place (comes_up seen (end_in x)) in
      wrote e (Attach seen ∷ []) up_end step refl
      (resting e step refl r.half r.laid r.released (λ s. up_not_out s) (λ s. refl) (λ s. refl)) refl
      (up_desk e refl (r.out out) r.laid r.released refl)

  -- A DETACHING

  left_desk : (e : LaneEnd) (b : Bool) → (end_in x).synced ≡ true → e.state ≡ left_state b → e.reach ≡ None → e.laid ≡ []
      → e.unreleased ≡ [] → e.synced ≡ synced_left (left_state b) (end_in x).side (end_in x).synced
      → desk_end e ≡ (cond b out_end (closing_end 0))
  left_desk e true up state reach laid unreleased synced = rw (state, laid, unreleased) refl
  left_desk e false up state reach laid unreleased synced =
      let kept : e.synced ≡ true = synced ∙ up in rw (state, laid, unreleased, kept) refl

  left_synced : (b : Bool) → (end_in x).synced ≡ true → left_state b ≡ Closing
      → synced_left (left_state b) (end_in x).side (end_in x).synced ≡ true
  left_synced true up s = out_not_closing s
  left_synced false up s = up

  left_not_up : (b : Bool) (A : Type 0) → left_state b ≡ Up → A
  left_not_up true A s = up_not_out (sym s)
  left_not_up false A s = up_not_closing (sym s)

  pub left : (b : Bool) (word : ℕ) → (end_in x).synced ≡ true → state_after (end_in x).side word ≡ left_state b
      → end_in y ≡ goes word (end_in x) → Wrote x y (Detach word ∷ []) (cond b out_end (closing_end 0))
  left b word up state step =
      let e : LaneEnd = goes word (end_in x) in
      let kept : e.synced ≡ synced_left (left_state b) (end_in x).side (end_in x).synced =
      ap (λ s. synced_left s (end_in x).side (end_in x).synced) state in
      wrote e (Detach word ∷ []) (cond b out_end (closing_end 0)) step refl
      (resting e step refl r.half r.laid r.released (λ s. refl) (λ s. left_not_up b (e.synced ≡ true) (sym state ∙ s))
      (λ s. kept ∙ left_synced b up (sym state ∙ s)))
      refl (left_desk e b up state refl r.laid r.released kept)

  -- LOADS OF THE FAR WORD

  far_told : (side : Side) (n : ℕ) → map told_entry (far_entry side n ∷ []) ≡ far_entry side n ∷ []
  far_told Tx n = refl
  far_told Rx n = refl

  module _ (side : Side) (n : ℕ) (s : SeesFar side n (end_in x) (end_in y)) where
    far_rests : (end_in x).state ≢ Out → AtRest y
    far_rests on = record {
      side = s.side_is ∙ (r.side ∙ sym same);
      half = s.half ∙ r.half;
      laid = s.laid ∙ r.laid;
      released = s.unreleased ∙ r.released;
      out = λ e. absurd (on (sym s.state ∙ e));
      synced = λ e. s.synced ∙ r.synced (sym s.state ∙ e);
      closes = λ e. s.synced ∙ r.closes (sym s.state ∙ e);
    }

    far_log : told_log (end_in y) ≡ told_log (end_in x) ++ far_entry side n ∷ []
    far_log =
        grows (end_in x) (end_in y) (far_entry side n ∷ []) s.log r.released (s.unreleased ∙ r.released)
        ∙ ap (λ l. told_log (end_in x) ++ l) (far_told side n)

    pub saw_up : (end_in x).state ≡ Up → Wrote x y (far_entry side n ∷ []) (with_known n (desk_end (end_in x)))
    saw_up up = record {
      side = same;
      lane = s.lane;
      rests = far_rests (λ e. up_not_out (sym up ∙ e));
      log = far_log;
      desk = rw (s.state, s.laid, s.unreleased, s.synced, s.reach up, up) refl;
    }

    pub saw_closing : (end_in x).state ≡ Closing → Wrote x y (far_entry side n ∷ []) (desk_end (end_in x))
    saw_closing closing = record {
      side = same;
      lane = s.lane;
      rests = far_rests (λ e. out_not_closing (sym e ∙ closing));
      log = far_log;
      desk = rw (s.state, s.laid, s.unreleased, s.synced, closing) refl;
    }

  -- PACKETS

  put_known : (state : EndState) (n : ℕ) → state ≡ Up → known_by state (n - 1) ≡ known_by state n - 1
  put_known state n up = rw up refl

  pub put : (packet : PacketState) → (end_in x).state ≡ Up → end_in y ≡ publishes (lays packet (end_in x))
      → Wrote x y (Put (end_in x).place (raised packet ∷ []) ∷ []) (all_published (with_laid packet (desk_end (end_in x))))
  put packet up step =
      let e : LaneEnd = publishes (lays packet (end_in x)) in
      wrote e (Put (end_in x).place (raised packet ∷ []) ∷ []) (all_published (with_laid packet (desk_end (end_in x)))) step refl
      (resting e step refl refl refl r.released (λ s. up_not_out (sym up ∙ s)) r.synced r.closes) refl
      (ap (λ n. record (all_published (with_laid packet (desk_end (end_in x)))) { known = n })
      (put_known (end_in x).state (reach_of (end_in x)) up))

  pub took : (packet : PacketState) → (end_in x).state ≡ Up → end_in y ≡ releases (takes_out packet (end_in x))
      → Wrote x y (Take (end_in x).place (packet ∷ []) ∷ []) (all_released (with_taken (desk_end (end_in x))))
  took packet up step =
      let e : LaneEnd = releases (takes_out packet (end_in x)) in
      wrote e (Take (end_in x).place (packet ∷ []) ∷ []) (all_released (with_taken (desk_end (end_in x)))) step refl
      (resting e step refl refl r.laid refl (λ s. up_not_out (sym up ∙ s)) r.synced r.closes) refl
      (ap (λ n. record (all_released (with_taken (desk_end (end_in x)))) { known = n })
      (put_known (end_in x).state (reach_of (end_in x)) up))

  pub drained : (packet : PacketState) → (end_in x).state ≡ Closing → end_in y ≡ releases (drains_out packet (end_in x))
      → Wrote x y (Drain (end_in x).place (with_bytes [] packet ∷ []) ∷ []) (closing_end 0)
  drained packet closing step =
      let e : LaneEnd = releases (drains_out packet (end_in x)) in
      wrote e (Drain (end_in x).place (packet ∷ []) ∷ []) (closing_end 0) step refl
      (resting e step refl refl r.laid refl (λ s. out_not_closing (sym s ∙ closing)) r.synced r.closes) refl
      (rw (closing, r.laid, r.closes closing) refl)

  pub reset : (end_in x).state ≡ Closing → end_in y ≡ sets_free (end_in x) → Wrote x y (Reset ∷ []) out_end
  reset closing step =
      let e : LaneEnd = sets_free (end_in x) in
      wrote e (Reset ∷ []) out_end step refl
      (resting e step refl r.half r.laid r.released (λ s. refl) (λ s. up_not_out (sym s)) (λ s. out_not_closing s)) refl
      (rw (r.laid, r.released) refl)
