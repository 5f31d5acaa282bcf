-- Each step is the core's event on the lane that is read off.
use Rattle.std.proofs.Common.{◌≡◌, ◌≢◌, ◌<◌, ◌≤◌, ℕ, zero, suc, ◌+◌, ◌-◌, ◌%◌, ◌^◌, Bool, true, false, not, ◌&&◌, Option, List, [], ◌∷◌, ◌++◌, map, length, drop, Some, None, refl, sym, ap, ap₂, ◌∙◌, subst, arith, slice_get}
use Rattle.std.specs.Prelude.{option_and_then, nat_lt, unwrap_or}
use Rattle.std.proofs.lemmas.Bool.{lt-ltb}
use Rattle.std.proofs.lemmas.List.{length-append, length-drop}
use Rattle.atomic_table.specs.Table.{State}
use Rattle.sn_core.specs.declared.events.Side.{Side}
use Rattle.sn_core.specs.declared.events.Side.TheVariants.{Tx, Rx}
use Rattle.sn_core.specs.declared.events.Event.{Event}
use Rattle.sn_core.specs.declared.events.Event.TheVariants as events
use Rattle.sn_core.specs.Lane.{LaneState, can_attach, attached, can_detach, detached, can_reset, was_reset, can_take, can_release, can_drain, can_drain_release, can_lay, with_laid, has_laid, taken_back}
use Rattle.sn_core.specs.Lane as lanes
use Rattle.sn_core.specs.Core.{Core, with_lane, lane_step, when}
use Rattle.sn_packet.specs.Packet.{PacketState}
use Rattle.sn_interlink.specs.declared.view.Hand.TheVariants.{Nothing, Writing, Reading}
use Rattle.sn_interlink.specs.declared.view.Known.{Known}
use Rattle.sn_interlink.specs.declared.view.View.{View}
use Rattle.sn_interlink.specs.Course.{Status, up, closing, Course, other, mine, is_closing, is_on, is_down, came_word, unit, looks, attaches, misses, detaches, resets, sees, rooms, puts, takes, drains, after, History, course, Sane}
use Rattle.sn_interlink.specs.Rule.{Lying, lies_in, Ends, of_side, with_side, parted, Meets}
use Rattle.sn_interlink.specs.Moves.{Half, idle, laid, taken, out_of, moved, stayed}
use Rattle.sn_interlink.specs.Plays.{own_of, packet_of, room_by, look_deed, looked_at, came_up, missed, went, freed, synced_at, roomed, far_roomed, saw, published, released, drained}
use Rattle.sn_interlink.specs.Reading.{slot_at}
use Rattle.sn_interlink.specs.StepLaws.{MayBe, Scene, outs_by, lane_by, Follows, LookLaw, AttachLaw, MissLaw, DetachLaw, ResetLaw, SyncLaw, RoomLaw, FarRoomLaw, SeeLaw, TakeLaw, ReleaseLaw, LayLaw, TakeBackLaw, PublishLaw, DrainTakeLaw, DrainReleaseLaw}
use Rattle.sn_interlink.specs.Rule.{ReadsAt, PlaceOk, first_of, MayRead, HandOk}
use Rattle.sn_interlink.specs.declared.view.Hand.{Hand}
use Rattle.sn_interlink.proofs.Hands.{side_differs, on_up, closes, tx_alone, rx_alone}
use Rattle.sn_core.specs.Seat.{SeatState, turn_of, has_claimed, with_packet, without_packet, handed_over}
use Rattle.sn_core.specs.Core.{with_seat, take_first, may_hand_over}
use Rattle.sn_core.specs.declared.parts.Packet.{Packet}
use Rattle.sn_core.specs.Lane.{first_filled, emptied_by}
use Rattle.sn_interlink.specs.Reading.{tag}
use Rattle.sn_interlink.proofs.Machine.{sane, down_is, on_if_closing, drop_first}
use Rattle.sn_interlink.proofs.Effects.{own_fits}
use Rattle.sn_interlink.proofs.StateSteps.{look_same, look_left, attach_left, miss_left, detach_left, reset_left}
use Rattle.sn_interlink.proofs.RingSteps.{sync_left, room_left, own_tx, far_room_left, see_left, put_left, take_left, drain_left}
use Rattle.sn_interlink.proofs.Steps.{up_if, closing_if, away_if, word_at, put_at, read_at}
use Rattle.sn_interlink.proofs.LaneEvents.{IsEvent, lifted, attach_event, detach_event, closes_now, reset_event, taken_first, next_there, taken_lane, release_event, one_unreleased}
use Rattle.sn_interlink.proofs.ReadOff.{value_rest, taken_there, filled, field_as, laid_by, count, core_of, Placed, placed, tx_mark, rx_mark, lane_for, reads_by}

own_set : (side : Side) (w : Known) (k : Ends) → of_side side (with_side side w k) ≡ w
own_set Tx w k = refl
own_set Rx w k = refl

far_set : (side : Side) (w : Known) (k : Ends) → of_side (other side) (with_side side w k) ≡ of_side (other side) k
far_set Tx w k = refl
far_set Rx w k = refl

-- what is read before a step, and after it
pub before : (t r : ℕ) (s : State Lying View) (side : Side) (v : Known) (x : Half) (u : Known) (y : Half) (scene : Scene s side v x u y) (p : Placed s side v u) → lane_by t r s side v x u y ≡ lane_for t r (course p.hist) side x y
before t r s side v x u y scene p =
    ap₂ (λ a b. lane_by t r s side a x b y) (sym p.own) (sym p.far)
    ∙ reads_by t r s p.hist p.k side x y p.meets (subst (λ a. MayBe a.hand x) (sym p.own) scene.mine) (subst (λ a. MayBe a.hand y) (sym p.far) scene.others)

later : (t r : ℕ) (s' : State Lying View) (hist : History) (k : Ends) (side : Side) (w : Known) (x : Half) (u : Known) (y : Half) → Meets s' hist parted (with_side side w k) → of_side (other side) k ≡ u → MayBe w.hand x → MayBe u.hand y
    → lane_by t r s' side w x u y ≡ lane_for t r (course hist) side x y
later t r s' hist k side w x u y m far may_x may_y =
    ap₂ (λ a b. lane_by t r s' side a x b y) (sym (own_set side w k)) (sym (far_set side w k ∙ far))
    ∙ reads_by t r s' hist (with_side side w k) side x y m (subst (λ a. MayBe a.hand x) (sym (own_set side w k)) may_x) (subst (λ a. MayBe a.hand y) (sym (far_set side w k ∙ far)) may_y)

-- LOADS

pub look_law : LookLaw
look_law t r s side v x u y n scene is_n =
    let p = placed s side v x u y scene in
    subst (λ a. lane_by t r (stayed s 0 n side a x (looked_at n a)) side (looked_at n a) x u y ≡ lane_by t r s side a x u y) p.own
    (later t r (stayed s 0 n side (of_side side p.k) x (looked_at n (of_side side p.k))) ((side, look_deed n) ∷ p.hist) p.k side (looked_at n (of_side side p.k)) x u y
    (look_left s p.hist p.k side x n p.meets is_n) p.far (subst (λ a. MayBe a.hand x) (sym p.own) scene.mine) scene.others
    ∙ ap (λ c. lane_for t r c side x y) (look_same (is_down n) side n (course p.hist))
    ∙ sym (before t r s side v x u y scene p) ∙ ap (λ a. lane_by t r s side a x u y) (sym p.own))

-- an event that is known on the machine's side
follows : (can : LaneState → Bool) (change : LaneState → LaneState) (event : ℕ → Event) (old new mid end : LaneState) → ((core : Core) (l : ℕ) → Rattle.sn_core.specs.Core.after core (event l) ≡ lane_step core l can change)
    → old ≡ mid → new ≡ end → IsEvent can change mid end → Follows event old new
follows can change event old new mid end is a b e core l at = is core l ∙ lifted can change old new core l (subst (λ (x : LaneState × LaneState). IsEvent can change x.0 x.1) (λ i. (sym a i, sym b i)) e) at

-- what is read before a step of an end of the table
before_own : (t r : ℕ) (s : State Lying View) (side : Side) (v : Known) (x : Half) (u : Known) (y : Half) → Scene s side v x u y → (p : Placed s side v u) → lane_by t r s side (of_side side p.k) x u y ≡ lane_for t r (course p.hist) side x y
before_own t r s side v x u y scene p = ap (λ a. lane_by t r s side a x u y) p.own ∙ before t r s side v x u y scene p

state_own : (s : State Lying View) (side : Side) (v u : Known) (p : Placed s side v u) → (of_side side p.k).state ≡ v.state
state_own s side v u p = ap (λ a. a.state) p.own

pub hand_far : (s : State Lying View) (side : Side) (v : Known) (x : Half) (u : Known) (y : Half) → Scene s side v x u y → (p : Placed s side v u) → MayBe (of_side (other side) p.k).hand y
hand_far s side v x u y scene p = subst (λ a. MayBe a.hand y) (sym p.far) scene.others

pub hand_own : (s : State Lying View) (side : Side) (v : Known) (x : Half) (u : Known) (y : Half) → Scene s side v x u y → (p : Placed s side v u) → MayBe (of_side side p.k).hand x
hand_own s side v x u y scene p = subst (λ a. MayBe a.hand x) (sym p.own) scene.mine

-- MARKS THAT CAN'T BE

no_take_beside : (h : Hand) (c : Course) (y : Half) → Sane c → HandOk Tx h c → MayBe h y → is_on c.rx ≡ true → count y ≡ 0
no_take_beside h c idle s ok may on = refl
no_take_beside h c (laid p) s ok may on = refl
no_take_beside Nothing c taken s ok may on = absurd may
no_take_beside (Writing a b) c taken s ok may on = absurd may
no_take_beside (Reading a b z) c taken s ok may on = absurd (tx_alone c s ok.reads on)

nothing_taken : (side : Side) (h : Hand) (c : Course) (y : Half) → HandOk side h c → MayBe h y → c.read ≡ length c.puts → count y ≡ 0
nothing_taken side h c idle ok may e = refl
nothing_taken side h c (laid p) ok may e = refl
nothing_taken side h c taken ok may e = absurd (let l = taken_there side h c taken ok may refl in omega (arith, l, e))

nothing_laid : (h : Hand) (c : Course) (y : Half) → Sane c → HandOk Tx h c → MayBe h y → is_closing c.rx ≡ true → laid_by y ≡ []
nothing_laid h c idle s ok may e = refl
nothing_laid Nothing c (laid p) s ok may e = absurd may
nothing_laid (Writing a b) c (laid p) s ok may e = absurd (rx_alone c s e (on_up c.tx ok.is_there))
nothing_laid (Reading a b z) c (laid p) s ok may e = absurd may
nothing_laid h c taken s ok may e = refl

-- THE STATE WORD

pub miss_law : MissLaw
miss_law t r s side v u y seen n scene out is_n open_yet differ =
    let p = placed s side v idle u y scene in
    subst (λ a. lane_by t r (stayed s 0 n side a idle (missed seen n a)) side (missed seen n a) idle u y ≡ lane_by t r s side a idle u y) p.own
    (later t r (stayed s 0 n side (of_side side p.k) idle (missed seen n (of_side side p.k))) ((side, misses seen n) ∷ p.hist) p.k side (missed seen n (of_side side p.k)) idle u y
    (miss_left s p.hist p.k side seen n p.meets (state_own s side v u p ∙ out) is_n open_yet differ) p.far tt scene.others
    ∙ sym (before_own t r s side v idle u y scene p))

pub attach_law : AttachLaw
attach_law t r s side v u y n scene out is_n open_yet =
    let p = placed s side v idle u y scene in
    let c : Course = course p.hist in
    let clean = sane p.hist p.meets.legal in
    let f = own_fits s p.hist parted p.k side p.meets in
    let left = attach_left s p.hist p.k side n p.meets (state_own s side v u p ∙ out) is_n open_yet in
    let found = sym is_n ∙ word_at s p.hist parted p.k p.meets in
    subst (λ a. Follows (λ l. events.Attach l side) (lane_by t r s side a idle u y) (lane_by t r (moved s 0 (came_word side n) side a idle (came_up side n a)) side (came_up side n a) idle u y)) p.own
    (follows (can_attach side) (attached side) (λ l. events.Attach l side) _ _ _ _ (λ core l. refl)
    (before_own t r s side v idle u y scene p)
    (later t r (moved s 0 (came_word side n) side (of_side side p.k) idle (came_up side n (of_side side p.k))) ((side, attaches n) ∷ p.hist) p.k side (came_up side n (of_side side p.k)) idle u y left.meets p.far tt scene.others)
    (attach_event side t r c (laid_by (tx_mark side idle y)) (count (tx_mark side idle y) + count (rx_mark side idle y)) clean
    (away_if (mine side c) (sym f.state ∙ state_own s side v u p ∙ out)) (sym (down_is c clean) ∙ ap is_down (sym found) ∙ open_yet)))

pub detach_law : DetachLaw
detach_law t r s side v u y n scene is_state is_n =
    let p = placed s side v idle u y scene in
    let c : Course = course p.hist in
    let clean = sane p.hist p.meets.legal in
    let f = own_fits s p.hist parted p.k side p.meets in
    let left = detach_left s p.hist p.k side n p.meets (state_own s side v u p ∙ is_state) is_n in
    let now : mine side c ≡ up = up_if (mine side c) (sym f.state ∙ state_own s side v u p ∙ is_state) in
    subst (λ a. Follows (λ l. events.Detach l side) (lane_by t r s side a idle u y) (lane_by t r (moved s 0 ((n + unit side) % 2 ^ 64) side a idle (went side n a)) side (went side n a) idle u y)) p.own
    (follows (can_detach side) (detached side) (λ l. events.Detach l side) _ _ _ _ (λ core l. refl)
    (before_own t r s side v idle u y scene p)
    (later t r (moved s 0 ((n + unit side) % 2 ^ 64) side (of_side side p.k) idle (went side n (of_side side p.k))) ((side, detaches n) ∷ p.hist) p.k side (went side n (of_side side p.k)) idle u y left.meets p.far tt scene.others)
    (detach_event side t r c (laid_by (tx_mark side idle y)) (count (tx_mark side idle y) + count (rx_mark side idle y)) clean now (λ e. ap (λ x. laid_by (tx_mark x idle y)) e) (no_take s side v u y scene p clean now)))
  where
    no_take : (s : State Lying View) (side : Side) (v u : Known) (y : Half) (scene : Scene s side v idle u y) (p : Placed s side v u) → Sane (course p.hist) → mine side (course p.hist) ≡ up → side ≡ Rx → count (tx_mark side idle y) + count (rx_mark side idle y) ≡ 0
    no_take s Tx v u y scene p clean now e = absurd (side_differs e)
    no_take s Rx v u y scene p clean now e = let z = no_take_beside p.k.tx.hand (course p.hist) y clean p.meets.tx.hand (hand_far s Rx v idle u y scene p) (on_up (course p.hist).rx now) in omega (arith, z)

pub reset_law : ResetLaw
reset_law t r s side v u y first lying scene is_state hand_is =
    let p = placed s side v idle u y scene in
    let c : Course = course p.hist in
    let clean = sane p.hist p.meets.legal in
    let f = own_fits s p.hist parted p.k side p.meets in
    let own_hand : (of_side side p.k).hand ≡ Reading first first lying = ap (λ a. a.hand) p.own ∙ hand_is in
    let left = reset_left s p.hist p.k side p.meets (state_own s side v u p ∙ is_state) (record { first = first; lying = lying; hand = own_hand }) in
    let now : mine side c ≡ closing = closing_if (mine side c) (sym f.state ∙ state_own s side v u p ∙ is_state) in
    let reads : MayRead c side first first lying = subst (λ h. HandOk side h c) own_hand f.hand in
    let empty : c.read ≡ length c.puts = sym reads.next ∙ reads.ended now in
    let none = nothing s side v u y scene p clean now empty in
    subst (λ a. Follows (λ l. events.Reset l side) (lane_by t r s side a idle u y) (lane_by t r (moved s 0 0 side a idle (freed side a)) side (freed side a) idle u y)) p.own
    (follows (can_reset side) was_reset (λ l. events.Reset l side) _ _ _ _ (λ core l. refl)
    (before_own t r s side v idle u y scene p ∙ ap₂ (core_of t r c) none.0 none.1)
    (later t r (moved s 0 0 side (of_side side p.k) idle (freed side (of_side side p.k))) ((side, resets) ∷ p.hist) p.k side (freed side (of_side side p.k)) idle u y left.meets p.far tt scene.others
    ∙ ap₂ (core_of t r (after side resets c)) none.0 none.1)
    (reset_event side t r c clean now empty))
  where
    nothing : (s : State Lying View) (side : Side) (v u : Known) (y : Half) (scene : Scene s side v idle u y) (p : Placed s side v u) → Sane (course p.hist) → mine side (course p.hist) ≡ closing → (course p.hist).read ≡ length (course p.hist).puts
        → (laid_by (tx_mark side idle y) ≡ []) × (count (tx_mark side idle y) + count (rx_mark side idle y) ≡ 0)
    nothing s Tx v u y scene p clean now empty =
        (refl, let z = nothing_taken Rx p.k.rx.hand (course p.hist) y p.meets.rx.hand (hand_far s Tx v idle u y scene p) empty in omega (arith, z))
    nothing s Rx v u y scene p clean now empty = (
      nothing_laid p.k.tx.hand (course p.hist) y clean p.meets.tx.hand (hand_far s Rx v idle u y scene p) (closes (course p.hist).rx now),
      let z = nothing_taken Tx p.k.tx.hand (course p.hist) y p.meets.tx.hand (hand_far s Rx v idle u y scene p) empty in omega (arith, z),
    )

-- LOADS OF THE RING'S WORDS

pub sync_law : SyncLaw
sync_law t r s v x u y n scene is_state is_n =
    let p = placed s Rx v x u y scene in
    subst (λ a. lane_by t r (stayed s 2 n Rx a x (synced_at n a)) Rx (synced_at n a) x u y ≡ lane_by t r s Rx a x u y) p.own
    (later t r (stayed s 2 n Rx p.k.rx x (synced_at n p.k.rx)) ((Rx, looks) ∷ p.hist) p.k Rx (synced_at n p.k.rx) x u y
    (sync_left s p.hist p.k x n p.meets (state_own s Rx v u p ∙ is_state) is_n) p.far (hand_own s Rx v x u y scene p) scene.others
    ∙ sym (before_own t r s Rx v x u y scene p))

pub room_law : RoomLaw
room_law t r s v u y n scene is_state is_n =
    let p = placed s Tx v idle u y scene in
    let left = room_left s p.hist p.k n p.meets (state_own s Tx v u p ∙ is_state) is_n in
    subst (λ a. lane_by t r (moved s 2 n Tx a idle (roomed n a)) Tx (roomed n a) idle u y ≡ lane_by t r s Tx a idle u y) p.own
    (later t r (moved s 2 n Tx p.k.tx idle (roomed n p.k.tx)) ((Tx, rooms (room_by (own_of p.k.tx) n)) ∷ p.hist) p.k Tx (roomed n p.k.tx) idle u y left.meets p.far tt scene.others
    ∙ sym (before_own t r s Tx v idle u y scene p))

-- what lies in a slot, by side
value_by : (s : State Lying View) (hist : History) (k : Ends) (side : Side) (x y : Half) → Meets s hist parted k → MayBe (of_side side k).hand x → MayBe (of_side (other side) k).hand y
    → (q : ℕ) → (course hist).read ≤ q → q < length (course hist).puts → (count x ≡ 1 → q ≢ (course hist).read) → (count y ≡ 1 → q ≢ (course hist).read)
    → slot_at s.homes (outs_by side (out_of (of_side side k).hand x) (out_of (of_side (other side) k).hand y)) (q % 1024) ≡ slice_get (course hist).puts q
value_by s hist k Tx x y m mx my q from lt ax ay = value_rest s hist k x y m mx my q from lt ax ay
value_by s hist k Rx x y m mx my q from lt ax ay = value_rest s hist k y x m my mx q from lt ay ax

-- the same for the scene's ends
value_at : (s : State Lying View) (side : Side) (v : Known) (x : Half) (u : Known) (y : Half) (scene : Scene s side v x u y) (p : Placed s side v u)
    → (q : ℕ) → (course p.hist).read ≤ q → q < length (course p.hist).puts → (count x ≡ 1 → q ≢ (course p.hist).read) → (count y ≡ 1 → q ≢ (course p.hist).read)
    → slot_at s.homes (outs_by side (out_of v.hand x) (out_of u.hand y)) (q % 1024) ≡ slice_get (course p.hist).puts q
value_at s side v x u y scene p q from lt ax ay =
    ap₂ (λ a b. slot_at s.homes (outs_by side (out_of a.hand x) (out_of b.hand y)) (q % 1024)) (sym p.own) (sym p.far)
    ∙ value_by s p.hist p.k side x y p.meets (hand_own s side v x u y scene p) (hand_far s side v x u y scene p) q from lt ax ay

no_take_rx : (h : Hand) (c : Course) (y : Half) → Sane c → HandOk Rx h c → MayBe h y → is_closing c.tx ≡ true → count y ≡ 0
no_take_rx h c idle s ok may e = refl
no_take_rx h c (laid p) s ok may e = refl
no_take_rx Nothing c taken s ok may e = absurd may
no_take_rx (Writing a b) c taken s ok may e = absurd may
no_take_rx (Reading a b z) c taken s ok may e = absurd (tx_alone c s e ok.reads)

pub far_room_law : FarRoomLaw
far_room_law t r s v u y n scene is_state is_n =
    let p = placed s Tx v idle u y scene in
    let c : Course = course p.hist in
    let clean = sane p.hist p.meets.legal in
    let now : c.tx ≡ closing = closing_if c.tx (sym p.meets.tx.state ∙ state_own s Tx v u p ∙ is_state) in
    let found : n ≡ c.read = sym is_n ∙ read_at s p.hist parted p.k p.meets in
    let none = no_take_rx p.k.rx.hand c y clean p.meets.rx.hand (hand_far s Tx v idle u y scene p) (closes c.tx now) in
    let own = own_tx s p.hist p.k p.meets in
    let z : Lying = slot_at s.homes (outs_by Tx (out_of v.hand idle) (out_of u.hand y)) (n % 1024) in
    let left = far_room_left s p.hist p.k n z p.meets (state_own s Tx v u p ∙ is_state) is_n
    (λ lt. value_at s Tx v idle u y scene p n (omega (arith, found)) (omega (arith, lt, own)) (λ e. absurd (omega (arith, e))) (λ e. absurd (omega (arith, e, none)))) in
    subst (λ a. lane_by t r (moved s 2 n Tx a idle (far_roomed n z a)) Tx (far_roomed n z a) idle u y ≡ lane_by t r s Tx a idle u y) p.own
    (later t r (moved s 2 n Tx p.k.tx idle (far_roomed n z p.k.tx)) ((Tx, rooms (room_by (own_of p.k.tx) n)) ∷ p.hist) p.k Tx (far_roomed n z p.k.tx) idle u y left.meets p.far tt scene.others
    ∙ sym (before_own t r s Tx v idle u y scene p))

pub see_law : SeeLaw
see_law t r s v u y n own scene place_is is_n =
    let p = placed s Rx v idle u y scene in
    let c : Course = course p.hist in
    let clean = sane p.hist p.meets.legal in
    let place_own : p.k.rx.place ≡ Some own = ap (λ a. a.place) p.own ∙ place_is in
    let at : ReadsAt own c = subst (λ o. PlaceOk Rx o c) place_own p.meets.rx.place in
    let here = at.here in
    let found : n ≡ length c.puts = sym is_n ∙ put_at s p.hist parted p.k p.meets in
    let none = no_take_beside p.k.tx.hand c y clean p.meets.tx.hand (hand_far s Rx v idle u y scene p) at.is_there in
    let z : Lying = slot_at s.homes (outs_by Rx (out_of v.hand idle) (out_of u.hand y)) (own % 1024) in
    let left = see_left s p.hist p.k n own z p.meets place_own is_n
    (λ lt. value_at s Rx v idle u y scene p own (omega (arith, here)) (omega (arith, lt, found)) (λ e. absurd (omega (arith, e))) (λ e. absurd (omega (arith, e, none)))) in
    subst (λ a. lane_by t r (moved s 1 n Rx a idle (saw n z a)) Rx (saw n z a) idle u y ≡ lane_by t r s Rx a idle u y) p.own
    (later t r (moved s 1 n Rx p.k.rx idle (saw n z p.k.rx)) ((Rx, sees (n - own_of p.k.rx)) ∷ p.hist) p.k Rx (saw n z p.k.rx) idle u y left.meets p.far tt scene.others
    ∙ sym (before_own t r s Rx v idle u y scene p))

-- TAKING

lifted_take : (side : Side) (can : LaneState → Bool) (old new : LaneState) (core : Core) (l : ℕ) (seat : SeatState) (packet : Packet) → slice_get core.lanes l ≡ Some old → first_filled old.queue ≡ Some packet
    → slice_get core.seats (lanes.seat_of side old) ≡ Some seat → can old ≡ true → lanes.taken old ≡ new
    → take_first core l side can ≡ Some (with_seat (with_lane core l new) (lanes.seat_of side old) (with_packet packet seat))
lifted_take side can old new core l seat packet at first there enabled becomes =
    ap (λ o. option_and_then (λ lane. option_and_then (λ q. option_and_then (λ st. when (can lane) (with_seat (with_lane core l (lanes.taken lane)) (lanes.seat_of side lane) (with_packet q st))) (slice_get core.seats (lanes.seat_of side lane))) (first_filled lane.queue)) o) at
    ∙ ap (λ o. option_and_then (λ q. option_and_then (λ st. when (can old) (with_seat (with_lane core l (lanes.taken old)) (lanes.seat_of side old) (with_packet q st))) (slice_get core.seats (lanes.seat_of side old))) o) first
    ∙ ap (λ o. option_and_then (λ st. when (can old) (with_seat (with_lane core l (lanes.taken old)) (lanes.seat_of side old) (with_packet packet st))) o) there
    ∙ ap₂ (λ b x. when b (with_seat (with_lane core l x) (lanes.seat_of side old) (with_packet packet seat))) enabled becomes

next_packet : (side : Side) (h : Hand) (c : Course) (p : PacketState) → HandOk side h c → MayBe h taken → lies_in h ≡ Some p → slice_get c.puts c.read ≡ Some p
next_packet side Nothing c p ok may e = absurd may
next_packet side (Writing a b) c p ok may e = absurd may
next_packet side (Reading a b z) c p ok may e = ap (slice_get c.puts) (sym ok.next) ∙ sym (ok.what may) ∙ e

-- the lane before and after a taking
lane_idle : (t r : ℕ) (c : Course) (side : Side) (y : Half) → count y ≡ 0 → lane_for t r c side idle y ≡ core_of t r c (laid_by (tx_mark side idle y)) 0
lane_idle t r c Tx y e = let z : 0 + count y ≡ 0 = omega (arith, e) in ap (core_of t r c []) z
lane_idle t r c Rx y e = let z : count y + 0 ≡ 0 = omega (arith, e) in ap (core_of t r c (laid_by y)) z

lane_taken : (t r : ℕ) (c : Course) (side : Side) (y : Half) → count y ≡ 0 → lane_for t r c side taken y ≡ core_of t r c (laid_by (tx_mark side idle y)) 1
lane_taken t r c Tx y e = let z : 1 + count y ≡ 1 = omega (arith, e) in ap (core_of t r c []) z
lane_taken t r c Rx y e = let z : count y + 1 ≡ 1 = omega (arith, e) in ap (core_of t r c (laid_by y)) z

take_any : (t r : ℕ) (s : State Lying View) (side : Side) (v u : Known) (y : Half) (packet : PacketState) (can : LaneState → Bool) (scene : Scene s side v idle u y) (p : Placed s side v u) → MayBe v.hand taken → lies_in v.hand ≡ Some packet → count y ≡ 0
    → can (core_of t r (course p.hist) (laid_by (tx_mark side idle y)) 0) ≡ true → (core : Core) (l : ℕ) (seat : SeatState) → slice_get core.lanes l ≡ Some (lane_by t r s side v idle u y) → slice_get core.seats (lanes.seat_of side (lane_by t r s side v idle u y)) ≡ Some seat
    → take_first core l side can ≡ Some (with_seat (with_lane core l (lane_by t r s side v taken u y)) (lanes.seat_of side (lane_by t r s side v idle u y)) (with_packet (tag packet) seat))
take_any t r s side v u y packet can scene p may lies none enabled core l seat at there =
    let c : Course = course p.hist in
    let f = own_fits s p.hist parted p.k side p.meets in
    let e0 = before t r s side v idle u y scene p ∙ lane_idle t r c side y none in
    let e1 = before t r s side v taken u y (record { rule = scene.rule; views = scene.views; mine = may; others = scene.others }) p ∙ lane_taken t r c side y none in
    let got : slice_get c.puts c.read ≡ Some packet = next_packet side (of_side side p.k).hand c packet f.hand (subst (λ a. MayBe a.hand taken) (sym p.own) may) (ap (λ a. lies_in a.hand) p.own ∙ lies) in
    let first : drop c.read c.puts ≡ packet ∷ drop (suc c.read) c.puts = drop_first c.puts c.read packet got in
    lifted_take side can (lane_by t r s side v idle u y) (lane_by t r s side v taken u y) core l seat (tag packet) at
    (ap (λ x. first_filled x.queue) e0 ∙ taken_first c.puts c.read packet (drop (suc c.read) c.puts) first) there (ap can e0 ∙ enabled)
    (ap lanes.taken e0 ∙ taken_lane t r c (laid_by (tx_mark side idle y)) packet (drop (suc c.read) c.puts) first ∙ sym e1)

up_field : (s : Status) → s ≡ up → lanes.is_up (field_as s) ≡ true
up_field s e = ap (λ x. lanes.is_up (field_as x)) e

pub take_law : TakeLaw
take_law t r s v u y packet scene is_state may lies core l seat at there =
    let p = placed s Rx v idle u y scene in
    let c : Course = course p.hist in
    let clean = sane p.hist p.meets.legal in
    let now : c.rx ≡ up = up_if c.rx (sym p.meets.rx.state ∙ state_own s Rx v u p ∙ is_state) in
    let none = no_take_beside p.k.tx.hand c y clean p.meets.tx.hand (hand_far s Rx v idle u y scene p) (on_up c.rx now) in
    let got = next_packet Rx p.k.rx.hand c packet p.meets.rx.hand (subst (λ a. MayBe a.hand taken) (sym p.own) may) (ap (λ a. lies_in a.hand) p.own ∙ lies) in
    take_any t r s Rx v u y packet can_take scene p may lies none
    (ap₂ (λ a b. a && b) (up_field c.rx now) (next_there c.puts c.read packet (drop (suc c.read) c.puts) (drop_first c.puts c.read packet got))) core l seat at there

-- the other end took nothing, where this one closes
none_beside : (s : State Lying View) (side : Side) (v : Known) (x : Half) (u : Known) (y : Half) (scene : Scene s side v x u y) (p : Placed s side v u) → mine side (course p.hist) ≡ closing → count y ≡ 0
none_beside s Tx v x u y scene p now = no_take_rx p.k.rx.hand (course p.hist) y (sane p.hist p.meets.legal) p.meets.rx.hand (hand_far s Tx v x u y scene p) (closes (course p.hist).tx now)
none_beside s Rx v x u y scene p now = no_take_beside p.k.tx.hand (course p.hist) y (sane p.hist p.meets.legal) p.meets.tx.hand (hand_far s Rx v x u y scene p) (on_if_closing (course p.hist).rx (closes (course p.hist).rx now))

own_side : (side : Side) → lanes.is_side side (Some side) ≡ true
own_side Tx = refl
own_side Rx = refl

pub drain_take_law : DrainTakeLaw
drain_take_law t r s side v u y packet scene is_state may lies core l seat at there =
    let p = placed s side v idle u y scene in
    let c : Course = course p.hist in
    let clean = sane p.hist p.meets.legal in
    let f = own_fits s p.hist parted p.k side p.meets in
    let now : mine side c ≡ closing = closing_if (mine side c) (sym f.state ∙ state_own s side v u p ∙ is_state) in
    let got = next_packet side (of_side side p.k).hand c packet f.hand (subst (λ a. MayBe a.hand taken) (sym p.own) may) (ap (λ a. lies_in a.hand) p.own ∙ lies) in
    take_any t r s side v u y packet (can_drain side) scene p may lies (none_beside s side v idle u y scene p now)
    (ap₂ (λ a b. lanes.is_side side a && b) (closes_now side c clean now) (next_there c.puts c.read packet (drop (suc c.read) c.puts) (drop_first c.puts c.read packet got)) ∙ ap (λ b. b && true) (own_side side)) core l seat at there

-- RELEASING

-- what follows the packet that was taken
first_read : (c : Course) (p : PacketState) → slice_get c.puts c.read ≡ Some p → drop c.read c.puts ≡ p ∷ drop (c.read + 1) c.puts
first_read c p e = drop_first c.puts c.read p e ∙ (let n : suc c.read ≡ c.read + 1 = omega arith in ap (λ m. p ∷ drop m c.puts) n)

pub release_law : ReleaseLaw
release_law t r s v u y first bound packet scene is_state hand_is =
    let p = placed s Rx v taken u y scene in
    let c : Course = course p.hist in
    let clean = sane p.hist p.meets.legal in
    let now : c.rx ≡ up = up_if c.rx (sym p.meets.rx.state ∙ state_own s Rx v u p ∙ is_state) in
    let none = no_take_beside p.k.tx.hand c y clean p.meets.tx.hand (hand_far s Rx v taken u y scene p) (on_up c.rx now) in
    let own_hand : p.k.rx.hand ≡ Reading first bound (Some packet) = ap (λ a. a.hand) p.own ∙ hand_is in
    let may : first < bound = subst (λ h. MayBe h taken) hand_is scene.mine in
    let ok : MayRead c Rx first bound (Some packet) = subst (λ h. HandOk Rx h c) own_hand p.meets.rx.hand in
    let next = ok.next in
    let most = ok.most in
    let z : Lying = slot_at s.homes (outs_by Rx (out_of v.hand taken) (out_of u.hand y)) ((first + 1) % 1024) in
    let left = take_left s p.hist p.k first bound packet z p.meets (state_own s Rx v u p ∙ is_state) own_hand may
    (λ lt. value_at s Rx v taken u y scene p (first + 1) (omega (arith, next)) (omega (arith, lt, most)) (λ e f. omega (arith, f, next)) (λ e f. omega (arith, f, next))) in
    let got : slice_get c.puts c.read ≡ Some packet = ap (slice_get c.puts) (sym next) ∙ sym (ok.what may) in
    let line = first_read c packet got in
    subst (λ a. Follows (λ l. events.Release l) (lane_by t r s Rx a taken u y) (lane_by t r (moved s 2 (first + 1) Rx a taken (released z a)) Rx (released z a) idle u y)) p.own
    (follows can_release lanes.released (λ l. events.Release l) _ _ _ _ (λ core l. refl)
    (before_own t r s Rx v taken u y scene p ∙ lane_taken t r c Rx y none)
    (later t r (moved s 2 (first + 1) Rx p.k.rx taken (released z p.k.rx)) ((Rx, takes (first_of p.k.rx.hand) (packet_of (lies_in p.k.rx.hand) ∷ [])) ∷ p.hist) p.k Rx (released z p.k.rx) idle u y left.meets p.far tt scene.others
    ∙ lane_idle t r (record { tx = c.tx; rx = c.rx; puts = c.puts; read = c.read + 1 }) Rx y none)
    (release_event can_release t r c (laid_by y) packet line (ap₂ (λ a b. a && b) (up_field c.rx now) (one_unreleased c packet line))))

pub drain_release_law : DrainReleaseLaw
drain_release_law t r s side v u y first bound packet scene is_state hand_is =
    let p = placed s side v taken u y scene in
    let c : Course = course p.hist in
    let clean = sane p.hist p.meets.legal in
    let f = own_fits s p.hist parted p.k side p.meets in
    let now : mine side c ≡ closing = closing_if (mine side c) (sym f.state ∙ state_own s side v u p ∙ is_state) in
    let none = none_beside s side v taken u y scene p now in
    let own_hand : (of_side side p.k).hand ≡ Reading first bound (Some packet) = ap (λ a. a.hand) p.own ∙ hand_is in
    let may : first < bound = subst (λ h. MayBe h taken) hand_is scene.mine in
    let ok : MayRead c side first bound (Some packet) = subst (λ h. HandOk side h c) own_hand f.hand in
    let next = ok.next in
    let most = ok.most in
    let z : Lying = slot_at s.homes (outs_by side (out_of v.hand taken) (out_of u.hand y)) ((first + 1) % 1024) in
    let left = drain_left s p.hist p.k side first bound packet z p.meets (state_own s side v u p ∙ is_state) own_hand may
    (λ lt. value_at s side v taken u y scene p (first + 1) (omega (arith, next)) (omega (arith, lt, most)) (λ e f. omega (arith, f, next)) (λ e f. omega (arith, f, next))) in
    let got : slice_get c.puts c.read ≡ Some packet = ap (slice_get c.puts) (sym next) ∙ sym (ok.what may) in
    let line = first_read c packet got in
    subst (λ a. Follows (λ l. events.DrainRelease l side) (lane_by t r s side a taken u y) (lane_by t r (moved s 2 (first + 1) side a taken (drained side z a)) side (drained side z a) idle u y)) p.own
    (follows (can_drain_release side) lanes.released (λ l. events.DrainRelease l side) _ _ _ _ (λ core l. refl)
    (before_own t r s side v taken u y scene p ∙ lane_taken t r c side y none)
    (later t r (moved s 2 (first + 1) side (of_side side p.k) taken (drained side z (of_side side p.k))) ((side, drains (first_of (of_side side p.k).hand) (packet_of (lies_in (of_side side p.k).hand) ∷ [])) ∷ p.hist) p.k side (drained side z (of_side side p.k)) idle u y left.meets p.far tt scene.others
    ∙ lane_idle t r (record { tx = c.tx; rx = c.rx; puts = c.puts; read = c.read + 1 }) side y none)
    (release_event (can_drain_release side) t r c (laid_by (tx_mark side idle y)) packet line
    (ap₂ (λ a b. lanes.is_side side a && b) (closes_now side c clean now) (one_unreleased c packet line) ∙ ap (λ b. b && true) (own_side side))))

-- LAYING

-- the transmitter may write here
pub may_write : (h : Hand) (c : Course) (p : PacketState) → HandOk Tx h c → MayBe h (laid p) → (c.tx ≡ up) × (length c.puts < c.read + 1023)
may_write Nothing c p ok may = absurd may
may_write (Writing a b) c p ok may = let n = ok.next in let m = ok.room in (ok.is_there, omega (arith, n, m, may))
may_write (Reading a b z) c p ok may = absurd may

lifted_lay : (old new : LaneState) (core : Core) (l number : ℕ) (seat : SeatState) → slice_get core.lanes l ≡ Some old → slice_get core.seats old.tx_seat ≡ Some seat → can_lay old ≡ true → may_hand_over core number seat ≡ true → has_claimed number seat ≡ false
    → with_laid number old ≡ new → Rattle.sn_core.specs.Core.lay core l number ≡ Some (with_lane core l new)
lifted_lay old new core l number seat at there can over claim becomes =
    ap (λ o. option_and_then (λ lane. option_and_then (λ st. when (Rattle.sn_core.specs.Core.may_lay core number lane st) (with_lane core l (with_laid number lane))) (slice_get core.seats lane.tx_seat)) o) at
    ∙ ap (λ o. option_and_then (λ st. when (Rattle.sn_core.specs.Core.may_lay core number old st) (with_lane core l (with_laid number old))) o) there
    ∙ ap₂ (λ b x. when b (with_lane core l x)) (ap₂ (λ a b. a && b && not (has_claimed number seat)) can over ∙ ap (λ b. true && true && not b) claim) becomes

pub lay_law : LayLaw
lay_law t r s v u y packet scene may core l seat at there over claim =
    let p = placed s Tx v idle u y scene in
    let c : Course = course p.hist in
    let clean = sane p.hist p.meets.legal in
    let w = may_write p.k.tx.hand c packet p.meets.tx.hand (subst (λ a. MayBe a.hand (laid packet)) (sym p.own) may) in
    let e0 = before t r s Tx v idle u y scene p in
    let e1 = before t r s Tx v (laid packet) u y (record { rule = scene.rule; views = scene.views; mine = may; others = scene.others }) p in
    let room : nat_lt (length c.puts + 0 - c.read) 1023 ≡ true = lt-ltb (length c.puts + 0 - c.read) 1023 (let q = w.1 in let o = clean.order in omega (arith, q, o)) in
    lifted_lay (lane_by t r s Tx v idle u y) (lane_by t r s Tx v (laid packet) u y) core l packet.number seat at there
    (ap can_lay e0 ∙ ap₂ (λ a b. a && true && b) (up_field c.tx w.0) room) over claim (ap (with_laid packet.number) e0 ∙ sym e1)

pub take_back_law : TakeBackLaw
take_back_law t r s v u y packet scene =
    let p = placed s Tx v (laid packet) u y scene in
    follows has_laid taken_back (λ l. events.TakeBack l) (lane_by t r s Tx v (laid packet) u y) (lane_by t r s Tx v idle u y) (lane_for t r (course p.hist) Tx (laid packet) y) (lane_for t r (course p.hist) Tx idle y) (λ core l. refl)
    (before t r s Tx v (laid packet) u y scene p)
    (before t r s Tx v idle u y (record { rule = scene.rule; views = scene.views; mine = tt; others = scene.others }) p)
    (record { enabled = refl; becomes = refl })

-- PUBLISHING

emptied_more : (n : ℕ) (q more : List (Option Packet)) → n ≤ length q → emptied_by n (q ++ more) ≡ emptied_by n q ++ more
emptied_more zero q more le = refl
emptied_more (suc n) [] more le = absurd (omega (arith, le))
emptied_more (suc n) (x ∷ xs) more le = ap (λ l. None ∷ l) (emptied_more n xs more (omega (arith, le)))

filled_more : (xs ys : List PacketState) → filled (xs ++ ys) ≡ filled xs ++ filled ys
filled_more [] ys = refl
filled_more (x ∷ xs) ys = ap (λ l. Some (tag x) ∷ l) (filled_more xs ys)

pub length_filled : (xs : List PacketState) → length (filled xs) ≡ length xs
length_filled [] = refl
length_filled (x ∷ xs) = ap suc (length_filled xs)

drop_more : (n : ℕ) (xs ys : List PacketState) → n ≤ length xs → drop n (xs ++ ys) ≡ drop n xs ++ ys
drop_more zero xs ys le = refl
drop_more (suc n) [] ys le = absurd (omega (arith, le))
drop_more (suc n) (x ∷ xs) ys le = drop_more n xs ys (omega (arith, le))

queue_more : (c : Course) (n : ℕ) (p : PacketState) → n + c.read ≤ length c.puts → emptied_by n (filled (drop c.read c.puts)) ++ Some (tag p) ∷ [] ≡ emptied_by n (filled (drop c.read (c.puts ++ p ∷ [])))
queue_more c n p le =
    let l : length (filled (drop c.read c.puts)) + c.read ≡ length c.puts = (let a = length_filled (drop c.read c.puts) in let b = length-drop c.read c.puts in omega (arith, a, b, le)) in
    sym (emptied_more n (filled (drop c.read c.puts)) (Some (tag p) ∷ []) (omega (arith, l, le)))
    ∙ ap (emptied_by n) (sym (filled_more (drop c.read c.puts) (p ∷ [])) ∙ ap filled (sym (drop_more c.read c.puts (p ∷ []) (omega (arith, le)))))

handed : (p : PacketState) (seat : SeatState) (turn : ℕ) → turn_of p.number seat ≡ Some turn → p.turn ≡ turn + 1 → handed_over seat p.number ≡ tag p
handed p seat turn there e = ap (λ n. record { number = p.number; turn = n }) (ap (λ o. unwrap_or o 0 + 1) there ∙ sym e)

lifted_publish : (old new : LaneState) (core : Core) (l number : ℕ) (seat : SeatState) → slice_get core.lanes l ≡ Some old → slice_get core.seats old.tx_seat ≡ Some seat → old.laid ≡ number ∷ [] → lanes.published (handed_over seat number ∷ []) old ≡ new
    → Rattle.sn_core.specs.Core.publish core l ≡ Some (with_seat (with_lane core l new) old.tx_seat (without_packet number seat))
lifted_publish old new core l number seat at there laid_is becomes =
    ap (λ o. option_and_then (λ lane. option_and_then (λ st. when (has_laid lane) (with_seat (with_lane core l (lanes.published (map (handed_over st) lane.laid) lane)) lane.tx_seat (Rattle.sn_core.specs.Seat.without_packets lane.laid st))) (slice_get core.seats lane.tx_seat)) o) at
    ∙ ap (λ o. option_and_then (λ st. when (has_laid old) (with_seat (with_lane core l (lanes.published (map (handed_over st) old.laid) old)) old.tx_seat (Rattle.sn_core.specs.Seat.without_packets old.laid st))) o) there
    ∙ ap (λ ns. when (not (lanes.is_empty ns)) (with_seat (with_lane core l (lanes.published (map (handed_over seat) ns) old)) old.tx_seat (Rattle.sn_core.specs.Seat.without_packets ns seat))) laid_is
    ∙ ap (λ x. Some (with_seat (with_lane core l x) old.tx_seat (without_packet number seat))) becomes

counted : (h : Hand) (c : Course) (y : Half) → Sane c → HandOk Rx h c → MayBe h y → count y + c.read ≤ length c.puts
counted h c idle s ok may = let o = s.order in omega (arith, o)
counted h c (laid p) s ok may = let o = s.order in omega (arith, o)
counted h c taken s ok may = let l = taken_there Rx h c taken ok may refl in omega (arith, l)

pub publish_law : PublishLaw
publish_law t r s v u y first bound packet scene hand_is core l seat turn at there held raised' =
    let p = placed s Tx v (laid packet) u y scene in
    let c : Course = course p.hist in
    let clean = sane p.hist p.meets.legal in
    let own_hand : p.k.tx.hand ≡ Writing first bound = ap (λ a. a.hand) p.own ∙ hand_is in
    let may : first < bound = subst (λ h. MayBe h (laid packet)) hand_is scene.mine in
    let left = put_left s p.hist p.k first bound packet p.meets own_hand may in
    let e0 = before t r s Tx v (laid packet) u y scene p in
    let e1 = subst (λ a. lane_by t r (moved s 1 (first + 1) Tx a (laid packet) (published packet a)) Tx (published packet a) idle u y ≡ core_of t r (record { tx = c.tx; rx = c.rx; puts = c.puts ++ packet ∷ []; read = c.read }) [] (0 + count y)) p.own
    (later t r (moved s 1 (first + 1) Tx p.k.tx (laid packet) (published packet p.k.tx)) ((Tx, puts (first_of p.k.tx.hand) (packet ∷ [])) ∷ p.hist) p.k Tx (published packet p.k.tx) idle u y left.meets p.far tt scene.others) in
    let le = counted p.k.rx.hand c y clean p.meets.rx.hand (hand_far s Tx v (laid packet) u y scene p) in
    let longer : length c.puts + 1 ≡ length (c.puts ++ packet ∷ []) = (let a = length-append c.puts (packet ∷ []) in omega (arith, a)) in
    lifted_publish (lane_by t r s Tx v (laid packet) u y) (lane_by t r (moved s 1 (first + 1) Tx v (laid packet) (published packet v)) Tx (published packet v) idle u y) core l packet.number seat at there
    (ap (λ x. x.laid) e0)
    (ap₂ (λ q x. lanes.published (q ∷ []) x) (handed packet seat turn held raised') e0
    ∙ ap₂ (λ q n. record (core_of t r c [] (0 + count y)) { queue = q; put = n }) (queue_more c (0 + count y) packet (omega (arith, le))) longer
    ∙ sym e1)
