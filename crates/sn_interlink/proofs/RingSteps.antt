-- The steps on the ring's words keep the rule, and tell what they should.
use Rattle.std.proofs.Common.{◌≡◌, ◌<◌, ◌≤◌, inl, inr, ℕ, zero, suc, ◌+◌, ◌-◌, ◌%◌, ◌^◌, min, Bool, true, false, Option, List, [], ◌∷◌, ◌++◌, length, drop, Some, IsSome, refl, sym, ap, ap₂, ◌∙◌, subst, arith, slice_get}
use Rattle.std.specs.Prelude.{slice_set, slice_index, unwrap_or}
use Rattle.std.proofs.lemmas.Bool.{lt-ltb}
use Rattle.std.proofs.lemmas.List.{append-nil, length-append}
use mathlib.Core.Option.{none}
use Rattle.atomic_table.specs.Table.{State, step}
use Rattle.sn_core.specs.declared.events.Side.{Side}
use Rattle.sn_core.specs.declared.events.Side.TheVariants.{Tx, Rx}
use Rattle.sn_packet.specs.Packet.{PacketState}
use Rattle.sn_interlink.specs.declared.view.EndState.TheVariants.{Up, Closing}
use Rattle.sn_interlink.specs.declared.view.Hand.{Hand}
use Rattle.sn_interlink.specs.declared.view.Hand.TheVariants.{Writing, Reading}
use Rattle.sn_interlink.specs.declared.view.Known.{Known}
use Rattle.sn_interlink.specs.declared.view.View.{View}
use Rattle.sn_interlink.specs.declared.view.View.TheVariants.{One}
use Rattle.sn_interlink.specs.Course.{up, closing, Course, mine, is_closing, is_on, word_of, state_of, Deed, looks, sees, rooms, puts, takes, drains, after, AreNext, History, course, log_of}
use Rattle.sn_interlink.specs.Rule.{Lying, first_of, bound_of, lies_in, reads_as, MayWrite, MayRead, HandOk, ReadsAt, PlaceOk, Fits, Ends, of_side, with_side, parted, words_of, Meets}
use Rattle.sn_interlink.specs.Moves.{Half, idle, laid, taken, lends, load_of, if_out, out_of, stayed, Left}
use Rattle.sn_interlink.specs.Plays.{own_of, packet_of, InRing, synced_at, room_by, roomed, far_roomed, saw, published, released, place_drained, drained, SyncPlay, RoomPlay, FarRoomPlay, SeePlay, PutPlay, TakePlay, DrainPlay}
use Rattle.sn_interlink.proofs.Machine.{sane, drop_first}
use Rattle.sn_interlink.proofs.Hands.{on_up}
use Rattle.sn_interlink.proofs.Effects.{own_fits, kind, kind_still, back_as_it_went, back_with_packet, back_emptied}
use Rattle.sn_interlink.specs.Ends.{is_on_state}
use Rattle.sn_interlink.proofs.Steps.{Steps, log_more, up_if, closing_if, mine_same, put_at, read_at}

-- a place that is there holds something
pub something_at : {A : Type 0} (xs : List A) (i : ℕ) → i < length xs → IsSome (slice_get xs i)
something_at [] i lt = absurd (omega arith)
something_at (x ∷ xs) zero lt = refl
something_at (x ∷ xs) (suc i) lt = something_at xs i (omega arith)

some_same : {A : Type 0} (x y : A) → Some x ≡ Some y → x ≡ y
some_same x y e = cc

-- the receiver learns its position
pub sync_left : (s : State Lying View) (hist : History) (k : Ends) (half : Half) (n : ℕ) → Meets s hist parted k → k.rx.state ≡ Up → slice_index s.words 2 ≡ n
    → Meets (stayed s 2 n Rx k.rx half (synced_at n k.rx)) ((Rx, looks) ∷ hist) parted (with_side Rx (synced_at n k.rx) k)
sync_left s hist k half n m is_state is_n =
    let c : Course = course hist in
    let found : n ≡ c.read = sym is_n ∙ read_at s hist parted k m in
    let is_there : c.rx ≡ up = up_if c.rx (sym m.rx.state ∙ is_state) in
    kind_still s hist k Rx looks half (synced_at n k.rx) 2 n m tt
    (record { log = m.rx.log ∙ sym (append-nil (log_of Rx hist)); state = m.rx.state; place = record { is_there = on_up c.rx is_there; here = found }; hand = m.rx.hand })
    (ap (λ x. slice_set s.words 2 x) (sym is_n) ∙ ap (λ ws. slice_set ws 2 (slice_index ws 2)) m.words) refl refl

pub sync_steps : (slots : ℕ) (v : Known) (half : Half) → v.state ≡ Up
    → Steps Rx v half 2 (λ n. n) (SyncPlay (step slots 2 0 0 none) (One Rx v, out_of v.hand half))
sync_steps slots v half is_state s hist k m is bound =
    let n : ℕ = slice_index s.words 2 in
    let clean = sane hist m.legal in
    let found : n ≡ (course hist).read = read_at s hist parted k m in
    inr (record {
      d = looks;
      w = synced_at n k.rx;
      left = sync_left s hist k half n m (ap (λ x. x.state) is ∙ is_state) refl;
      told = (ap₂ (λ x h. (One Rx (synced_at n x), out_of h half)) is (ap (λ x. x.hand) is), omega (arith, found, clean.order, clean.below));
    })

-- what is known of an end's own position
own_is : (v : Known) (place : Option ℕ) (a : ℕ) → v.place ≡ place → place ≡ Some a → own_of v ≡ a
own_is v place a e f = ap (λ x. unwrap_or x 0) (e ∙ f)

-- the words, where a step leaves the machine's numbers
set_same : (s : State Lying View) (hist : History) (k : Ends) (i n : ℕ) → Meets s hist parted k → slice_index s.words i ≡ n → slice_set s.words i n ≡ slice_set (words_of (course hist)) i (slice_index (words_of (course hist)) i)
set_same s hist k i n m is_n = ap (λ x. slice_set s.words i x) (sym is_n) ∙ ap (λ ws. slice_set ws i (slice_index ws i)) m.words

-- what the transmitter's loads say of `read`
is_read : (s : State Lying View) (hist : History) (k : Ends) (v : Known) → Meets s hist parted k → k.tx ≡ v → InRing (slice_index s.words 2) (own_of v)
is_read s hist k v m is =
    let found = read_at s hist parted k m in
    let clean = sane hist m.legal in
    let own : own_of v ≡ length (course hist).puts = own_is v k.tx.place (length (course hist).puts) (ap (λ x. x.place) (sym is)) m.tx.place in
    record { order = omega (arith, found, own, clean.order); most = omega (arith, found, own, clean.most); below = omega (arith, own, clean.below) }

pub own_tx : (s : State Lying View) (hist : History) (k : Ends) → Meets s hist parted k → own_of k.tx ≡ length (course hist).puts
own_tx s hist k m = own_is k.tx k.tx.place (length (course hist).puts) refl m.tx.place

-- the transmitter sees room
room_within : (own n read : ℕ) → n ≡ read → own ≤ read + 1023 → read ≤ own → own + min (1023 - (own - n)) (2 ^ 62 - own) ≤ read + 1023
room_within own n read e most order = omega (arith, e, most, order)

room_below : (own n : ℕ) → own ≤ 2 ^ 62 → own + min (1023 - (own - n)) (2 ^ 62 - own) ≤ 2 ^ 62
room_below own n most = omega (arith, most)

pub room_left : (s : State Lying View) (hist : History) (k : Ends) (n : ℕ) → Meets s hist parted k → k.tx.state ≡ Up → slice_index s.words 2 ≡ n
    → Left s hist k Tx (rooms (room_by (own_of k.tx) n)) k.tx idle (roomed n k.tx) 2 n
room_left s hist k n m is_state is_n =
    let c : Course = course hist in
    let clean = sane hist m.legal in
    let found : n ≡ c.read = sym is_n ∙ read_at s hist parted k m in
    let own : own_of k.tx ≡ length c.puts = own_tx s hist k m in
    let r : ℕ = room_by (own_of k.tx) n in
    let is_there : c.tx ≡ up = up_if c.tx (sym m.tx.state ∙ is_state) in
    kind s hist k Tx (rooms r) idle (roomed n k.tx) 2 n m
    (record { whose = refl; is_there = on_up c.tx is_there })
    (record {
      log = log_more Tx hist (rooms r) k.tx.log m.tx.log;
      state = m.tx.state;
      place = m.tx.place;
      hand = record {
        whose = refl;
        is_there = is_there;
        next = own;
        room = room_within (own_of k.tx) n c.read found (omega (arith, own, clean.most)) (omega (arith, own, clean.order));
        below = room_below (own_of k.tx) n (omega (arith, own, clean.below));
      };
    })
    (set_same s hist k 2 n m is_n)
    (back_as_it_went s hist k Tx c m refl refl)

pub room_steps : (slots : ℕ) (v : Known) → v.state ≡ Up
    → Steps Tx v idle 2 (λ n. n) (RoomPlay (step slots 2 0 0 none) (One Tx v, out_of v.hand idle))
room_steps slots v is_state s hist k m is bound =
    let n : ℕ = slice_index s.words 2 in
    inl (record {
      d = rooms (room_by (own_of k.tx) n);
      w = roomed n k.tx;
      left = room_left s hist k n m (ap (λ x. x.state) is ∙ is_state) refl;
      told = (ap (λ x. (One Tx (roomed n x), out_of (roomed n x).hand idle)) is, is_read s hist k v m is);
    })

-- the closing transmitter sees what is left
pub far_room_left : (s : State Lying View) (hist : History) (k : Ends) (n : ℕ) (z : Lying) → Meets s hist parted k → k.tx.state ≡ Closing → slice_index s.words 2 ≡ n → (n < own_of k.tx → z ≡ slice_get (course hist).puts n)
    → Left s hist k Tx (rooms (room_by (own_of k.tx) n)) k.tx idle (far_roomed n z k.tx) 2 n
far_room_left s hist k n z m is_state is_n z_is =
    let c : Course = course hist in
    let clean = sane hist m.legal in
    let found : n ≡ c.read = sym is_n ∙ read_at s hist parted k m in
    let own : own_of k.tx ≡ length c.puts = own_tx s hist k m in
    let r : ℕ = room_by (own_of k.tx) n in
    let closing_now : c.tx ≡ closing = closing_if c.tx (sym m.tx.state ∙ is_state) in
    kind s hist k Tx (rooms r) idle (far_roomed n z k.tx) 2 n m
    (record { whose = refl; is_there = ap is_on closing_now })
    (record {
      log = log_more Tx hist (rooms r) k.tx.log m.tx.log;
      state = m.tx.state;
      place = m.tx.place;
      hand = record { reads = ap is_closing closing_now; next = found; most = omega (arith, own); what = z_is; ended = λ e. own };
    })
    (set_same s hist k 2 n m is_n)
    (back_as_it_went s hist k Tx c m refl refl)

pub far_room_steps : (slots : ℕ) (v : Known) → v.state ≡ Closing
    → Steps Tx v idle 2 (λ n. n) (FarRoomPlay (step slots 2 0 0 none) (One Tx v, out_of v.hand idle))
far_room_steps slots v is_state s hist k m is bound =
    let n : ℕ = slice_index s.words 2 in
    let c : Course = course hist in
    let own : own_of k.tx ≡ length c.puts = own_tx s hist k m in
    let z : Lying = slice_get c.puts n in
    inl (record {
      d = rooms (room_by (own_of k.tx) n);
      w = far_roomed n z k.tx;
      left = far_room_left s hist k n z m (ap (λ x. x.state) is ∙ is_state) refl (λ lt. refl);
      told = (
        z,
        ap (λ x. (One Tx (far_roomed n z x), out_of (far_roomed n z x).hand idle)) is,
        is_read s hist k v m is,
        λ lt. something_at c.puts n (let e : own_of v ≡ own_of k.tx = ap own_of (sym is) in omega (arith, lt, own, e)),
      );
    })

-- the receiver sees packets
pub see_left : (s : State Lying View) (hist : History) (k : Ends) (n own : ℕ) (z : Lying) → Meets s hist parted k → k.rx.place ≡ Some own → slice_index s.words 1 ≡ n → (own < n → z ≡ slice_get (course hist).puts own)
    → Left s hist k Rx (sees (n - own_of k.rx)) k.rx idle (saw n z k.rx) 1 n
see_left s hist k n own z m place_is is_n z_is =
    let c : Course = course hist in
    let found : n ≡ length c.puts = sym is_n ∙ put_at s hist parted k m in
    let at : ReadsAt own c = subst (λ p. PlaceOk Rx p c) place_is m.rx.place in
    let mine_own : own_of k.rx ≡ own = own_is k.rx (Some own) own place_is refl in
    let d : Deed = sees (n - own_of k.rx) in
    kind s hist k Rx d idle (saw n z k.rx) 1 n m
    (record { whose = refl; is_there = at.is_there })
    (record {
      log = log_more Rx hist d k.rx.log m.rx.log;
      state = m.rx.state;
      place = m.rx.place;
      hand = record { reads = at.is_there; next = mine_own ∙ at.here; most = omega (arith, found); what = λ lt. z_is (omega (arith, lt, mine_own)) ∙ ap (slice_get c.puts) (sym mine_own); ended = λ e. found };
    })
    (set_same s hist k 1 n m is_n)
    (back_as_it_went s hist k Rx c m refl refl)

pub see_steps : (slots : ℕ) (v : Known) (own : ℕ) → is_on_state v.state ≡ true → v.place ≡ Some own
    → Steps Rx v idle 1 (λ n. n) (SeePlay (step slots 1 0 0 none) (One Rx v, out_of v.hand idle))
see_steps slots v own is_state place_is s hist k m is bound =
    let n : ℕ = slice_index s.words 1 in
    let c : Course = course hist in
    let clean = sane hist m.legal in
    let found : n ≡ length c.puts = put_at s hist parted k m in
    let at : ReadsAt own c = subst (λ p. PlaceOk Rx p c) (ap (λ x. x.place) is ∙ place_is) m.rx.place in
    let here = at.here in
    let mine_own : own_of v ≡ own = own_is v (Some own) own place_is refl in
    let z : Lying = slice_get c.puts own in
    inl (record {
      d = sees (n - own_of k.rx);
      w = saw n z k.rx;
      left = see_left s hist k n own z m (ap (λ x. x.place) is ∙ place_is) refl (λ lt. refl);
      told = (
        z,
        ap (λ x. (One Rx (saw n z x), out_of (saw n z x).hand idle)) is,
        record { order = omega (arith, mine_own, here, found, clean.order); most = omega (arith, mine_own, here, found, clean.most); below = omega (arith, found, clean.below) },
        λ lt. something_at c.puts own (omega (arith, lt, mine_own, here, found)),
      );
    })

-- the transmitter publishes what it laid
pub put_left : (s : State Lying View) (hist : History) (k : Ends) (own limit : ℕ) (p : PacketState) → Meets s hist parted k → k.tx.hand ≡ Writing own limit → own < limit
    → Left s hist k Tx (puts (first_of k.tx.hand) (p ∷ [])) k.tx (laid p) (published p k.tx) 1 (own + 1)
put_left s hist k own limit p m h lt =
    let c : Course = course hist in
    let first : first_of k.tx.hand ≡ own = ap first_of h in
    let last : bound_of k.tx.hand ≡ limit = ap bound_of h in
    let ok : MayWrite c Tx own limit = subst (λ x. HandOk Tx x c) h m.tx.hand in
    let d : Deed = puts (first_of k.tx.hand) (p ∷ []) in
    let longer : length (c.puts ++ p ∷ []) ≡ length c.puts + 1 = length-append c.puts (p ∷ []) in
    kind s hist k Tx d (laid p) (published p k.tx) 1 (own + 1) m
    (record { whose = refl; is_there = ok.is_there; next = first ∙ ok.next; room = omega (arith, lt, ok.next, ok.room); below = omega (arith, lt, ok.next, ok.below) })
    (record {
      log = log_more Tx hist d k.tx.log m.tx.log;
      state = m.tx.state;
      place = ap Some (omega (arith, first, ok.next, longer));
      hand = record { whose = refl; is_there = ok.is_there; next = omega (arith, first, ok.next, longer); room = omega (arith, last, ok.room); below = omega (arith, last, ok.below) };
    })
    (ap (λ ws. slice_set ws 1 (own + 1)) m.words ∙ ap (λ x. word_of c ∷ x ∷ c.read ∷ []) (omega (arith, ok.next, longer)))
    (back_with_packet s hist k Tx p (after Tx d c) m (lt-ltb (first_of k.tx.hand) (bound_of k.tx.hand) (omega (arith, first, last, lt))) (first ∙ ok.next) refl refl)

pub put_steps : (slots : ℕ) (v : Known) (own bound : ℕ) (p : PacketState) → v.hand ≡ Writing own bound → own < bound
    → Steps Tx v (laid p) 1 (λ _. own + 1) (λ n. PutPlay (step slots 1 (own + 1) 0 none) (One Tx v, out_of v.hand (laid p)) (own + 1))
put_steps slots v own limit p hand_is lt s hist k m is bound =
    inl (record {
      d = puts (first_of k.tx.hand) (p ∷ []);
      w = published p k.tx;
      left = put_left s hist k own limit p m (ap (λ x. x.hand) is ∙ hand_is) lt;
      told = ap (λ x. (One Tx (published p x), out_of (published p x).hand idle)) is ∙ ap (λ y. (One Tx (published (packet_of y) v), out_of (published (packet_of y) v).hand idle)) (sym lying);
    })
  where
    lying : load_of (out_of v.hand (laid p)) ≡ Some p
    lying = loaded (lends v.hand) (lt-ltb (first_of v.hand) (bound_of v.hand) (let a = ap first_of hand_is in let b = ap bound_of hand_is in omega (arith, a, b, lt)))
      where
        loaded : (b : Bool) → b ≡ true → load_of (if_out b (first_of v.hand % 1024) (Some p)) ≡ Some p
        loaded true e = refl
        loaded false e = cc

-- the packet that a reading hand took is the next one
are_next : (side : Side) (h : Hand) (c : Course) (own limit : ℕ) (p : PacketState) → h ≡ Reading own limit (Some p) → own < limit → MayRead c side own limit (Some p)
    → AreNext (first_of h) (packet_of (lies_in h) ∷ []) c
are_next side h c own limit p e lt ok =
    let first : first_of h ≡ own = ap first_of e in
    let packet : packet_of (lies_in h) ≡ p = ap (λ x. packet_of (lies_in x)) e in
    record {
      next = first ∙ ok.next;
      most = omega (arith, ok.next, ok.most, lt);
      rest = drop (suc c.read) c.puts;
      first = drop_first c.puts c.read p (ap (slice_get c.puts) (sym ok.next) ∙ sym (ok.what lt)) ∙ ap (λ x. (x ∷ []) ++ drop (suc c.read) c.puts) (sym packet);
    }

-- the receiver releases the place that it emptied
pub take_left : (s : State Lying View) (hist : History) (k : Ends) (own limit : ℕ) (p : PacketState) (z : Lying) → Meets s hist parted k → k.rx.state ≡ Up → k.rx.hand ≡ Reading own limit (Some p) → own < limit
    → (own + 1 < limit → z ≡ slice_get (course hist).puts (own + 1))
    → Left s hist k Rx (takes (first_of k.rx.hand) (packet_of (lies_in k.rx.hand) ∷ [])) k.rx taken (released z k.rx) 2 (own + 1)
take_left s hist k own limit p z m is_state h lt z_is =
    let c : Course = course hist in
    let first : first_of k.rx.hand ≡ own = ap first_of h in
    let last : bound_of k.rx.hand ≡ limit = ap bound_of h in
    let ok : MayRead c Rx own limit (Some p) = subst (λ x. HandOk Rx x c) h m.rx.hand in
    let is_there : c.rx ≡ up = up_if c.rx (sym m.rx.state ∙ is_state) in
    let d : Deed = takes (first_of k.rx.hand) (packet_of (lies_in k.rx.hand) ∷ []) in
    kind s hist k Rx d taken (released z k.rx) 2 (own + 1) m
    (record { whose = refl; is_there = is_there; what = are_next Rx k.rx.hand c own limit p h lt ok })
    (record {
      log = log_more Rx hist d k.rx.log m.rx.log;
      state = m.rx.state;
      place = record { is_there = on_up c.rx is_there; here = omega (arith, first, ok.next) };
      hand = record { reads = ok.reads; next = omega (arith, first, ok.next); most = omega (arith, last, ok.most); what = λ l. z_is (omega (arith, l, first, last)) ∙ ap (λ n. slice_get c.puts (n + 1)) (sym first); ended = λ e. last ∙ ok.ended e };
    })
    (ap (λ ws. slice_set ws 2 (own + 1)) m.words ∙ ap (λ x. word_of c ∷ length c.puts ∷ x ∷ []) (omega (arith, ok.next)))
    (back_emptied s hist k Rx (after Rx d c) m (lt-ltb (first_of k.rx.hand) (bound_of k.rx.hand) (omega (arith, first, last, lt))) (first ∙ ok.next) refl refl)

pub take_steps : (slots : ℕ) (v : Known) (own bound : ℕ) (p : PacketState) → v.state ≡ Up → v.hand ≡ Reading own bound (Some p) → own < bound
    → Steps Rx v taken 2 (λ _. own + 1) (λ n. TakePlay (step slots 2 (own + 1) 0 none) (One Rx v, out_of v.hand taken) (own + 1))
take_steps slots v own limit p is_state hand_is lt s hist k m is bound =
    let c : Course = course hist in
    let h : k.rx.hand ≡ Reading own limit (Some p) = ap (λ x. x.hand) is ∙ hand_is in
    let ok : MayRead c Rx own limit (Some p) = subst (λ x. HandOk Rx x c) h m.rx.hand in
    let z : Lying = slice_get c.puts (own + 1) in
    inl (record {
      d = takes (first_of k.rx.hand) (packet_of (lies_in k.rx.hand) ∷ []);
      w = released z k.rx;
      left = take_left s hist k own limit p z m (ap (λ x. x.state) is ∙ is_state) h lt (λ l. refl);
      told = (
        z,
        ap (λ x. (One Rx (released z x), out_of (released z x).hand idle)) is,
        λ l. something_at c.puts (own + 1) (let a = ap first_of hand_is in let b = ap bound_of hand_is in omega (arith, l, a, b, ok.most)),
      );
    })

-- where a closing end's position is after a drain
place_after_drain : (side : Side) (place : Option ℕ) (c : Course) (next : ℕ) → is_on (mine side c) ≡ true → next ≡ c.read + 1 → PlaceOk side place c
    → PlaceOk side (place_drained side next place) (record { tx = c.tx; rx = c.rx; puts = c.puts; read = c.read + 1 })
place_after_drain Tx place c next on e ok = ok
place_after_drain Rx place c next on e ok = record { is_there = on; here = e }

-- the closing end releases the place that it emptied
pub drain_left : (s : State Lying View) (hist : History) (k : Ends) (side : Side) (own limit : ℕ) (p : PacketState) (z : Lying) → Meets s hist parted k → (of_side side k).state ≡ Closing → (of_side side k).hand ≡ Reading own limit (Some p) → own < limit
    → (own + 1 < limit → z ≡ slice_get (course hist).puts (own + 1))
    → Left s hist k side (drains (first_of (of_side side k).hand) (packet_of (lies_in (of_side side k).hand) ∷ [])) (of_side side k) taken (drained side z (of_side side k)) 2 (own + 1)
drain_left s hist k side own limit p z m is_state h lt z_is =
    let c : Course = course hist in
    let u : Known = of_side side k in
    let f : Fits side u hist = own_fits s hist parted k side m in
    let first : first_of u.hand ≡ own = ap first_of h in
    let last : bound_of u.hand ≡ limit = ap bound_of h in
    let ok : MayRead c side own limit (Some p) = subst (λ x. HandOk side x c) h f.hand in
    let closing_now : mine side c ≡ closing = closing_if (mine side c) (sym f.state ∙ is_state) in
    let d : Deed = drains (first_of u.hand) (packet_of (lies_in u.hand) ∷ []) in
    let same : mine side (after side d c) ≡ mine side c = mine_same side c c.puts (c.read + 1) in
    kind s hist k side d taken (drained side z u) 2 (own + 1) m
    (record { closes = closing_now; what = are_next side u.hand c own limit p h lt ok })
    (record {
      log = log_more side hist d u.log f.log;
      state = f.state ∙ ap state_of (sym same);
      place = place_after_drain side u.place c (first_of u.hand + 1) (ap is_on closing_now) (omega (arith, first, ok.next)) f.place;
      hand = record { reads = ap (reads_as side) same ∙ ok.reads; next = omega (arith, first, ok.next); most = omega (arith, last, ok.most); what = λ l. z_is (omega (arith, l, first, last)) ∙ ap (λ n. slice_get c.puts (n + 1)) (sym first); ended = λ e. last ∙ ok.ended (sym same ∙ e) };
    })
    (ap (λ ws. slice_set ws 2 (own + 1)) m.words ∙ ap (λ x. word_of c ∷ length c.puts ∷ x ∷ []) (omega (arith, ok.next)))
    (back_emptied s hist k side (after side d c) m (lt-ltb (first_of u.hand) (bound_of u.hand) (omega (arith, first, last, lt))) (first ∙ ok.next) refl refl)

pub drain_steps : (slots : ℕ) (side : Side) (v : Known) (own bound : ℕ) (p : PacketState) → v.state ≡ Closing → v.hand ≡ Reading own bound (Some p) → own < bound
    → Steps side v taken 2 (λ _. own + 1) (λ n. DrainPlay (step slots 2 (own + 1) 0 none) (One side v, out_of v.hand taken) (own + 1))
drain_steps slots side v own limit p is_state hand_is lt s hist k m is bound =
    let c : Course = course hist in
    let u : Known = of_side side k in
    let f : Fits side u hist = own_fits s hist parted k side m in
    let h : u.hand ≡ Reading own limit (Some p) = ap (λ x. x.hand) is ∙ hand_is in
    let ok : MayRead c side own limit (Some p) = subst (λ x. HandOk side x c) h f.hand in
    let z : Lying = slice_get c.puts (own + 1) in
    inl (record {
      d = drains (first_of u.hand) (packet_of (lies_in u.hand) ∷ []);
      w = drained side z u;
      left = drain_left s hist k side own limit p z m (ap (λ x. x.state) is ∙ is_state) h lt (λ l. refl);
      told = (
        z,
        ap (λ x. (One side (drained side z x), out_of (drained side z x).hand idle)) is,
        λ l. something_at c.puts (own + 1) (let a = ap first_of hand_is in let b = ap bound_of hand_is in omega (arith, l, a, b, ok.most)),
      );
    })
