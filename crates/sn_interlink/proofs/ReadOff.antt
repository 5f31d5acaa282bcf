-- What is read off the table is where the history led.
use Rattle.std.proofs.Common.{◌≡◌, ◌≢◌, ◌<◌, ◌≤◌, ◌⊎◌, inl, inr, ⊎_elim, ℕ, zero, suc, ◌+◌, ◌-◌, ◌/◌, ◌%◌, Bool, true, false, eqb, eq-eqb, ne_eqb, Option, List, [], ◌∷◌, ◌++◌, map, length, drop, Some, None, refl, sym, ap, ap₂, ◌∙◌, arith, slice_get}
use Rattle.std.specs.Prelude.{slice_index, option_map, option_to_list}
use Rattle.std.proofs.lemmas.Bool.{cases_eq, lt-ltb, ltb-true}
use Rattle.std.proofs.lemmas.List.{length-drop}
use Rattle.std.proofs.lemmas.Option.{slice_get_past}
use mathlib.Core.Option.{none, some}
use mathlib.Core.Option as maybe
use lib.ListN.{get_elem?}
use Rattle.atomic_table.specs.Table.{State}
use Rattle.sn_core.specs.declared.events.Side.{Side}
use Rattle.sn_core.specs.declared.events.Side.TheVariants.{Tx, Rx}
use Rattle.sn_core.specs.declared.parts.Field.{Field}
use Rattle.sn_core.specs.declared.parts.Field.TheVariants.{Absent, Up, Gone}
use Rattle.sn_core.specs.declared.parts.Packet.{Packet}
use Rattle.sn_core.specs.Lane.{LaneState, emptied_by}
use Rattle.sn_packet.specs.Packet.{PacketState}
use Rattle.sn_interlink.specs.declared.view.Hand.{Hand}
use Rattle.sn_interlink.specs.declared.view.Hand.TheVariants.{Nothing, Writing, Reading}
use Rattle.sn_interlink.specs.declared.view.Known.{Known}
use Rattle.sn_interlink.specs.declared.view.View.{View}
use Rattle.sn_interlink.specs.declared.view.View.TheVariants.{Fresh, One, Both, Spent}
use Rattle.sn_interlink.specs.Course.{Status, absent, up, gone, closing, Course, other, field, word_of, state_of, History, course, Sane}
use Rattle.sn_interlink.specs.Rule.{Lying, first_of, bound_of, Lends, HandOk, Ends, of_side, Stage, whole, parted, joined, views_of, Meets}
use Rattle.sn_interlink.specs.Moves.{Half, idle, laid, taken, carry, lends, if_out, out_of}
use Rattle.sn_interlink.specs.Reading.{field_read, at_home, lying_if, slot_at, row, tag, closes_as, closer_in, read_lane}
use Rattle.sn_interlink.specs.StepLaws.{MayBe, views_by, Scene, lane_by}
use Rattle.sn_interlink.proofs.Machine.{sane, field_of_side}
use Rattle.sn_interlink.proofs.Hands.{side_differs, out_place, alone}
use Rattle.sn_interlink.proofs.Turning.{one_place}
use Rattle.sn_interlink.proofs.Steps.{word_at, put_at, read_at}

-- THE LANE OF A HISTORY

abbrev pub field_as : Status → Field
field_as absent = Absent
field_as up = Up
field_as gone = Gone
field_as closing = Gone

abbrev pub rx_closer : Status → Option Side
rx_closer absent = None
rx_closer up = None
rx_closer gone = None
rx_closer closing = Some Rx

abbrev pub closer_as : Status → Status → Option Side
closer_as absent b = rx_closer b
closer_as up b = rx_closer b
closer_as gone b = rx_closer b
closer_as closing b = Some Tx

abbrev pub laid_by : Half → List PacketState
laid_by idle = []
laid_by (laid p) = p ∷ []
laid_by taken = []

abbrev pub count : Half → ℕ
count idle = 0
count (laid p) = 0
count taken = 1

abbrev pub filled : List PacketState → List (Option Packet)
filled ps = map (λ p. Some (tag p)) ps

abbrev pub core_at : ℕ → ℕ → Status → Status → List PacketState → ℕ → List PacketState → ℕ → LaneState
core_at t r a b puts read ps n = record {
  tx_seat = t;
  rx_seat = r;
  tx = field_as a;
  rx = field_as b;
  put = length puts;
  read = read;
  queue = emptied_by n (filled (drop read puts));
  laid = map (λ p. p.number) ps;
  closes = closer_as a b;
}

abbrev pub core_of : ℕ → ℕ → Course → List PacketState → ℕ → LaneState
core_of t r c ps n = core_at t r c.tx c.rx c.puts c.read ps n

-- WHAT LIES IN A SLOT

if_here : (a k : ℕ) (here else_there V : Lying) → (a ≡ k → here ≡ V) → (a ≢ k → else_there ≡ V) → lying_if (eqb a k) here else_there ≡ V
if_here a k here else_there V same differ = ⊎_elim
    (λ e. ap (λ b. lying_if b here else_there) (eq-eqb a k e) ∙ same e)
    (λ ne. ap (λ b. lying_if b here else_there) (ne_eqb a k ne) ∙ differ ne)
    (cases_eq a k)

read_out : (homes : List (maybe.Option Lying)) (a b : Bool) (i j : ℕ) (x y : Lying) (k : ℕ) (V : Lying) → (a ≡ true → i ≡ k → x ≡ V) → (b ≡ true → j ≡ k → y ≡ V)
    → ((a ≡ true → i ≢ k) → (b ≡ true → j ≢ k) → at_home (get_elem? homes k) ≡ V) → slot_at homes (if_out a i x ++ if_out b j y) k ≡ V
read_out homes true true i j x y k V first second home =
    if_here i k x (lying_if (eqb j k) y (at_home (get_elem? homes k))) V (first refl) (λ n. if_here j k y (at_home (get_elem? homes k)) V (second refl) (λ m. home (λ e. n) (λ e. m)))
read_out homes true false i j x y k V first second home = if_here i k x (at_home (get_elem? homes k)) V (first refl) (λ n. home (λ e. n) (λ e. cc))
read_out homes false true i j x y k V first second home = if_here j k y (at_home (get_elem? homes k)) V (second refl) (λ m. home (λ e. cc) (λ e. m))
read_out homes false false i j x y k V first second home = home (λ e. cc) (λ e. cc)

-- a position whose slot is that of the hand is the hand's
lent_here : (side : Side) (h : Hand) (c : Course) (q : ℕ) → Sane c → HandOk side h c → c.read ≤ q → q < c.read + 1024 → lends h ≡ true → first_of h % 1024 ≡ q % 1024 → Lends h q
lent_here side h c q s ok from below e same =
    let within = ltb-true (first_of h) (bound_of h) e in
    let o = out_place side h c (first_of h) s ok (record { here = refl; within = within }) in
    record { here = sym (one_place c.read (first_of h) q o.from o.below from below same); within = within }

pub slot_value : (s : State Lying View) (hist : History) (k : Ends) (xt xr : Half) (q : ℕ) (V : Lying) → Meets s hist parted k → (course hist).read ≤ q → q < (course hist).read + 1024
    → (Lends k.tx.hand q → carry k.tx.hand xt ≡ V) → (Lends k.rx.hand q → carry k.rx.hand xr ≡ V) → ((Lends k.tx.hand q → ⊥) → (Lends k.rx.hand q → ⊥) → slice_get (course hist).puts q ≡ V)
    → slot_at s.homes (out_of k.tx.hand xt ++ out_of k.rx.hand xr) (q % 1024) ≡ V
slot_value s hist k xt xr q V m from below tx rx home =
    let c : Course = course hist in
    let clean = sane hist m.legal in
    read_out s.homes (lends k.tx.hand) (lends k.rx.hand) (first_of k.tx.hand % 1024) (first_of k.rx.hand % 1024) (carry k.tx.hand xt) (carry k.rx.hand xr) (q % 1024) V
    (λ e same. tx (lent_here Tx k.tx.hand c q clean m.tx.hand from below e same))
    (λ e same. rx (lent_here Rx k.rx.hand c q clean m.rx.hand from below e same))
    (λ no_tx no_rx. by (λ l. no_tx (lt-ltb (first_of k.tx.hand) (bound_of k.tx.hand) l.within) (ap (λ n. n % 1024) (sym l.here))) (λ l. no_rx (lt-ltb (first_of k.rx.hand) (bound_of k.rx.hand) l.within) (ap (λ n. n % 1024) (sym l.here))))
  where
    by : (Lends k.tx.hand q → ⊥) → (Lends k.rx.hand q → ⊥) → at_home (get_elem? s.homes (q % 1024)) ≡ V
    by no_tx no_rx = ap at_home (m.cells q from below no_tx no_rx) ∙ home no_tx no_rx

-- what an end carries of a position before the last one put
carry_is : (side : Side) (h : Hand) (c : Course) (x : Half) (q : ℕ) → Sane c → HandOk side h c → MayBe h x → Lends h q → q < length c.puts → (count x ≡ 1 → q ≢ c.read) → carry h x ≡ slice_get c.puts q
carry_is side h c idle q s ok may l lt away = (out_place side h c q s ok l).what
carry_is side Nothing c (laid p) q s ok may l lt away = absurd may
carry_is side (Writing a b) c (laid p) q s ok may l lt away = absurd (let here = l.here in let n = ok.next in omega (arith, here, n, lt))
carry_is side (Reading a b y) c (laid p) q s ok may l lt away = absurd may
carry_is side Nothing c taken q s ok may l lt away = absurd may
carry_is side (Writing a b) c taken q s ok may l lt away = absurd may
carry_is side (Reading a b y) c taken q s ok may l lt away = absurd (away refl (l.here ∙ ok.next))

-- what an end that took a packet lends
pub taken_lends : (side : Side) (h : Hand) (c : Course) (x : Half) → HandOk side h c → MayBe h x → count x ≡ 1 → Lends h c.read
taken_lends side h c idle ok may e = absurd (omega (arith, e))
taken_lends side h c (laid p) ok may e = absurd (omega (arith, e))
taken_lends side Nothing c taken ok may e = absurd may
taken_lends side (Writing a b) c taken ok may e = absurd may
taken_lends side (Reading a b y) c taken ok may e = record { here = sym ok.next; within = may }

taken_nothing : (h : Hand) (x : Half) → count x ≡ 1 → carry h x ≡ None
taken_nothing h idle e = absurd (omega (arith, e))
taken_nothing h (laid p) e = absurd (omega (arith, e))
taken_nothing h taken e = refl

abbrev pub laid_lying : Half → Lying
laid_lying idle = None
laid_lying (laid p) = Some p
laid_lying taken = None

-- what the transmitter carries of the next position to put
put_carry : (side : Side) (h : Hand) (c : Course) (x : Half) (q : ℕ) → Sane c → HandOk side h c → MayBe h x → Lends h q → q ≡ length c.puts → carry h x ≡ laid_lying x
put_carry side h c idle q s ok may l e = (out_place side h c q s ok l).what ∙ slice_get_past c.puts q (omega (arith, e))
put_carry side h c (laid p) q s ok may l e = refl
put_carry side h c taken q s ok may l e = refl

-- where something is laid, the transmitter lends the next position to put
pub laid_lends : (side : Side) (h : Hand) (c : Course) (p : PacketState) → HandOk side h c → MayBe h (laid p) → Lends h (length c.puts)
laid_lends side Nothing c p ok may = absurd may
laid_lends side (Writing a b) c p ok may = record { here = sym ok.next; within = may }
laid_lends side (Reading a b y) c p ok may = absurd may

-- the receiver never lends it
rx_not_there : (h : Hand) (c : Course) → HandOk Rx h c → Lends h (length c.puts) → ⊥
rx_not_there Nothing c ok l = omega (arith, l.within)
rx_not_there (Writing a b) c ok l = side_differs (sym ok.whose)
rx_not_there (Reading a b y) c ok l = omega (arith, l.here, l.within, ok.next, ok.most)

module _ (s : State Lying View) (hist : History) (k : Ends) (xt xr : Half) (m : Meets s hist parted k) (mt : MayBe k.tx.hand xt) (mr : MayBe k.rx.hand xr) where
  abbrev outs : List (ℕ × Lying)
  outs = out_of k.tx.hand xt ++ out_of k.rx.hand xr

  abbrev now : Course
  now = course hist

  pub value_rest : (q : ℕ) → now.read ≤ q → q < length now.puts → (count xt ≡ 1 → q ≢ now.read) → (count xr ≡ 1 → q ≢ now.read) → slot_at s.homes outs (q % 1024) ≡ slice_get now.puts q
  value_rest q from lt at ar =
      let clean = sane hist m.legal in
      slot_value s hist k xt xr q (slice_get now.puts q) m from (let most = clean.most in omega (arith, lt, most))
      (λ l. carry_is Tx k.tx.hand now xt q clean m.tx.hand mt l lt at) (λ l. carry_is Rx k.rx.hand now xr q clean m.rx.hand mr l lt ar) (λ a b. refl)

  pub value_taken : count xt + count xr ≡ 1 → slot_at s.homes outs (now.read % 1024) ≡ None
  value_taken e =
      let clean = sane hist m.legal in
      slot_value s hist k xt xr now.read None m (omega arith) (omega arith)
      (λ l. ⊎_elim (λ t. taken_nothing k.tx.hand xt t) (λ r. absurd (alone k.tx.hand k.rx.hand now now.read clean m.tx.hand m.rx.hand l (taken_lends Rx k.rx.hand now xr m.rx.hand mr r))) which)
      (λ l. ⊎_elim (λ t. absurd (alone k.tx.hand k.rx.hand now now.read clean m.tx.hand m.rx.hand (taken_lends Tx k.tx.hand now xt m.tx.hand mt t) l)) (λ r. taken_nothing k.rx.hand xr r) which)
      (λ a b. ⊎_elim (λ t. absurd (a (taken_lends Tx k.tx.hand now xt m.tx.hand mt t))) (λ r. absurd (b (taken_lends Rx k.rx.hand now xr m.rx.hand mr r))) which)
    where
      counts : (x : Half) → (count x ≡ 0) ⊎ (count x ≡ 1)
      counts idle = inl refl
      counts (laid p) = inl refl
      counts taken = inr refl

      which : (count xt ≡ 1) ⊎ (count xr ≡ 1)
      which = ⊎_elim (λ z. inr (omega (arith, z, e))) (λ o. inl o) (counts xt)

  pub value_put : slot_at s.homes outs (length now.puts % 1024) ≡ laid_lying xt
  value_put =
      let clean = sane hist m.legal in
      slot_value s hist k xt xr (length now.puts) (laid_lying xt) m clean.order (let most = clean.most in omega (arith, most))
      (λ l. put_carry Tx k.tx.hand now xt (length now.puts) clean m.tx.hand mt l refl)
      (λ l. absurd (rx_not_there k.rx.hand now m.rx.hand l))
      (λ a b. slice_get_past now.puts (length now.puts) (omega arith) ∙ sym (nothing_laid xt mt a))
    where
      nothing_laid : (x : Half) → MayBe k.tx.hand x → (Lends k.tx.hand (length now.puts) → ⊥) → laid_lying x ≡ None
      nothing_laid idle may a = refl
      nothing_laid (laid p) may a = absurd (a (laid_lends Tx k.tx.hand now p m.tx.hand may))
      nothing_laid taken may a = refl

-- a row of slots with these packets
row_is : (f : ℕ → Lying) (xs : List PacketState) (from : ℕ) → ((i : ℕ) → i < length xs → f ((from + i) % 1024) ≡ slice_get xs i) → map (option_map tag) (row f from (length xs)) ≡ filled xs
row_is f [] from each = refl
row_is f (x ∷ xs) from each =
    ap₂ (λ a l. option_map tag a ∷ l) (ap (λ n. f (n % 1024)) (omega arith) ∙ each 0 (omega arith))
    (row_is f xs (from + 1) (λ i lt. ap (λ n. f (n % 1024)) (omega arith) ∙ each (suc i) (omega (arith, lt))))

get_dropped : {A : Type 0} (xs : List A) (n i : ℕ) → slice_get (drop n xs) i ≡ slice_get xs (n + i)
get_dropped xs zero i = let e : i ≡ 0 + i = omega arith in ap (λ j. slice_get xs j) e
get_dropped [] (suc n) i = refl
get_dropped (x ∷ xs) (suc n) i = let e : suc (n + i) ≡ suc n + i = omega arith in get_dropped xs n i ∙ ap (λ j. slice_get (x ∷ xs) j) e

queue_of : (f : ℕ → Lying) (puts : List PacketState) (read : ℕ) → ((q : ℕ) → read ≤ q → q < length puts → f (q % 1024) ≡ slice_get puts q) → map (option_map tag) (row f read (length puts - read)) ≡ filled (drop read puts)
queue_of f puts read each =
    ap (λ n. map (option_map tag) (row f read n)) (sym (length-drop read puts))
    ∙ row_is f (drop read puts) read (λ i lt. each (read + i) (omega arith) (let l = length-drop read puts in omega (arith, l, lt)) ∙ sym (get_dropped puts read i))

pub dropped : (xs : List PacketState) (n : ℕ) → n < length xs → (p : PacketState) × (drop n xs ≡ p ∷ drop (n + 1) xs)
dropped [] n l = absurd (omega arith)
dropped (x ∷ xs) zero l = (x, refl)
dropped (x ∷ xs) (suc n) l = let r = dropped xs n (omega (arith, l)) in let e : suc (n + 1) ≡ suc n + 1 = omega arith in (r.0, r.1 ∙ ap (λ m. r.0 ∷ drop m (x ∷ xs)) e)

-- the same where the first place is emptied
queue_emptied : (f : ℕ → Lying) (puts : List PacketState) (read : ℕ) → read < length puts → f (read % 1024) ≡ None → ((q : ℕ) → read < q → q < length puts → f (q % 1024) ≡ slice_get puts q)
    → map (option_map tag) (row f read (length puts - read)) ≡ emptied_by 1 (filled (drop read puts))
queue_emptied f puts read lt none_there each =
    ap (λ n. map (option_map tag) (row f read n)) (let e : length puts - read ≡ suc (length puts - suc read) = omega (arith, lt) in e)
    ∙ ap₂ (λ a l. option_map tag a ∷ l) none_there (ap (λ n. map (option_map tag) (row f (read + 1) n)) (let e : length puts - suc read ≡ length puts - (read + 1) = omega arith in e) ∙ queue_of f puts (read + 1) (λ q le l. each q (omega (arith, le)) l))
    ∙ emptied (drop read puts) (drop (read + 1) puts) (dropped puts read lt)
  where
    emptied : (xs ys : List PacketState) → (p : PacketState) × (xs ≡ p ∷ ys) → None ∷ filled ys ≡ emptied_by 1 (filled xs)
    emptied xs ys e = ap (λ l. emptied_by 1 (filled l)) (sym e.1)

-- READ

fields_read : (st : Status) → field_read (field st) ≡ field_as st
fields_read absent = refl
fields_read up = refl
fields_read gone = refl
fields_read closing = refl

closer_is : (a b : Status) → closes_as (state_of a) Tx (closes_as (state_of b) Rx None) ≡ closer_as a b
closer_is absent absent = refl
closer_is absent up = refl
closer_is absent gone = refl
closer_is absent closing = refl
closer_is up absent = refl
closer_is up up = refl
closer_is up gone = refl
closer_is up closing = refl
closer_is gone absent = refl
closer_is gone up = refl
closer_is gone gone = refl
closer_is gone closing = refl
closer_is closing b = refl

laid_is : (x : Half) → option_to_list (option_map (λ (p : PacketState). p.number) (laid_lying x)) ≡ map (λ (p : PacketState). p.number) (laid_by x)
laid_is idle = refl
laid_is (laid p) = refl
laid_is taken = refl

pub counts_both : (s : State Lying View) (hist : History) (k : Ends) (xt xr : Half) → Meets s hist parted k → MayBe k.tx.hand xt → MayBe k.rx.hand xr → (count xt + count xr ≡ 0) ⊎ (count xt + count xr ≡ 1)
counts_both s hist k idle idle m mt mr = inl refl
counts_both s hist k idle (laid p) m mt mr = inl refl
counts_both s hist k idle taken m mt mr = inr refl
counts_both s hist k (laid p) idle m mt mr = inl refl
counts_both s hist k (laid p) (laid q) m mt mr = inl refl
counts_both s hist k (laid p) taken m mt mr = inr refl
counts_both s hist k taken idle m mt mr = inr refl
counts_both s hist k taken (laid p) m mt mr = inr refl
counts_both s hist k taken taken m mt mr =
    absurd (alone k.tx.hand k.rx.hand (course hist) (course hist).read (sane hist m.legal) m.tx.hand m.rx.hand (taken_lends Tx k.tx.hand (course hist) taken m.tx.hand mt refl) (taken_lends Rx k.rx.hand (course hist) taken m.rx.hand mr refl))

-- where something is taken, it was there
pub taken_there : (side : Side) (h : Hand) (c : Course) (x : Half) → HandOk side h c → MayBe h x → count x ≡ 1 → c.read < length c.puts
taken_there side h c idle ok may e = absurd (omega (arith, e))
taken_there side h c (laid p) ok may e = absurd (omega (arith, e))
taken_there side Nothing c taken ok may e = absurd may
taken_there side (Writing a b) c taken ok may e = absurd may
taken_there side (Reading a b y) c taken ok may e = let n = ok.next in let l = ok.most in omega (arith, n, l, may)

pub some_taken : (s : State Lying View) (hist : History) (k : Ends) (xt xr : Half) → Meets s hist parted k → MayBe k.tx.hand xt → MayBe k.rx.hand xr → count xt + count xr ≡ 1 → (course hist).read < length (course hist).puts
some_taken s hist k idle xr m mt mr e = taken_there Rx k.rx.hand (course hist) xr m.rx.hand mr (omega (arith, e))
some_taken s hist k (laid p) xr m mt mr e = taken_there Rx k.rx.hand (course hist) xr m.rx.hand mr (omega (arith, e))
some_taken s hist k taken xr m mt mr e = taken_there Tx k.tx.hand (course hist) taken m.tx.hand mt refl

queue_read : (s : State Lying View) (hist : History) (k : Ends) (xt xr : Half) (m : Meets s hist parted k) (mt : MayBe k.tx.hand xt) (mr : MayBe k.rx.hand xr)
    → map (option_map tag) (row (slot_at s.homes (out_of k.tx.hand xt ++ out_of k.rx.hand xr)) (course hist).read (length (course hist).puts - (course hist).read)) ≡ emptied_by (count xt + count xr) (filled (drop (course hist).read (course hist).puts))
queue_read s hist k xt xr m mt mr = ⊎_elim
    (λ z. queue_of (slot_at s.homes (out_of k.tx.hand xt ++ out_of k.rx.hand xr)) (course hist).puts (course hist).read
    (λ q from lt. value_rest s hist k xt xr m mt mr q from lt (λ o. absurd (omega (arith, z, o))) (λ o. absurd (omega (arith, z, o))))
    ∙ ap (λ n. emptied_by n (filled (drop (course hist).read (course hist).puts))) (sym z))
    (λ o. queue_emptied (slot_at s.homes (out_of k.tx.hand xt ++ out_of k.rx.hand xr)) (course hist).puts (course hist).read (some_taken s hist k xt xr m mt mr o) (value_taken s hist k xt xr m mt mr o)
    (λ q from lt. value_rest s hist k xt xr m mt mr q (omega (arith, from)) lt (λ a e. omega (arith, from, e)) (λ a e. omega (arith, from, e)))
    ∙ ap (λ n. emptied_by n (filled (drop (course hist).read (course hist).puts))) (sym o))
    (counts_both s hist k xt xr m mt mr)

-- what is read off a state that meets the rule is where the history led
pub reads : (t r : ℕ) (s : State Lying View) (hist : History) (k : Ends) (xt xr : Half) → Meets s hist parted k → MayBe k.tx.hand xt → MayBe k.rx.hand xr
    → read_lane t r s (out_of k.tx.hand xt ++ out_of k.rx.hand xr) ≡ core_of t r (course hist) (laid_by xt) (count xt + count xr)
reads t r s hist k xt xr m mt mr =
    let c : Course = course hist in
    let out = out_of k.tx.hand xt ++ out_of k.rx.hand xr in
    let word : slice_index s.words 0 ≡ word_of c = word_at s hist parted k m in
    let put : slice_index s.words 1 ≡ length c.puts = put_at s hist parted k m in
    let read : slice_index s.words 2 ≡ c.read = read_at s hist parted k m in
    let e_tx : field_read (slice_index s.words 0 / 4) ≡ field_as c.tx = ap (λ w. field_read (w / 4)) word ∙ ap field_read (field_of_side Tx c) ∙ fields_read c.tx in
    let e_rx : field_read (slice_index s.words 0 % 4) ≡ field_as c.rx = ap (λ w. field_read (w % 4)) word ∙ ap field_read (field_of_side Rx c) ∙ fields_read c.rx in
    let e_queue = ap₂ (λ a b. map (option_map tag) (row (slot_at s.homes out) a (b - a))) read put ∙ queue_read s hist k xt xr m mt mr in
    let e_laid = ap (λ n. option_to_list (option_map (λ (p : PacketState). p.number) (slot_at s.homes out (n % 1024)))) put ∙ ap (λ y. option_to_list (option_map (λ (p : PacketState). p.number) y)) (value_put s hist k xt xr m mt mr) ∙ laid_is xt in
    let e_closes = ap closer_in m.views ∙ ap₂ (λ a b. closes_as a Tx (closes_as b Rx None)) m.tx.state m.rx.state ∙ closer_is c.tx c.rx in
    λ i. record { tx_seat = t; rx_seat = r; tx = e_tx i; rx = e_rx i; put = put i; read = read i; queue = e_queue i; laid = e_laid i; closes = e_closes i }

-- the table of a scene
pub record Placed (s : State Lying View) (side : Side) (v u : Known) : Type 0 where
  pub hist : History
  pub k : Ends
  pub meets : Meets s hist parted k
  pub own : of_side side k ≡ v
  pub far : of_side (other side) k ≡ u

abbrev known_at : Known → List View → Known
known_at d [] = d
known_at d (Fresh a b ∷ vs) = d
known_at d (One side v ∷ vs) = v
known_at d (Both a b ∷ vs) = d
known_at d (Spent ∷ vs) = d

abbrev begins_with_one : List View → Bool
begins_with_one [] = false
begins_with_one (Fresh a b ∷ vs) = false
begins_with_one (One side v ∷ vs) = true
begins_with_one (Both a b ∷ vs) = false
begins_with_one (Spent ∷ vs) = false

pub placed : (s : State Lying View) (side : Side) (v : Known) (x : Half) (u : Known) (y : Half) → Scene s side v x u y → Placed s side v u
placed s side v x u y scene = by scene.rule.stage side scene.rule.meets (sym scene.rule.meets.views ∙ scene.views)
  where
    by : (stage : Stage) (side : Side) → Meets s scene.rule.hist stage scene.rule.ends → views_of stage scene.rule.ends ≡ views_by side v u → Placed s side v u
    by whole Tx m e = absurd (let b : false ≡ true = ap begins_with_one e in cc)
    by whole Rx m e = absurd (let b : false ≡ true = ap begins_with_one e in cc)
    by parted Tx m e = record { hist = scene.rule.hist; k = scene.rule.ends; meets = m; own = ap (known_at v) e; far = ap (λ vs. known_at u (drop 1 vs)) e }
    by parted Rx m e = record { hist = scene.rule.hist; k = scene.rule.ends; meets = m; own = ap (λ vs. known_at v (drop 1 vs)) e; far = ap (known_at u) e }
    by joined Tx m e = absurd (let b : false ≡ true = ap begins_with_one e in cc)
    by joined Rx m e = absurd (let b : false ≡ true = ap begins_with_one e in cc)

-- the marks of the two ends
abbrev pub tx_mark : Side → Half → Half → Half
tx_mark Tx x y = x
tx_mark Rx x y = y

abbrev pub rx_mark : Side → Half → Half → Half
rx_mark Tx x y = y
rx_mark Rx x y = x

abbrev pub lane_for : ℕ → ℕ → Course → Side → Half → Half → LaneState
lane_for t r c side x y = core_of t r c (laid_by (tx_mark side x y)) (count (tx_mark side x y) + count (rx_mark side x y))

-- what is read of one end's side
pub reads_by : (t r : ℕ) (s : State Lying View) (hist : History) (k : Ends) (side : Side) (x y : Half) → Meets s hist parted k → MayBe (of_side side k).hand x → MayBe (of_side (other side) k).hand y
    → lane_by t r s side (of_side side k) x (of_side (other side) k) y ≡ lane_for t r (course hist) side x y
reads_by t r s hist k Tx x y m a b = reads t r s hist k x y m a b
reads_by t r s hist k Rx x y m a b = reads t r s hist k y x m b a
