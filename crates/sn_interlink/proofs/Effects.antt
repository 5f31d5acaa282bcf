-- What each step leaves: where the longer history leads, with the slots turned or as they were.
use Rattle.std.proofs.Common.{◌≡◌, ◌≢◌, ◌<◌, ◌≤◌, ◌⊎◌, inl, inr, ⊎_elim, ℕ, ◌+◌, ◌%◌, Bool, true, false, List, [], ◌∷◌, ◌++◌, length, refl, sym, ap, ◌∙◌, subst, arith, slice_get}
use Rattle.std.specs.Prelude.{slice_set}
use Rattle.std.proofs.lemmas.Bool.{cases_eq}
use Rattle.std.proofs.lemmas.List.{length-append}
use Rattle.std.proofs.lemmas.Option.{slice_get_past}
use mathlib.Core.Option.{none, some, some-ne-none, some-injective}
use mathlib.Core.Option as maybe
use lib.ListN.{get_elem?}
use Rattle.atomic_table.specs.Table.{State, homes_after}
use Rattle.sn_core.specs.declared.events.Side.{Side}
use Rattle.sn_core.specs.declared.events.Side.TheVariants.{Tx, Rx}
use Rattle.sn_packet.specs.Packet.{PacketState}
use Rattle.sn_interlink.specs.declared.view.Hand.{Hand}
use Rattle.sn_interlink.specs.declared.view.Known.{Known}
use Rattle.sn_interlink.specs.declared.view.View.{View}
use Rattle.sn_interlink.specs.declared.view.View.TheVariants.{One}
use Rattle.sn_interlink.specs.Course.{Course, other, Deed, Enabled, History, course, Sane}
use Rattle.sn_interlink.specs.Rule.{Lying, first_of, lies_in, Lends, HandOk, Fits, Ends, of_side, with_side, Stage, parted, views_of, Cells, words_of, Meets}
use Rattle.sn_interlink.specs.Moves.{Half, idle, laid, taken, carry, lends, out_of, turn, seat_of, stayed, Left}
use Rattle.sn_interlink.proofs.Machine.{sane, slice_get-front, slice_get-last, lt_or_le}
use Rattle.sn_interlink.proofs.Hands.{tx_fits_on, rx_fits_on, out_place, alone}
use Rattle.sn_interlink.proofs.Turning.{given, fetched, turn_valid, turn_carried, turn_homes, length_turned, lends_true, lends_false, elsewhere, read_given, read_back, read_fetched}

-- a place of the window whose slot is given back now
pub record Returned (v : Known) (half : Half) (c' : Course) (q : ℕ) : Type 0 where
  pub lent : lends v.hand ≡ true
  pub slot : q % 1024 ≡ first_of v.hand % 1024
  pub what : carry v.hand half ≡ slice_get c'.puts q

-- a place of the window that was there before
pub record Stays (v : Known) (c c' : Course) (q : ℕ) : Type 0 where
  pub from : c.read ≤ q
  pub below : q < c.read + 1024
  pub out : Lends v.hand q → ⊥
  pub what : slice_get c.puts q ≡ slice_get c'.puts q

abbrev pub Back : Known → Half → Course → Course → Type 0
Back v half c c' = (q : ℕ) → c'.read ≤ q → q < c'.read + 1024 → Returned v half c' q ⊎ Stays v c c' q

pub own_fits : (s : State Lying View) (hist : History) (stage : Stage) (k : Ends) (side : Side) → Meets s hist stage k → Fits side (of_side side k) hist
own_fits s hist stage k Tx m = m.tx
own_fits s hist stage k Rx m = m.rx

-- the slots by own and far hand
cells_by : (s : State Lying View) (hist : History) (stage : Stage) (k : Ends) (side : Side) → Meets s hist stage k
    → (q : ℕ) → (course hist).read ≤ q → q < (course hist).read + 1024 → (Lends (of_side side k).hand q → ⊥) → (Lends (of_side (other side) k).hand q → ⊥)
    → get_elem? s.homes (q % 1024) ≡ some (some (slice_get (course hist).puts q))
cells_by s hist stage k Tx m q from below own far = m.cells q from below own far
cells_by s hist stage k Rx m q from below own far = m.cells q from below far own

cells_from : (homes : List (maybe.Option Lying)) (c : Course) (k : Ends) (side : Side) (w : Known)
    → ((q : ℕ) → c.read ≤ q → q < c.read + 1024 → (Lends w.hand q → ⊥) → (Lends (of_side (other side) k).hand q → ⊥) → get_elem? homes (q % 1024) ≡ some (some (slice_get c.puts q)))
    → Cells homes c (with_side side w k).tx.hand (with_side side w k).rx.hand
cells_from homes c k Tx w read q from below tx rx = read q from below tx rx
cells_from homes c k Rx w read q from below tx rx = read q from below rx tx

alone_by : (side : Side) (g h : Hand) (c : Course) (q : ℕ) → Sane c → HandOk side g c → HandOk (other side) h c → Lends g q → Lends h q → ⊥
alone_by Tx g h c q s ok also l m = alone g h c q s ok also l m
alone_by Rx g h c q s ok also l m = alone h g c q s also ok m l

-- what both ends know after a step of one
pub record BothFit (side : Side) (w : Known) (k : Ends) (hist : History) : Type 0 where
  pub tx : Fits Tx (with_side side w k).tx hist
  pub rx : Fits Rx (with_side side w k).rx hist
  pub far : Fits (other side) (of_side (other side) k) hist

both_fit : (s : State Lying View) (hist : History) (stage : Stage) (k : Ends) (side : Side) (d : Deed) (w : Known)
    → Meets s hist stage k → Enabled side d (course hist) → Fits side w ((side, d) ∷ hist) → BothFit side w k ((side, d) ∷ hist)
both_fit s hist stage k Tx d w m en f = let far = rx_fits_on d hist k.rx (sane hist m.legal) en m.rx in record { tx = f; rx = far; far = far }
both_fit s hist stage k Rx d w m en f = let far = tx_fits_on d hist k.tx (sane hist m.legal) en m.tx in record { tx = far; rx = f; far = far }

pub views_set : (s : State Lying View) (k : Ends) (side : Side) (w : Known) → s.views ≡ views_of parted k → slice_set s.views (seat_of side) (One side w) ≡ views_of parted (with_side side w k)
views_set s k Tx w e = ap (λ vs. slice_set vs 0 (One Tx w)) e
views_set s k Rx w e = ap (λ vs. slice_set vs 1 (One Rx w)) e

-- the slots after those of the old hand are back
module _ (s : State Lying View) (hist : History) (k : Ends) (side : Side) (half : Half) (c' : Course) where
  abbrev back_homes : List (maybe.Option Lying)
  back_homes = given (lends (of_side side k).hand) (first_of (of_side side k).hand % 1024) (carry (of_side side k).hand half) s.homes

  home_after : Meets s hist parted k → (q : ℕ) → (Lends (of_side (other side) k).hand q → ⊥)
      → Returned (of_side side k) half c' q ⊎ Stays (of_side side k) (course hist) c' q → get_elem? back_homes (q % 1024) ≡ some (some (slice_get c'.puts q))
  home_after m q far (inl r) =
      let h : Hand = (of_side side k).hand in
      let long = m.long in
      read_back s.homes (lends h) (first_of h % 1024) (q % 1024) (carry h half) r.lent r.slot (omega (arith, long)) ∙ ap (λ x. some (some x)) r.what
  home_after m q far (inr t) =
      let h : Hand = (of_side side k).hand in
      let c : Course = course hist in
      let ok : HandOk side h c = (own_fits s hist parted k side m).hand in
      let inside : (p : ℕ) → Lends h p → (c.read ≤ p) × (p < c.read + 1024) = λ p l. let o = out_place side h c p (sane hist m.legal) ok l in (o.from, o.below) in
      let away = elsewhere c.read h q t.out inside t.from t.below in
      read_given s.homes (lends h) (first_of h % 1024) (q % 1024) (carry h half) away.slot ∙ cells_by s hist parted k side m q t.from t.below t.out far ∙ ap (λ x. some (some x)) t.what

module _ (s : State Lying View) (hist : History) (k : Ends) (side : Side) (d : Deed) (half : Half) (w : Known) (i n : ℕ) where
  abbrev now : Course
  now = course ((side, d) ∷ hist)

  abbrev old : Hand
  old = (of_side side k).hand

  abbrev turned_homes : List (maybe.Option Lying)
  turned_homes = fetched (lends w.hand) (first_of w.hand % 1024) (back_homes s hist k side half now)

  -- a step that turns the slots
  pub kind : Meets s hist parted k → Enabled side d (course hist) → Fits side w ((side, d) ∷ hist) → slice_set s.words i n ≡ words_of now
      → Back (of_side side k) half (course hist) now → Left s hist k side d (of_side side k) half w i n
  kind m en f words back = record {
    valid = turn_valid s.homes (lends old) (lends w.hand) (first_of old % 1024) (first_of w.hand % 1024) (carry old half) (lies_in w.hand) there;
    carried = turn_carried (lends old) (lends w.hand) (first_of old % 1024) (first_of w.hand % 1024) (carry old half) (lies_in w.hand);
    meets = record {
      legal = (en, m.legal);
      views = views_set s k side w m.views;
      tx = fit.tx;
      rx = fit.rx;
      cells = subst (λ hs. Cells hs now (with_side side w k).tx.hand (with_side side w k).rx.hand) (sym turned) (cells_from turned_homes now k side w read);
      words = words;
      long = ap length turned ∙ length_turned s.homes (lends old) (lends w.hand) (first_of old % 1024) (first_of w.hand % 1024) (carry old half) ∙ m.long;
    };
  }
    where
      fit : BothFit side w k ((side, d) ∷ hist)
      fit = both_fit s hist parted k side d w m en f

      clean : Sane now
      clean = sane ((side, d) ∷ hist) (en, m.legal)

      turned : homes_after s.homes (out_of old half) (turn old w.hand) ≡ turned_homes
      turned = turn_homes s.homes (lends old) (lends w.hand) (first_of old % 1024) (first_of w.hand % 1024) (carry old half) (lies_in w.hand)

      inside : (p : ℕ) → Lends w.hand p → (now.read ≤ p) × (p < now.read + 1024)
      inside p l = let o = out_place side w.hand now p clean f.hand l in (o.from, o.below)

      there : lends w.hand ≡ true → get_elem? (back_homes s hist k side half now) (first_of w.hand % 1024) ≡ some (some (lies_in w.hand))
      there e =
          let l : Lends w.hand (first_of w.hand) = record { here = refl; within = lends_true w.hand e } in
          let o = out_place side w.hand now (first_of w.hand) clean f.hand l in
          home_after s hist k side half now m (first_of w.hand) (λ far. alone_by side w.hand (of_side (other side) k).hand now (first_of w.hand) clean f.hand fit.far.hand l far)
          (back (first_of w.hand) o.from o.below) ∙ ap (λ x. some (some x)) (sym o.what)

      read : (q : ℕ) → now.read ≤ q → q < now.read + 1024 → (Lends w.hand q → ⊥) → (Lends (of_side (other side) k).hand q → ⊥) → get_elem? turned_homes (q % 1024) ≡ some (some (slice_get now.puts q))
      read q from below own far =
          let away = elsewhere now.read w.hand q own inside from below in
          read_fetched (back_homes s hist k side half now) (lends w.hand) (first_of w.hand % 1024) (q % 1024) away.slot ∙ home_after s hist k side half now m q far (back q from below)

  -- a step that leaves the machine and the slots
  pub kind_still : Meets s hist parted k → Enabled side d (course hist) → Fits side w ((side, d) ∷ hist) → slice_set s.words i n ≡ words_of now → now ≡ course hist → w.hand ≡ old
      → Meets (stayed s i n side (of_side side k) half w) ((side, d) ∷ hist) parted (with_side side w k)
  kind_still m en f words same hand = record {
    legal = (en, m.legal);
    views = views_set s k side w m.views;
    tx = fit.tx;
    rx = fit.rx;
    cells = cells_from s.homes now k side w read;
    words = words;
    long = m.long;
  }
    where
      fit : BothFit side w k ((side, d) ∷ hist)
      fit = both_fit s hist parted k side d w m en f

      read : (q : ℕ) → now.read ≤ q → q < now.read + 1024 → (Lends w.hand q → ⊥) → (Lends (of_side (other side) k).hand q → ⊥) → get_elem? s.homes (q % 1024) ≡ some (some (slice_get now.puts q))
      read = subst (λ (x : Course × Hand). (q : ℕ) → x.0.read ≤ q → q < x.0.read + 1024 → (Lends x.1 q → ⊥) → (Lends (of_side (other side) k).hand q → ⊥) → get_elem? s.homes (q % 1024) ≡ some (some (slice_get x.0.puts q)))
          (λ i. (sym same i, sym hand i)) (cells_by s hist parted k side m)

-- the window's places: that of the hand, whose slot comes back, and the others
pub record Window (side : Side) (h : Hand) (c : Course) : Type 0 where
  pub lent : (q : ℕ) → lends h ≡ true → q ≡ first_of h → lies_in h ≡ slice_get c.puts q

window : (s : State Lying View) (hist : History) (k : Ends) (side : Side) → Meets s hist parted k → Window side (of_side side k).hand (course hist)
window s hist k side m = record {
  lent = λ q e same. (out_place side (of_side side k).hand (course hist) q (sane hist m.legal) (own_fits s hist parted k side m).hand (record { here = same; within = lends_true (of_side side k).hand e })).what;
}

-- slots come back as they went out
pub back_as_it_went : (s : State Lying View) (hist : History) (k : Ends) (side : Side) (c' : Course) → Meets s hist parted k → c'.read ≡ (course hist).read → c'.puts ≡ (course hist).puts
    → Back (of_side side k) idle (course hist) c'
back_as_it_went s hist k side c' m reads puts q from below = ⊎_elim same_place other_place (cases_eq q (first_of (of_side side k).hand))
  where
    stays_there : (Lends (of_side side k).hand q → ⊥) → Returned (of_side side k) idle c' q ⊎ Stays (of_side side k) (course hist) c' q
    stays_there out = inr (record { from = omega (arith, from, reads); below = omega (arith, below, reads); out = out; what = ap (λ ps. slice_get ps q) (sym puts) })

    lending : (b : Bool) → lends (of_side side k).hand ≡ b → q ≡ first_of (of_side side k).hand → Returned (of_side side k) idle c' q ⊎ Stays (of_side side k) (course hist) c' q
    lending true e same = inl (record { lent = e; slot = ap (λ a. a % 1024) same; what = (window s hist k side m).lent q e same ∙ ap (λ ps. slice_get ps q) (sym puts) })
    lending false e same = stays_there (lends_false (of_side side k).hand q e)

    same_place : q ≡ first_of (of_side side k).hand → Returned (of_side side k) idle c' q ⊎ Stays (of_side side k) (course hist) c' q
    same_place same = lending (lends (of_side side k).hand) refl same

    other_place : q ≢ first_of (of_side side k).hand → Returned (of_side side k) idle c' q ⊎ Stays (of_side side k) (course hist) c' q
    other_place differ = stays_there (λ l. differ l.here)

-- the slot comes back with a packet put at the next position
pub back_with_packet : (s : State Lying View) (hist : History) (k : Ends) (side : Side) (p : PacketState) (c' : Course) → Meets s hist parted k → lends (of_side side k).hand ≡ true
    → first_of (of_side side k).hand ≡ length (course hist).puts → c'.read ≡ (course hist).read → c'.puts ≡ (course hist).puts ++ p ∷ []
    → Back (of_side side k) (laid p) (course hist) c'
back_with_packet s hist k side p c' m e next reads puts q from below = ⊎_elim same_place other_place (cases_eq q (first_of (of_side side k).hand))
  where
    same_place : q ≡ first_of (of_side side k).hand → Returned (of_side side k) (laid p) c' q ⊎ Stays (of_side side k) (course hist) c' q
    same_place same = inl (record { lent = e; slot = ap (λ a. a % 1024) same; what = sym (slice_get-last (course hist).puts p q (same ∙ next)) ∙ ap (λ ps. slice_get ps q) (sym puts) })

    others : (xs : List PacketState) → q ≢ length xs → slice_get (xs ++ p ∷ []) q ≡ slice_get xs q
    others xs differ = ⊎_elim (λ lt. slice_get-front xs (p ∷ []) q lt) (λ le. slice_get_past (xs ++ p ∷ []) q (omega (arith, le, differ, length-append xs (p ∷ []))) ∙ sym (slice_get_past xs q le)) (lt_or_le q (length xs))

    other_place : q ≢ first_of (of_side side k).hand → Returned (of_side side k) (laid p) c' q ⊎ Stays (of_side side k) (course hist) c' q
    other_place differ = inr (record {
      from = omega (arith, from, reads);
      below = omega (arith, below, reads);
      out = λ l. differ l.here;
      what = sym (others (course hist).puts (λ e. differ (e ∙ sym next))) ∙ ap (λ ps. slice_get ps q) (sym puts);
    })

-- the slot comes back with nothing in it, and its position leaves the window
pub back_emptied : (s : State Lying View) (hist : History) (k : Ends) (side : Side) (c' : Course) → Meets s hist parted k → lends (of_side side k).hand ≡ true
    → first_of (of_side side k).hand ≡ (course hist).read → c'.read ≡ (course hist).read + 1 → c'.puts ≡ (course hist).puts
    → Back (of_side side k) taken (course hist) c'
back_emptied s hist k side c' m e next reads puts q from below = ⊎_elim new_place other_place (cases_eq q ((course hist).read + 1024))
  where
    clean : Sane (course hist)
    clean = sane hist m.legal

    new_place : q ≡ (course hist).read + 1024 → Returned (of_side side k) taken c' q ⊎ Stays (of_side side k) (course hist) c' q
    new_place same = inl (record {
      lent = e;
      slot = omega (arith, same, next);
      what = sym (slice_get_past c'.puts q (let l : length c'.puts ≡ length (course hist).puts = ap length puts in omega (arith, same, clean.most, l)));
    })

    other_place : q ≢ (course hist).read + 1024 → Returned (of_side side k) taken c' q ⊎ Stays (of_side side k) (course hist) c' q
    other_place differ = inr (record {
      from = omega (arith, from, reads);
      below = omega (arith, below, reads, differ);
      out = λ l. let here = l.here in omega (arith, here, next, from, reads);
      what = ap (λ ps. slice_get ps q) (sym puts);
    })
