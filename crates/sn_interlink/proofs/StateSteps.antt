-- The steps on the state word keep the rule, and tell what they should.
use Rattle.std.proofs.Common.{arith, ◌≡◌, ◌≢◌, ◌⊎◌, inl, inr, ℕ, ◌+◌, ◌%◌, ◌^◌, Bool, true, false, eqb, eq-eqb, ne_eqb, Option, [], ◌∷◌, ◌++◌, Some, None, refl, sym, ap, ap₂, ◌∙◌, subst}
use Rattle.std.specs.Prelude.{slice_set, slice_index}
use mathlib.Core.Option.{none}
use prog.Atomic.{either}
use Rattle.atomic_table.specs.Table.{State, Me, step}
use Rattle.atomic_table.proofs.Lists.{exchanged}
use Rattle.sn_core.specs.declared.events.Side.{Side}
use Rattle.sn_core.specs.declared.events.Side.TheVariants.{Tx, Rx}
use Rattle.sn_interlink.specs.declared.view.EndState.TheVariants.{Out, Up, Closing}
use Rattle.sn_interlink.specs.declared.view.Hand.TheVariants.{Reading}
use Rattle.sn_interlink.specs.declared.view.Known.{Known}
use Rattle.sn_interlink.specs.declared.view.View.{View}
use Rattle.sn_interlink.specs.declared.view.View.TheVariants.{One}
use Rattle.sn_interlink.specs.Course.{Status, absent, up, gone, closing, Course, other, mine, with_status, is_up, word_of, state_of, field_in, unit, came_word, is_down, leaves, left_state, Deed, attaches, misses, detaches, resets, after, Enabled, History, course, Sane, entries_of}
use Rattle.sn_interlink.specs.Rule.{Lying, MayRead, HandOk, PlaceOk, Fits, Ends, of_side, with_side, parted, words_of, Meets}
use Rattle.sn_interlink.specs.Moves.{Half, idle, out_of, stayed, Left}
use Rattle.sn_interlink.specs.Plays.{look_deed_as, look_deed, looked_at, kept_place, came_up, missed, place_left, went, freed, is_up_state, Finds, FindsWord, LookPlay, AttachPlay, DetachPlay, ResetPlay}
use Rattle.sn_interlink.proofs.Machine.{sane, field_small, field_of_side, is_one, other_up, came_is, gone_is, down_is, shut_away}
use Rattle.sn_interlink.proofs.Effects.{own_fits, kind, kind_still, back_as_it_went}
use Rattle.sn_interlink.proofs.Steps.{one_side, one_known, Turns, Rests, Steps, log_more, up_if, closing_if, away_if, mine_with, mine_freed, puts_with, read_with, words_with, left_of, word_at}

-- the state word that is found
up_status : (status : Status) → is_up status ≡ is_up_state (state_of status)
up_status absent = refl
up_status up = refl
up_status gone = refl
up_status closing = refl

found_at : (s : State Lying View) (hist : History) (k : Ends) (side : Side) (n : ℕ) → Meets s hist parted k → slice_index s.words 0 ≡ n
    → Finds side (of_side side k).state n
found_at s hist k side n m is_n =
    let c : Course = course hist in
    let found : n ≡ word_of c = sym is_n ∙ word_at s hist parted k m in
    record {
      tx = omega (arith, found, field_small c.tx, field_small c.rx);
      rx = omega (arith, found, field_small c.tx, field_small c.rx);
      own = ap (λ x. eqb (field_in side x) 1) found ∙ ap (λ x. eqb x 1) (field_of_side side c) ∙ is_one (mine side c)
          ∙ up_status (mine side c) ∙ ap is_up_state (sym (own_fits s hist parted k side m).state);
    }

found_by : (side : Side) (v : Known) (n : ℕ) → Finds side v.state n → FindsWord (One side v) n
found_by side v n finds other w e =
    subst (λ (x : Side × Known). Finds x.0 x.1.state n) (λ j. (ap one_side e j, ap (one_known v) e j)) finds

found_known : (s : State Lying View) (hist : History) (k : Ends) (side : Side) (v : Known) (n : ℕ) → Meets s hist parted k → of_side side k ≡ v
    → slice_index s.words 0 ≡ n → FindsWord (One side v) n
found_known s hist k side v n m is is_n = found_by side v n (subst (λ (x : Known). Finds side x.state n) is (found_at s hist k side n m is_n))

-- a load of the state word
pub look_same : (b : Bool) (side : Side) (n : ℕ) (c : Course) → after side (look_deed_as b n) c ≡ c
look_same true side n c = refl
look_same false side n c = refl

pub look_enabled : (b : Bool) (side : Side) (n : ℕ) (c : Course) → is_down n ≡ b → Sane c → n ≡ word_of c → Enabled side (look_deed_as b n) c
look_enabled true side n c e s found = record {
  away = shut_away side c s (sym (down_is c s) ∙ ap is_down (sym found) ∙ e);
  why = e ∙ sym (eq-eqb n n refl);
}
look_enabled false side n c e s found = tt

-- what an end knows fits a history that leaves the machine
pub fits_still : (side : Side) (hist : History) (d : Deed) (u w : Known) → course ((side, d) ∷ hist) ≡ course hist → Fits side u hist → w.log ≡ u.log ++ entries_of d → w.state ≡ u.state
    → PlaceOk side w.place (course hist) → HandOk side w.hand (course hist) → Fits side w ((side, d) ∷ hist)
fits_still side hist d u w same f log state place hand = record {
  log = log ∙ log_more side hist d u.log f.log;
  state = state ∙ f.state ∙ ap (λ c. state_of (mine side c)) (sym same);
  place = subst (PlaceOk side w.place) (sym same) place;
  hand = subst (HandOk side w.hand) (sym same) hand;
}

pub look_left : (s : State Lying View) (hist : History) (k : Ends) (side : Side) (half : Half) (n : ℕ) → Meets s hist parted k → slice_index s.words 0 ≡ n
    → Meets (stayed s 0 n side (of_side side k) half (looked_at n (of_side side k))) ((side, look_deed n) ∷ hist) parted (with_side side (looked_at n (of_side side k)) k)
look_left s hist k side half n m is_n =
    let u : Known = of_side side k in
    let d : Deed = look_deed n in
    let w : Known = looked_at n u in
    let same : course ((side, d) ∷ hist) ≡ course hist = look_same (is_down n) side n (course hist) in
    let f = own_fits s hist parted k side m in
    let found = sym is_n ∙ word_at s hist parted k m in
    kind_still s hist k side d half w 0 n m (look_enabled (is_down n) side n (course hist) refl (sane hist m.legal) found)
    (fits_still side hist d u w same f refl refl f.place f.hand)
    (ap (λ x. slice_set s.words 0 x) (sym is_n) ∙ ap (λ ws. slice_set ws 0 (slice_index ws 0)) m.words ∙ ap words_of (sym same)) same refl

pub look_steps : (slots : ℕ) (side : Side) (v : Known) (half : Half) → Steps side v half 0 (λ n. n) (LookPlay (step slots 0 0 0 none) (One side v, out_of v.hand half))
look_steps slots side v half s hist k m is bound =
    let n : ℕ = slice_index s.words 0 in
    let u : Known = of_side side k in
    let d : Deed = look_deed n in
    let w : Known = looked_at n u in
    inr (record {
      d = d;
      w = w;
      left = look_left s hist k side half n m refl;
      told = (ap₂ (λ x h. (One side (looked_at n x), out_of h half)) is (ap (λ x. x.hand) is), found_known s hist k side v n m is refl);
    })

-- positions after a change of status
place_came : (side : Side) (place : Option ℕ) (c : Course) → PlaceOk side place c → PlaceOk side (kept_place side place) (with_status side up c)
place_came Tx place c ok = ok
place_came Rx place c ok = tt

place_went : (b : Bool) (side : Side) (place : Option ℕ) (c : Course) → PlaceOk side place c → PlaceOk side (place_left (left_state b) side place) (with_status side (leaves b) c)
place_went true Tx place c ok = ok
place_went false Tx place c ok = ok
place_went true Rx place c ok = tt
place_went false Rx None c ok = tt
place_went false Rx (Some a) c ok = record { is_there = refl; here = ok.here }

place_freed : (side : Side) (place : Option ℕ) (c : Course) → PlaceOk side place c → PlaceOk side (kept_place side place) (record { tx = absent; rx = absent; puts = c.puts; read = c.read })
place_freed Tx place c ok = ok
place_freed Rx place c ok = tt

-- the end comes up
pub attach_left : (s : State Lying View) (hist : History) (k : Ends) (side : Side) (n : ℕ) → Meets s hist parted k → (of_side side k).state ≡ Out → slice_index s.words 0 ≡ n → is_down n ≡ false
    → Left s hist k side (attaches n) (of_side side k) idle (came_up side n (of_side side k)) 0 (came_word side n)
attach_left s hist k side n m out is_n open_yet =
    let u : Known = of_side side k in
    let c : Course = course hist in
    let f = own_fits s hist parted k side m in
    let found : n ≡ word_of c = sym is_n ∙ word_at s hist parted k m in
    kind s hist k side (attaches n) idle (came_up side n u) 0 (came_word side n) m
    (record { found = found; away = away_if (mine side c) (sym f.state ∙ out); open_yet = sym (down_is c (sane hist m.legal)) ∙ ap is_down (sym found) ∙ open_yet })
    (record {
      log = log_more side hist (attaches n) u.log f.log;
      state = sym (ap state_of (mine_with side up c));
      place = place_came side u.place c f.place;
      hand = tt;
    })
    (ap₂ (λ ws x. slice_set ws 0 x) m.words (ap (came_word side) found ∙ came_is side c) ∙ words_with side up c)
    (back_as_it_went s hist k side (with_status side up c) m (read_with side up c) (puts_with side up c))

pub miss_left : (s : State Lying View) (hist : History) (k : Ends) (side : Side) (seen n : ℕ) → Meets s hist parted k → (of_side side k).state ≡ Out → slice_index s.words 0 ≡ n → is_down seen ≡ false → n ≢ seen
    → Meets (stayed s 0 n side (of_side side k) idle (missed seen n (of_side side k))) ((side, misses seen n) ∷ hist) parted (with_side side (missed seen n (of_side side k)) k)
miss_left s hist k side seen n m out is_n open_yet differ =
    let u : Known = of_side side k in
    let f = own_fits s hist parted k side m in
    kind_still s hist k side (misses seen n) idle (missed seen n u) 0 n m
    (record { away = away_if (mine side (course hist)) (sym f.state ∙ out); why = open_yet ∙ sym (ne_eqb n seen differ) })
    (fits_still side hist (misses seen n) u (missed seen n u) refl f refl refl f.place f.hand)
    (ap (λ x. slice_set s.words 0 x) (sym is_n) ∙ ap (λ ws. slice_set ws 0 (slice_index ws 0)) m.words) refl refl

pub attach_steps : (slots : ℕ) (side : Side) (v : Known) (seen : ℕ) → v.state ≡ Out → is_down seen ≡ false
    → Steps side v idle 0 (λ n. either (eqb n seen) (came_word side seen) n) (AttachPlay (step slots 0 seen (came_word side seen) none) (One side v, out_of v.hand idle))
attach_steps slots side v seen out open_yet s hist k m is bound =
    exchanged n seen (came_word side seen) (λ x. Turns s hist k side idle 0 x tells ⊎ Rests s hist k side idle 0 x tells) hit miss
  where
    n : ℕ
    n = slice_index s.words 0

    u : Known
    u = of_side side k

    tells : Me Lying View → Type 0
    tells = AttachPlay (step slots 0 seen (came_word side seen) none) (One side v, out_of v.hand idle) n

    hit : n ≡ seen → Turns s hist k side idle 0 (came_word side seen) tells ⊎ Rests s hist k side idle 0 (came_word side seen) tells
    hit e = inl (record {
      d = attaches n;
      w = came_up side n u;
      left = subst (λ x. Left s hist k side (attaches n) u idle (came_up side n u) 0 (came_word side x)) e (attach_left s hist k side n m (ap (λ x. x.state) is ∙ out) refl (ap is_down e ∙ open_yet));
      told = (λ _. ap (λ x. (One side (came_up side n x), [])) is, λ differ. absurd (differ e), found_known s hist k side v n m is refl);
    })

    miss : n ≢ seen → Turns s hist k side idle 0 n tells ⊎ Rests s hist k side idle 0 n tells
    miss differ = inr (record {
      d = misses seen n;
      w = missed seen n u;
      left = miss_left s hist k side seen n m (ap (λ x. x.state) is ∙ out) refl open_yet differ;
      told = (λ e. absurd (differ e), λ _. ap₂ (λ x h. (One side (missed seen n x), out_of h idle)) is (ap (λ x. x.hand) is), found_known s hist k side v n m is refl);
    })

-- the end goes
pub detach_left : (s : State Lying View) (hist : History) (k : Ends) (side : Side) (n : ℕ) → Meets s hist parted k → (of_side side k).state ≡ Up → slice_index s.words 0 ≡ n
    → Left s hist k side (detaches n) (of_side side k) idle (went side n (of_side side k)) 0 ((n + unit side) % 2 ^ 64)
detach_left s hist k side n m is_state is_n =
    kind s hist k side (detaches n) idle w 0 ((n + unit side) % 2 ^ 64) m
    (record { found = found; is_there = up_now })
    (record {
      log = log_more side hist (detaches n) u.log f.log;
      state = ap left_state closer ∙ left_of b ∙ sym (ap state_of (mine_with side (leaves b) c));
      place = subst (λ x. PlaceOk side (place_left (left_state x) side u.place) (with_status side (leaves b) c)) (sym closer) (place_went b side u.place c f.place);
      hand = tt;
    })
    (ap₂ (λ ws x. slice_set ws 0 x) m.words (ap (λ x. (x + unit side) % 2 ^ 64) found ∙ gone_is side b c up_now) ∙ words_with side (leaves b) c)
    (back_as_it_went s hist k side (with_status side (leaves b) c) m (read_with side (leaves b) c) (puts_with side (leaves b) c))
  where
    u : Known
    u = of_side side k

    c : Course
    c = course hist

    w : Known
    w = went side n u

    b : Bool
    b = is_up (mine (other side) c)

    f : Fits side u hist
    f = own_fits s hist parted k side m

    found : n ≡ word_of c
    found = sym is_n ∙ word_at s hist parted k m

    up_now : mine side c ≡ up
    up_now = up_if (mine side c) (sym f.state ∙ is_state)

    closer : eqb (field_in (other side) n) 1 ≡ b
    closer = ap (λ x. eqb (field_in (other side) x) 1) found ∙ other_up side c

pub detach_steps : (slots : ℕ) (side : Side) (v : Known) → v.state ≡ Up
    → Steps side v idle 0 (λ n. (n + unit side) % 2 ^ 64) (DetachPlay (step slots 0 (unit side) 0 none) (One side v, out_of v.hand idle))
detach_steps slots side v is_state s hist k m is bound =
    let n : ℕ = slice_index s.words 0 in
    inl (record {
      d = detaches n;
      w = went side n (of_side side k);
      left = detach_left s hist k side n m (ap (λ x. x.state) is ∙ is_state) refl;
      told = (ap (λ x. (One side (went side n x), [])) is, found_known s hist k side v n m is refl);
    })

-- what a reading hand that has no position left says of a closer
pub record Ended (v : Known) : Type 0 where
  pub first : ℕ
  pub lying : Lying
  pub hand : v.hand ≡ Reading first first lying

-- the closing end sets the interlink free
pub reset_left : (s : State Lying View) (hist : History) (k : Ends) (side : Side) → Meets s hist parted k → (of_side side k).state ≡ Closing → Ended (of_side side k)
    → Left s hist k side resets (of_side side k) idle (freed side (of_side side k)) 0 0
reset_left s hist k side m is_state ended =
    let u : Known = of_side side k in
    let c : Course = course hist in
    let f = own_fits s hist parted k side m in
    let closing_now : mine side c ≡ closing = closing_if (mine side c) (sym f.state ∙ is_state) in
    let reads : MayRead c side ended.first ended.first ended.lying = subst (λ h. HandOk side h c) ended.hand f.hand in
    kind s hist k side resets idle (freed side u) 0 0 m
    (record { closes = closing_now; empty = sym reads.next ∙ reads.ended closing_now })
    (record {
      log = log_more side hist resets u.log f.log;
      state = sym (ap state_of (mine_freed side c));
      place = place_freed side u.place c f.place;
      hand = tt;
    })
    (ap (λ ws. slice_set ws 0 0) m.words)
    (back_as_it_went s hist k side (record { tx = absent; rx = absent; puts = c.puts; read = c.read }) m refl refl)

pub reset_steps : (slots : ℕ) (side : Side) (v : Known) → v.state ≡ Closing → Ended v
    → Steps side v idle 0 (λ _. 0) (λ n. ResetPlay (step slots 0 0 0 none) (One side v, out_of v.hand idle) 0)
reset_steps slots side v is_state ended s hist k m is bound =
    inl (record {
      d = resets;
      w = freed side (of_side side k);
      left = reset_left s hist k side m (ap (λ x. x.state) is ∙ is_state) (record { first = ended.first; lying = ended.lying; hand = ap (λ x. x.hand) is ∙ ended.hand });
      told = ap (λ x. (One side (freed side x), [])) is;
    })
