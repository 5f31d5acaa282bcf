-- The lane that is read off a table that meets the rule is sound.
use Rattle.std.proofs.Common.{◌≡◌, ◌<◌, ◌≤◌, ◌⊎◌, inl, inr, ⊎_elim, ℕ, zero, suc, ◌+◌, true, not, ◌&&◌, ◌||◌, Option, List, [], ◌∷◌, map, length, drop, Some, is_some, IsSome, refl, sym, ap, ◌∙◌, subst, arith}
use Rattle.std.specs.List.{All}
use Rattle.std.proofs.lemmas.List.{length-drop}
use Rattle.std.proofs.lemmas.List.Elements.{All-nil, All-cons}
use Rattle.atomic_table.specs.Table.{State}
use Rattle.sn_core.specs.declared.events.Side.{Side}
use Rattle.sn_core.specs.declared.events.Side.TheVariants.{Tx, Rx}
use Rattle.sn_core.specs.declared.parts.Packet.{Packet}
use Rattle.sn_core.specs.Lane.{LaneState, is_absent, is_free, is_down, emptied_by, unreleased}
use Rattle.sn_core.specs.Lane as lanes
use Rattle.sn_core.specs.Sound.{LaneIsSound}
use Rattle.sn_packet.specs.Packet.{PacketState}
use Rattle.sn_interlink.specs.declared.view.Hand.{Hand}
use Rattle.sn_interlink.specs.declared.view.Hand.TheVariants.{Nothing, Writing, Reading}
use Rattle.sn_interlink.specs.declared.view.View.{View}
use Rattle.sn_interlink.specs.Course.{Status, absent, up, gone, closing, Course, other, is_on, is_closing, History, course, Sane, ok_pair}
use Rattle.sn_interlink.specs.Rule.{Lying, HandOk, Ends, of_side, parted, Meets}
use Rattle.sn_interlink.specs.Moves.{Half, idle, laid, taken}
use Rattle.sn_interlink.specs.Reading.{tag}
use Rattle.sn_interlink.specs.StepLaws.{MayBe, SoundLaw}
use Rattle.sn_interlink.proofs.Machine.{sane, up_not_absent}
use Rattle.sn_interlink.proofs.LaneEvents.{all_filled, nothing_behind}
use Rattle.sn_interlink.proofs.LawsHold.{length_filled, may_write, before, hand_own, hand_far}
use Rattle.sn_interlink.proofs.ReadOff.{field_as, closer_as, laid_by, count, filled, core_of, counts_both, placed, lane_for}

length_emptied : (n : ℕ) (q : List (Option Packet)) → length (emptied_by n q) ≡ length q
length_emptied zero q = refl
length_emptied (suc n) [] = refl
length_emptied (suc n) (x ∷ xs) = ap suc (length_emptied n xs)

each_filled : (ps : List PacketState) → All (λ place. IsSome place) (filled ps)
each_filled [] = All-nil (λ place. IsSome place)
each_filled (p ∷ ps) = All-cons (λ place. IsSome place) (Some (tag p)) (filled ps) refl (each_filled ps)

-- a queue of which at most the first place is emptied
pub record Front (n : ℕ) (ps : List PacketState) : Type 0 where
  pub few : unreleased (emptied_by n (filled ps)) ≤ 1
  pub rest : All (λ place. IsSome place) (drop (unreleased (emptied_by n (filled ps))) (emptied_by n (filled ps)))
  pub some_out : 0 < unreleased (emptied_by n (filled ps)) → n ≡ 1

front_none : (ps : List PacketState) → Front 0 ps
front_none ps = record {
  few = let z = all_filled ps in omega (arith, z);
  rest = subst (λ k. All (λ place. IsSome place) (drop k (filled ps))) (sym (all_filled ps)) (each_filled ps);
  some_out = λ lt. absurd (let z = all_filled ps in omega (arith, z, lt));
}

front_one : (ps : List PacketState) → Front 1 ps
front_one [] = record { few = omega arith; rest = All-nil (λ place. IsSome place); some_out = λ lt. refl }
front_one (p ∷ ps) = record {
  few = let z = all_filled ps in omega (arith, z);
  rest = subst (λ k. All (λ place. IsSome place) (drop k (filled ps))) (sym (all_filled ps)) (each_filled ps);
  some_out = λ lt. refl;
}

front : (n : ℕ) (ps : List PacketState) → (n ≡ 0) ⊎ (n ≡ 1) → Front n ps
front n ps e = ⊎_elim (λ z. subst (λ k. Front k ps) (sym z) (front_none ps)) (λ o. subst (λ k. Front k ps) (sym o) (front_one ps)) e

-- who may have taken a packet
on_either : (a b : Status) → ok_pair a b ≡ true → (is_closing a ≡ true) ⊎ (is_on b ≡ true) → (lanes.is_up (field_as b) || is_some (closer_as a b)) ≡ true
on_either absent absent p e = ⊎_elim (λ c. cc) (λ c. cc) e
on_either absent up p e = refl
on_either absent gone p e = cc
on_either absent closing p e = refl
on_either up absent p e = ⊎_elim (λ c. cc) (λ c. cc) e
on_either up up p e = refl
on_either up gone p e = ⊎_elim (λ c. cc) (λ c. cc) e
on_either up closing p e = cc
on_either gone absent p e = cc
on_either gone up p e = refl
on_either gone gone p e = cc
on_either gone closing p e = refl
on_either closing absent p e = refl
on_either closing up p e = cc
on_either closing gone p e = refl
on_either closing closing p e = cc

reader_on : (c : Course) (g h : Hand) (xt xr : Half) → HandOk Tx g c → HandOk Rx h c → MayBe g xt → MayBe h xr → count xt + count xr ≡ 1 → (is_closing c.tx ≡ true) ⊎ (is_on c.rx ≡ true)
reader_on c g h idle idle a b ma mb e = absurd (omega (arith, e))
reader_on c g h idle (laid p) a b ma mb e = absurd (omega (arith, e))
reader_on c g Nothing idle taken a b ma mb e = absurd mb
reader_on c g (Writing i j) idle taken a b ma mb e = absurd mb
reader_on c g (Reading i j y) idle taken a b ma mb e = inr b.reads
reader_on c g h (laid p) idle a b ma mb e = absurd (omega (arith, e))
reader_on c g h (laid p) (laid q) a b ma mb e = absurd (omega (arith, e))
reader_on c g Nothing (laid p) taken a b ma mb e = absurd mb
reader_on c g (Writing i j) (laid p) taken a b ma mb e = absurd mb
reader_on c g (Reading i j y) (laid p) taken a b ma mb e = inr b.reads
reader_on c Nothing h taken xr a b ma mb e = absurd ma
reader_on c (Writing i j) h taken xr a b ma mb e = absurd ma
reader_on c (Reading i j y) h taken xr a b ma mb e = inl a.reads

-- what is laid
pub record LaidFacts (c : Course) (x : Half) : Type 0 where
  pub few : length (map (λ (p : PacketState). p.number) (laid_by x)) ≤ 1
  pub is_there : 0 < length (map (λ (p : PacketState). p.number) (laid_by x)) → c.tx ≡ up
  pub room : length c.puts + length (map (λ (p : PacketState). p.number) (laid_by x)) ≤ c.read + 1023
  pub none : c.tx ≡ absent → map (λ (p : PacketState). p.number) (laid_by x) ≡ []

laid_facts : (h : Hand) (c : Course) (x : Half) → Sane c → HandOk Tx h c → MayBe h x → LaidFacts c x
laid_facts h c idle s ok may = record { few = omega arith; is_there = λ lt. absurd (omega (arith, lt)); room = let m = s.most in omega (arith, m); none = λ e. refl }
laid_facts h c (laid p) s ok may = let w = may_write h c p ok may in record { few = omega arith; is_there = λ lt. w.0; room = let q = w.1 in omega (arith, q); none = λ e. absurd (up_not_absent (sym w.0 ∙ e)) }
laid_facts h c taken s ok may = record { few = omega arith; is_there = λ lt. absurd (omega (arith, lt)); room = let m = s.most in omega (arith, m); none = λ e. refl }

closer_down : (a b : Status) → ok_pair a b ≡ true → is_some (closer_as a b) ≡ (not (lanes.is_up (field_as a)) && not (lanes.is_up (field_as b)) && not (is_absent (field_as a) && is_absent (field_as b)))
closer_down absent absent p = refl
closer_down absent up p = refl
closer_down absent gone p = cc
closer_down absent closing p = refl
closer_down up absent p = refl
closer_down up up p = refl
closer_down up gone p = refl
closer_down up closing p = cc
closer_down gone absent p = cc
closer_down gone up p = refl
closer_down gone gone p = cc
closer_down gone closing p = refl
closer_down closing absent p = refl
closer_down closing up p = cc
closer_down closing gone p = refl
closer_down closing closing p = cc

free_absent : (a b : Status) → (is_absent (field_as a) && is_absent (field_as b)) ≡ true → a ≡ absent
free_absent absent b e = refl
free_absent up b e = cc
free_absent gone b e = cc
free_absent closing b e = cc

nothing_emptied : (n : ℕ) → emptied_by n [] ≡ []
nothing_emptied zero = refl
nothing_emptied (suc n) = refl

sound_of : (t r : ℕ) (s : State Lying View) (hist : History) (k : Ends) (xt xr : Half) → Meets s hist parted k → MayBe k.tx.hand xt → MayBe k.rx.hand xr → LaneIsSound (core_of t r (course hist) (laid_by xt) (count xt + count xr))
sound_of t r s hist k xt xr m mt mr =
    let c : Course = course hist in
    let clean = sane hist m.legal in
    let n : ℕ = count xt + count xr in
    let l = laid_facts k.tx.hand c xt clean m.tx.hand mt in
    let f = front n (drop c.read c.puts) (counts_both s hist k xt xr m mt mr) in
    let long : length (emptied_by n (filled (drop c.read c.puts))) + c.read ≡ length c.puts = (let a = length_emptied n (filled (drop c.read c.puts)) in let b = length_filled (drop c.read c.puts) in let d = length-drop c.read c.puts in let o = clean.order in omega (arith, a, b, d, o)) in
    record {
      laid = record { few = l.few; up = λ lt. ap field_as (l.is_there lt) };
      queue = record {
        positions = omega (arith, long);
        room = let q = l.room in omega (arith, long, q);
        few = f.few;
        filled = f.rest;
        emptied = λ lt. on_either c.tx c.rx clean.pair (reader_on c k.tx.hand k.rx.hand xt xr m.tx.hand m.rx.hand mt mr (f.some_out lt));
      };
      closes = record {
        closer = closer_down c.tx c.rx clean.pair;
        queue = λ e. let r = clean.free (free_absent c.tx c.rx e) in ap (λ q. emptied_by n (filled q)) (nothing_behind c.puts c.read (omega (arith, r))) ∙ nothing_emptied n;
        laid = λ e. l.none (free_absent c.tx c.rx e);
      };
      put = clean.below;
    }

sound_by : (t r : ℕ) (s : State Lying View) (hist : History) (k : Ends) (side : Side) (x y : Half) → Meets s hist parted k → MayBe (of_side side k).hand x → MayBe (of_side (other side) k).hand y → LaneIsSound (lane_for t r (course hist) side x y)
sound_by t r s hist k Tx x y m a b = sound_of t r s hist k x y m a b
sound_by t r s hist k Rx x y m a b = sound_of t r s hist k y x m b a

pub sound_law : SoundLaw
sound_law t r s side v x u y scene =
    let p = placed s side v x u y scene in
    subst LaneIsSound (sym (before t r s side v x u y scene p)) (sound_by t r s p.hist p.k side x y p.meets (hand_own s side v x u y scene p) (hand_far s side v x u y scene p))
