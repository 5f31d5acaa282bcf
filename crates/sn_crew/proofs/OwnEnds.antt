-- A worker's tray has the end of each interlink that leads to the worker, or from it.
use Rattle.std.proofs.Common.{◌≡◌, ◌≢◌, ◌<◌, ◌+◌, ◌==◌, ◌&&◌, ◌||◌, ℕ, suc, Bool, true, false, bytes_eq, List, [], ◌∷◌, get_or}
use Rattle.std.proofs.Common.{length, map}
use Rattle.std.proofs.Common.{Some, refl, sym, ap, ◌∙◌, subst, arith}
use Rattle.std.specs.Prelude.{AllPairs, IsTrue, slice_get}
use Rattle.std.specs.List.{list_any}
use Rattle.std.proofs.lemmas.Slice.Eq.{bytes_eq-Decides}
use Rattle.sn_app.specs.Calls.{row_of}
use Rattle.sn_core.specs.declared.events.Side.{Side}
use Rattle.sn_core.specs.declared.events.Side.TheVariants.{Rx, Tx}
use Rattle.sn_scenario.specs.LaneEnds.{leads_from, leads_to}
use Rattle.sn_scenario.specs.declared.lane.Lane.{Lane}
use Rattle.sn_sharing.specs.Bonds.{worker_on}
use Rattle.sn_sharing.specs.Opened.{has_end_of, is_end_of}

-- no two interlinks of one name
abbrev pub AreApart : List Lane → Type 0
AreApart lanes = AllPairs (λ a b. a.name ≢ b.name) lanes

module _ (name : List ℕ) (p : Lane → Bool) where
  abbrev pub named : Lane → Bool
  named lane = bytes_eq lane.name name && p lane

  -- the interlink of this name stands at its row
  pub record AtRow (lanes : List Lane) : Type 0 where
    pub lane : Lane
    pub there : slice_get lanes (row_of (map (λ l. l.name) lanes) name) ≡ Some lane
    pub passes : p lane ≡ true

  other_name : (x : Lane) (b : Bool) → bytes_eq x.name name ≡ b → (x.name ≡ name → ⊥) → named x ≡ false
  other_name x true e apart = absurd (apart ((bytes_eq-Decides x.name name).0 e))
  other_name x false e apart = rw e refl

  -- none of these has the name of this one
  none_named : (x : Lane) → x.name ≡ name → (xs : List Lane)
      → ((k : ℕ) → k < length xs → x.name ≢ (get_or xs k x).name) → list_any named xs ≡ false
  none_named x is [] apart = refl
  none_named x is (y ∷ ys) apart =
      rw (other_name y (bytes_eq y.name name) refl (λ e. apart 0 (omega arith) (is ∙ sym e)))
      (none_named x is ys (λ k lt. apart (suc k) (omega (arith, lt))))

  passes_first : (x : Lane) (b c : Bool) → bytes_eq x.name name ≡ b → p x ≡ c → (b && c) ≡ true → c ≡ true
  passes_first x true c e f both = both
  passes_first x false c e f both = absurd (let h : false ≡ true = both in cc)

  there_later : (x lane : Lane) (xs : List Lane) → bytes_eq name x.name ≡ false
      → slice_get xs (row_of (map (λ l. l.name) xs) name) ≡ Some lane
      → slice_get (x ∷ xs) (row_of (map (λ l. l.name) (x ∷ xs)) name) ≡ Some lane
  there_later x lane xs e at =
      let row : ℕ = row_of (map (λ l. l.name) xs) name in
      let next : suc row ≡ 1 + row = omega (arith) in
      rw e (subst (λ n. slice_get (x ∷ xs) n ≡ Some lane) next at)

  pub at_row : (lanes : List Lane) → AreApart lanes → list_any named lanes ≡ true → AtRow lanes
  at_row [] apart any = absurd (let h : false ≡ true = any in cc)
  at_row (x ∷ xs) apart any = by_head (bytes_eq name x.name) refl (λ h. at_row xs later h)
    where
      later : AreApart xs
      later i j d lt within = apart (suc i) (suc j) d (omega (arith, lt)) (omega (arith, within))

      by_head : (b : Bool) → bytes_eq name x.name ≡ b → (list_any named xs ≡ true → AtRow xs) → AtRow (x ∷ xs)
      by_head true e in_rest =
          let is : x.name ≡ name = sym ((bytes_eq-Decides name x.name).0 e) in
          let none : list_any named xs ≡ false
          = none_named x is xs (λ k lt. apart 0 (suc k) x (omega arith) (omega (arith, lt))) in
          let whole : (named x || false) ≡ true = ap (λ b. named x || b) (sym none) ∙ any in
          record { lane = x; there = rw e refl; passes = by_first (named x) refl whole }
        where
          by_first : (b : Bool) → named x ≡ b → (b || false) ≡ true → p x ≡ true
          by_first true f whole = passes_first x (bytes_eq x.name name) (p x) refl refl f
          by_first false f whole = absurd (let h : false ≡ true = whole in cc)
      by_head false e in_rest =
          let first : named x ≡ false = other_name x (bytes_eq x.name name) refl
          (λ is. let h : false ≡ true = sym e ∙ (bytes_eq-Decides name x.name).1 (sym is) in cc) in
          let rest : AtRow xs = in_rest (ap (λ b. b || list_any named xs) (sym first) ∙ any) in
          record { lane = rest.lane; there = there_later x rest.lane xs e rest.there; passes = rest.passes }

-- an interlink at a row leads so
ends_there : (lanes : List Lane) (row worker : ℕ) (side : Side) (lane : Lane) → slice_get lanes row ≡ Some lane
    → (worker_on side lane == worker) ≡ true → IsTrue (has_end_of lanes worker row side)
ends_there lanes row worker side lane there leads = subst (λ o. IsTrue (is_end_of o worker side)) (sym there) leads

pub receives_there : (lanes : List Lane) (worker : ℕ) (name : List ℕ) → AreApart lanes → leads_to lanes worker name ≡ true
    → IsTrue (has_end_of lanes worker (row_of (map (λ l. l.name) lanes) name) Rx)
receives_there lanes worker name apart leads =
    let at : AtRow name (λ lane. lane.rx == worker) lanes = at_row name (λ lane. lane.rx == worker) lanes apart leads in
    ends_there lanes _ worker Rx at.lane at.there at.passes

pub transmits_there : (lanes : List Lane) (worker : ℕ) (name : List ℕ) → AreApart lanes → leads_from lanes worker name ≡ true
    → IsTrue (has_end_of lanes worker (row_of (map (λ l. l.name) lanes) name) Tx)
transmits_there lanes worker name apart leads =
    let at : AtRow name (λ lane. lane.tx == worker) lanes = at_row name (λ lane. lane.tx == worker) lanes apart leads in
    ends_there lanes _ worker Tx at.lane at.there at.passes
