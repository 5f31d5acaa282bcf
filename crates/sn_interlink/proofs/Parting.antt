-- The rule at the opening, when the ends part, when they join, and when the table is closed.
use Rattle.std.proofs.Common.{◌≡◌, ◌<◌, ℕ, zero, suc, ◌%◌, Bool, true, false, [], ◌∷◌, ◌++◌, map, replicate, length, Some, None, refl, sym, ap, ap₂, ◌∙◌, arith}
use Rattle.std.specs.Prelude.{slice_set}
use mathlib.Core.Option.{some, some-ne-none, some-injective}
use lib.ListN.{get_elem?}
use Rattle.atomic_table.specs.Table.{State, opening, Splits, Joins}
use Rattle.sn_core.specs.declared.events.Side.TheVariants.{Tx, Rx}
use Rattle.sn_interlink.specs.declared.view.Known.{Known}
use Rattle.sn_interlink.specs.declared.view.View.{View}
use Rattle.sn_interlink.specs.declared.view.View.TheVariants.{Fresh, One, Both, Spent}
use Rattle.sn_interlink.specs.Rule.{Lying, Stage, whole, parted, joined, views_of, Meets, Rule, new_end, opening_view}
use Rattle.sn_interlink.specs.Plays.{known_of}

nothing_at : (n k : ℕ) → k < n → get_elem? (map some (replicate {A = Lying} n None)) k ≡ some (some None)
nothing_at zero k lt = absurd (omega arith)
nothing_at (suc n) zero lt = refl
nothing_at (suc n) (suc k) lt = nothing_at n k (omega arith)

length_nothing : (n : ℕ) → length (map some (replicate {A = Lying} n None)) ≡ n
length_nothing zero = refl
length_nothing (suc n) = ap suc (length_nothing n)

-- a ring of so many empty slots
opens_at : (n : ℕ) → n ≡ 1024 → Rule (opening (0 ∷ 0 ∷ 0 ∷ []) (replicate {A = Lying} n None) opening_view)
opens_at n e = record {
  hist = [];
  stage = whole;
  ends = record { tx = new_end (Some 0); rx = new_end None };
  meets = record {
    legal = tt;
    views = refl;
    tx = record { log = refl; state = refl; place = refl; hand = tt };
    rx = record { log = refl; state = refl; place = tt; hand = tt };
    cells = λ place from below tx rx. nothing_at n (place % 1024) (omega (arith, e));
    words = refl;
    long = length_nothing n ∙ e;
  };
}

pub opens : Rule (opening (0 ∷ 0 ∷ 0 ∷ []) (replicate {A = Lying} 1024 None) opening_view)
opens = opens_at 1024 refl

-- the ends part
abbrev fresh_tx : Known → View → Known
fresh_tx d (Fresh tx rx) = tx
fresh_tx d (One side v) = d
fresh_tx d (Both tx rx) = d
fresh_tx d Spent = d

abbrev fresh_rx : Known → View → Known
fresh_rx d (Fresh tx rx) = rx
fresh_rx d (One side v) = d
fresh_rx d (Both tx rx) = d
fresh_rx d Spent = d

abbrev is_fresh : View → Bool
is_fresh (Fresh tx rx) = true
is_fresh (One side v) = false
is_fresh (Both tx rx) = false
is_fresh Spent = false

abbrev is_both : View → Bool
is_both (Fresh tx rx) = false
is_both (One side v) = false
is_both (Both tx rx) = true
is_both Spent = false

abbrev tx_end : View → Bool
tx_end (Fresh tx rx) = false
tx_end (One Tx v) = true
tx_end (One Rx v) = false
tx_end (Both tx rx) = false
tx_end Spent = false

abbrev rx_end : View → Bool
rx_end (Fresh tx rx) = false
rx_end (One Tx v) = false
rx_end (One Rx v) = true
rx_end (Both tx rx) = false
rx_end Spent = false

-- a test that a view passes and another doesn't tells them apart
apart : (test : View → Bool) (a b : View) → test a ≡ false → test b ≡ true → some a ≡ some b → ⊥
apart test a b no_a yes_b e = let f : a ≡ b = some-injective _ _ e in let g = ap test f in cc

pub parts : (id : ℕ) (tx rx : Known) → Splits Rule id (Fresh tx rx) (One Tx tx) (One Rx rx)
parts id tx rx s r at = by r.stage id r.meets (ap (λ vs. get_elem? vs id) (sym r.meets.views) ∙ at)
  where
    by : (stage : Stage) (id : ℕ) → Meets s r.hist stage r.ends → get_elem? (views_of stage r.ends) id ≡ some (Fresh tx rx)
        → Rule (record { words = s.words; homes = s.homes; views = slice_set s.views id (One Tx tx) ++ One Rx rx ∷ [] })
    by whole zero m e =
        let same : Fresh r.ends.tx r.ends.rx ≡ Fresh tx rx = some-injective _ _ e in
        let t : r.ends.tx ≡ tx = ap (fresh_tx tx) same in
        let x : r.ends.rx ≡ rx = ap (fresh_rx rx) same in
        record {
          hist = r.hist;
          stage = parted;
          ends = r.ends;
          meets = record {
            legal = m.legal;
            views = ap (λ vs. slice_set vs 0 (One Tx tx) ++ One Rx rx ∷ []) m.views ∙ ap₂ (λ a b. One Tx a ∷ One Rx b ∷ []) (sym t) (sym x);
            tx = m.tx;
            rx = m.rx;
            cells = m.cells;
            words = m.words;
            long = m.long;
          };
        }
    by whole (suc id) m e = absurd (some-ne-none _ (sym e))
    by parted zero m e = absurd (apart is_fresh _ _ refl refl e)
    by parted (suc zero) m e = absurd (apart is_fresh _ _ refl refl e)
    by parted (suc (suc id)) m e = absurd (some-ne-none _ (sym e))
    by joined zero m e = absurd (apart is_fresh _ _ refl refl e)
    by joined (suc zero) m e = absurd (apart is_fresh _ _ refl refl e)
    by joined (suc (suc id)) m e = absurd (some-ne-none _ (sym e))

-- the ends join
pub joins : (id other : ℕ) (tx rx : Known) → Joins Rule id (One Tx tx) other (One Rx rx) (Both tx rx) Spent
joins id other tx rx s r at differ there =
    by r.stage id other r.meets (ap (λ vs. get_elem? vs id) (sym r.meets.views) ∙ at)
    (ap (λ vs. get_elem? (slice_set vs id (Both tx rx)) other) (sym r.meets.views) ∙ there)
  where
    known : Known → View → Known
    known d v = known_of v

    by : (stage : Stage) (id other : ℕ) → Meets s r.hist stage r.ends → get_elem? (views_of stage r.ends) id ≡ some (One Tx tx)
        → get_elem? (slice_set (views_of stage r.ends) id (Both tx rx)) other ≡ some (One Rx rx)
        → Rule (record { words = s.words; homes = s.homes; views = slice_set (slice_set s.views id (Both tx rx)) other Spent })
    by whole zero other m e f = absurd (apart tx_end _ _ refl refl e)
    by whole (suc id) other m e f = absurd (some-ne-none _ (sym e))
    by parted zero zero m e f = absurd (apart rx_end _ _ refl refl f)
    by parted zero (suc zero) m e f =
        let t : r.ends.tx ≡ tx = ap known_of (some-injective _ _ e) in
        let x : r.ends.rx ≡ rx = ap known_of (some-injective _ _ f) in
        record {
          hist = r.hist;
          stage = joined;
          ends = r.ends;
          meets = record {
            legal = m.legal;
            views = ap (λ vs. slice_set (slice_set vs 0 (Both tx rx)) 1 Spent) m.views ∙ ap₂ (λ a b. Both a b ∷ Spent ∷ []) (sym t) (sym x);
            tx = m.tx;
            rx = m.rx;
            cells = m.cells;
            words = m.words;
            long = m.long;
          };
        }
    by parted zero (suc (suc other)) m e f = absurd (some-ne-none _ (sym f))
    by parted (suc zero) other m e f = absurd (apart tx_end _ _ refl refl e)
    by parted (suc (suc id)) other m e f = absurd (some-ne-none _ (sym e))
    by joined zero other m e f = absurd (apart tx_end _ _ refl refl e)
    by joined (suc zero) other m e f = absurd (apart tx_end _ _ refl refl e)
    by joined (suc (suc id)) other m e f = absurd (some-ne-none _ (sym e))

-- what a seat that has both ends' views knows of the table
pub record Together (s : State Lying View) (tx rx : Known) : Type 0 where
  pub rule : Rule s
  pub tx_is : rule.ends.tx ≡ tx
  pub rx_is : rule.ends.rx ≡ rx

abbrev both_tx : Known → View → Known
both_tx d (Fresh a b) = d
both_tx d (One side v) = d
both_tx d (Both a b) = a
both_tx d Spent = d

abbrev both_rx : Known → View → Known
both_rx d (Fresh a b) = d
both_rx d (One side v) = d
both_rx d (Both a b) = b
both_rx d Spent = d

pub together : (s : State Lying View) (id : ℕ) (tx rx : Known) → Rule s → get_elem? s.views id ≡ some (Both tx rx) → Together s tx rx
together s id tx rx r at = by r.stage id (ap (λ vs. get_elem? vs id) (sym r.meets.views) ∙ at)
  where
    by : (stage : Stage) (id : ℕ) → get_elem? (views_of stage r.ends) id ≡ some (Both tx rx) → Together s tx rx
    by whole zero e = absurd (apart is_both _ _ refl refl e)
    by whole (suc id) e = absurd (some-ne-none _ (sym e))
    by parted zero e = absurd (apart is_both _ _ refl refl e)
    by parted (suc zero) e = absurd (apart is_both _ _ refl refl e)
    by parted (suc (suc id)) e = absurd (some-ne-none _ (sym e))
    by joined zero e = let same : Both r.ends.tx r.ends.rx ≡ Both tx rx = some-injective _ _ e in
        record { rule = r; tx_is = ap (both_tx tx) same; rx_is = ap (both_rx rx) same }
    by joined (suc zero) e = absurd (apart is_both _ _ refl refl e)
    by joined (suc (suc id)) e = absurd (some-ne-none _ (sym e))
