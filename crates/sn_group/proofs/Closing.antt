-- How seats are joined into one, and what the last state shows at a close.
use Rattle.std.proofs.Common.{◌≡◌, ◌≢◌, ◌<◌, ◌≤◌, ℕ, zero, suc, ◌+◌, Option, Some, None, List, [], ◌∷◌, ◌++◌, map, set, length, take, length-append, append_assoc, add-one, refl, sym, ap, ◌∙◌, subst, ⊎_elim, All, arith}
use Rattle.std.specs.Prelude.{sum_by}
use Rattle.std.proofs.lemmas.List.{length-map, map-append}
use Rattle.std.proofs.Math.ListN.{get_or-append}
use Rattle.std.proofs.Math.Seq.{get_or-append_seam}
use Rattle.std.proofs.lemmas.List.Sums.{sum_by-cons, sum_by-append, sum_by_push}
use mathlib.Core.Option.{Option as Maybe, some, none, some-injective, some-ne-none}
use mathlib.Core.Logic.{dite}
use native.Mathlib.Decide.{ℕ_discrete}
use lib.ListN.{get_elem?, length-set}
use Rattle.atomic_table.specs.Table.{Joins, Final, Seen}
use Rattle.atomic_table.proofs.Lists.{at_set, set_else}
use Rattle.sn_core.specs.declared.parts.Packet.{Packet}
use Rattle.sn_packet.specs.Packet.{PacketState}
use Rattle.sn_group.specs.declared.view.View.{View}
use Rattle.sn_group.specs.declared.entry.GroupEntry.{GroupEntry}
use Rattle.sn_group.specs.Cells.{Cell, vacant, claimed, filled, named, somes, home_of, cell_weight, weigh, claims_of, times}
use Rattle.sn_group.specs.Views.{gathered, nobody, logs_in, gained, given, all_gained, all_given}
use Rattle.sn_group.specs.Rule.{cells_in, Pool, IsSeated, Rule}
use Rattle.sn_group.specs.Plays.{Mine}
use Rattle.sn_group.specs.Seats.{SeatState, log_of, IsRested, IsGathered}
use Rattle.sn_group.proofs.Pools.{sum_set}
use Rattle.sn_group.proofs.Cells.{claims_own}

cells_set : (views : List View) (id s : ℕ) (v w : View) → get_elem? views id ≡ some v → w.cells ≡ v.cells → cells_in (get_elem? (set views id w) s) ≡ cells_in (get_elem? views s)
cells_set [] id s v w at same = absurd (some-ne-none v (sym at))
cells_set (x ∷ xs) zero zero v w at same = same ∙ ap (λ (y : View). y.cells) (sym (some-injective x v at))
cells_set (x ∷ xs) zero (suc s) v w at same = refl
cells_set (x ∷ xs) (suc id) zero v w at same = refl
cells_set (x ∷ xs) (suc id) (suc s) v w at same = cells_set xs id s v w at same

gathered_gains : (h : ℕ → ℕ → ℕ) (v w : View) → all_gained h (logs_in (gathered v w)) ≡ all_gained h (logs_in v) + all_gained h (logs_in w)
gathered_gains h v w = let f = λ (l : ℕ × List (List GroupEntry)). gained h l.1 in
    omega (arith, sum_by_push f (logs_in w ++ v.joined) (v.number, v.log), sum_by-append f (logs_in w) v.joined, sum_by_push f v.joined (v.number, v.log))

gathered_losses : (h : ℕ → ℕ → ℕ) (v w : View) → all_given h (logs_in (gathered v w)) ≡ all_given h (logs_in v) + all_given h (logs_in w)
gathered_losses h v w = let f = λ (l : ℕ × List (List GroupEntry)). given h l.1 in
    omega (arith, sum_by_push f (logs_in w ++ v.joined) (v.number, v.log), sum_by-append f (logs_in w) v.joined, sum_by_push f v.joined (v.number, v.log))

module _ (opened : List Packet) (seats groups : ℕ) where
  -- a seat that has nothing under way is joined into another
  pub gathers : (id : ℕ) (v : View) (other : ℕ) (w : View) → 0 < v.parts → w.cells ≡ [] → Joins (Rule opened seats groups) id v other w (gathered v w) nobody
  gathers id v other w has none' s r at apart there =
      let both = gathered v w in
      let was : get_elem? s.views other ≡ some w = sym (set_else s.views id other both apart) ∙ there in
      record {
        cells = r.cells;
        shows = r.shows;
        pool = record {
          lie = r.pool.lie;
          small = r.pool.small;
          agree = λ x k. ap (times x) (cells_set (set s.views id both) other k w nobody there (sym none') ∙ cells_set s.views id k v both at refl) ∙ r.pool.agree x k;
          few = λ j u e. ⊎_elim
              (λ (x : (j ≡ other) × (nobody ≡ u)). subst (λ (z : View). length z.cells ≤ 1) x.1 (omega arith))
              (λ (x : (j ≢ other) × (get_elem? (set s.views id both) j ≡ some u)). ⊎_elim
              (λ (y : (j ≡ id) × (both ≡ u)). subst (λ (z : View). length z.cells ≤ 1) y.1 (r.pool.few id v at))
              (λ (y : (j ≢ id) × (get_elem? s.views j ≡ some u)). r.pool.few j u y.1)
              (at_set s.views id j both u x.1))
              (at_set (set s.views id both) other j nobody u e);
          balance = λ h. omega (
            arith,
            r.pool.balance h,
            gathered_gains h v w,
            gathered_losses h v w,
            sum_set (λ (u : View). all_given h (logs_in u)) s.views id v both at,
            sum_set (λ (u : View). all_gained h (logs_in u)) s.views id v both at,
            sum_set (λ (u : View). all_given h (logs_in u)) (set s.views id both) other w nobody there,
            sum_set (λ (u : View). all_gained h (logs_in u)) (set s.views id both) other w nobody there,
          );
        };
        parted = record {
          seated = λ j u e some_part. ⊎_elim
              (λ (x : (j ≡ other) × (nobody ≡ u)). let p : 0 ≡ u.parts = ap (λ (y : View). y.parts) x.1 in absurd (omega (arith, p, some_part)))
              (λ (x : (j ≢ other) × (get_elem? (set s.views id both) j ≡ some u)). ⊎_elim
              (λ (y : (j ≡ id) × (both ≡ u)). let own = r.parted.seated id v at has in
              subst (λ (z : ℕ × View). IsSeated groups z.0 z.1) (λ k. (sym y.0 k, y.1 k)) (record { numbered = own.numbered; grouped = own.grouped }))
              (λ (y : (j ≢ id) × (get_elem? s.views j ≡ some u)). r.parted.seated j u y.1 some_part)
              (at_set s.views id j both u x.1))
              (at_set (set s.views id both) other j nobody u e);
          spent = λ j u e no_part. ⊎_elim
              (λ (x : (j ≡ other) × (nobody ≡ u)). sym x.1)
              (λ (x : (j ≢ other) × (get_elem? (set s.views id both) j ≡ some u)). ⊎_elim
              (λ (y : (j ≡ id) × (both ≡ u)). let p : both.parts ≡ u.parts = ap (λ (z : View). z.parts) y.1 in absurd (omega (arith, p, no_part, has)))
              (λ (y : (j ≢ id) × (get_elem? s.views j ≡ some u)). r.parted.spent j u y.1 no_part)
              (at_set s.views id j both u x.1))
              (at_set (set s.views id both) other j nobody u e);
          total = omega (arith, r.parted.total, sum_set (λ (u : View). u.parts) s.views id v both at, sum_set (λ (u : View). u.parts) (set s.views id both) other w nobody there);
          dealing = λ j u e many alone. length-set (set s.views id both) other nobody ∙ length-set s.views id both ∙ ⊎_elim
              (λ (x : (j ≡ other) × (nobody ≡ u)). let p : 0 ≡ u.parts = ap (λ (y : View). y.parts) x.1 in absurd (omega (arith, p, many)))
              (λ (x : (j ≢ other) × (get_elem? (set s.views id both) j ≡ some u)). ⊎_elim
              (λ (y : (j ≡ id) × (both ≡ u)).
              let empty : both.joined ≡ [] = ap (λ (z : View). z.joined) y.1 ∙ alone in
              absurd (omega (arith, ap length empty, length-append (logs_in w) v.joined, length-append w.joined ((w.number, w.log) ∷ []))))
              (λ (y : (j ≢ id) × (get_elem? s.views j ≡ some u)). r.parted.dealing j u y.1 many alone)
              (at_set s.views id j both u x.1))
              (at_set (set s.views id both) other j nobody u e);
        };
      }

  pub gathers_as : (id : ℕ) (me : Mine) (other : ℕ) (it : Mine) → 0 < me.0.parts → it.0.cells ≡ [] → Joins (Rule opened seats groups) id me.0 other it.0 (gathered me.0 it.0) nobody
  gathers_as id me other it has none' = gathers id me.0 other it.0 has none'

module _ {A : Type 0} (f : A → ℕ) where
  le_sum : (l : List A) (i : ℕ) (a : A) → get_elem? l i ≡ some a → f a ≤ sum_by f l
  le_sum [] i a e = absurd (some-ne-none a (sym e))
  le_sum (x ∷ xs) zero a e = let same : f x ≡ f a = ap f (some-injective x a e) in omega (arith, same, sum_by-cons f x xs)
  le_sum (x ∷ xs) (suc i) a e = omega (arith, le_sum xs i a e, sum_by-cons f x xs)

  sum_none : (l : List A) → ((i : ℕ) (a : A) → get_elem? l i ≡ some a → f a ≡ 0) → sum_by f l ≡ 0
  sum_none [] all = refl
  sum_none (x ∷ xs) all = omega (arith, sum_by-cons f x xs, all 0 x refl, sum_none xs (λ i a e. all (suc i) a e))

-- nobody but this seat has a part
others_none : (views : List View) (id : ℕ) (v : View) → get_elem? views id ≡ some v → sum_by (λ u. u.parts) views ≡ v.parts
    → (j : ℕ) (u : View) → j ≢ id → get_elem? views j ≡ some u → u.parts ≡ 0
others_none views id v at all j u ne e =
    let parts = λ (y : View). y.parts in
    let still : get_elem? (set views id nobody) j ≡ some u = set_else views id j nobody ne ∙ e in
    omega (arith, le_sum parts (set views id nobody) j u still, sum_set parts views id v nobody at, all)

-- a sum over the views is that of this seat, where all others are nobody
alone : (f : View → ℕ) → f nobody ≡ 0 → (views : List View) (id : ℕ) (v : View) → get_elem? views id ≡ some v
    → ((j : ℕ) (u : View) → j ≢ id → get_elem? views j ≡ some u → u ≡ nobody) → sum_by f views ≡ f v
alone f zero' views id v at others =
    let rest : sum_by f (set views id nobody) ≡ 0 = sum_none f (set views id nobody) (λ j u e. ⊎_elim
    (λ (x : (j ≡ id) × (nobody ≡ u)). ap f (sym x.1) ∙ zero')
    (λ (x : (j ≢ id) × (get_elem? views j ≡ some u)). ap f (others j u x.0 x.1) ∙ zero')
    (at_set views id j nobody u e)) in
    omega (arith, rest, sum_set f views id v nobody at, zero')

-- no seat has claimed a cell
none_claims : (opened : List Packet) (cells : List Cell) (homes : List (Maybe (Option PacketState))) (views : List View) (id : ℕ) (v : View) → Pool opened cells homes views → get_elem? views id ≡ some v → v.cells ≡ []
    → ((j : ℕ) (u : View) → j ≢ id → get_elem? views j ≡ some u → u ≡ nobody) → (i s : ℕ) → claims_of s (get_elem? cells i) ≡ 0
none_claims opened cells homes views id v p at none' others i s = sym (p.agree i s) ∙ ap (times i) (cells_none (get_elem? views s) refl)
  where
    cells_none : (o : Maybe View) → get_elem? views s ≡ o → cells_in o ≡ []
    cells_none none e = refl
    cells_none (some u) e = dite (ℕ_discrete s id)
        (λ (same : s ≡ id). ap cells_in (sym e ∙ ap (λ (k : ℕ). get_elem? views k) same ∙ at) ∙ none')
        (λ (ne : s ≢ id). ap (λ (y : View). y.cells) (others s u ne e))

-- the packets that are found in the slots weigh what the cells weigh
found_weight : (h : ℕ → ℕ → ℕ) (cells : List Cell) (slots : List (Option PacketState)) → length cells ≡ length slots → ((i s : ℕ) → claims_of s (get_elem? cells i) ≡ 0)
    → ((k : ℕ) (y : Option PacketState) → get_elem? (map home_of cells) k ≡ some (some y) → get_elem? slots k ≡ some y)
    → weigh h (map named (somes slots)) ≡ sum_by (cell_weight h) cells
found_weight h [] [] long free found = refl
found_weight h [] (x ∷ xs) long free found = absurd (omega arith)
found_weight h (c ∷ cells) [] long free found = absurd (omega arith)
found_weight h (vacant ∷ cells) (x ∷ xs) long free found =
    let here : x ≡ None = some-injective x None (found 0 None refl) in
    let more = found_weight h cells xs (omega arith) (λ i s. free (suc i) s) (λ k y e. found (suc k) y e) in
    ap (λ (o : Option PacketState). weigh h (map named (somes (o ∷ xs)))) here ∙ omega (arith, more, sum_by-cons (cell_weight h) vacant cells)
found_weight h (claimed seat ∷ cells) (x ∷ xs) long free found = absurd (omega (arith, free 0 seat, claims_own seat))
found_weight h (filled p ∷ cells) (x ∷ xs) long free found =
    let here : x ≡ Some p = some-injective x (Some p) (found 0 (Some p) refl) in
    let more = found_weight h cells xs (omega arith) (λ i s. free (suc i) s) (λ k y e. found (suc k) y e) in
    ap (λ (o : Option PacketState). weigh h (map named (somes (o ∷ xs)))) here
    ∙ omega (arith, more, sum_by-cons (cell_weight h) (filled p) cells, sum_by-cons (λ (q : Packet). h q.number q.turn) (named p) (map named (somes xs)))

-- at a close the packets that the group opened with and all that was given are all that was got and what lies there
pub closing : (opened : List Packet) (seats groups id : ℕ) (v : View) (words : List ℕ) (slots : List (Option PacketState)) → Final (Seen (Rule opened seats groups) id v) words slots → v.parts ≡ seats → v.cells ≡ []
    → (h : ℕ → ℕ → ℕ) → weigh h opened + all_given h (logs_in v) ≡ all_gained h (logs_in v) + weigh h (map named (somes slots))
closing opened seats groups id v words slots final all none' h =
    let s = final.0 in
    let r = final.1.0 in
    let at = final.1.1 in
    let others : (j : ℕ) (u : View) → j ≢ id → get_elem? s.views j ≡ some u → u ≡ nobody =
    λ j u ne e. r.parted.spent j u e (others_none s.views id v at (r.parted.total ∙ sym all) j u ne e) in
    let long : length r.cells ≡ length slots = sym (length-map r.cells home_of) ∙ ap length (sym r.pool.lie) ∙ final.3 in
    let found = found_weight h r.cells slots long (none_claims opened r.cells s.homes s.views id v r.pool at none' others)
    (λ k y e. final.4 k y (ap (λ hs. get_elem? hs k) r.pool.lie ∙ e)) in
    omega (arith, r.pool.balance h, found, alone (λ (u : View). all_given h (logs_in u)) refl s.views id v at others, alone (λ (u : View). all_gained h (logs_in u)) refl s.views id v at others)

-- the packets of the first slots
pub somes-length : (slots : List (Option PacketState)) → length (somes slots) ≤ length slots
somes-length [] = omega arith
somes-length (None ∷ slots) = omega (arith, somes-length slots)
somes-length (Some p ∷ slots) = omega (arith, somes-length slots)

pub somes-first : (slots : List (Option PacketState)) (i : ℕ) → length (somes (take i slots)) ≤ i
somes-first slots zero = omega arith
somes-first [] (suc i) = omega arith
somes-first (None ∷ slots) (suc i) = omega (arith, somes-first slots i)
somes-first (Some p ∷ slots) (suc i) = omega (arith, somes-first slots i)

somes-suc : (slots : List (Option PacketState)) (i : ℕ) (slot : Option PacketState) → get_elem? slots i ≡ some slot → somes (take (suc i) slots) ≡ somes (take i slots) ++ somes (slot ∷ [])
somes-suc [] i slot e = absurd (some-ne-none slot (sym e))
somes-suc (x ∷ slots) zero slot e = ap (λ (o : Option PacketState). somes (o ∷ [])) (some-injective x slot e)
somes-suc (None ∷ slots) (suc i) slot e = somes-suc slots i slot e
somes-suc (Some p ∷ slots) (suc i) slot e = ap (λ (l : List PacketState). p ∷ l) (somes-suc slots i slot e)

pub somes-more : (slots : List (Option PacketState)) (i : ℕ) (slot : Option PacketState) → get_elem? slots i ≡ some slot → somes (take (i + 1) slots) ≡ somes (take i slots) ++ somes (slot ∷ [])
somes-more slots i slot e = ap (λ (n : ℕ). somes (take n slots)) (add-one i) ∙ somes-suc slots i slot e

module _ {A : Type 0} (P : A → Type 0) (xs : List A) (x : A) where
  pub all_front : All P (xs ++ x ∷ []) → All P xs
  all_front all k d lt = subst P (get_or-append xs (x ∷ []) d k lt) (all k d (omega (arith, lt, length-append xs (x ∷ []))))

  pub all_last : All P (xs ++ x ∷ []) → P x
  all_last all = subst P (get_or-append_seam xs x [] x) (all (length xs) x (omega (arith, length-append xs (x ∷ []))))

-- what is gathered once one more seat is joined
pub gathered_more : (me it after : Mine) (next : SeatState) → IsGathered me.0.parts (logs_in me.0) me → IsRested next it → after ≡ (gathered me.0 it.0, me.1)
    → IsGathered after.0.parts (logs_in after.0) after × (after.0.parts ≡ me.0.parts + 1) × (logs_in after.0 ≡ log_of next ∷ logs_in me.0)
gathered_more me it after next g r e =
    let view = ap (λ (m : Mine). m.0) e in (
      record {
        parts = refl;
        cells = ap (λ (v : View). v.cells) view ∙ g.cells;
        slots = ap (λ (m : Mine). m.1) e ∙ g.slots;
        all = refl;
      },
      omega (arith, ap (λ (v : View). v.parts) view, r.parts),
      ap logs_in view ∙ append_assoc (logs_in it.0) me.0.joined ((me.0.number, me.0.log) ∷ []) ∙ ap (λ (l : List (ℕ × List (List GroupEntry))). l ++ logs_in me.0) r.logs,
    )

-- the logs that are still to come, and those that were gathered
pub logs_shift : (xs rest : List SeatState) (next : SeatState) (old new all : List (ℕ × List (List GroupEntry))) → xs ≡ rest ++ next ∷ [] → new ≡ log_of next ∷ old → map log_of xs ++ old ≡ all → map log_of rest ++ new ≡ all
logs_shift xs rest next old new all e n a =
    ap (λ (l : List (ℕ × List (List GroupEntry))). map log_of rest ++ l) n
    ∙ sym (append_assoc (map log_of rest) (log_of next ∷ []) old)
    ∙ ap (λ (l : List (ℕ × List (List GroupEntry))). l ++ old) (sym (map-append log_of rest (next ∷ [])))
    ∙ ap (λ (l : List SeatState). map log_of l ++ old) (sym e) ∙ a
