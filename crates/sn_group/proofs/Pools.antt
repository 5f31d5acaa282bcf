-- What a change of one cell and of one seat's view keeps of the rule.
use Rattle.std.proofs.Common.{◌≡◌, ◌≢◌, ◌<◌, ◌≤◌, ℕ, zero, suc, ◌+◌, Option, List, [], ◌∷◌, set, length, refl, sym, ap, ◌∙◌, subst, ⊎_elim, arith}
use Rattle.std.specs.Prelude.{sum_by}
use Rattle.std.proofs.lemmas.List.{map-set}
use Rattle.std.proofs.lemmas.List.Sums.{sum_by-cons, sum_by_push}
use mathlib.Core.Option.{Option as Maybe, some, some-injective, some-ne-none}
use mathlib.Core.Logic.{dite}
use native.Mathlib.Decide.{ℕ_discrete}
use lib.ListN.{get_elem?, length-set}
use Rattle.atomic_table.proofs.Lists.{at_set, set_else}
use Rattle.sn_core.specs.declared.parts.Packet.{Packet}
use Rattle.sn_packet.specs.Packet.{PacketState}
use Rattle.sn_group.specs.declared.view.View.{View}
use Rattle.sn_group.specs.declared.entry.GroupEntry.{GroupEntry}
use Rattle.sn_group.specs.Cells.{Cell, filled, IsSmall, home_of, cell_weight, claims_of, times}
use Rattle.sn_group.specs.Views.{logs_in, gained, given, all_gained, all_given}
use Rattle.sn_group.specs.Rule.{cells_in, Pool, IsSeated, Parted}

module _ {A : Type 0} where
  pub set_there : (l : List A) (i : ℕ) (a b : A) → get_elem? l i ≡ some a → get_elem? (set l i b) i ≡ some b
  set_there [] i a b e = absurd (some-ne-none a (sym e))
  set_there (x ∷ xs) zero a b e = refl
  set_there (x ∷ xs) (suc i) a b e = set_there xs i a b e

  pub sum_set : (f : A → ℕ) (l : List A) (i : ℕ) (a b : A) → get_elem? l i ≡ some a → sum_by f (set l i b) + f a ≡ sum_by f l + f b
  sum_set f [] i a b e = absurd (some-ne-none a (sym e))
  sum_set f (x ∷ xs) zero a b e = let same : f x ≡ f a = ap f (some-injective x a e) in omega (arith, same, sum_by-cons f x xs, sum_by-cons f b xs)
  sum_set f (x ∷ xs) (suc i) a b e = omega (arith, sum_set f xs i a b e, sum_by-cons f x xs, sum_by-cons f x (set xs i b))

-- the logs of a seat weigh what its own log weighs and what it was given
pub gained-own : (h : ℕ → ℕ → ℕ) (v : View) → all_gained h (logs_in v) ≡ all_gained h v.joined + gained h v.log
gained-own h v = sum_by_push (λ (l : ℕ × List (List GroupEntry)). gained h l.1) v.joined (v.number, v.log)

pub given-own : (h : ℕ → ℕ → ℕ) (v : View) → all_given h (logs_in v) ≡ all_given h v.joined + given h v.log
given-own h v = sum_by_push (λ (l : ℕ × List (List GroupEntry)). given h l.1) v.joined (v.number, v.log)

-- the seat stays who it is, with the same parts
pub record SameSeat (v w : View) : Type 0 where
  pub number : w.number ≡ v.number
  pub groups : w.groups ≡ v.groups
  pub parts : w.parts ≡ v.parts
  pub joined : w.joined ≡ v.joined

pub parted_kept : (seats groups : ℕ) (views : List View) (id : ℕ) (v w : View) → Parted seats groups views → get_elem? views id ≡ some v → 0 < v.parts → SameSeat v w
    → Parted seats groups (set views id w)
parted_kept seats groups views id v w p at has same =
    record {
      seated = λ j u e some_part. ⊎_elim
          (λ (x : (j ≡ id) × (w ≡ u)). let was = p.seated id v at has in
          subst (λ (y : ℕ × View). IsSeated groups y.0 y.1) (λ k. (sym x.0 k, x.1 k)) (record { numbered = same.number ∙ was.numbered; grouped = same.groups ∙ was.grouped }))
          (λ (x : (j ≢ id) × (get_elem? views j ≡ some u)). p.seated j u x.1 some_part)
          (at_set views id j w u e);
      spent = λ j u e no_part. ⊎_elim
          (λ (x : (j ≡ id) × (w ≡ u)). let parts : w.parts ≡ u.parts = ap (λ (y : View). y.parts) x.1 in absurd (omega (arith, parts, no_part, same.parts, has)))
          (λ (x : (j ≢ id) × (get_elem? views j ≡ some u)). p.spent j u x.1 no_part)
          (at_set views id j w u e);
      total = omega (arith, sum_set (λ (y : View). y.parts) views id v w at, same.parts, p.total);
      dealing = λ j u e more alone. length-set views id w ∙ ⊎_elim
          (λ (x : (j ≡ id) × (w ≡ u)). let parts : w.parts ≡ u.parts = ap (λ (y : View). y.parts) x.1 in
          p.dealing id v at (omega (arith, more, parts, same.parts)) (sym same.joined ∙ ap (λ (y : View). y.joined) x.1 ∙ alone) ∙ ap (λ (k : ℕ). k + 1) (sym x.0))
          (λ (x : (j ≢ id) × (get_elem? views j ≡ some u)). p.dealing j u x.1 more alone)
          (at_set views id j w u e);
    }

-- what changes where a cell goes from `old` to `new` and the seat of this number from `v` to `w`
pub record Changes (i id : ℕ) (old new : Cell) (v w : View) : Type 0 where
  pub others : (other : ℕ) → other ≢ id → claims_of other (some old) ≡ claims_of other (some new)
  pub here : times i w.cells ≡ claims_of id (some new)
  pub there : (x : ℕ) → x ≢ i → times x w.cells ≡ times x v.cells
  pub fits : (packet : PacketState) → new ≡ filled packet → IsSmall packet
  pub few : length w.cells ≤ 1
  pub same : SameSeat v w
  pub weight : (h : ℕ → ℕ → ℕ) → given h w.log + gained h v.log + cell_weight h old ≡ given h v.log + gained h w.log + cell_weight h new

pub pool_changed : (opened : List Packet) (cells : List Cell) (homes : List (Maybe (Option PacketState))) (views : List View) (i id : ℕ) (old new : Cell) (v w : View)
    → Pool opened cells homes views → get_elem? cells i ≡ some old → get_elem? views id ≡ some v → Changes i id old new v w
    → Pool opened (set cells i new) (set homes i (home_of new)) (set views id w)
pool_changed opened cells homes views i id old new v w p cell at ch =
    record {
      lie = ap (λ (hs : List (Maybe (Option PacketState))). set hs i (home_of new)) p.lie ∙ sym (map-set home_of cells i new);
      small = λ j packet e. ⊎_elim
          (λ (x : (j ≡ i) × (new ≡ filled packet)). ch.fits packet x.1)
          (λ (x : (j ≢ i) × (get_elem? cells j ≡ some (filled packet))). p.small j packet x.1)
          (at_set cells i j new (filled packet) e);
      agree = agrees;
      few = λ j u e. ⊎_elim
          (λ (x : (j ≡ id) × (w ≡ u)). subst (λ (y : View). length y.cells ≤ 1) x.1 ch.few)
          (λ (x : (j ≢ id) × (get_elem? views j ≡ some u)). p.few j u x.1)
          (at_set views id j w u e);
      balance = λ h. omega (
        arith,
        p.balance h,
        sum_set (λ (u : View). all_given h (logs_in u)) views id v w at,
        sum_set (λ (u : View). all_gained h (logs_in u)) views id v w at,
        sum_set (cell_weight h) cells i old new cell,
        gained-own h v,
        gained-own h w,
        given-own h v,
        given-own h w,
        ap (all_gained h) ch.same.joined,
        ap (all_given h) ch.same.joined,
        ch.weight h,
      );
    }
  where
    own : (x : ℕ) → get_elem? (set views id w) id ≡ some w
    own x = set_there views id v w at

    agrees : (x s : ℕ) → times x (cells_in (get_elem? (set views id w) s)) ≡ claims_of s (get_elem? (set cells i new) x)
    agrees x s = dite (ℕ_discrete s id)
        (λ (e : s ≡ id). let found : get_elem? (set views id w) s ≡ some w = ap (λ (k : ℕ). get_elem? (set views id w) k) e ∙ set_there views id v w at in
        let was : get_elem? views s ≡ some v = ap (λ (k : ℕ). get_elem? views k) e ∙ at in
        ap (λ o. times x (cells_in o)) found ∙ dite (ℕ_discrete x i)
        (λ (f : x ≡ i). ap (λ (k : ℕ). times k w.cells) f ∙ ch.here ∙ ap (λ (k : ℕ). claims_of k (some new)) (sym e) ∙ ap (claims_of s) (sym (ap (λ (k : ℕ). get_elem? (set cells i new) k) f ∙ set_there cells i old new cell)))
        (λ (f : x ≢ i). ch.there x f ∙ ap (λ o. times x (cells_in o)) (sym was) ∙ p.agree x s ∙ ap (claims_of s) (sym (set_else cells i x new f))))
        (λ (e : s ≢ id). ap (λ o. times x (cells_in o)) (set_else views id s w e) ∙ p.agree x s ∙ dite (ℕ_discrete x i)
        (λ (f : x ≡ i). ap (λ (k : ℕ). claims_of s (get_elem? cells k)) f ∙ ap (claims_of s) cell ∙ ch.others s e ∙ ap (claims_of s) (sym (ap (λ (k : ℕ). get_elem? (set cells i new) k) f ∙ set_there cells i old new cell)))
        (λ (f : x ≢ i). ap (claims_of s) (sym (set_else cells i x new f))))

-- what stays where only a seat's view goes from `v` to `w`
pub record Leaves (v w : View) : Type 0 where
  pub cells : w.cells ≡ v.cells
  pub same : SameSeat v w
  pub gains : (h : ℕ → ℕ → ℕ) → gained h w.log ≡ gained h v.log
  pub losses : (h : ℕ → ℕ → ℕ) → given h w.log ≡ given h v.log

pub pool_kept : (opened : List Packet) (cells : List Cell) (homes : List (Maybe (Option PacketState))) (views : List View) (id : ℕ) (v w : View)
    → Pool opened cells homes views → get_elem? views id ≡ some v → Leaves v w → Pool opened cells homes (set views id w)
pool_kept opened cells homes views id v w p at le =
    record {
      lie = p.lie;
      small = p.small;
      agree = agrees;
      few = λ j u e. ⊎_elim
          (λ (x : (j ≡ id) × (w ≡ u)). subst (λ (y : View). length y.cells ≤ 1) x.1 (omega (arith, ap length le.cells, p.few id v at)))
          (λ (x : (j ≢ id) × (get_elem? views j ≡ some u)). p.few j u x.1)
          (at_set views id j w u e);
      balance = λ h. omega (
        arith,
        p.balance h,
        sum_set (λ (u : View). all_given h (logs_in u)) views id v w at,
        sum_set (λ (u : View). all_gained h (logs_in u)) views id v w at,
        gained-own h v,
        gained-own h w,
        given-own h v,
        given-own h w,
        ap (all_gained h) le.same.joined,
        ap (all_given h) le.same.joined,
        le.gains h,
        le.losses h,
      );
    }
  where
    agrees : (x s : ℕ) → times x (cells_in (get_elem? (set views id w) s)) ≡ claims_of s (get_elem? cells x)
    agrees x s = dite (ℕ_discrete s id)
        (λ (e : s ≡ id). ap (λ o. times x (cells_in o)) (ap (λ (k : ℕ). get_elem? (set views id w) k) e ∙ set_there views id v w at) ∙ ap (times x) le.cells
        ∙ ap (λ o. times x (cells_in o)) (sym (ap (λ (k : ℕ). get_elem? views k) e ∙ at)) ∙ p.agree x s)
        (λ (e : s ≢ id). ap (λ o. times x (cells_in o)) (set_else views id s w e) ∙ p.agree x s)
