-- How a group opens: its first state, and how its first seat is cut into all seats.
use Rattle.std.proofs.Common.{◌≡◌, ◌≢◌, ◌<◌, ◌≤◌, ◌⊎◌, ℕ, zero, suc, ◌+◌, ◌-◌, Option, Some, List, [], ◌∷◌, ◌++◌, map, set, length, get_or, length-append, refl, sym, ap, ap₂, ◌∙◌, subst, inl, inr, ⊎_elim, All, arith}
use Rattle.std.specs.Prelude.{sum_by}
use Rattle.std.proofs.lemmas.List.Sums.{sum_by-cons, sum_by_push}
use mathlib.Core.Option.{Option as Maybe, some, some-injective, some-ne-none}
use lib.ListN.{get_elem?, length-set}
use Rattle.atomic_table.specs.Table.{opening, Splits}
use Rattle.atomic_table.proofs.Lists.{at_set}
use Rattle.sn_core.specs.declared.parts.Packet.{Packet}
use Rattle.sn_packet.specs.Packet.{PacketState}
use Rattle.sn_group.specs.declared.view.View.{View}
use Rattle.sn_group.specs.Cells.{filled, named, IsSmall, full_word, word_of, home_of, cell_weight, weigh, claims_of, times}
use Rattle.sn_group.specs.Views.{dealt, keeps_one, next_one, logs_in, all_gained, all_given}
use Rattle.sn_group.specs.Rule.{cells_in, IsSeated, Rule}
use Rattle.std.proofs.lemmas.List.FromFn.{map-range_with_len_more, length-map-range_with_len}
use Rattle.sn_group.specs.Plays.{Mine}
use Rattle.sn_group.specs.Seats.{GroupId, SeatState, new_seat, new_seats}
use Rattle.sn_group.proofs.Pools.{sum_set}

-- an element of a list with one more at its end
at_end : {A : Type 0} (l : List A) (a b : A) (j : ℕ) → get_elem? (l ++ a ∷ []) j ≡ some b → (get_elem? l j ≡ some b) ⊎ ((j ≡ length l) × (a ≡ b))
at_end [] a b zero e = inr (refl, some-injective a b e)
at_end [] a b (suc j) e = absurd (some-ne-none b (sym e))
at_end (x ∷ xs) a b zero e = inl e
at_end (x ∷ xs) a b (suc j) e = ⊎_elim (λ h. inl h) (λ h. inr (omega (arith, h.0), h.1)) (at_end xs a b j e)

cells_end : (views : List View) (right : View) (s : ℕ) → right.cells ≡ [] → cells_in (get_elem? (views ++ right ∷ []) s) ≡ cells_in (get_elem? views s)
cells_end [] right zero none' = none'
cells_end [] right (suc s) none' = refl
cells_end (x ∷ xs) right zero none' = refl
cells_end (x ∷ xs) right (suc s) none' = cells_end xs right s none'

cells_dealt : (views : List View) (id s : ℕ) (v left right : View) → get_elem? views id ≡ some v → left.cells ≡ v.cells → right.cells ≡ []
    → cells_in (get_elem? (set views id left ++ right ∷ []) s) ≡ cells_in (get_elem? views s)
cells_dealt [] id s v left right at same none' = absurd (some-ne-none v (sym at))
cells_dealt (x ∷ xs) zero zero v left right at same none' = same ∙ ap (λ (y : View). y.cells) (sym (some-injective x v at))
cells_dealt (x ∷ xs) zero (suc s) v left right at same none' = cells_end xs right s none'
cells_dealt (x ∷ xs) (suc id) zero v left right at same none' = refl
cells_dealt (x ∷ xs) (suc id) (suc s) v left right at same none' = cells_dealt xs id s v left right at same none'

module _ (opened : List Packet) (seats groups : ℕ) where
  -- a seat that stands for more seats keeps one part
  pub deals : (id number parts : ℕ) → 1 < parts → Splits (Rule opened seats groups) id (dealt groups number parts) (keeps_one (dealt groups number parts)) (next_one (dealt groups number parts))
  deals id number parts more s r at =
      let v = dealt groups number parts in
      let left = keeps_one v in
      let right = next_one v in
      let last : length s.views ≡ id + 1 = r.parted.dealing id v at more refl in
      let own = r.parted.seated id v at (omega arith) in
      record {
        cells = r.cells;
        shows = r.shows;
        pool = record {
          lie = r.pool.lie;
          small = r.pool.small;
          agree = λ x k. ap (times x) (cells_dealt s.views id k v left right at refl refl) ∙ r.pool.agree x k;
          few = λ j u e. ⊎_elim
              (λ (x : get_elem? (set s.views id left) j ≡ some u). ⊎_elim
              (λ (y : (j ≡ id) × (left ≡ u)). subst (λ (z : View). length z.cells ≤ 1) y.1 (omega arith))
              (λ (y : (j ≢ id) × (get_elem? s.views j ≡ some u)). r.pool.few j u y.1)
              (at_set s.views id j left u x))
              (λ (x : (j ≡ length (set s.views id left)) × (right ≡ u)). subst (λ (z : View). length z.cells ≤ 1) x.1 (omega arith))
              (at_end (set s.views id left) right u j e);
          balance = λ h. omega (
            arith,
            r.pool.balance h,
            sum_by_push (λ (u : View). all_given h (logs_in u)) (set s.views id left) right,
            sum_by_push (λ (u : View). all_gained h (logs_in u)) (set s.views id left) right,
            sum_set (λ (u : View). all_given h (logs_in u)) s.views id v left at,
            sum_set (λ (u : View). all_gained h (logs_in u)) s.views id v left at,
          );
        };
        parted = record {
          seated = λ j u e some_part. ⊎_elim
              (λ (x : get_elem? (set s.views id left) j ≡ some u). ⊎_elim
              (λ (y : (j ≡ id) × (left ≡ u)). subst (λ (z : ℕ × View). IsSeated groups z.0 z.1) (λ k. (sym y.0 k, y.1 k)) (record { numbered = own.numbered; grouped = own.grouped }))
              (λ (y : (j ≢ id) × (get_elem? s.views j ≡ some u)). r.parted.seated j u y.1 some_part)
              (at_set s.views id j left u x))
              (λ (x : (j ≡ length (set s.views id left)) × (right ≡ u)). subst (IsSeated groups j) x.1 (record { numbered = omega (arith, x.0, length-set s.views id left, last, own.numbered); grouped = own.grouped }))
              (at_end (set s.views id left) right u j e);
          spent = λ j u e no_part. ⊎_elim
              (λ (x : get_elem? (set s.views id left) j ≡ some u). ⊎_elim
              (λ (y : (j ≡ id) × (left ≡ u)). let p : left.parts ≡ u.parts = ap (λ (z : View). z.parts) y.1 in absurd (omega (arith, p, no_part)))
              (λ (y : (j ≢ id) × (get_elem? s.views j ≡ some u)). r.parted.spent j u y.1 no_part)
              (at_set s.views id j left u x))
              (λ (x : (j ≡ length (set s.views id left)) × (right ≡ u)). let p : right.parts ≡ u.parts = ap (λ (z : View). z.parts) x.1 in absurd (omega (arith, p, no_part, more)))
              (at_end (set s.views id left) right u j e);
          total = omega (arith, sum_by_push (λ (u : View). u.parts) (set s.views id left) right, sum_set (λ (u : View). u.parts) s.views id v left at, r.parted.total, more);
          dealing = λ j u e many alone.
              let long : length (set s.views id left ++ right ∷ []) ≡ length s.views + 1 = length-append (set s.views id left) (right ∷ []) ∙ ap (λ (n : ℕ). n + 1) (length-set s.views id left) in
              ⊎_elim
              (λ (x : get_elem? (set s.views id left) j ≡ some u). ⊎_elim
              (λ (y : (j ≡ id) × (left ≡ u)). let p : left.parts ≡ u.parts = ap (λ (z : View). z.parts) y.1 in absurd (omega (arith, p, many)))
              (λ (y : (j ≢ id) × (get_elem? s.views j ≡ some u)). let d : length s.views ≡ j + 1 = r.parted.dealing j u y.1 many alone in absurd (y.0 (omega (arith, d, last))))
              (at_set s.views id j left u x))
              (λ (x : (j ≡ length (set s.views id left)) × (right ≡ u)). omega (arith, long, x.0, length-set s.views id left))
              (at_end (set s.views id left) right u j e);
        };
      }

-- the same, where the seat's state is known by an equation
pub deals_as : (opened : List Packet) (seats groups id number parts : ℕ) (me : Mine) → groups ≡ 1 → me ≡ (dealt 1 number parts, []) → 1 < parts → Splits (Rule opened seats groups) id me.0 (keeps_one me.0) (next_one me.0)
deals_as opened seats groups id number parts me one is more =
    let dealt' : Splits (Rule opened seats groups) id (dealt 1 number parts) (keeps_one (dealt 1 number parts)) (next_one (dealt 1 number parts)) =
    subst (λ (g : ℕ). Splits (Rule opened seats g) id (dealt 1 number parts) (keeps_one (dealt 1 number parts)) (next_one (dealt 1 number parts))) (sym one) (deals opened seats 1 id number parts more) in
    subst (λ (m : Mine). Splits (Rule opened seats groups) id m.0 (keeps_one m.0) (next_one m.0)) (sym is) dealt'

-- the next seat's view
pub dealt_next : (number seats : ℕ) (me after : Mine) → me ≡ (dealt 1 number (seats - number), []) → after ≡ (next_one me.0, []) → after ≡ (dealt 1 (number + 1) (seats - (number + 1)), [])
dealt_next number seats me after is e =
    e ∙ ap (λ (m : Mine). (next_one m.0, [])) is ∙ ap (λ (p : ℕ). (dealt 1 (number + 1) p, [])) (omega arith)

-- one more seat stands behind those that were dealt
pub seats_more : (group : GroupId) (number : ℕ) (before after : List SeatState) (seat : SeatState) → before ≡ new_seats group number → seat ≡ new_seat group number → after ≡ before ++ seat ∷ [] → after ≡ new_seats group (number + 1)
seats_more group number before after seat b s e =
    e ∙ ap₂ (λ (xs : List SeatState) (x : SeatState). xs ++ x ∷ []) b s ∙ sym (map-range_with_len_more (new_seat group) 0 number number (omega arith))

pub seats_count : (group : GroupId) (number : ℕ) (before : List SeatState) → before ≡ new_seats group number → length before ≡ number
seats_count group number before b = ap length b ∙ length-map-range_with_len (new_seat group) 0 number

-- the first state
words_opened : (packets : List PacketState) → map (λ packet. full_word packet.number packet.turn) packets ≡ map word_of (map filled packets)
words_opened [] = refl
words_opened (p ∷ ps) = ap (λ (l : List ℕ). full_word p.number p.turn ∷ l) (words_opened ps)

homes_opened : (packets : List PacketState) → map some (map (λ packet. Some packet) packets) ≡ map home_of (map filled packets)
homes_opened [] = refl
homes_opened (p ∷ ps) = ap (λ (l : List (Maybe (Option PacketState))). some (Some p) ∷ l) (homes_opened ps)

filled_at : (packets : List PacketState) (i : ℕ) (packet d : PacketState) → get_elem? (map filled packets) i ≡ some (filled packet) → (i < length packets) × (get_or packets i d ≡ packet)
filled_at [] i packet d e = absurd (some-ne-none (filled packet) (sym e))
filled_at (p ∷ ps) zero packet d e = let same : filled p ≡ filled packet = some-injective (filled p) (filled packet) e in (omega arith, cc)
filled_at (p ∷ ps) (suc i) packet d e = let more = filled_at ps i packet d e in (omega (arith, more.0), more.1)

none_claimed : (packets : List PacketState) (seat i : ℕ) → claims_of seat (get_elem? (map filled packets) i) ≡ 0
none_claimed [] seat i = refl
none_claimed (p ∷ ps) seat zero = refl
none_claimed (p ∷ ps) seat (suc i) = none_claimed ps seat i

weight_opened : (h : ℕ → ℕ → ℕ) (packets : List PacketState) → weigh h (map named packets) ≡ sum_by (cell_weight h) (map filled packets)
weight_opened h [] = refl
weight_opened h (p ∷ ps) = omega (arith, sum_by-cons (λ (q : Packet). h q.number q.turn) (named p) (map named ps), sum_by-cons (cell_weight h) (filled p) (map filled ps), weight_opened h ps)

none_there : (v : View) (s : ℕ) → v.cells ≡ [] → cells_in (get_elem? (v ∷ []) s) ≡ []
none_there v zero none' = none'
none_there v (suc s) none' = refl

only_one : (v u : View) (j : ℕ) → get_elem? (v ∷ []) j ≡ some u → (j ≡ 0) × (v ≡ u)
only_one v u zero e = (refl, some-injective v u e)
only_one v u (suc j) e = absurd (some-ne-none u (sym e))

pub opens : (packets : List PacketState) (seats : ℕ) → 1 ≤ seats → All IsSmall packets
    → Rule (map named packets) seats 1 (opening (map (λ packet. full_word packet.number packet.turn) packets) (map (λ packet. Some packet) packets) (dealt 1 0 seats))
opens packets seats some_seat small =
    let v = dealt 1 0 seats in
    record {
      cells = map filled packets;
      shows = words_opened packets;
      pool = record {
        lie = homes_opened packets;
        small = λ i packet e. let at = filled_at packets i packet packet e in subst IsSmall at.1 (small i packet at.0);
        agree = λ x k. ap (times x) (none_there v k refl) ∙ sym (none_claimed packets k x);
        few = λ j u e. let one = only_one v u j e in subst (λ (z : View). length z.cells ≤ 1) one.1 (omega arith);
        balance = λ h. omega (arith, weight_opened h packets);
      };
      parted = record {
        seated = λ j u e some_part. let one = only_one v u j e in subst (λ (z : ℕ × View). IsSeated 1 z.0 z.1) (λ k. (sym one.0 k, one.1 k)) (record { numbered = refl; grouped = refl });
        spent = λ j u e no_part. let one = only_one v u j e in let p : seats ≡ u.parts = ap (λ (z : View). z.parts) one.1 in absurd (omega (arith, p, no_part));
        total = omega (arith, sum_by-cons (λ (u : View). u.parts) v []);
        dealing = λ j u e many alone. let one = only_one v u j e in omega (arith, one.0);
      };
    }

-- the same, where what the group opens with is known by equations
pub opens_as : (packets : List PacketState) (opened : List Packet) (words : List ℕ) (slots : List (Option PacketState)) (seats : ℕ) → opened ≡ map named packets → words ≡ map (λ packet. full_word packet.number packet.turn) packets → slots ≡ map (λ packet. Some packet) packets
    → 1 ≤ seats → All IsSmall packets → Rule opened seats 1 (opening words slots (dealt 1 0 seats))
opens_as packets opened words slots seats o w s some_seat small =
    subst (λ (ps : List Packet). Rule ps seats 1 (opening words slots (dealt 1 0 seats))) (sym o) (
    subst (λ (ws : List ℕ). Rule (map named packets) seats 1 (opening ws slots (dealt 1 0 seats))) (sym w) (
    subst (λ (ss : List (Option PacketState)). Rule (map named packets) seats 1 (opening (map (λ packet. full_word packet.number packet.turn) packets) ss (dealt 1 0 seats))) (sym s) (opens packets seats some_seat small)))
