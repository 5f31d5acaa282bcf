-- The packets in all links, row by row.
use Rattle.std.proofs.Common.{inl, inr, Bool, List, None, Option, Some, [], ap, arith, false, length, refl, suc, sum_by, sym}
use Rattle.std.proofs.Common.{true, zero, ◌+◌, ◌<◌, ◌==◌, ◌∙◌, ◌∷◌, ◌≡◌, ◌≢◌, ◌≤◌, ℕ, min, subst, if◌then◌else◌}
use Rattle.std.proofs.lemmas.Bool.{cases_lt, eqb-false, eqb-true}
use Rattle.std.proofs.lemmas.List.{length-map}
use Rattle.std.proofs.lemmas.List.Sums.{sum_by-cons}
use Rattle.sn_app.specs.Apps.{readable_of}
use Rattle.sn_app.specs.Desk.{Queue, Tray, roster_of}
use Rattle.sn_app.specs.World.{Used, desk_of, has_row, packet_at, queue_in, queue_of, rows_in, world}
use Rattle.sn_link.specs.Link.{Line}
use Rattle.sn_wiring.proofs.Rows.{own_row, queue_none, queue_own, queue_past, rows_first}
use Rattle.std.proofs.lemmas.Bool.{ne_eqb}
use Rattle.sn_wiring.specs.Links.{FitsRoster}
use Rattle.sn_network.specs.Left.{packets_in, queued_in}
use Rattle.sn_network.proofs.Cut.{cut_both}

-- the packets in the first rows of these queues
in_rows : ℕ → (ℕ → Option Queue) → ℕ
in_rows zero queues = 0
in_rows (suc row) queues = in_rows row queues + readable_of (queues row)

shown_rows : (t : Tray) (u : Used) (slots : List (Option Line)) (n : ℕ)
    → packets_in n (desk_of (world t u slots)) ≡ in_rows n (queue_in u slots)
unfolding packets_in desk_of in_rows
shown_rows t u slots zero = refl
shown_rows t u slots (suc n) = ap (λ k. k + readable_of (queue_in u slots n)) (shown_rows t u slots n)

-- no link, and a link of another row, hasn't a row
none_has : (row : ℕ) → has_row row None ≡ 0
unfolding has_row
none_has row = refl

other_has : (row : ℕ) (line : Line) → line.row ≢ row → has_row row (Some line) ≡ 0
unfolding has_row
other_has row line apart = ap {B = ℕ} (λ (b : Bool). if b then 1 else 0) (ne_eqb line.row row apart)

-- where all rows have as many
rows_same : (f g : ℕ → Option Queue) (n : ℕ) → ((row : ℕ) → row < n → readable_of (f row) ≡ readable_of (g row))
    → in_rows n f ≡ in_rows n g
unfolding in_rows
rows_same f g zero same = refl
rows_same f g (suc n) same =
    let here = same n (omega arith) in
    let more = rows_same f g n (λ row lt. same row (omega (arith, lt))) in
    omega (arith, here, more)

-- where one row has this many more
rows_more : (f g : ℕ → Option Queue) (at k n : ℕ) → at < n → ((row : ℕ) → row ≢ at → readable_of (f row) ≡ readable_of (g row))
    → readable_of (f at) ≡ k + readable_of (g at) → in_rows n f ≡ k + in_rows n g
unfolding in_rows
rows_more f g at k zero within same more = absurd (omega (arith, within))
rows_more f g at k (suc n) within same more = by (at == n) refl (λ lt. rows_more f g at k n lt same more)
  where
    by : (b : Bool) → (at == n) ≡ b → (at < n → in_rows n f ≡ k + in_rows n g)
        → in_rows n f + readable_of (f n) ≡ k + (in_rows n g + readable_of (g n))
    by true e rest =
        let is : at ≡ n = eqb-true at n e in
        let here = subst (λ row. readable_of (f row) ≡ k + readable_of (g row)) is more in
        let below = rows_same f g n (λ row lt. same row (λ s. absurd (omega (arith, lt, s, is)))) in
        omega (arith, here, below)
    by false e rest =
        let apart : at ≢ n = eqb-false at n e in
        let here = same n (λ s. apart (sym s)) in
        let below = rest (omega (arith, within, apart)) in
        omega (arith, here, below)

no_queues : (u : Used) (n : ℕ) → in_rows n (queue_in u []) ≡ 0
unfolding queue_in in_rows
no_queues u zero = refl
no_queues u (suc n) = let more = no_queues u n in omega (arith, more)

-- no row is more than one link's, and none from this one on is a link's
record Within (n : ℕ) (slots : List (Option Line)) : Type 0 where
  named : (row : ℕ) → n ≤ row → rows_in row slots ≡ 0
  once : (row : ℕ) → rows_in row slots ≤ 1

within_rest : (n : ℕ) (slot : Option Line) (slots : List (Option Line)) → Within n (slot ∷ slots) → Within n slots
within_rest n slot slots h = record {
  named = λ row past. let s = rows_first row slot slots in let e = h.named row past in omega (arith, s, e);
  once = λ row. let s = rows_first row slot slots in let e = h.once row in omega (arith, s, e);
}

module _ (u : Used) (n : ℕ) where
  none_adds : (slots : List (Option Line)) → in_rows n (queue_in u (None ∷ slots)) ≡ in_rows n (queue_in u slots)
  unfolding queue_in
  none_adds slots =
      rows_same (queue_in u (None ∷ slots)) (queue_in u slots) n (λ row lt.
      ap readable_of (queue_past u None row (queue_in u slots row) (none_has row)))

  link_adds : (line : Line) (slots : List (Option Line)) → Within n (Some line ∷ slots)
      → in_rows n (queue_in u (Some line ∷ slots)) ≡ length line.queued + in_rows n (queue_in u slots)
  unfolding queue_in queue_of
  link_adds line slots h =
      let first = rows_first line.row (Some line) slots in
      let own = own_row line in
      let none : rows_in line.row slots ≡ 0 = let once = h.once line.row in omega (arith, first, own, once) in
      let count : readable_of (Some (queue_of u line)) ≡ length line.queued =
      length-map line.queued (λ entry. packet_at u entry.0) in
      let left : readable_of (queue_in u slots line.row) ≡ 0 = ap readable_of (queue_none u slots line.row none) in
      let here : readable_of (queue_in u (Some line ∷ slots) line.row) ≡ readable_of (Some (queue_of u line)) =
      ap readable_of (queue_own u line (queue_in u slots line.row)) in
      rows_more (queue_in u (Some line ∷ slots)) (queue_in u slots) line.row (length line.queued) n (below first own)
      (λ row apart. ap readable_of
      (queue_past u (Some line) row (queue_in u slots row) (other_has row line (λ s. apart (sym s)))))
      (omega (arith, here, count, left))
    where
      below : rows_in line.row (Some line ∷ slots) ≡ has_row line.row (Some line) + rows_in line.row slots
          → has_row line.row (Some line) ≡ 1 → line.row < n
      below first own = elim (cases_lt line.row n) [
        | inl lt ↦ lt
        | inr past ↦ let none = h.named line.row past in absurd (omega (arith, none, first, own))
      ]

  all_rows : (slots : List (Option Line)) → Within n slots → in_rows n (queue_in u slots) ≡ sum_by queued_in slots
  all_rows [] h = no_queues u n
  all_rows (None ∷ slots) h =
      let more = all_rows slots (within_rest n None slots h) in
      let cons = sum_by-cons queued_in None slots in none_adds slots ∙ (more ∙ omega (arith, cons))
  all_rows (Some line ∷ slots) h =
      let more = all_rows slots (within_rest n (Some line) slots h) in
      link_adds line slots h ∙ (ap (λ k. length line.queued + k) more ∙ sym (sum_by-cons queued_in (Some line) slots))

-- the packets in all links are those of the roster's rows
pub queued_rows : (t : Tray) (u : Used) (slots : List (Option Line)) → FitsRoster (roster_of t).links slots
    → packets_in (length (roster_of (desk_of (world t u slots)).tray).links) (desk_of (world t u slots)) ≡ sum_by queued_in slots
unfolding desk_of
queued_rows t u slots fits =
    shown_rows t u slots (length (roster_of t).links)
    ∙ all_rows u (length (roster_of t).links) slots (record { named = fits.named; once = fits.once })

-- what both sums come to
pub left_is : (t : Tray) (u : Used) (slots : List (Option Line)) (m a r x y : ℕ) → FitsRoster (roster_of t).links slots
    → x ≡ min a m → y ≡ min (sum_by queued_in slots) m → r ≡ min (x + y) m
    → r ≡ min (a + packets_in (length (roster_of (desk_of (world t u slots)).tray).links) (desk_of (world t u slots))) m
left_is t u slots m a r x y fits first second sum =
    let rows = queued_rows t u slots fits in
    let cut = cut_both m a (sum_by queued_in slots) in
    sum ∙ (ap (λ k. min (k + y) m) first ∙ (ap (λ k. min (min a m + k) m) second ∙ (cut ∙ ap (λ k. min (a + k) m) (sym rows))))
