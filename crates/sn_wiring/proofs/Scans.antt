-- A scan over the keys of a slab for a row.
use Rattle.std.proofs.Common.{Bool, List, None, Option, Some, [], ap, arith, drop, get_or, length, refl, suc, sym, zero, ℕ, ◌+◌}
use Rattle.std.proofs.Common.{◌∙◌, ◌∷◌, ◌≡◌, ◌≢◌, ◌≤◌, add-one, if◌then◌else◌}
use Rattle.std.proofs.lemmas.Bool.{ne_eqb}
use Rattle.std.proofs.lemmas.List.{length-map}
use Rattle.sn_link.specs.Link.{Line}
use Rattle.sn_app.specs.Apps.{readable, readable_of}
use Rattle.sn_app.specs.Desk.{Tray}
use Rattle.sn_app.specs.World.{Used, desk_of, has_row, packet_at, queue_in, queue_of, queue_or, rows_in, world}
use Rattle.sn_app.proofs.Hands.{drop_past}
use Rattle.sn_wiring.proofs.Rows.{no_rows, queue_own, queue_past, rows_first}

-- no link, and a link of another row, hasn't the row
pub none_has : (row : ℕ) (slot : Option Line) → slot ≡ None → has_row row slot ≡ 0
unfolding has_row
none_has row slot none = ap (has_row row) none

pub other_has : (row : ℕ) (slot : Option Line) (line : Line) → slot ≡ Some line → line.row ≢ row → has_row row slot ≡ 0
unfolding has_row
other_has row slot line some apart =
    ap (has_row row) some ∙ ap {B = ℕ} (λ (b : Bool). if b then 1 else 0) (ne_eqb line.row row apart)

-- so it is passed over
past_suc : (row : ℕ) (slots : List (Option Line)) (key : ℕ) → has_row row (get_or slots key None) ≡ 0
    → rows_in row (drop (suc key) slots) ≡ rows_in row (drop key slots)
past_suc row [] zero none = refl
past_suc row [] (suc key) none = refl
past_suc row (slot ∷ slots) zero none = omega (arith, none, rows_first row slot slots)
past_suc row (slot ∷ slots) (suc key) none = past_suc row slots key none

pub rows_left : (row : ℕ) (slots : List (Option Line)) (key : ℕ) → has_row row (get_or slots key None) ≡ 0
    → rows_in row (drop (key + 1) slots) ≡ rows_in row (drop key slots)
rows_left row slots key none = rw add-one (past_suc row slots key none)

pub none_left : (row : ℕ) (slots : List (Option Line)) (key : ℕ) → length slots ≤ key → rows_in row (drop key slots) ≡ 0
none_left row slots key past = ap (rows_in row) (drop_past slots key past) ∙ no_rows row

module _ (u : Used) (row : ℕ) where
  queue_suc : (slots : List (Option Line)) (key : ℕ) → has_row row (get_or slots key None) ≡ 0
      → queue_in u (drop key slots) row ≡ queue_in u (drop (suc key) slots) row
  unfolding queue_in
  queue_suc [] zero none = refl
  queue_suc [] (suc key) none = refl
  queue_suc (slot ∷ slots) zero none = queue_past u slot row (queue_in u slots row) none
  queue_suc (slot ∷ slots) (suc key) none = queue_suc slots key none

  pub queue_left : (slots : List (Option Line)) (key : ℕ) → has_row row (get_or slots key None) ≡ 0
      → queue_in u (drop key slots) row ≡ queue_in u (drop (key + 1) slots) row
  queue_left slots key none = rw add-one (queue_suc slots key none)

  pub queue_end : (slots : List (Option Line)) (key : ℕ) → length slots ≤ key → queue_in u (drop key slots) row ≡ None
  unfolding queue_in
  queue_end slots key past = ap (λ left. queue_in u left row) (drop_past slots key past)

  queue_first : (slots : List (Option Line)) (key : ℕ) (line : Line) → get_or slots key None ≡ Some line → line.row ≡ row
      → queue_in u (drop key slots) row ≡ Some (queue_of u line)
  unfolding queue_in
  queue_first [] key line there is = absurd cc
  queue_first (slot ∷ slots) zero line there is =
      ap (λ s. queue_or u row s (queue_in u slots row)) there
      ∙ (ap (λ r. queue_or u r (Some line) (queue_in u slots row)) (sym is) ∙ queue_own u line (queue_in u slots row))
  queue_first (slot ∷ slots) (suc key) line there is = queue_first slots key line there is

  -- what the link found has, and what is there where none was found
  pub found_readable : (t : Tray) (slots : List (Option Line)) (key n : ℕ) (line : Line) → get_or slots key None ≡ Some line
      → line.row ≡ row → queue_in u (drop key slots) row ≡ queue_in u slots row → n ≡ length line.queued
      → n ≡ readable row (desk_of (world t u slots))
  unfolding desk_of queue_of
  found_readable t slots key n line there is left count =
      count
      ∙ (sym (length-map line.queued (λ entry. packet_at u entry.0))
      ∙ ap readable_of (sym (queue_first slots key line there is) ∙ left))

  pub none_readable : (t : Tray) (slots : List (Option Line)) (key : ℕ) → length slots ≤ key
      → queue_in u (drop key slots) row ≡ queue_in u slots row → 0 ≡ readable row (desk_of (world t u slots))
  unfolding desk_of
  none_readable t slots key past left = ap readable_of (sym (queue_end slots key past) ∙ left)
