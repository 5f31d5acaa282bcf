-- Links by their slots: queues, places, rows and lengths, where packets change that aren't queued, and where one link changes.
use Rattle.std.proofs.Common.{◌≡◌, ◌≢◌, ℕ, zero, suc, ◌+◌, ◌<◌, ◌≤◌, ◌==◌, Bool, true, false, cond, List, [], ◌∷◌, map, length, get_or, set, Option, Some, None, unwrap_or, refl, sym, ap, ◌∙◌, inl, inr, arith, if◌then◌else◌}
use Rattle.std.proofs.lemmas.Bool.{eq-eqb, ne_eqb}
use Rattle.std.proofs.lemmas.Bool.Decides.{eqb_tells}
use Rattle.std.proofs.lemmas.List.Sums.{sum_by-cons, sum_by-set}
use Rattle.std.specs.List.{sum_by}
use Rattle.sn_link.specs.Link.{Line}
use Rattle.sn_packet.specs.Hold.{among, put_at}
use Rattle.sn_packet.specs.Packet.{no_packet}
use Rattle.sn_app.specs.Desk.{Queue}
use Rattle.sn_app.specs.World.{Used, packet_at, places_of, queue_of, queue_or, queue_in, in_slot, in_slots, has_row, rows_in, misfit, misfits_of, misfits}
use Rattle.sn_app.proofs.Places.{among_first, among_within}

-- a slot that has something is one of the slots
pub some_within : {X : Type 0} (slots : List (Option X)) (key : ℕ) (x : X) → get_or slots key None ≡ Some x → key < length slots
some_within [] key x e = absurd cc
some_within (slot ∷ slots) zero x e = omega arith
some_within (slot ∷ slots) (suc key) x e = omega (arith, some_within slots key x e)

-- the places of one slot and of the others
pub in_slots-cons : (slot : Option Line) (slots : List (Option Line)) (place : ℕ)
    → in_slots (slot ∷ slots) place ≡ in_slot place slot + in_slots slots place
unfolding in_slots
in_slots-cons slot slots place = sum_by-cons (in_slot place) slot slots

rows_in-cons : (slot : Option Line) (slots : List (Option Line)) (row : ℕ)
    → rows_in row (slot ∷ slots) ≡ has_row row slot + rows_in row slots
unfolding rows_in
rows_in-cons slot slots row = sum_by-cons (has_row row) slot slots

-- PACKETS THAT AREN'T QUEUED CHANGE

module _ (used after : Used) where
  packets_same : (queued : List (ℕ × ℕ)) → ((place : ℕ) → 0 < among (places_of queued) place → after place ≡ used place)
      → map (λ entry. packet_at after entry.0) queued ≡ map (λ entry. packet_at used entry.0) queued
  packets_same [] same = refl
  packets_same (entry ∷ more) same =
      let here = ap (λ slot. unwrap_or slot no_packet) (same entry.0 (omega (arith, among_first entry.0 (places_of more)))) in
      let rest = packets_same more (λ place among. same place (omega (arith, among_within entry.0 place (places_of more)))) in
      ap (λ packet. packet ∷ map (λ e. packet_at after e.0) more) here ∙ ap (λ packets. packet_at used entry.0 ∷ packets) rest

  misfits_same : (queued : List (ℕ × ℕ)) → ((place : ℕ) → 0 < among (places_of queued) place → after place ≡ used place)
      → sum_by (misfit after) queued ≡ sum_by (misfit used) queued
  unfolding misfit
  misfits_same [] same = refl
  misfits_same (entry ∷ more) same =
      let here : misfit after entry ≡ misfit used entry = ap (λ slot. cond (length (unwrap_or slot no_packet).bytes == entry.1) 0 1) (same entry.0 (omega (arith, among_first entry.0 (places_of more)))) in
      let rest = misfits_same more (λ place among. same place (omega (arith, among_within entry.0 place (places_of more)))) in
      sum_by-cons (misfit after) entry more ∙ (ap (λ n. n + sum_by (misfit after) more) here
      ∙ (ap (λ n. misfit used entry + n) rest ∙ sym (sum_by-cons (misfit used) entry more)))

  queue_or_same : (slot : Option Line) (row : ℕ) (other : Option Queue) → ((place : ℕ) → 0 < in_slot place slot → after place ≡ used place)
      → queue_or after row slot other ≡ queue_or used row slot other
  unfolding queue_or queue_of in_slot
  queue_or_same None row other same = refl
  queue_or_same (Some line) row other same =
      ap (λ packets. if line.row == row then Some (record { packets = packets; counts = line.counts }) else other) (packets_same line.queued same)

  misfits_of_same : (slot : Option Line) → ((place : ℕ) → 0 < in_slot place slot → after place ≡ used place)
      → misfits_of after slot ≡ misfits_of used slot
  unfolding misfits_of in_slot
  misfits_of_same None same = refl
  misfits_of_same (Some line) same = misfits_same line.queued same

  pub queues_same : (slots : List (Option Line)) (row : ℕ) → ((place : ℕ) → 0 < in_slots slots place → after place ≡ used place)
      → queue_in after slots row ≡ queue_in used slots row
  unfolding queue_in
  queues_same [] row same = refl
  queues_same (slot ∷ slots) row same =
      let here = queue_or_same slot row (queue_in after slots row) (λ place k. same place (omega (arith, in_slots-cons slot slots place))) in
      let rest = queues_same slots row (λ place k. same place (omega (arith, in_slots-cons slot slots place))) in
      here ∙ ap (queue_or used row slot) rest

  pub all_misfits_same : (slots : List (Option Line)) → ((place : ℕ) → 0 < in_slots slots place → after place ≡ used place)
      → misfits after slots ≡ misfits used slots
  unfolding misfits
  all_misfits_same [] same = refl
  all_misfits_same (slot ∷ slots) same =
      let here = misfits_of_same slot (λ place k. same place (omega (arith, in_slots-cons slot slots place))) in
      let rest = all_misfits_same slots (λ place k. same place (omega (arith, in_slots-cons slot slots place))) in
      sum_by-cons (misfits_of after) slot slots ∙ (ap (λ n. n + misfits after slots) here
      ∙ (ap (λ n. misfits_of used slot + n) rest ∙ sym (sum_by-cons (misfits_of used) slot slots)))

-- ONE LINK CHANGES

module _ (slots : List (Option Line)) (key : ℕ) (line : Line) (there : get_or slots key None ≡ Some line) (changed : Line) where
  pub in_slots-set : (place : ℕ) → in_slots (set slots key (Some changed)) place + in_slot place (Some line) ≡ in_slots slots place + in_slot place (Some changed)
  unfolding in_slots
  in_slots-set place =
      ap (λ slot. in_slots (set slots key (Some changed)) place + in_slot place slot) (sym there)
      ∙ sum_by-set (in_slot place) slots key (Some changed) None (some_within slots key line there)

  pub rows_in-set : (row : ℕ) → rows_in row (set slots key (Some changed)) + has_row row (Some line) ≡ rows_in row slots + has_row row (Some changed)
  unfolding rows_in
  rows_in-set row =
      ap (λ slot. rows_in row (set slots key (Some changed)) + has_row row slot) (sym there)
      ∙ sum_by-set (has_row row) slots key (Some changed) None (some_within slots key line there)

  pub misfits-set : (used : Used) → misfits used (set slots key (Some changed)) + misfits_of used (Some line) ≡ misfits used slots + misfits_of used (Some changed)
  unfolding misfits
  misfits-set used =
      ap (λ slot. misfits used (set slots key (Some changed)) + misfits_of used slot) (sym there)
      ∙ sum_by-set (misfits_of used) slots key (Some changed) None (some_within slots key line there)

-- a link's own row is among the rows
pub row_within : (slots : List (Option Line)) (key : ℕ) (line : Line) → get_or slots key None ≡ Some line → 1 ≤ rows_in line.row slots
unfolding has_row
row_within [] key line there = absurd cc
row_within (slot ∷ slots) zero line there =
    omega (arith, rows_in-cons slot slots line.row, ap (has_row line.row) there, ap {B = ℕ} (λ b. cond b 1 0) (eq-eqb line.row line.row refl))
row_within (slot ∷ slots) (suc key) line there = omega (arith, rows_in-cons slot slots line.row, row_within slots key line there)

-- the queue at a link's row is the link's
queue_here : (used : Used) (line : Line) (other : Option Queue) → queue_or used line.row (Some line) other ≡ Some (queue_of used line)
unfolding queue_or
queue_here used line other = ap (λ b. if b then Some (queue_of used line) else other) (eq-eqb line.row line.row refl)

-- a slot of another row says nothing of this one
queue_past : (used : Used) (slot : Option Line) (row : ℕ) (other : Option Queue) → has_row row slot ≡ 0 → queue_or used row slot other ≡ other
unfolding queue_or has_row
queue_past used None row other none = refl
queue_past used (Some line) row other none = past (line.row == row) none
  where
    past : (b : Bool) → cond {A = ℕ} b 1 0 ≡ 0 → cond b (Some (queue_of used line)) other ≡ other
    past true e = absurd (omega (arith, e))
    past false e = refl

pub queue_at : (used : Used) (slots : List (Option Line)) (key : ℕ) (line : Line) → get_or slots key None ≡ Some line
    → rows_in line.row slots ≤ 1 → queue_in used slots line.row ≡ Some (queue_of used line)
unfolding queue_in
queue_at used [] key line there once = absurd cc
queue_at used (slot ∷ slots) zero line there once =
    ap (λ s. queue_or used line.row s (queue_in used slots line.row)) there ∙ queue_here used line (queue_in used slots line.row)
queue_at used (slot ∷ slots) (suc key) line there once =
    let within = row_within slots key line there in
    let none : has_row line.row slot ≡ 0 = omega (arith, rows_in-cons slot slots line.row) in
    queue_past used slot line.row (queue_in used slots line.row) none
    ∙ queue_at used slots key line there (omega (arith, rows_in-cons slot slots line.row))

-- the queues after one link changed, and kept its row
queue_other : (used : Used) (line changed : Line) (row : ℕ) (other : Option Queue) → changed.row ≡ line.row → row ≢ line.row
    → queue_or used row (Some changed) other ≡ queue_or used row (Some line) other
unfolding queue_or
queue_other used line changed row other same differs =
    let no : line.row ≢ row = λ e. differs (sym e) in
    let not : changed.row ≢ row = λ e. differs (sym e ∙ same) in
    ap (λ b. if b then Some (queue_of used changed) else other) (ne_eqb changed.row row not)
    ∙ sym (ap (λ b. if b then Some (queue_of used line) else other) (ne_eqb line.row row no))

pub queue-set_other : (used : Used) (slots : List (Option Line)) (key : ℕ) (line changed : Line) (row : ℕ)
    → get_or slots key None ≡ Some line → changed.row ≡ line.row → row ≢ line.row
    → queue_in used (set slots key (Some changed)) row ≡ queue_in used slots row
unfolding queue_in
queue-set_other used [] key line changed row there same differs = absurd cc
queue-set_other used (slot ∷ slots) zero line changed row there same differs =
    queue_other used line changed row (queue_in used slots row) same differs
    ∙ ap (λ s. queue_or used row s (queue_in used slots row)) (sym there)
queue-set_other used (slot ∷ slots) (suc key) line changed row there same differs =
    ap (queue_or used row slot) (queue-set_other used slots key line changed row there same differs)

pub get-set : (slots : List (Option Line)) (key : ℕ) (line changed : Line) → get_or slots key None ≡ Some line
    → get_or (set slots key (Some changed)) key None ≡ Some changed
get-set [] key line changed there = absurd cc
get-set (slot ∷ slots) zero line changed there = refl
get-set (slot ∷ slots) (suc key) line changed there = get-set slots key line changed there

pub same_rows : (row : ℕ) (a b : Line) → a.row ≡ b.row → has_row row (Some a) ≡ has_row row (Some b)
unfolding has_row
same_rows row a b e = ap (λ r. cond (r == row) 1 0) e

pub queues-set : (used : Used) (slots : List (Option Line)) (key : ℕ) (line changed : Line)
    → get_or slots key None ≡ Some line → changed.row ≡ line.row → ((row : ℕ) → rows_in row slots ≤ 1) → (row : ℕ)
    → queue_in used (set slots key (Some changed)) row ≡ put_at line.row (Some (queue_of used changed)) (queue_in used slots) row
queues-set used slots key line changed there same once row = elim (eqb_tells row line.row) [
  | inl is ↦
      let one : rows_in changed.row (set slots key (Some changed)) ≤ 1 = rows_after in
      let at = queue_at used (set slots key (Some changed)) key changed (get-set slots key line changed there) one in
      ap (queue_in used (set slots key (Some changed))) (is.1 ∙ sym same) ∙ (at
      ∙ sym (ap (λ b. if b then Some (queue_of used changed) else queue_in used slots row) is.0))
  | inr apart ↦
      queue-set_other used slots key line changed row there same apart.1
      ∙ sym (ap (λ b. if b then Some (queue_of used changed) else queue_in used slots row) apart.0)
]
  where
    rows_after : rows_in changed.row (set slots key (Some changed)) ≤ 1
    rows_after = omega (arith, rows_in-set slots key line there changed changed.row, once changed.row, same_rows changed.row changed line same)
