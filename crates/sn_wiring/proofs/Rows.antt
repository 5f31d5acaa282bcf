-- Links by their rows: how many have one, and the queue that a desk shows there.
use Rattle.std.proofs.Common.{Bool, List, None, Option, Some, [], ap, arith, cond, false, get_or, refl, suc, true, zero, ℕ, ◌+◌}
use Rattle.std.proofs.Common.{◌∙◌, ◌∷◌, ◌==◌, ◌≡◌, ◌≤◌, if◌then◌else◌}
use Rattle.std.proofs.lemmas.Bool.{eq-eqb}
use Rattle.std.proofs.lemmas.List.Sums.{sum_by-cons}
use Rattle.sn_link.specs.Link.{Line}
use Rattle.sn_app.specs.Desk.{Queue}
use Rattle.sn_app.specs.World.{Used, has_row, queue_in, queue_of, queue_or, rows_in}

pub rows_first : (row : ℕ) (slot : Option Line) (slots : List (Option Line))
    → rows_in row (slot ∷ slots) ≡ has_row row slot + rows_in row slots
unfolding rows_in
rows_first row slot slots = sum_by-cons (has_row row) slot slots

pub no_rows : (row : ℕ) → rows_in row [] ≡ 0
unfolding rows_in
no_rows row = refl

-- a link has its own row
pub own_row : (line : Line) → has_row line.row (Some line) ≡ 1
unfolding has_row
own_row line = ap {B = ℕ} (λ (b : Bool). if b then 1 else 0) (eq-eqb line.row line.row refl)

-- a slot of another row says nothing of this one
pub queue_past : (u : Used) (slot : Option Line) (row : ℕ) (other : Option Queue) → has_row row slot ≡ 0
    → queue_or u row slot other ≡ other
unfolding queue_or has_row
queue_past u None row other none = refl
queue_past u (Some line) row other none = past (line.row == row) none
  where
    past : (b : Bool) → cond {A = ℕ} b 1 0 ≡ 0 → cond b (Some (queue_of u line)) other ≡ other
    past true e = absurd (omega (arith, e))
    past false e = refl

-- the queue at a link's row is the link's
pub queue_own : (u : Used) (line : Line) (other : Option Queue) → queue_or u line.row (Some line) other ≡ Some (queue_of u line)
unfolding queue_or
queue_own u line other = ap (λ b. if b then Some (queue_of u line) else other) (eq-eqb line.row line.row refl)

pub row_within : (slots : List (Option Line)) (key : ℕ) (line : Line) → get_or slots key None ≡ Some line
    → 1 ≤ rows_in line.row slots
row_within [] key line there = absurd cc
row_within (slot ∷ slots) zero line there =
    omega (arith, rows_first line.row slot slots, ap (has_row line.row) there, own_row line)
row_within (slot ∷ slots) (suc key) line there =
    omega (arith, rows_first line.row slot slots, row_within slots key line there)

-- the queue where no link has a row, and where one has it
pub queue_none : (u : Used) (slots : List (Option Line)) (row : ℕ) → rows_in row slots ≡ 0 → queue_in u slots row ≡ None
unfolding queue_in
queue_none u [] row none = refl
queue_none u (slot ∷ slots) row none =
    queue_past u slot row (queue_in u slots row) (omega (arith, none, rows_first row slot slots))
    ∙ queue_none u slots row (omega (arith, none, rows_first row slot slots))

pub queue_there : (u : Used) (slots : List (Option Line)) (key : ℕ) (line : Line) → get_or slots key None ≡ Some line
    → rows_in line.row slots ≤ 1 → queue_in u slots line.row ≡ Some (queue_of u line)
unfolding queue_in
queue_there u [] key line there once = absurd cc
queue_there u (slot ∷ slots) zero line there once =
    ap (λ s. queue_or u line.row s (queue_in u slots line.row)) there ∙ queue_own u line (queue_in u slots line.row)
queue_there u (slot ∷ slots) (suc key) line there once =
    let within = row_within slots key line there in
    let none : has_row line.row slot ≡ 0 = omega (arith, rows_first line.row slot slots) in
    queue_past u slot line.row (queue_in u slots line.row) none
    ∙ queue_there u slots key line there (omega (arith, rows_first line.row slot slots))
