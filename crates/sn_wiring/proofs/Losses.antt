-- The counts of all links are kept, one link after another, and that is what a desk shows of their loss.
use Rattle.std.proofs.Common.{Bool, List, None, Option, Some, [], ap, add-one, arith, drop, get_or, length, refl, set, suc, sym}
use Rattle.std.proofs.Common.{zero, ℕ, ◌+◌, ◌∙◌, ◌∷◌, ◌≡◌, ◌≢◌, ◌≤◌, if◌then◌else◌}
use Rattle.std.proofs.lemmas.Bool.{ne_eqb}
use Rattle.sn_link.specs.Counts.{no_counts}
use Rattle.sn_link.specs.Link.{Line}
use Rattle.sn_link.specs.declared.counts.LinkCounts.{LinkCounts}
use Rattle.sn_app.specs.Counts.{with_added}
use Rattle.sn_app.specs.Desk.{Queue, Tray, kept_counts}
use Rattle.sn_app.specs.World.{Used, desk_of, queue_in, queue_of, queue_or, rows_in, world}
use Rattle.sn_app.proofs.Hands.{drop_past}
use Rattle.sn_wiring.proofs.Rows.{own_row, queue_none, queue_own, rows_first}
use Rattle.sn_wiring.specs.Lost.{lost, with_all_counts, with_counts_of}

-- the tray after the counts of these links were kept
pub all_kept : List (Option Line) → Tray → Tray
all_kept [] t = t
all_kept (None ∷ slots) t = all_kept slots t
all_kept (Some line ∷ slots) t = all_kept slots (kept_counts line.row line.counts t)

kept_suc : (slots : List (Option Line)) (key : ℕ) (line : Line) (t : Tray) → get_or slots key None ≡ Some line
    → all_kept (drop key slots) t ≡ all_kept (drop (suc key) slots) (kept_counts line.row line.counts t)
unfolding all_kept
kept_suc [] key line t there = absurd cc
kept_suc (slot ∷ slots) zero line t there = ap (λ s. all_kept (s ∷ slots) t) there
kept_suc (slot ∷ slots) (suc key) line t there = kept_suc slots key line t there

none_suc : (slots : List (Option Line)) (key : ℕ) (t : Tray) → get_or slots key None ≡ None
    → all_kept (drop key slots) t ≡ all_kept (drop (suc key) slots) t
unfolding all_kept
none_suc [] zero t none = refl
none_suc [] (suc key) t none = refl
none_suc (slot ∷ slots) zero t none = ap (λ s. all_kept (s ∷ slots) t) none
none_suc (slot ∷ slots) (suc key) t none = none_suc slots key t none

pub kept_next : (slots : List (Option Line)) (key : ℕ) (line : Line) (t s : Tray) → get_or slots key None ≡ Some line
    → s ≡ kept_counts line.row line.counts t → all_kept (drop (key + 1) slots) s ≡ all_kept (drop key slots) t
kept_next slots key line t s there is =
    ap (all_kept (drop (key + 1) slots)) is ∙ rw add-one (sym (kept_suc slots key line t there))

pub kept_past : (slots : List (Option Line)) (key : ℕ) (t : Tray) → get_or slots key None ≡ None
    → all_kept (drop (key + 1) slots) t ≡ all_kept (drop key slots) t
kept_past slots key t none = rw add-one (sym (none_suc slots key t none))

pub kept_end : (slots : List (Option Line)) (key : ℕ) (t : Tray) → length slots ≤ key → all_kept (drop key slots) t ≡ t
unfolding all_kept
kept_end slots key t past = ap (λ left. all_kept left t) (drop_past slots key past)

-- the counts of queues that are the same from a row on, and of none
same_counts : (p q : ℕ → Option Queue) (row : ℕ) (links : List LinkCounts) → ((r : ℕ) → row ≤ r → p r ≡ q r)
    → with_all_counts p row links ≡ with_all_counts q row links
same_counts p q row [] same = refl
same_counts p q row (counts ∷ more) same =
    ap (λ queue. with_counts_of queue counts ∷ with_all_counts p (suc row) more) (same row (omega arith))
    ∙ ap (λ rest. with_counts_of (q row) counts ∷ rest) (same_counts p q (suc row) more (λ r k. same r (omega (arith, k))))

none_counts : (p : ℕ → Option Queue) (row : ℕ) (links : List LinkCounts) → ((r : ℕ) → p r ≡ None)
    → with_all_counts p row links ≡ links
none_counts p row [] none = refl
none_counts p row (counts ∷ more) none =
    ap (λ queue. with_counts_of queue counts ∷ with_all_counts p (suc row) more) (none row)
    ∙ ap (λ rest. counts ∷ rest) (none_counts p (suc row) more none)

-- counts added at a row beforehand are those of one queue more
one_more : (p q : ℕ → Option Queue) (base i row : ℕ) (queue : Queue) (links : List LinkCounts) → row ≡ base + i → p row ≡ None
    → q row ≡ Some queue → ((r : ℕ) → r ≢ row → p r ≡ q r)
    → with_all_counts p base (set links i (with_added queue.counts (get_or links i no_counts))) ≡ with_all_counts q base links
one_more p q base i row queue [] at none some others = refl
one_more p q base zero row queue (counts ∷ more) at none some others =
    let here : row ≡ base = omega (arith, at) in
    let p_none : p base ≡ None = ap p (sym here) ∙ none in
    let q_some : q base ≡ Some queue = ap q (sym here) ∙ some in
    ap (λ o. with_counts_of o (with_added queue.counts counts) ∷ with_all_counts p (suc base) more) p_none
    ∙ (ap (λ o. with_counts_of o counts ∷ with_all_counts p (suc base) more) (sym q_some)
    ∙ ap (λ rest. with_counts_of (q base) counts ∷ rest)
    (same_counts p q (suc base) more (λ r k. others r (λ e. omega (arith, k, e, here)))))
one_more p q base (suc i) row queue (counts ∷ more) at none some others =
    ap (λ o. with_counts_of o counts ∷ with_all_counts p (suc base) (set more i (with_added queue.counts
    (get_or more i no_counts))))
    (others base (λ e. omega (arith, at, e)))
    ∙ ap (λ rest. with_counts_of (q base) counts ∷ rest) (one_more p q (suc base) i row queue more (omega
    (arith, at)) none some others)

abbrev with_links : List LinkCounts → Tray → Tray
with_links links t = record t { counters = record t.counters { links = links } }

past_slot : (u : Used) (line : Line) (row : ℕ) (other : Option Queue) → row ≢ line.row → queue_or u row (Some line) other ≡ other
unfolding queue_or
past_slot u line row other apart =
    ap (λ (b : Bool). if b then Some (queue_of u line) else other) (ne_eqb line.row row (λ e. apart (sym e)))

pub all_counted : (u : Used) (slots : List (Option Line)) (t : Tray) → ((row : ℕ) → rows_in row slots ≤ 1)
    → all_kept slots t ≡ with_links (with_all_counts (queue_in u slots) 0 t.counters.links) t
unfolding all_kept queue_in queue_or queue_of
all_counted u [] t once = ap (λ links. with_links links t) (sym (none_counts (queue_in u []) 0 t.counters.links (λ r. refl)))
all_counted u (None ∷ slots) t once =
    all_counted u slots t (λ row. omega (arith, once row, rows_first row None slots))
    ∙ ap (λ links. with_links links t)
    (same_counts (queue_in u slots) (queue_in u (None ∷ slots)) 0 t.counters.links (λ r k. refl))
all_counted u (Some line ∷ slots) t once =
    let fewer : (row : ℕ) → rows_in row slots ≤ 1 = λ row. omega (arith, once row, rows_first row (Some line) slots) in
    let none : rows_in line.row slots ≡ 0 = omega (arith, once line.row, rows_first line.row (Some line) slots, own_row line) in
    all_counted u slots (kept_counts line.row line.counts t) fewer
    ∙ ap (λ links. with_links links t)
    (one_more (queue_in u slots) (queue_in u (Some line ∷ slots)) 0 line.row line.row (queue_of u line) t.counters.links
    (omega arith) (queue_none u slots line.row none) (queue_own u line (queue_in u slots line.row))
    (λ r apart. sym (past_slot u line r (queue_in u slots r) apart)))

-- all links are lost
pub desk_lost : (u v : Used) (slots : List (Option Line)) (t s : Tray) → ((row : ℕ) → rows_in row slots ≤ 1)
    → s ≡ all_kept slots t
    → desk_of (world s v []) ≡ lost (desk_of (world t u slots))
unfolding desk_of queue_in
desk_lost u v slots t s once is =
    ap (λ (z : Tray). record { tray = z; queues = λ row. None }) (is ∙ all_counted u slots t once)
