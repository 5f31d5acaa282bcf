-- Slots of two lists that differ at one key, where the one has a link and the other has none.
use Rattle.std.proofs.Common.{Bool, List, None, Option, Some, [], ap, arith, false, get_or, refl, subst, suc, sym, true, zero, ℕ}
use Rattle.std.proofs.Common.{◌+◌, ◌∙◌, ◌∷◌, ◌≡◌, ◌≢◌, if◌then◌else◌}
use Rattle.std.proofs.lemmas.Bool.{eq-eqb, ne_eqb, true≢false}
use Rattle.std.proofs.lemmas.List.Sums.{sum_by-cons}
use Rattle.std.specs.List.{sum_by}
use Rattle.sn_link.specs.Link.{Line}
use Rattle.sn_app.specs.World.{Used, has_row, in_slot, in_slots, misfits, misfits_of, queue_in, queue_or, rows_in}
use Rattle.sn_wiring.proofs.Rows.{queue_past}

-- the new slots have a link at a key, the old ones have none there, and elsewhere they are the same
pub record Opened (old new : List (Option Line)) (key : ℕ) (line : Line) : Type 0 where
  pub was : get_or old key None ≡ None
  pub here : get_or new key None ≡ Some line
  pub others : (other : ℕ) → other ≢ key → get_or new other None ≡ get_or old other None

abbrev is_there : {X : Type 0} → Option X → Bool
is_there None = false
is_there (Some x) = true

module _ {X : Type 0} (f : Option X → ℕ) (none : f None ≡ 0) where
  pub same_sum : (old new : List (Option X)) → ((k : ℕ) → f (get_or new k None) ≡ f (get_or old k None))
      → sum_by f new ≡ sum_by f old
  same_sum [] [] h = refl
  same_sum [] (n ∷ ns) h =
      let a : f n ≡ 0 = h 0 ∙ none in
      let b : sum_by f ns ≡ 0 = same_sum [] ns (λ k. h (suc k)) in
      omega (arith, a, b, sum_by-cons f n ns)
  same_sum (o ∷ os) [] h =
      let a : f o ≡ 0 = sym (h 0) ∙ none in
      let b : 0 ≡ sum_by f os = same_sum os [] (λ k. h (suc k)) in
      let c : sum_by f (o ∷ os) ≡ f o + sum_by f os = sum_by-cons f o os in
      omega (arith, a, b, c)
  same_sum (o ∷ os) (n ∷ ns) h =
      let a : f n ≡ f o = h 0 in
      let b : sum_by f ns ≡ sum_by f os = same_sum os ns (λ k. h (suc k)) in
      omega (arith, a, b, sum_by-cons f n ns, sum_by-cons f o os)

  sum_opened : (old new : List (Option X)) (key : ℕ) (x : X) → get_or old key None ≡ None → get_or new key None ≡ Some x
      → ((other : ℕ) → other ≢ key → get_or new other None ≡ get_or old other None) → sum_by f new ≡ sum_by f old + f (Some x)
  sum_opened old [] key x was is others = absurd (true≢false (sym (ap is_there is)))
  sum_opened [] (n ∷ ns) zero x was is others =
      let a : f n ≡ f (Some x) = ap f is in
      let b : sum_by f ns ≡ 0 = same_sum [] ns (λ k. ap f (others (suc k) (λ e. omega (arith, e)))) in
      let d : sum_by f [] ≡ 0 = refl in
      omega (arith, a, b, d, sum_by-cons f n ns)
  sum_opened [] (n ∷ ns) (suc key) x was is others =
      let a : f n ≡ 0 = ap f (others 0 (λ e. omega (arith, e))) ∙ none in
      let b : sum_by f ns ≡ 0 + f (Some x) =
      sum_opened [] ns key x was is (λ other h. others (suc other) (λ e. h (let g : other ≡ key = omega (arith, e) in g))) in
      omega (arith, a, b, sum_by-cons f n ns)
  sum_opened (o ∷ os) (n ∷ ns) zero x was is others =
      let a : f n ≡ f (Some x) = ap f is in
      let z : f o ≡ 0 = ap f was ∙ none in
      let b : sum_by f ns ≡ sum_by f os = same_sum os ns (λ k. ap f (others (suc k) (λ e. omega (arith, e)))) in
      omega (arith, a, b, z, sum_by-cons f n ns, sum_by-cons f o os)
  sum_opened (o ∷ os) (n ∷ ns) (suc key) x was is others =
      let a : f n ≡ f o = ap f (others 0 (λ e. omega (arith, e))) in
      let b : sum_by f ns ≡ sum_by f os + f (Some x) =
      sum_opened os ns key x was is (λ other h. others (suc other) (λ e. h (let g : other ≡ key = omega (arith, e) in g))) in
      omega (arith, a, b, sum_by-cons f n ns, sum_by-cons f o os)

module _ (u : Used) (row : ℕ) where
  same_queue : (old new : List (Option Line)) → ((k : ℕ) → get_or new k None ≡ get_or old k None)
      → queue_in u new row ≡ queue_in u old row
  unfolding queue_in queue_or
  same_queue [] [] h = refl
  same_queue [] (n ∷ ns) h =
      ap (λ slot. queue_or u row slot (queue_in u ns row)) (h 0) ∙ same_queue [] ns (λ k. h (suc k))
  same_queue (o ∷ os) [] h =
      same_queue os [] (λ k. h (suc k)) ∙ ap (λ slot. queue_or u row slot (queue_in u os row)) (h 0)
  same_queue (o ∷ os) (n ∷ ns) h =
      ap (λ slot. queue_or u row slot (queue_in u ns row)) (h 0)
      ∙ ap (queue_or u row o) (same_queue os ns (λ k. h (suc k)))

  queue_opened : (old new : List (Option Line)) (key : ℕ) (line : Line) → get_or old key None ≡ None
      → get_or new key None ≡ Some line
      → ((other : ℕ) → other ≢ key → get_or new other None ≡ get_or old other None) → has_row row (Some line) ≡ 0
      → queue_in u new row ≡ queue_in u old row
  unfolding queue_in queue_or
  queue_opened old [] key line was is others past = absurd (true≢false (sym (ap is_there is)))
  queue_opened [] (n ∷ ns) zero line was is others past =
      ap (λ slot. queue_or u row slot (queue_in u ns row)) is
      ∙ (queue_past u (Some line) row (queue_in u ns row) past
      ∙ same_queue [] ns (λ k. others (suc k) (λ e. omega (arith, e))))
  queue_opened [] (n ∷ ns) (suc key) line was is others past =
      ap (λ slot. queue_or u row slot (queue_in u ns row)) (others 0 (λ e. omega (arith, e)))
      ∙ queue_opened [] ns key line was is
      (λ other h. others (suc other) (λ e. h (let g : other ≡ key = omega (arith, e) in g))) past
  queue_opened (o ∷ os) (n ∷ ns) zero line was is others past =
      ap (λ slot. queue_or u row slot (queue_in u ns row)) is
      ∙ (queue_past u (Some line) row (queue_in u ns row) past
      ∙ (same_queue os ns (λ k. others (suc k) (λ e. omega (arith, e)))
      ∙ ap (λ slot. queue_or u row slot (queue_in u os row)) (sym was)))
  queue_opened (o ∷ os) (n ∷ ns) (suc key) line was is others past =
      ap (λ slot. queue_or u row slot (queue_in u ns row)) (others 0 (λ e. omega (arith, e)))
      ∙ ap (queue_or u row o) (queue_opened os ns key line was is
      (λ other h. others (suc other) (λ e. h (let g : other ≡ key = omega (arith, e) in g))) past)

module _ {old new : List (Option Line)} {key : ℕ} {line : Line} (h : Opened old new key line) where
  pub places_opened : (place : ℕ) → in_slots new place ≡ in_slots old place + in_slot place (Some line)
  unfolding in_slots in_slot
  places_opened place = sum_opened (in_slot place) refl old new key line h.was h.here h.others

  pub misfits_opened : (u : Used) → misfits u new ≡ misfits u old + misfits_of u (Some line)
  unfolding misfits misfits_of
  misfits_opened u = sum_opened (misfits_of u) refl old new key line h.was h.here h.others

  pub rows_opened : (row : ℕ) → rows_in row new ≡ rows_in row old + has_row row (Some line)
  unfolding rows_in has_row
  rows_opened row = sum_opened (has_row row) refl old new key line h.was h.here h.others

  pub rows_here : rows_in line.row new ≡ rows_in line.row old + 1
  unfolding has_row
  rows_here =
      rows_opened line.row
      ∙ ap (λ (b : Bool). rows_in line.row old + (if b then 1 else 0)) (eq-eqb line.row line.row refl)

  past_row : (row : ℕ) → row ≢ line.row → has_row row (Some line) ≡ 0
  unfolding has_row
  past_row row apart = ap {B = ℕ} (λ (b : Bool). if b then 1 else 0) (ne_eqb line.row row (λ e. apart (sym e)))

  pub rows_past : (row : ℕ) → row ≢ line.row → rows_in row new ≡ rows_in row old
  rows_past row apart = omega (arith, rows_opened row, past_row row apart)

  pub queues_past : (u : Used) (row : ℕ) → row ≢ line.row → queue_in u new row ≡ queue_in u old row
  queues_past u row apart = queue_opened u row old new key line h.was h.here h.others (past_row row apart)

-- the same of a row that is the link's
pub rows_more : {old new : List (Option Line)} {key : ℕ} {line : Line} (row : ℕ) → Opened old new key line → line.row ≡ row
    → rows_in row new ≡ rows_in row old + 1
rows_more {old} {new} row h is = subst (λ r. rows_in r new ≡ rows_in r old + 1) is (rows_here h)

pub rows_other : {old new : List (Option Line)} {key : ℕ} {line : Line} (row : ℕ) → Opened old new key line → line.row ≡ row
    → (other : ℕ) → other ≢ row → rows_in other new ≡ rows_in other old
rows_other row h is other apart = rows_past h other (λ e. apart (e ∙ is))
