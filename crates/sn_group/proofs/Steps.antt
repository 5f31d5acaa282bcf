-- Each step on a cell's word keeps the rule, and tells what it should.
use Rattle.std.proofs.Common.{◌≡◌, ◌≢◌, ◌<◌, ◌≤◌, ℕ, zero, suc, ◌+◌, eqb, Option, Some, None, List, [], ◌∷◌, ◌++◌, set, length, refl, sym, ap, ap₂, ◌∙◌, subst, arith}
use Rattle.std.specs.Prelude.{sum_by, slice_index, slice_set}
use Rattle.std.proofs.lemmas.List.{map-set, length-map}
use Rattle.std.proofs.lemmas.List.Sums.{sum_by-cons, sum_by_push}
use mathlib.Core.Option.{some, none}
use lib.ListN.{get_elem?}
use prog.Atomic.{either}
use Rattle.atomic_table.specs.Table.{State, Me, step, stepped, keeps, takes, gives, Valid, carried_after, Allows}
use Rattle.atomic_table.proofs.Lists.{exchanged}
use Rattle.sn_core.specs.declared.parts.Packet.{Packet}
use Rattle.sn_packet.specs.Packet.{PacketState}
use Rattle.sn_group.specs.declared.view.View.{View}
use Rattle.sn_group.specs.declared.entry.GroupEntry.{GroupEntry}
use Rattle.sn_group.specs.declared.entry.GroupEntry.TheVariants.{Got, Dry, Full, Gave}
use Rattle.sn_group.specs.declared.entry.Probe.TheVariants.{Loaded, Exchanged}
use Rattle.sn_group.specs.Cells.{Cell, vacant, claimed, filled, IsSmall, full_word, number_in, turn_in, word_of, home_of, times}
use Rattle.sn_group.specs.Views.{probed, took, reserved, let_go, gave, ran_dry, ran_full, gain, loss, gained, given}
use Rattle.sn_group.specs.Rule.{cells_in, Rule}
use Rattle.sn_group.specs.Plays.{Mine, Probing, TakeClaiming, GiveClaiming, TakeEnding, GiveEnding, Drying, Filling}
use Rattle.sn_group.proofs.Cells.{number_in-full, turn_in-full, word_at, home_at, full_cell, empty_cell, times-one, times-other, claims_own, claims_others, claimed_there, either_same}
use Rattle.sn_group.proofs.Pools.{Changes, Leaves, pool_changed, pool_kept, parted_kept}

-- a step of a log adds its entries' weights
gained-push : (h : ℕ → ℕ → ℕ) (log : List (List GroupEntry)) (e : GroupEntry) → gained h (log ++ (e ∷ []) ∷ []) ≡ gained h log + gain h e
gained-push h log e = omega (arith, sum_by_push (sum_by (gain h)) log (e ∷ []), sum_by-cons (gain h) e [])

given-push : (h : ℕ → ℕ → ℕ) (log : List (List GroupEntry)) (e : GroupEntry) → given h (log ++ (e ∷ []) ∷ []) ≡ given h log + loss h e
given-push h log e = omega (arith, sum_by_push (sum_by (loss h)) log (e ∷ []), sum_by-cons (loss h) e [])

same_index : (ws : List ℕ) (i : ℕ) → set ws i (slice_index ws i) ≡ ws
same_index [] i = refl
same_index (w ∷ ws) zero = refl
same_index (w ∷ ws) (suc i) = ap (λ (l : List ℕ). w ∷ l) (same_index ws i)

-- what a scan's step leaves
pub probe_leaves : (v : View) (p : Rattle.sn_group.specs.declared.entry.Probe.Probe) → Leaves v (probed p v)
probe_leaves v p = record { cells = refl; same = record { number = refl; groups = refl; parts = refl; joined = refl }; gains = λ h. refl; losses = λ h. refl }

pub dry_leaves : (v : View) → Leaves v (ran_dry v)
dry_leaves v =
    record {
      cells = refl;
      same = record { number = refl; groups = refl; parts = refl; joined = refl };
      gains = λ h. omega (arith, gained-push h v.log Dry);
      losses = λ h. omega (arith, given-push h v.log Dry);
    }

pub full_leaves : (word : ℕ) (v : View) → Leaves v (ran_full word v)
full_leaves word v =
    record {
      cells = refl;
      same = record { number = refl; groups = refl; parts = refl; joined = refl };
      gains = λ h. omega (arith, gained-push h v.log (Full (number_in word) (turn_in word)));
      losses = λ h. omega (arith, given-push h v.log (Full (number_in word) (turn_in word)));
    }

-- what a claim changes
pub took_changes : (i id : ℕ) (packet : PacketState) (v : View) → v.cells ≡ [] → IsSmall packet → Changes i id (filled packet) (claimed id) v (took i (full_word packet.number packet.turn) v)
took_changes i id packet v none' small =
    record {
      others = λ other ne. sym (claims_others id other ne);
      here = times-one i ∙ sym (claims_own id);
      there = λ x ne. times-other x i ne ∙ ap (times x) (sym none');
      fits = λ q e. cc;
      few = omega arith;
      same = record { number = refl; groups = refl; parts = refl; joined = refl };
      weight = λ h.
          let e = Got (number_in (full_word packet.number packet.turn)) (turn_in (full_word packet.number packet.turn)) in
          let n : h (number_in (full_word packet.number packet.turn)) (turn_in (full_word packet.number packet.turn)) ≡ h packet.number packet.turn = ap₂ h (number_in-full packet.number packet.turn small.number) (turn_in-full packet.number packet.turn small.number) in
          omega (arith, gained-push h v.log e, given-push h v.log e, n);
    }

pub reserved_changes : (i id : ℕ) (v : View) → v.cells ≡ [] → Changes i id vacant (claimed id) v (reserved i v)
reserved_changes i id v none' =
    record {
      others = λ other ne. sym (claims_others id other ne);
      here = times-one i ∙ sym (claims_own id);
      there = λ x ne. times-other x i ne ∙ ap (times x) (sym none');
      fits = λ q e. cc;
      few = omega arith;
      same = record { number = refl; groups = refl; parts = refl; joined = refl };
      weight = λ h. refl;
    }

-- what the end of a transfer changes
pub let_go_changes : (i id : ℕ) (v : View) → v.cells ≡ i ∷ [] → Changes i id (claimed id) vacant v (let_go v)
let_go_changes i id v mine =
    record {
      others = λ other ne. claims_others id other ne;
      here = refl;
      there = λ x ne. sym (ap (times x) mine ∙ times-other x i ne);
      fits = λ q e. cc;
      few = omega arith;
      same = record { number = refl; groups = refl; parts = refl; joined = refl };
      weight = λ h. refl;
    }

pub gave_changes : (i id : ℕ) (packet : PacketState) (v : View) → v.cells ≡ i ∷ [] → IsSmall packet → Changes i id (claimed id) (filled packet) v (gave (full_word packet.number packet.turn) v)
gave_changes i id packet v mine small =
    record {
      others = λ other ne. claims_others id other ne;
      here = refl;
      there = λ x ne. sym (ap (times x) mine ∙ times-other x i ne);
      fits = λ q e. let same : packet ≡ q = cc in subst IsSmall same small;
      few = omega arith;
      same = record { number = refl; groups = refl; parts = refl; joined = refl };
      weight = λ h.
          let e = Gave (number_in (full_word packet.number packet.turn)) (turn_in (full_word packet.number packet.turn)) in
          let n : h (number_in (full_word packet.number packet.turn)) (turn_in (full_word packet.number packet.turn)) ≡ h packet.number packet.turn = ap₂ h (number_in-full packet.number packet.turn small.number) (turn_in-full packet.number packet.turn small.number) in
          omega (arith, gained-push h v.log e, given-push h v.log e, n);
    }

module _ (opened : List Packet) (seats groups : ℕ) where
  Holds : State (Option PacketState) View → Type 0
  Holds = Rule opened seats groups

  -- a step that leaves the words and the slots
  pub rule_kept : (s : State (Option PacketState) View) (i id : ℕ) (c : List (ℕ × Option PacketState)) (v w : View) → Rule opened seats groups s → get_elem? s.views id ≡ some v → 0 < v.parts → Leaves v w
      → Rule opened seats groups (stepped s i (slice_index s.words i) id c w keeps)
  rule_kept s i id c v w r at has le =
      record {
        cells = r.cells;
        shows = same_index s.words i ∙ r.shows;
        pool = pool_kept opened r.cells s.homes s.views id v w r.pool at le;
        parted = parted_kept seats groups s.views id v w r.parted at has le.same;
      }

  -- a step after which another thing stands in a cell
  pub rule_changed : (s : State (Option PacketState) View) (i id : ℕ) (old new : Cell) (v w : View) (r : Rule opened seats groups s) → get_elem? r.cells i ≡ some old → get_elem? s.views id ≡ some v → 0 < v.parts → Changes i id old new v w
      → Rule opened seats groups (record { words = slice_set s.words i (word_of new); homes = slice_set s.homes i (home_of new); views = slice_set s.views id w })
  rule_changed s i id old new v w r cell at has ch =
      record {
        cells = set r.cells i new;
        shows = ap (λ (ws : List ℕ). set ws i (word_of new)) r.shows ∙ sym (map-set word_of r.cells i new);
        pool = pool_changed opened r.cells s.homes s.views i id old new v w r.pool cell at ch;
        parted = parted_kept seats groups s.views id v w r.parted at has ch.same;
      }

  pub cells_kept : (s : State (Option PacketState) View) (i id : ℕ) (c : List (ℕ × Option PacketState)) (v w : View) (r : Rule opened seats groups s) (at : get_elem? s.views id ≡ some v) (has : 0 < v.parts) (le : Leaves v w)
      → (rule_kept s i id c v w r at has le).cells ≡ r.cells
  unfolding rule_kept
  cells_kept s i id c v w r at has le = refl

  pub cells_changed : (s : State (Option PacketState) View) (i id : ℕ) (old new : Cell) (v w : View) (r : Rule opened seats groups s) (cell : get_elem? r.cells i ≡ some old) (at : get_elem? s.views id ≡ some v) (has : 0 < v.parts) (ch : Changes i id old new v w)
      → (rule_changed s i id old new v w r cell at has ch).cells ≡ set r.cells i new
  unfolding rule_changed
  cells_changed s i id old new v w r cell at has ch = refl

  -- how many cells there are
  pub cell_count : (s : State (Option PacketState) View) (slots : ℕ) (r : Rule opened seats groups s) → length s.homes ≡ slots → length r.cells ≡ slots
  cell_count s slots r homes = sym (length-map r.cells home_of) ∙ ap length (sym r.pool.lie) ∙ homes

  -- what stands in the cell of this word
  pub standing : (s : State (Option PacketState) View) (slots i : ℕ) (r : Rule opened seats groups s) → length s.homes ≡ slots → i < slots
      → (cell : Cell) × (get_elem? r.cells i ≡ some cell) × (slice_index s.words i ≡ word_of cell)
  standing s slots i r homes lt =
      let found = word_at r.cells i (omega (arith, cell_count s slots r homes, lt)) in
      (found.0, found.1, ap (λ (ws : List ℕ). slice_index ws i) r.shows ∙ found.2)

  -- a load
  pub probes : (slots id i : ℕ) (me : Mine) → 0 < me.0.parts → Allows (Rule opened seats groups) slots id me i (λ n. n) (Probing (step slots i 0 0 none) me)
  probes slots id i me has s r homes at bound =
      let w = probed (Loaded i (slice_index s.words i)) me.0 in
      (w, keeps, tt, rule_kept s i id me.1 me.0 w r at has (probe_leaves me.0 _), refl)

  -- an exchange that claims a full cell
  pub take_claims : (slots id i old : ℕ) (me : Mine) → 0 < me.0.parts → me.0.cells ≡ [] → me.1 ≡ [] → 2 ≤ old → i < slots
      → Allows (Rule opened seats groups) slots id me i (λ n. either (eqb n old) 1 n) (TakeClaiming (step slots i old 1 none) me)
  take_claims slots id i old me has none' empty full lt s r homes at bound =
      exchanged (slice_index s.words i) old 1
      (λ (m : ℕ). (w : View) × (a : Rattle.atomic_table.specs.Table.Act (Option PacketState)) × Valid s.homes me.1 a × Rule opened seats groups (stepped s i m id me.1 w a)
      × TakeClaiming (step slots i old 1 none) me (slice_index s.words i) (w, carried_after me.1 a))
      (λ (hit : slice_index s.words i ≡ old).
      let here = standing s slots i r homes lt in
      let is = full_cell here.0 old (sym here.2 ∙ hit) full in
      let cell : get_elem? r.cells i ≡ some (filled is.0) = here.1 ∙ ap (λ (x : Cell). some x) is.1 in
      let word : full_word (is.0).number (is.0).turn ≡ slice_index s.words i = is.2 ∙ sym hit in
      let small = r.pool.small i is.0 cell in
      let w = took i (full_word (is.0).number (is.0).turn) me.0 in
      let lies : get_elem? s.homes i ≡ some (some (Some is.0)) = ap (λ hs. get_elem? hs i) r.pool.lie ∙ home_at r.cells i (filled is.0) cell in (
        w,
        takes i (Some is.0),
        lies,
        rule_changed s i id (filled is.0) (claimed id) me.0 w r cell at has (took_changes i id is.0 me.0 none' small),
        ((λ _. (is.0, word, small, ap₂ (λ (n : ℕ) (c : List (ℕ × Option PacketState)). (took i n me.0, (i, Some is.0) ∷ c)) word empty)), λ miss. absurd (miss hit)),
      ))
      (λ (miss : slice_index s.words i ≢ old).
      let w = probed (Exchanged i old (slice_index s.words i)) me.0 in
      (w, keeps, tt, rule_kept s i id me.1 me.0 w r at has (probe_leaves me.0 _), ((λ hit. absurd (miss hit)), λ _. refl)))

  -- an exchange that claims an empty cell
  pub give_claims : (slots id i : ℕ) (me : Mine) → 0 < me.0.parts → me.0.cells ≡ [] → me.1 ≡ [] → i < slots
      → Allows (Rule opened seats groups) slots id me i (λ n. either (eqb n 0) 1 n) (GiveClaiming (step slots i 0 1 none) me)
  give_claims slots id i me has none' empty lt s r homes at bound =
      exchanged (slice_index s.words i) 0 1
      (λ (m : ℕ). (w : View) × (a : Rattle.atomic_table.specs.Table.Act (Option PacketState)) × Valid s.homes me.1 a × Rule opened seats groups (stepped s i m id me.1 w a)
      × GiveClaiming (step slots i 0 1 none) me (slice_index s.words i) (w, carried_after me.1 a))
      (λ (hit : slice_index s.words i ≡ 0).
      let here = standing s slots i r homes lt in
      let cell : get_elem? r.cells i ≡ some vacant = here.1 ∙ ap (λ (x : Cell). some x) (empty_cell here.0 (sym here.2 ∙ hit)) in
      let w = reserved i me.0 in (
        w,
        takes i None,
        ap (λ hs. get_elem? hs i) r.pool.lie ∙ home_at r.cells i vacant cell,
        rule_changed s i id vacant (claimed id) me.0 w r cell at has (reserved_changes i id me.0 none'),
        ((λ _. ap (λ (c : List (ℕ × Option PacketState)). (w, (i, None) ∷ c)) empty), λ miss. absurd (miss hit)),
      ))
      (λ (miss : slice_index s.words i ≢ 0).
      let w = probed (Exchanged i 0 (slice_index s.words i)) me.0 in
      (w, keeps, tt, rule_kept s i id me.1 me.0 w r at has (probe_leaves me.0 _), ((λ hit. absurd (miss hit)), λ _. refl)))

  -- the claimed cell of a seat is busy with it
  pub busy_with : (s : State (Option PacketState) View) (r : Rule opened seats groups s) (id i : ℕ) (v : View) → get_elem? s.views id ≡ some v → v.cells ≡ i ∷ [] → get_elem? r.cells i ≡ some (claimed id)
  busy_with s r id i v at mine =
      claimed_there id _ (sym (r.pool.agree i id) ∙ ap (λ o. times i (cells_in o)) at ∙ ap (times i) mine ∙ times-one i)

  -- the store that lets an emptied cell go
  pub take_ends : (slots id i : ℕ) (me : Mine) → 0 < me.0.parts → me.0.cells ≡ i ∷ [] → me.1 ≡ (i, None) ∷ []
      → Allows (Rule opened seats groups) slots id me i (λ _. 0) (λ _. TakeEnding (step slots i 0 0 none) me 0)
  take_ends slots id i me has mine slot s r homes at bound =
      let w = let_go me.0 in
      let kept : Rule opened seats groups (stepped s i 0 id ((i, None) ∷ []) w gives) = rule_changed s i id (claimed id) vacant me.0 w r (busy_with s r id i me.0 at mine) at has (let_go_changes i id me.0 mine) in
      (w, gives, tt, subst (λ (c : List (ℕ × Option PacketState)). Rule opened seats groups (stepped s i 0 id c w gives)) (sym slot) kept, ap (λ (c : List (ℕ × Option PacketState)). (w, carried_after c gives)) slot)

  -- the store that lets a filled cell go
  pub give_ends : (slots id i word : ℕ) (packet : PacketState) (me : Mine) → 0 < me.0.parts → me.0.cells ≡ i ∷ [] → me.1 ≡ (i, Some packet) ∷ [] → IsSmall packet → full_word packet.number packet.turn ≡ word
      → Allows (Rule opened seats groups) slots id me i (λ _. word) (λ _. GiveEnding (step slots i word 0 none) me word)
  give_ends slots id i word packet me has mine slot small is s r homes at bound =
      let w = gave word me.0 in
      let changes : Changes i id (claimed id) (filled packet) me.0 w = subst (λ (n : ℕ). Changes i id (claimed id) (filled packet) me.0 (gave n me.0)) is (gave_changes i id packet me.0 mine small) in
      let kept' = rule_changed s i id (claimed id) (filled packet) me.0 w r (busy_with s r id i me.0 at mine) at has changes in
      let kept : Rule opened seats groups (stepped s i word id ((i, Some packet) ∷ []) w gives) = subst (λ (n : ℕ). Rule opened seats groups (stepped s i n id ((i, Some packet) ∷ []) w gives)) is kept' in
      (w, gives, tt, subst (λ (c : List (ℕ × Option PacketState)). Rule opened seats groups (stepped s i word id c w gives)) (sym slot) kept, ap (λ (c : List (ℕ × Option PacketState)). (w, carried_after c gives)) slot)

  -- the load that ends a scan
  pub dries : (slots id i : ℕ) (me : Mine) → 0 < me.0.parts → Allows (Rule opened seats groups) slots id me i (λ n. n) (Drying (step slots i 0 0 none) me)
  dries slots id i me has s r homes at bound =
      (ran_dry me.0, keeps, tt, rule_kept s i id me.1 me.0 (ran_dry me.0) r at has (dry_leaves me.0), refl)

  -- the exchange of a word for itself that ends a scan
  pub fills : (slots id i word : ℕ) (me : Mine) → 0 < me.0.parts → Allows (Rule opened seats groups) slots id me i (λ n. either (eqb n word) word n) (Filling (step slots i word word none) me)
  fills slots id i word me has s r homes at bound =
      let w = ran_full word me.0 in
      let kept = rule_kept s i id me.1 me.0 w r at has (full_leaves word me.0) in
      (w, keeps, tt, subst (λ (n : ℕ). Rule opened seats groups (stepped s i n id me.1 w keeps)) (sym (either_same (slice_index s.words i) word)) kept, refl)
