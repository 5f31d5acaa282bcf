-- Words and slots of cells, and the cells that a seat has claimed.
use Rattle.std.proofs.Common.{◌≡◌, ◌≢◌, ◌<◌, ◌≤◌, ℕ, zero, suc, Bool, cond, eqb, eq-eqb, ne_eqb, List, [], ◌∷◌, map, length, refl, sym, ap, arith}
use Rattle.std.specs.Prelude.{slice_index}
use Rattle.std.proofs.lemmas.List.Sums.{sum_by-cons}
use mathlib.Core.Option.{Option as Maybe, some, none, some-injective, some-ne-none}
use mathlib.Core.Logic.{dite}
use native.Mathlib.Decide.{ℕ_discrete}
use lib.ListN.{get_elem?}
use prog.Atomic.{either}
use Rattle.atomic_table.proofs.Lists.{exchanged}
use Rattle.sn_packet.specs.Packet.{PacketState}
use Rattle.sn_group.specs.Cells.{Cell, vacant, claimed, filled, full_word, number_in, turn_in, word_of, home_of, claims_of, times}

pub number_in-full : (number turn : ℕ) → number < 16384 → number_in (full_word number turn) ≡ number
number_in-full number turn small = omega arith

pub turn_in-full : (number turn : ℕ) → number < 16384 → turn_in (full_word number turn) ≡ turn
turn_in-full number turn small = omega arith

-- the word of a cell that is there
pub word_at : (cells : List Cell) (i : ℕ) → i < length cells
    → (cell : Cell) × (get_elem? cells i ≡ some cell) × (slice_index (map word_of cells) i ≡ word_of cell)
word_at [] i h = absurd (omega arith)
word_at (cell ∷ cells) zero h = (cell, refl, refl)
word_at (cell ∷ cells) (suc i) h = word_at cells i (omega arith)

-- what lies in the slot of a cell that is there
pub home_at : (cells : List Cell) (i : ℕ) (cell : Cell) → get_elem? cells i ≡ some cell → get_elem? (map home_of cells) i ≡ some (home_of cell)
home_at [] i cell e = absurd (some-ne-none cell (sym e))
home_at (x ∷ cells) zero cell e = ap (λ (y : Cell). some (home_of y)) (some-injective x cell e)
home_at (x ∷ cells) (suc i) cell e = home_at cells i cell e

-- a word of 2 or more is that of a full cell
pub full_cell : (cell : Cell) (word : ℕ) → word_of cell ≡ word → 2 ≤ word → (packet : PacketState) × (cell ≡ filled packet) × (full_word packet.number packet.turn ≡ word)
full_cell vacant word e h = absurd (omega (arith, e))
full_cell (claimed seat) word e h = absurd (omega (arith, e))
full_cell (filled packet) word e h = (packet, refl, e)

-- 0 is the word of an empty cell
pub empty_cell : (cell : Cell) → word_of cell ≡ 0 → cell ≡ vacant
empty_cell vacant e = refl
empty_cell (claimed seat) e = absurd (omega (arith, e))
empty_cell (filled packet) e = absurd (omega (arith, e))

pub times-one : (i : ℕ) → times i (i ∷ []) ≡ 1
times-one i =
    let test : cond {A = ℕ} (eqb i i) 1 0 ≡ 1 = ap (λ (b : Bool). cond b 1 0) (eq-eqb i i refl) in
    omega (arith, test, sum_by-cons (λ (o : ℕ). cond (eqb o i) 1 0) i [])

pub times-other : (x i : ℕ) → x ≢ i → times x (i ∷ []) ≡ 0
times-other x i ne =
    let test : cond {A = ℕ} (eqb i x) 1 0 ≡ 0 = ap (λ (b : Bool). cond b 1 0) (ne_eqb i x (λ e. ne (sym e))) in
    omega (arith, test, sum_by-cons (λ (o : ℕ). cond (eqb o x) 1 0) i [])

pub claims_own : (seat : ℕ) → claims_of seat (some (claimed seat)) ≡ 1
claims_own seat = ap (λ (b : Bool). cond b 1 0) (eq-eqb seat seat refl)

pub claims_others : (seat other : ℕ) → other ≢ seat → claims_of other (some (claimed seat)) ≡ 0
claims_others seat other ne = ap (λ (b : Bool). cond b 1 0) (ne_eqb seat other (λ e. ne (sym e)))

-- a cell that a seat has claimed is there, and busy with it
pub claimed_there : (seat : ℕ) (o : Maybe Cell) → claims_of seat o ≡ 1 → o ≡ some (claimed seat)
claimed_there seat none e = absurd (omega (arith, e))
claimed_there seat (some vacant) e = absurd (omega (arith, e))
claimed_there seat (some (claimed other)) e =
    dite (ℕ_discrete other seat) (λ (same : other ≡ seat). ap (λ (s : ℕ). some (claimed s)) same)
    (λ (ne : other ≢ seat). let none' : claims_of seat (some (claimed other)) ≡ 0 = claims_others other seat (λ e'. ne (sym e')) in absurd (omega (arith, e, none')))
claimed_there seat (some (filled packet)) e = absurd (omega (arith, e))

-- an exchange of a word for itself leaves each word
pub either_same : (n word : ℕ) → either (eqb n word) word n ≡ n
either_same n word = exchanged n word word (λ (m : ℕ). m ≡ n) (λ (e : n ≡ word). sym e) (λ _. refl)
