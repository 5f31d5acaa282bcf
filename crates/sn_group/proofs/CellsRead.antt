-- What is read off words and views is what stands in the cells.
use Rattle.std.proofs.Common.{◌≡◌, ◌≢◌, ◌<◌, ◌≤◌, ℕ, zero, suc, ◌+◌, Bool, true, false, cond, eq-eqb, ne_eqb, Option, Some, None, List, [], ◌∷◌, map, refl, sym, ap, ap₂, ◌∙◌, All, zero-add, arith}
use Rattle.std.specs.Prelude.{◌==◌, if◌then◌else◌, slice_get, count_by}
use Rattle.std.specs.List.{flat_map}
use Rattle.std.proofs.lemmas.List.Elements.{All-nil, All-append}
use Rattle.std.proofs.lemmas.List.Sums.{sum_by-cons}
use mathlib.Core.Option.{Option as Maybe, some, none, some-injective, some-ne-none}
use mathlib.Core.Logic.{dite}
use native.Mathlib.Decide.{ℕ_discrete}
use lib.ListN.{get_elem?}
use Rattle.sn_core.specs.declared.parts.Packet.{Packet}
use Rattle.sn_core.specs.declared.parts.Cell.{Cell as CoreCell}
use Rattle.sn_core.specs.declared.parts.Cell.TheVariants.{Empty, Busy, Full}
use Rattle.sn_core.specs.declared.parts.Claim.{Claim}
use Rattle.sn_core.specs.Seat.{SeatState, claims_of, highest_turn}
use Rattle.sn_core.specs.Core.{cell_packets}
use Rattle.sn_core.specs.Sound.{cell_count_in, is_busy}
use Rattle.sn_packet.specs.Packet.{PacketState}
use Rattle.sn_group.specs.declared.view.View.{View}
use Rattle.sn_group.specs.Cells.{Cell, vacant, claimed, filled, named, IsSmall, full_word, number_in, turn_in, word_of, claims_of as claims_at, times}
use Rattle.sn_group.specs.Rule.{cells_in, Rule}
use Rattle.sn_group.specs.Reading.{GroupTable, claimer, read_word, read_from, read_cells, claimed_cells}
use Rattle.sn_group.proofs.Cells.{number_in-full, turn_in-full, claims_own, claims_others}

-- a cell as the core has it
abbrev pub core_cell : Cell → CoreCell
core_cell vacant = Empty
core_cell (claimed seat) = Busy seat
core_cell (filled packet) = Full (named packet)

-- the first seat that has the cell is the only one
claimer_is : (cell : ℕ) (views : List View) (id : ℕ) (v : View) → get_elem? views id ≡ some v → times cell v.cells ≡ 1 → ((j : ℕ) (u : View) → j < id → get_elem? views j ≡ some u → times cell u.cells ≡ 0) → claimer cell views ≡ v.number
claimer_is cell [] id v at one others = absurd (some-ne-none v (sym at))
claimer_is cell (x ∷ xs) zero v at one others =
    let same = some-injective x v at in
    let test : (times cell x.cells == 0) ≡ false = ne_eqb (times cell x.cells) 0 (λ e. let c : times cell x.cells ≡ times cell v.cells = ap (λ (u : View). times cell u.cells) same in omega (arith, e, c, one)) in
    ap (λ (b : Bool). if b then claimer cell xs else x.number) test ∙ ap (λ (u : View). u.number) same
claimer_is cell (x ∷ xs) (suc id) v at one others =
    let test : (times cell x.cells == 0) ≡ true = eq-eqb (times cell x.cells) 0 (others 0 x (omega arith) refl) in
    ap (λ (b : Bool). if b then claimer cell xs else x.number) test ∙ claimer_is cell xs id v at one (λ j u lt e. others (suc j) u (omega arith) e)

read_full : (views : List View) (cell : ℕ) (packet : PacketState) → IsSmall packet → read_word views cell (full_word packet.number packet.turn) ≡ Full (named packet)
read_full views cell packet small =
    let word = full_word packet.number packet.turn in
    let rest : CoreCell = Full (record { number = number_in word; turn = turn_in word }) in
    let zero' : (word == 0) ≡ false = ne_eqb word 0 (λ e. omega (arith, e)) in
    let one : (word == 1) ≡ false = ne_eqb word 1 (λ e. omega (arith, e)) in
    ap (λ (b : Bool). if b then Empty else (if word == 1 then Busy (claimer cell views) else rest)) zero'
    ∙ ap (λ (b : Bool). if b then Busy (claimer cell views) else rest) one
    ∙ ap₂ (λ (n t : ℕ). Full (record { number = n; turn = t })) (number_in-full packet.number packet.turn small.number) (turn_in-full packet.number packet.turn small.number)

read_row : (views : List View) (first : ℕ) (cells : List Cell) → ((k j seat : ℕ) → j ≡ first + k → get_elem? cells k ≡ some (claimed seat) → claimer j views ≡ seat)
    → ((k : ℕ) (packet : PacketState) → get_elem? cells k ≡ some (filled packet) → IsSmall packet) → read_from views first (map word_of cells) ≡ map core_cell cells
read_row views first [] busy small = refl
read_row views first (vacant ∷ cells) busy small = ap (λ (l : List CoreCell). Empty ∷ l) (read_row views (suc first) cells (λ k j seat e at. busy (suc k) j seat (omega (arith, e)) at) (λ k p at. small (suc k) p at))
read_row views first (claimed s ∷ cells) busy small =
    ap₂ (λ (n : ℕ) (l : List CoreCell). Busy n ∷ l) (busy 0 first s (omega arith) refl)
    (read_row views (suc first) cells (λ k j seat e at. busy (suc k) j seat (omega (arith, e)) at) (λ k p at. small (suc k) p at))
read_row views first (filled packet ∷ cells) busy small =
    ap₂ (λ (c : CoreCell) (l : List CoreCell). c ∷ l) (read_full views first packet (small 0 packet refl))
    (read_row views (suc first) cells (λ k j seat e at. busy (suc k) j seat (omega (arith, e)) at) (λ k p at. small (suc k) p at))

module _ (opened : List Packet) (seats groups : ℕ) (s : GroupTable) (r : Rule opened seats groups s) where
  busy_is : (cell seat : ℕ) → get_elem? r.cells cell ≡ some (claimed seat) → claimer cell s.views ≡ seat
  busy_is cell seat e = from (get_elem? s.views seat) refl
    where
      one : times cell (cells_in (get_elem? s.views seat)) ≡ 1
      one = r.pool.agree cell seat ∙ ap (claims_at seat) e ∙ claims_own seat

      from : (o : Maybe View) → get_elem? s.views seat ≡ o → claimer cell s.views ≡ seat
      from none at = let c : times cell [] ≡ 1 = ap (λ o. times cell (cells_in o)) (sym at) ∙ one in absurd (omega (arith, c))
      from (some v) at =
          let mine : times cell v.cells ≡ 1 = ap (λ o. times cell (cells_in o)) (sym at) ∙ one in
          let others = λ (j : ℕ) (u : View) (lt : j < seat) (there : get_elem? s.views j ≡ some u).
          ap (λ o. times cell (cells_in o)) (sym there) ∙ r.pool.agree cell j ∙ ap (claims_at j) e ∙ claims_others seat j (λ same. omega (arith, same, lt)) in
          let part : 0 < v.parts = dite (ℕ_discrete v.parts 0)
          (λ (no : v.parts ≡ 0). let none' = r.parted.spent seat v at no in let c : times cell v.cells ≡ 0 = ap (λ (u : View). times cell u.cells) none' in absurd (omega (arith, c, mine)))
          (λ (ne : v.parts ≢ 0). omega (arith, ne)) in
          claimer_is cell s.views seat v at mine others ∙ (r.parted.seated seat v at part).numbered

  -- what is read is what stands there
  pub read_is : read_cells s ≡ map core_cell r.cells
  read_is = ap (read_from s.views 0) r.shows ∙ read_row s.views 0 r.cells (λ k j seat e at. busy_is j seat (ap (λ (i : ℕ). get_elem? r.cells i) (e ∙ zero-add k) ∙ at)) r.pool.small

  pub read_at : (cell : ℕ) (c : Cell) → get_elem? r.cells cell ≡ some c → slice_get (read_cells s) cell ≡ Some (core_cell c)
  read_at cell c e = ap (λ (l : List CoreCell). slice_get l cell) read_is ∙ mapped r.cells cell e
    where
      mapped : (cells : List Cell) (i : ℕ) → get_elem? cells i ≡ some c → slice_get (map core_cell cells) i ≡ Some (core_cell c)
      mapped [] i e = absurd (some-ne-none c (sym e))
      mapped (x ∷ xs) zero e = ap (λ (y : Cell). Some (core_cell y)) (some-injective x c e)
      mapped (x ∷ xs) (suc i) e = mapped xs i e

-- how often the core says that a seat has claimed a cell
pub counted : (claims : List Claim) (cell : ℕ) → count_by (λ claim. claim.cell == cell) claims ≡ times cell (map (λ claim. claim.cell) claims)
counted [] cell = refl
counted (claim ∷ claims) cell = omega (arith, sum_by-cons (λ (c : Claim). cond (c.cell == cell) 1 0) claim claims, sum_by-cons (λ (c : ℕ). cond (c == cell) 1 0) claim.cell (map (λ (c : Claim). c.cell) claims), counted claims cell)

pub counted_in : (o : Option SeatState) (cell : ℕ) → cell_count_in cell o ≡ times cell (claimed_cells o)
counted_in None cell = refl
counted_in (Some seat) cell = counted (claims_of seat) cell

pub busy_read : (cells : List Cell) (cell id : ℕ) → claims_at id (get_elem? cells cell) ≡ (if is_busy id (slice_get (map core_cell cells) cell) then 1 else 0)
busy_read [] cell id = refl
busy_read (vacant ∷ cells) zero id = refl
busy_read (claimed seat ∷ cells) zero id = refl
busy_read (filled packet ∷ cells) zero id = refl
busy_read (x ∷ cells) (suc cell) id = busy_read cells cell id

abbrev FitsTurn : Packet → Type 0
FitsTurn packet = packet.turn ≤ highest_turn

turns_one : (packet : Packet) → FitsTurn packet → All FitsTurn (packet ∷ [])
turns_one packet le zero d lt = le
turns_one packet le (suc k) d lt = absurd (omega (arith, lt))

pub turns_read : (cells : List Cell) → ((k : ℕ) (packet : PacketState) → get_elem? cells k ≡ some (filled packet) → IsSmall packet) → All FitsTurn (flat_map cell_packets (map core_cell cells))
turns_read [] small = All-nil FitsTurn
turns_read (vacant ∷ cells) small = turns_read cells (λ k p at. small (suc k) p at)
turns_read (claimed seat ∷ cells) small = turns_read cells (λ k p at. small (suc k) p at)
turns_read (filled packet ∷ cells) small = All-append FitsTurn (named packet ∷ []) (flat_map cell_packets (map core_cell cells)) (turns_one (named packet) (small 0 packet refl).turn) (turns_read cells (λ k p at. small (suc k) p at))
