-- Each step on a group is the core's event.
use Rattle.std.proofs.Common.{◌≡◌, ◌≤◌, ◌⊎◌, ℕ, zero, suc, ◌+◌, true, cond, Option, Some, None, List, [], ◌∷◌, map, set, length, refl, sym, ap, ap₂, ◌∙◌, subst, ⊎_elim, All, arith}
use Rattle.std.specs.Prelude.{slice_get, slice_set, slice_index}
use Rattle.std.specs.List.{flat_map}
use Rattle.std.proofs.lemmas.List.{map-set, length-map}
use mathlib.Core.Option.{Option as Maybe, some, none}
use lib.ListN.{get_elem?}
use Rattle.atomic_table.specs.Table.{stepped, keeps}
use Rattle.sn_core.specs.declared.parts.Packet.{Packet}
use Rattle.sn_core.specs.declared.parts.Cell.{Cell as CoreCell}
use Rattle.sn_core.specs.declared.parts.Cell.TheVariants.{Empty, Busy, Full}
use Rattle.sn_core.specs.declared.parts.Claim.{Claim}
use Rattle.sn_core.specs.declared.parts.Phase.TheVariants.{Taking as Takes, Giving as Gives, GivenIn as HasGiven}
use Rattle.sn_core.specs.declared.events.Event.{Event}
use Rattle.sn_core.specs.declared.events.Event.TheVariants.{TakeClaim, TakeOut, TakeDone, GiveClaim, GiveIn, GiveDone}
use Rattle.sn_core.specs.Seat.{SeatState, Transfer, turn_of, claims_of, with_pending, with_packet, without_packet, handed_over, taken_out, given_in}
use Rattle.sn_core.specs.Core.{Core, after, with_seat, with_cell, with_cells, may_hand_over}
use Rattle.sn_group.specs.declared.view.View.{View}
use Rattle.sn_group.specs.declared.entry.Probe.{Probe}
use Rattle.sn_group.specs.Cells.{Cell, vacant, claimed, filled, named, IsSmall, full_word, number_in, word_of, home_of}
use Rattle.sn_group.specs.Views.{probed, took, reserved, let_go, gave, ran_dry, ran_full}
use Rattle.sn_group.specs.Rule.{Rule}
use Rattle.sn_group.specs.Reading.{GroupTable, read_cells, LeadsTo, claimed_cells}
use Rattle.sn_group.specs.StepLaws.{IsLook, LookLaw, TakeClaimLaw, TakeOutLaw, TakeDoneLaw, GiveClaimLaw, GiveInLaw, GiveDoneLaw, SoundLaw}
use Rattle.sn_group.proofs.Cells.{number_in-full, word_at, home_at, full_cell, empty_cell}
use Rattle.sn_group.proofs.Pools.{Changes, Leaves}
use Rattle.sn_group.proofs.Steps.{rule_kept, rule_changed, cells_kept, cells_changed, busy_with, took_changes, reserved_changes, let_go_changes, gave_changes, probe_leaves, dry_leaves, full_leaves}
use Rattle.sn_group.proofs.CellsRead.{core_cell, read_is, read_at, busy_read, turns_read, counted_in}

seat_there : (xs : List SeatState) (i : ℕ) (x y : SeatState) → slice_get xs i ≡ Some x → slice_get (slice_set xs i y) i ≡ Some y
seat_there [] i x y e = cc
seat_there (z ∷ xs) zero x y e = refl
seat_there (z ∷ xs) (suc i) x y e = seat_there xs i x y e

-- the core's events, on a core with this cell and this seat
abbrev claim_of : ℕ → ℕ → Claim
claim_of cell number = record { cell = cell; packet = number }

module _ (core : Core) (id cell : ℕ) (seat : SeatState) (there : slice_get core.seats id ≡ Some seat) where
  taking_after : (packet : Packet) → slice_get core.cells cell ≡ Some (Full packet) → seat.pending ≡ None
      → after core (TakeClaim id cell) ≡ Some (with_seat (with_cells core (cell ∷ []) (Busy id)) id (with_pending (Some (record { phase = Takes 0; claims = record { cell = cell; packet = packet.number } ∷ [] })) (with_packet packet seat)))
  taking_after packet full idle = rw (there, full, idle) refl

  out_after : (number : ℕ) → seat.pending ≡ Some (record { phase = Takes 0; claims = record { cell = cell; packet = number } ∷ [] })
      → after core (TakeOut id) ≡ Some (with_seat core id (taken_out seat))
  out_after number pending = rw (there, pending) refl

  done_after : (number : ℕ) → seat.pending ≡ Some (record { phase = Takes 1; claims = record { cell = cell; packet = number } ∷ [] })
      → after core (TakeDone id) ≡ Some (with_seat (with_cells core (cell ∷ []) Empty) id (with_pending None seat))
  done_after number pending = rw (there, pending) refl

  giving_after : (number : ℕ) → slice_get core.cells cell ≡ Some Empty → seat.pending ≡ None → may_hand_over core number seat ≡ true
      → after core (GiveClaim id cell number) ≡ Some (with_seat (with_cell core cell (Busy id)) id (with_pending (Some (record { phase = Gives; claims = record { cell = cell; packet = number } ∷ [] })) seat))
  giving_after number empty idle may = rw (there, empty, idle, may) refl

  in_after : (number : ℕ) → seat.pending ≡ Some (record { phase = Gives; claims = record { cell = cell; packet = number } ∷ [] })
      → after core (GiveIn id) ≡ Some (with_seat core id (given_in seat))
  in_after number pending = rw (there, pending) refl

  given_after : (number turn : ℕ) → seat.pending ≡ Some (record { phase = HasGiven; claims = record { cell = cell; packet = number } ∷ [] }) → turn_of number seat ≡ Some turn
      → after core (GiveDone id) ≡ Some (with_seat (with_cell core cell (Full (record { number = number; turn = turn + 1 }))) id (with_pending None (without_packet number seat)))
  given_after number turn pending held = rw (there, pending, held) refl

-- the one claim of a transfer, as it is read
transfer_one : (cell number : ℕ) (v : View) → v.cells ≡ cell ∷ [] → map (λ c. claim_of c number) v.cells ≡ claim_of cell number ∷ []
transfer_one cell number v e = ap (map (λ c. claim_of c number)) e

look_leaves : (v w : View) → IsLook v w → Leaves v w
look_leaves v w look =
    ⊎_elim
    (λ (x : (probe : Probe) × (w ≡ probed probe v)). subst (Leaves v) (sym x.1) (probe_leaves v x.0))
    (λ (x : (w ≡ ran_dry v) ⊎ ((word : ℕ) × (w ≡ ran_full word v))). ⊎_elim
    (λ (y : w ≡ ran_dry v). subst (Leaves v) (sym y) (dry_leaves v))
    (λ (y : (word : ℕ) × (w ≡ ran_full word v)). subst (Leaves v) (sym y.1) (full_leaves y.0 v))
    x)
    look

module _ (opened : List Packet) (seats groups : ℕ) where
  -- what is read after a step that changes one cell
  read_changed : (s s' : GroupTable) (cell : ℕ) (new : Cell) (r : Rule opened seats groups s) (r' : Rule opened seats groups s') → r'.cells ≡ set r.cells cell new → read_cells s' ≡ slice_set (read_cells s) cell (core_cell new)
  read_changed s s' cell new r r' e =
      read_is opened seats groups s' r' ∙ ap (map core_cell) e ∙ map-set core_cell r.cells cell new ∙ ap (λ (l : List CoreCell). set l cell (core_cell new)) (sym (read_is opened seats groups s r))

  pub looks : LookLaw opened seats groups
  looks s id word v w before acts look =
      let le = look_leaves v w look in
      let r' = rule_kept opened seats groups s word id [] v w acts.rule acts.there acts.part le in
      let same : read_cells (stepped s word (slice_index s.words word) id [] w keeps) ≡ read_cells s =
      read_is opened seats groups _ r' ∙ ap (map core_cell) (cells_kept opened seats groups s word id [] v w acts.rule acts.there acts.part le) ∙ sym (read_is opened seats groups s acts.rule) in
      (r', λ core seat reads can. (core, refl, seat, record { cells = reads.cells ∙ sym same; there = reads.there; pending = reads.pending }))

  -- the row's step and the row's event, where the core after it is known
  leads : (event : Event) (s' : GroupTable) (id : ℕ) (then : Option Transfer) (core after' : Core) (was seat : SeatState) → slice_get core.seats id ≡ Some was → after core event ≡ Some after' → after'.cells ≡ read_cells s' → after'.seats ≡ slice_set core.seats id seat → seat.pending ≡ then
      → LeadsTo event s' id then core
  leads event s' id then core after' was seat there e cells seats' pending =
      (after', e, seat, record { cells = cells; there = ap (λ (l : List SeatState). slice_get l id) seats' ∙ seat_there core.seats id was seat there; pending = pending })

  pub take_claims_are : TakeClaimLaw opened seats groups
  take_claims_are s id cell v acts none' lt full =
      let r = acts.rule in
      let word = slice_index s.words cell in
      let found = word_at r.cells cell (omega (arith, lt, ap length r.shows, length-map r.cells word_of)) in
      let is = full_cell found.0 word (sym found.2 ∙ sym (ap (λ (ws : List ℕ). slice_index ws cell) r.shows)) full in
      let packet = is.0 in
      let here : get_elem? r.cells cell ≡ some (filled packet) = found.1 ∙ ap (λ (x : Cell). some x) is.1 in
      let small = r.pool.small cell packet here in
      let ch' = took_changes cell id packet v none' small in
      let ch : Changes cell id (filled packet) (claimed id) v (took cell word v) = subst (λ (n : ℕ). Changes cell id (filled packet) (claimed id) v (took cell n v)) is.2 ch' in
      let r' = rule_changed opened seats groups s cell id (filled packet) (claimed id) v (took cell word v) r here acts.there acts.part ch in
      let cells = read_changed s _ cell (claimed id) r r' (cells_changed opened seats groups s cell id (filled packet) (claimed id) v (took cell word v) r here acts.there acts.part ch) in
      let number : number_in word ≡ packet.number = ap number_in (sym is.2) ∙ number_in-full packet.number packet.turn small.number in (
        packet,
        ap (λ hs. get_elem? hs cell) r.pool.lie ∙ home_at r.cells cell (filled packet) here,
        is.2,
        (
          r',
          λ core seat reads can.
              let lies : slice_get core.cells cell ≡ Some (Full (named packet)) = ap (λ (l : List CoreCell). slice_get l cell) reads.cells ∙ read_at opened seats groups s r cell (filled packet) here in
              leads (TakeClaim id cell) _ id _ core _ seat (with_pending (Some (record { phase = Takes 0; claims = record { cell = cell; packet = packet.number } ∷ [] })) (with_packet (named packet) seat)) reads.there
              (taking_after core id cell seat reads.there (named packet) lies reads.pending)
              (ap (λ (l : List CoreCell). slice_set l cell (Busy id)) reads.cells ∙ sym cells)
              refl
              (ap (λ (n : ℕ). Some (record { phase = Takes 0; claims = claim_of cell n ∷ [] })) (sym number)),
        ),
      )

  pub take_outs_are : TakeOutLaw opened seats groups
  take_outs_are s id cell number v acts mine =
      let one = transfer_one cell number v mine in (
        acts.rule,
        λ core seat reads can.
            let pending : seat.pending ≡ Some (record { phase = Takes 0; claims = claim_of cell number ∷ [] }) = reads.pending ∙ ap (λ (l : List Claim). Some (record { phase = Takes 0; claims = l })) one in
            leads (TakeOut id) s id _ core _ seat (taken_out seat) reads.there (out_after core id cell seat reads.there number pending) reads.cells refl
            (rw pending (ap (λ (l : List Claim). Some (record { phase = Takes 1; claims = l })) (sym one))),
      )

  pub take_dones_are : TakeDoneLaw opened seats groups
  take_dones_are s id cell number v acts mine =
      let one = transfer_one cell number v mine in
      let r = acts.rule in
      let busy = busy_with opened seats groups s r id cell v acts.there mine in
      let ch = let_go_changes cell id v mine in
      let r' = rule_changed opened seats groups s cell id (claimed id) vacant v (let_go v) r busy acts.there acts.part ch in
      let cells = read_changed s _ cell vacant r r' (cells_changed opened seats groups s cell id (claimed id) vacant v (let_go v) r busy acts.there acts.part ch) in (
        r',
        λ core seat reads can.
            let pending : seat.pending ≡ Some (record { phase = Takes 1; claims = claim_of cell number ∷ [] }) = reads.pending ∙ ap (λ (l : List Claim). Some (record { phase = Takes 1; claims = l })) one in
            leads (TakeDone id) _ id _ core _ seat (with_pending None seat) reads.there (done_after core id cell seat reads.there number pending)
            (ap (λ (l : List CoreCell). slice_set l cell Empty) reads.cells ∙ sym cells) refl refl,
      )

  pub give_claims_are : GiveClaimLaw opened seats groups
  give_claims_are s id cell number v acts none' lt zero' =
      let r = acts.rule in
      let found = word_at r.cells cell (omega (arith, lt, ap length r.shows, length-map r.cells word_of)) in
      let here : get_elem? r.cells cell ≡ some vacant = found.1 ∙ ap (λ (x : Cell). some x) (empty_cell found.0 (sym found.2 ∙ sym (ap (λ (ws : List ℕ). slice_index ws cell) r.shows) ∙ zero')) in
      let ch = reserved_changes cell id v none' in
      let r' = rule_changed opened seats groups s cell id vacant (claimed id) v (reserved cell v) r here acts.there acts.part ch in
      let cells = read_changed s _ cell (claimed id) r r' (cells_changed opened seats groups s cell id vacant (claimed id) v (reserved cell v) r here acts.there acts.part ch) in (
        ap (λ hs. get_elem? hs cell) r.pool.lie ∙ home_at r.cells cell vacant here,
        (
          r',
          λ core seat reads may.
              let lies : slice_get core.cells cell ≡ Some Empty = ap (λ (l : List CoreCell). slice_get l cell) reads.cells ∙ read_at opened seats groups s r cell vacant here in
              leads (GiveClaim id cell number) _ id _ core _ seat (with_pending (Some (record { phase = Gives; claims = record { cell = cell; packet = number } ∷ [] })) seat) reads.there
              (giving_after core id cell seat reads.there number lies reads.pending may)
              (ap (λ (l : List CoreCell). slice_set l cell (Busy id)) reads.cells ∙ sym cells)
              refl
              refl,
        ),
      )

  pub give_ins_are : GiveInLaw opened seats groups
  give_ins_are s id cell number v acts mine =
      let one = transfer_one cell number v mine in (
        acts.rule,
        λ core seat reads can.
            let pending : seat.pending ≡ Some (record { phase = Gives; claims = claim_of cell number ∷ [] }) = reads.pending ∙ ap (λ (l : List Claim). Some (record { phase = Gives; claims = l })) one in
            leads (GiveIn id) s id _ core _ seat (given_in seat) reads.there (in_after core id cell seat reads.there number pending) reads.cells refl
            (rw pending (ap (λ (l : List Claim). Some (record { phase = HasGiven; claims = l })) (sym one))),
      )

  pub give_dones_are : GiveDoneLaw opened seats groups
  give_dones_are s id cell turn packet v acts mine small raised =
      let one = transfer_one cell packet.number v mine in
      let r = acts.rule in
      let word = full_word packet.number packet.turn in
      let busy = busy_with opened seats groups s r id cell v acts.there mine in
      let ch = gave_changes cell id packet v mine small in
      let r' = rule_changed opened seats groups s cell id (claimed id) (filled packet) v (gave word v) r busy acts.there acts.part ch in
      let cells = read_changed s _ cell (filled packet) r r' (cells_changed opened seats groups s cell id (claimed id) (filled packet) v (gave word v) r busy acts.there acts.part ch) in (
        r',
        λ core seat reads held.
            let pending : seat.pending ≡ Some (record { phase = HasGiven; claims = claim_of cell packet.number ∷ [] }) = reads.pending ∙ ap (λ (l : List Claim). Some (record { phase = HasGiven; claims = l })) one in
            leads (GiveDone id) _ id _ core _ seat (with_pending None (without_packet packet.number seat)) reads.there (given_after core id cell seat reads.there packet.number turn pending held)
            (ap₂ (λ (l : List CoreCell) (t : ℕ). slice_set l cell (Full (record { number = packet.number; turn = t }))) reads.cells (sym raised) ∙ sym cells) refl refl,
      )

  pub is_sound : SoundLaw opened seats groups
  is_sound s r core reads =
      let cells = reads.cells ∙ read_is opened seats groups s r in
      record {
        agree = λ cell id. counted_in (slice_get core.seats id) cell ∙ ap (Rattle.sn_group.specs.Cells.times cell) (reads.claims id) ∙ r.pool.agree cell id
            ∙ busy_read r.cells cell id ∙ ap (λ (l : List CoreCell). cond (Rattle.sn_core.specs.Sound.is_busy id (slice_get l cell)) 1 0) (sym cells);
        few = λ id seat at. omega (arith, few_cells s r id (get_elem? s.views id) refl, ap length (ap claimed_cells (sym at) ∙ reads.claims id), length-map (claims_of seat) (λ claim. claim.cell));
        turns = subst (λ (l : List CoreCell). All (λ packet. packet.turn ≤ Rattle.sn_core.specs.Seat.highest_turn) (flat_map Rattle.sn_core.specs.Core.cell_packets l)) (sym cells) (turns_read r.cells r.pool.small);
      }
    where
      few_cells : (s : GroupTable) (r : Rule opened seats groups s) (id : ℕ) (o : Maybe View) → get_elem? s.views id ≡ o → length (Rattle.sn_group.specs.Rule.cells_in (get_elem? s.views id)) ≤ 1
      few_cells s r id none at = omega (arith, ap (λ o. length (Rattle.sn_group.specs.Rule.cells_in o)) at)
      few_cells s r id (some v) at = omega (arith, ap (λ o. length (Rattle.sn_group.specs.Rule.cells_in o)) at, r.pool.few id v at)
