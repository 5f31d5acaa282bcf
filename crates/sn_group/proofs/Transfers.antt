-- What a seat's fields say of the slots that it has.
use Rattle.std.proofs.Common.{◌≡◌, ◌<◌, ℕ, ◌+◌, List, [], ◌∷◌, ◌++◌, map, Option, Some, None, option_map, refl, sym, ap, ◌∙◌, arith}
use Rattle.sn_core.specs.declared.parts.Packet.{Packet}
use Rattle.sn_packet.specs.Packet.{PacketState}
use Rattle.sn_group.specs.declared.answers.Pending.{Pending}
use Rattle.sn_group.specs.declared.answers.Pending.TheVariants.{Nothing, Taking, TakenOut, GivenIn}
use Rattle.sn_group.specs.Cells.{named, IsSmall, full_word}
use Rattle.sn_group.specs.Plays.{Mine}
use Rattle.sn_group.specs.Finds.{IsIdle}
use Rattle.atomic_table.specs.Table.{rest}
use Rattle.sn_group.specs.declared.entry.GroupEntry.{GroupEntry}
use Rattle.sn_group.specs.Seats.{GroupId, SeatState, seat_state, log_of, IsRested, IsSeat, packet_of, cells_of, loads_of, raise_of}

nothing_out : (slots : List (ℕ × Option PacketState)) → map (λ slot. slot.0) slots ≡ [] → slots ≡ []
nothing_out [] e = refl
nothing_out (x ∷ xs) e = cc

-- one slot is out, and has this load
one_out : (slots : List (ℕ × Option PacketState)) (cell : ℕ) (load : Option Packet)
    → map (λ slot. slot.0) slots ≡ cell ∷ [] → map (λ slot. option_map named slot.1) slots ≡ load ∷ []
    → (there : Option PacketState) × (slots ≡ (cell, there) ∷ []) × (option_map named there ≡ load)
one_out [] cell load e f = cc
one_out (x ∷ []) cell load e f = let c : x.0 ≡ cell = cc in let l : option_map named x.1 ≡ load = cc in (x.1, (λ i. (c i, x.1) ∷ []), l)
one_out (x ∷ y ∷ xs) cell load e f = cc

-- a packet of this number and turn
a_packet : (there : Option PacketState) (packet : Packet) → option_map named there ≡ Some packet → (p : PacketState) × (there ≡ Some p) × (named p ≡ packet)
a_packet None packet e = cc
a_packet (Some p) packet e = let same : named p ≡ packet = cc in (p, refl, same)

no_packet : (there : Option PacketState) → option_map named there ≡ None → there ≡ None
no_packet None e = refl
no_packet (Some p) e = cc

-- a cell of the seat's table is one of its group's
pub within : (seat group : GroupId) (cells cell : ℕ) → seat ≡ group → cell < seat.slots → group.words ≡ cells → group.slots ≡ cells → cell < group.words
within seat group cells cell same lt words slots = omega (arith, ap (λ (id : GroupId). id.slots) same, lt, words, slots)

-- the slot that is out is the first of all that are
pub first_out : (slots : List (ℕ × Option PacketState)) (cell : ℕ) (load : Option PacketState) → slots ≡ (cell, load) ∷ [] → (there : Option PacketState) × (slots ≡ (cell, there) ∷ rest slots)
first_out slots cell load e = (load, e ∙ ap (λ (l : List (ℕ × Option PacketState)). (cell, load) ∷ l) (sym (ap rest e)))

module _ (pending : Pending) (take give number turn : ℕ) (kept : Option PacketState) (me : Mine) (seat : IsSeat pending take give number turn kept me) where
  pub has_part : 0 < me.0.parts
  has_part = omega (arith, seat.parts)

  pub is_idle : pending ≡ Nothing → IsIdle me
  is_idle e = record {
    parts = seat.parts;
    cells = seat.cells ∙ ap (λ (p : Pending). cells_of p take give) e;
    scan = seat.scan;
    slots = nothing_out me.1 (seat.slots ∙ ap (λ (p : Pending). cells_of p take give) e);
  }

  out : (cell : ℕ) (load : Option Packet) → cells_of pending take give ≡ cell ∷ [] → loads_of pending number turn ≡ load ∷ [] → (there : Option PacketState) × (me.1 ≡ (cell, there) ∷ []) × (option_map named there ≡ load)
  out cell load e f = one_out me.1 cell load (seat.slots ∙ e) (seat.loads ∙ f)

  pub is_rested : pending ≡ Nothing → (group : GroupId) (state : SeatState) → seat_state group me.0 pending number turn take give ≡ state → IsRested state me
  is_rested e group state view = let idle = is_idle e in record {
    parts = seat.parts;
    cells = idle.cells;
    slots = idle.slots;
    logs = ap (λ (joined : List (ℕ × List (List GroupEntry))). joined ++ (me.0.number, me.0.log) ∷ []) seat.joined ∙ ap (λ (s : SeatState). log_of s ∷ []) view;
  }

  -- while a packet is claimed, it lies in the cell's slot
  pub is_taking : pending ≡ Taking → (p : PacketState) × (me.1 ≡ (take, Some p) ∷ []) × (named p ≡ packet_of number turn)
  is_taking e =
      let o = out take (Some (packet_of number turn)) (ap (λ (p : Pending). cells_of p take give) e) (ap (λ (p : Pending). loads_of p number turn) e) in
      let a = a_packet o.0 (packet_of number turn) o.2 in
      (a.0, o.1 ∙ ap (λ (l : Option PacketState). (take, l) ∷ []) a.1, a.2)

  pub is_out : pending ≡ TakenOut → (me.0.cells ≡ take ∷ []) × (me.1 ≡ (take, None) ∷ [])
  is_out e =
      let o = out take None (ap (λ (p : Pending). cells_of p take give) e) (ap (λ (p : Pending). loads_of p number turn) e) in
      (seat.cells ∙ ap (λ (p : Pending). cells_of p take give) e, o.1 ∙ ap (λ (l : Option PacketState). (take, l) ∷ []) (no_packet o.0 o.2))

  pub is_given : pending ≡ GivenIn → (p : PacketState) × (me.0.cells ≡ give ∷ []) × (me.1 ≡ (give, Some p) ∷ []) × IsSmall p × (full_word p.number p.turn ≡ full_word number (turn + 1))
  is_given e =
      let o = out give (Some (packet_of number (turn + 1))) (ap (λ (p : Pending). cells_of p take give) e) (ap (λ (p : Pending). loads_of p number turn) e) in
      let a = a_packet o.0 (packet_of number (turn + 1)) o.2 in
      let n : (a.0).number ≡ number = ap (λ (p : Packet). p.number) a.2 in
      let t : (a.0).turn ≡ turn + 1 = ap (λ (p : Packet). p.turn) a.2 in
      let raise : raise_of pending ≡ 1 = ap raise_of e in (
        a.0,
        seat.cells ∙ ap (λ (p : Pending). cells_of p take give) e,
        o.1 ∙ ap (λ (l : Option PacketState). (give, l) ∷ []) a.1,
        record { number = omega (arith, n, seat.least); turn = omega (arith, t, seat.raised, raise) },
        omega (arith, n, t),
      )
