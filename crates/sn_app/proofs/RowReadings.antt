-- What the rows of the interlinks' calls come to over a script.
use Rattle.std.proofs.Common.{◌≡◌, ℕ, ◌∷◌, Bool, true, false, List, [], Option, Some, None, refl, ap, ◌∙◌}
use Rattle.sn_core.specs.declared.events.Side.{Side}
use Rattle.sn_core.specs.declared.events.Side.TheVariants.{Tx, Rx}
use Rattle.sn_journal.specs.declared.entry.Entry.{Entry}
use Rattle.sn_packet.specs.Packet.{PacketState}
use Rattle.sn_app.specs.Bench.{BenchState, first_is, first_of, tray_of}
use Rattle.sn_app.specs.Desk.{Queue, Tray, after_entry, all_published, all_released, change_end, up_end, unsynced_end, with_end, with_known, with_laid, with_taken}
use Rattle.sn_app.specs.Gates.{stands, gate_of, gate_by, gate_in}
use Rattle.sn_app.specs.Reader.{Outcome, done, refused, go_on, ◌>>=◌, change_tray, look, pure, reading, reading_if, read, read_if}
use Rattle.sn_app.specs.Rows.{a_put, a_room, a_seen, a_take, attach_from, attach_or_not, attached, came_up, is_down_entry, learned, not_down, row_attach, row_look, row_put, row_room, row_take, took}
use Rattle.sn_app.specs.declared.end_state.EndState.{EndState}
use Rattle.sn_app.specs.declared.end_state.EndState.TheVariants.{Out, Up, Closing}
use Rattle.sn_app.proofs.Playing.{desk}

-- an end that came up; a receiver reads its position first
abbrev pub came : ℕ → Side → Tray → Tray
came lane Tx t = with_end lane Tx up_end t
came lane Rx t = with_end lane Rx up_end (with_end lane Rx unsynced_end t)

module _ (bench : BenchState) (queues : ℕ → Option Queue) where
  pub look_reads : (lane n : ℕ) (entry : Entry) (rest : List Entry) → a_seen lane entry ≡ Some n
      → row_look lane (desk (tray_of bench) queues) (entry ∷ rest)
      ≡ done n (desk (change_end lane Rx (with_known n) (after_entry entry (tray_of bench))) queues) rest
  unfolding row_look gate_in gate_by gate_of stands ◌>>=◌ go_on read reading learned change_tray pure
  look_reads lane n entry rest told = ap (λ o. go_on (reading o entry (desk (tray_of bench) queues) rest) (learned lane Rx)) told

  pub look_refuses : (lane : ℕ) (script : List Entry) → first_of (a_seen lane) script ≡ None
      → row_look lane (desk (tray_of bench) queues) script ≡ refused (desk (tray_of bench) queues) script
  unfolding row_look gate_in gate_by gate_of stands ◌>>=◌ go_on read reading
  look_refuses lane [] told = refl
  look_refuses lane (entry ∷ rest) told =
      ap (λ o. go_on (reading o entry (desk (tray_of bench) queues) rest) (learned lane Rx)) told

  pub room_reads : (lane n : ℕ) (entry : Entry) (rest : List Entry) → a_room lane entry ≡ Some n
      → row_room lane (desk (tray_of bench) queues) (entry ∷ rest)
      ≡ done n (desk (change_end lane Tx (with_known n) (after_entry entry (tray_of bench))) queues) rest
  unfolding row_room gate_in gate_by gate_of stands ◌>>=◌ go_on read reading learned change_tray pure
  room_reads lane n entry rest told = ap (λ o. go_on (reading o entry (desk (tray_of bench) queues) rest) (learned lane Tx)) told

  pub room_refuses : (lane : ℕ) (script : List Entry) → first_of (a_room lane) script ≡ None
      → row_room lane (desk (tray_of bench) queues) script ≡ refused (desk (tray_of bench) queues) script
  unfolding row_room gate_in gate_by gate_of stands ◌>>=◌ go_on read reading
  room_refuses lane [] told = refl
  room_refuses lane (entry ∷ rest) told =
      ap (λ o. go_on (reading o entry (desk (tray_of bench) queues) rest) (learned lane Tx)) told

  pub take_reads : (lane : ℕ) (packet : PacketState) (entry : Entry) (rest : List Entry) → a_take lane entry ≡ Some packet
      → row_take lane (desk (tray_of bench) queues) (entry ∷ rest)
      ≡ done packet (desk (change_end lane Rx all_released (change_end lane Rx with_taken (after_entry entry (tray_of bench))))
      queues) rest
  unfolding row_take gate_in gate_by gate_of stands ◌>>=◌ go_on read reading took change_tray pure
  take_reads lane packet entry rest told = ap (λ o. go_on (reading o entry (desk (tray_of bench) queues) rest) (took lane)) told

  pub take_refuses : (lane : ℕ) (script : List Entry) → first_of (a_take lane) script ≡ None
      → row_take lane (desk (tray_of bench) queues) script ≡ refused (desk (tray_of bench) queues) script
  unfolding row_take gate_in gate_by gate_of stands ◌>>=◌ go_on read reading
  take_refuses lane [] told = refl
  take_refuses lane (entry ∷ rest) told = ap (λ o. go_on (reading o entry (desk (tray_of bench) queues) rest) (took lane)) told

  pub put_reads : (lane : ℕ) (packet : PacketState) (entry : Entry) (rest : List Entry) → a_put lane packet entry ≡ Some tt
      → row_put lane packet (desk (tray_of bench) queues) (entry ∷ rest)
      ≡ done tt (desk (change_end lane Tx all_published
      (after_entry entry (change_end lane Tx (with_laid packet) (tray_of bench)))) queues) rest
  unfolding row_put gate_in gate_by gate_of stands ◌>>=◌ go_on read reading change_tray
  put_reads lane packet entry rest told =
      ap (λ o. go_on (reading o entry (desk (change_end lane Tx (with_laid packet) (tray_of bench)) queues) rest)
      (λ x. change_tray (change_end lane Tx all_published))) told

  pub put_refuses : (lane : ℕ) (packet : PacketState) (script : List Entry) → first_of (a_put lane packet) script ≡ None
      → row_put lane packet (desk (tray_of bench) queues) script
      ≡ refused (desk (change_end lane Tx (with_laid packet) (tray_of bench)) queues) script
  unfolding row_put gate_in gate_by gate_of stands ◌>>=◌ go_on read reading change_tray
  put_refuses lane packet [] told = refl
  put_refuses lane packet (entry ∷ rest) told =
      ap (λ o. go_on (reading o entry (desk (change_end lane Tx (with_laid packet) (tray_of bench)) queues) rest)
      (λ x. change_tray (change_end lane Tx all_published))) told

  -- ATTACH, where the end isn't up

  pub attach_up : (lane : ℕ) (side : Side) (rest : List Entry) → ((tray_of bench).ends lane side).state ≡ Up
      → row_attach lane side (desk (tray_of bench) queues) rest ≡ done true (desk (tray_of bench) queues) rest
  unfolding row_attach look attach_from pure
  attach_up lane side rest up = ap (λ s. attach_from lane side s (desk (tray_of bench) queues) rest) up

  abbrev tried : ℕ → Side → List Entry → Outcome Bool
  tried lane side entries =
      go_on (read_if (is_down_entry lane) (desk (tray_of bench) queues) entries) (not_down lane side)

  not_up : (lane : ℕ) (side : Side) (state : EndState) (entries : List Entry) → (state ≡ Up → ⊥)
      → attach_from lane side state (desk (tray_of bench) queues) entries ≡ tried lane side entries
  unfolding attach_from gate_in gate_by gate_of stands ◌>>=◌ go_on
  not_up lane side Up entries out = absurd (out refl)
  not_up lane side Out entries out = refl
  not_up lane side Closing entries out = refl

  pub attach_tries : (lane : ℕ) (side : Side) (entries : List Entry) → (((tray_of bench).ends lane side).state ≡ Up → ⊥)
      → row_attach lane side (desk (tray_of bench) queues) entries ≡ tried lane side entries
  unfolding row_attach look
  attach_tries lane side entries out = not_up lane side ((tray_of bench).ends lane side).state entries out

  pub tried_down : (lane : ℕ) (side : Side) (entry : Entry) (rest : List Entry) → is_down_entry lane entry ≡ true
      → tried lane side (entry ∷ rest) ≡ done false (desk (after_entry entry (tray_of bench)) queues) rest
  unfolding go_on read_if reading_if not_down pure
  tried_down lane side entry rest down =
      ap (λ b. go_on (reading_if b entry (desk (tray_of bench) queues) rest) (not_down lane side)) down

  -- and the interlink wasn't down
  tried_on : (lane : ℕ) (side : Side) (entry : Entry) (rest : List Entry) → is_down_entry lane entry ≡ false
      → tried lane side (entry ∷ rest)
      ≡ go_on (reading (attach_or_not lane side entry) entry (desk (tray_of bench) queues) rest) (attached lane side)
  unfolding go_on read_if reading_if not_down gate_in gate_by gate_of stands ◌>>=◌ read
  tried_on lane side entry rest down =
      ap (λ b. go_on (reading_if b entry (desk (tray_of bench) queues) rest) (not_down lane side)) down

  pub tried_changed : (lane : ℕ) (side : Side) (entry : Entry) (rest : List Entry) → is_down_entry lane entry ≡ false
      → attach_or_not lane side entry ≡ Some false
      → tried lane side (entry ∷ rest) ≡ done false (desk (after_entry entry (tray_of bench)) queues) rest
  unfolding go_on reading attached pure
  tried_changed lane side entry rest down told =
      tried_on lane side entry rest down ∙ ap (λ o. go_on (reading o entry (desk (tray_of bench) queues) rest)
      (attached lane side)) told

  comes : (lane : ℕ) (side : Side) (entry : Entry) (rest : List Entry)
      → go_on (reading (Some true) entry (desk (tray_of bench) queues) rest) (attached lane side)
      ≡ done true (desk (came lane side (after_entry entry (tray_of bench))) queues) rest
  unfolding go_on reading attached came_up gate_in gate_by gate_of stands ◌>>=◌ change_tray pure
  comes lane Tx entry rest = refl
  comes lane Rx entry rest = refl

  pub tried_came : (lane : ℕ) (side : Side) (entry : Entry) (rest : List Entry) → is_down_entry lane entry ≡ false
      → attach_or_not lane side entry ≡ Some true
      → tried lane side (entry ∷ rest) ≡ done true (desk (came lane side (after_entry entry (tray_of bench))) queues) rest
  tried_came lane side entry rest down told =
      tried_on lane side entry rest down
      ∙ (ap (λ o. go_on (reading o entry (desk (tray_of bench) queues) rest) (attached lane side)) told
      ∙ comes lane side entry rest)

  pub tried_refuses : (lane : ℕ) (side : Side) (script : List Entry) → first_is (is_down_entry lane) script ≡ false
      → first_of (attach_or_not lane side) script ≡ None
      → tried lane side script ≡ refused (desk (tray_of bench) queues) script
  unfolding go_on read_if not_down gate_in gate_by gate_of stands ◌>>=◌ read reading
  tried_refuses lane side [] down told = refl
  tried_refuses lane side (entry ∷ rest) down told =
      tried_on lane side entry rest down ∙ ap (λ o. go_on (reading o entry (desk (tray_of bench) queues) rest)
      (attached lane side)) told
