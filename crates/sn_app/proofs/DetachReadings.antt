-- What the row of a detach comes to over a script.
use Rattle.std.proofs.Common.{◌≡◌, ℕ, ◌∷◌, true, false, List, [], Option, Some, None, refl, ap, ◌∙◌}
use Rattle.sn_core.specs.declared.events.Side.{Side}
use Rattle.sn_journal.specs.declared.entry.Entry.{Entry}
use Rattle.sn_journal.specs.HandOvers.{PacketName}
use Rattle.sn_app.specs.Bench.{BenchState, first_of, tray_of}
use Rattle.sn_app.specs.Desk.{Queue, after_entry, closing_end, freed, out_end, with_end}
use Rattle.sn_app.specs.Gates.{working, stands, gate_of, gate_by, gate_in}
use Rattle.sn_app.specs.Reader.{Outcome, done, refused, go_on, ◌>>=◌, change_tray, look, pure, reading, read, repeated}
use Rattle.sn_app.specs.Rows.{a_detach, a_far, close_lane, detach_from, detached, drain_one, drain_or_reset_of, drained, drained_in, row_detach}
use Rattle.sn_app.specs.declared.end_state.EndState.{EndState}
use Rattle.sn_app.specs.declared.end_state.EndState.TheVariants.{Out, Up, Closing}
use Rattle.sn_app.proofs.Playing.{desk}

module _ (bench : BenchState) (queues : ℕ → Option Queue) where
  -- A CLOSER'S NEXT DRAIN

  pub drain_takes : (lane : ℕ) (side : Side) (name : PacketName) (entry : Entry) (rest : List Entry)
      → drain_or_reset_of lane entry ≡ Some (Some name)
      → drain_one working lane side (desk (tray_of bench) queues) (entry ∷ rest)
      ≡ done true (desk (freed name (with_end lane side (closing_end 0)
      (with_end lane side (closing_end 1) (after_entry entry (tray_of bench))))) queues) rest
  unfolding drain_one gate_in gate_by gate_of stands ◌>>=◌ go_on read reading drained drained_in change_tray pure
  drain_takes lane side name entry rest told =
      ap (λ o. go_on (reading o entry (desk (tray_of bench) queues) rest) (drained working lane side)) told

  pub drain_ends : (lane : ℕ) (side : Side) (entry : Entry) (rest : List Entry) → drain_or_reset_of lane entry ≡ Some None
      → drain_one working lane side (desk (tray_of bench) queues) (entry ∷ rest)
      ≡ done false (desk (with_end lane side out_end (after_entry entry (tray_of bench))) queues) rest
  unfolding drain_one gate_in gate_by gate_of stands ◌>>=◌ go_on read reading drained change_tray pure
  drain_ends lane side entry rest told =
      ap (λ o. go_on (reading o entry (desk (tray_of bench) queues) rest) (drained working lane side)) told

  pub drain_refuses : (lane : ℕ) (side : Side) (script : List Entry) → first_of (drain_or_reset_of lane) script ≡ None
      → drain_one working lane side (desk (tray_of bench) queues) script ≡ refused (desk (tray_of bench) queues) script
  unfolding drain_one gate_in gate_by gate_of stands ◌>>=◌ go_on read reading
  drain_refuses lane side [] told = refl
  drain_refuses lane side (entry ∷ rest) told =
      ap (λ o. go_on (reading o entry (desk (tray_of bench) queues) rest) (drained working lane side)) told

  -- A CLOSER LOADS THE FAR POSITION

  pub close_reads : (lane n : ℕ) (side : Side) (entry : Entry) (rest : List Entry) → a_far lane side entry ≡ Some n
      → close_lane working lane side (desk (tray_of bench) queues) (entry ∷ rest)
      ≡ repeated (drain_one working lane side) (desk (after_entry entry (tray_of bench)) queues) rest
  unfolding close_lane gate_in gate_by gate_of stands ◌>>=◌ go_on read reading
  close_reads lane n side entry rest told =
      ap (λ o. go_on (reading o entry (desk (tray_of bench) queues) rest) (λ x. repeated (drain_one working lane side))) told

  pub close_refuses : (lane : ℕ) (side : Side) (script : List Entry) → first_of (a_far lane side) script ≡ None
      → close_lane working lane side (desk (tray_of bench) queues) script ≡ refused (desk (tray_of bench) queues) script
  unfolding close_lane gate_in gate_by gate_of stands ◌>>=◌ go_on read reading
  close_refuses lane side [] told = refl
  close_refuses lane side (entry ∷ rest) told =
      ap (λ o. go_on (reading o entry (desk (tray_of bench) queues) rest) (λ x. repeated (drain_one working lane side))) told

  -- AN END DETACHES

  pub detach_out : (lane : ℕ) (side : Side) (rest : List Entry) → ((tray_of bench).ends lane side).state ≡ Out
      → row_detach working lane side (desk (tray_of bench) queues) rest ≡ done tt (desk (tray_of bench) queues) rest
  unfolding row_detach look detach_from pure
  detach_out lane side rest out = ap (λ s. detach_from working lane side s (desk (tray_of bench) queues) rest) out

  abbrev goes : ℕ → Side → List Entry → Outcome Unit
  goes lane side entries = go_on (read (a_detach lane side) (desk (tray_of bench) queues) entries) (detached working lane side)

  not_out : (lane : ℕ) (side : Side) (state : EndState) (entries : List Entry) → (state ≡ Out → ⊥)
      → detach_from working lane side state (desk (tray_of bench) queues) entries ≡ goes lane side entries
  unfolding detach_from gate_in gate_by gate_of stands ◌>>=◌ go_on
  not_out lane side Out entries held = absurd (held refl)
  not_out lane side Up entries held = refl
  not_out lane side Closing entries held = refl

  detach_goes : (lane : ℕ) (side : Side) (entries : List Entry) → (((tray_of bench).ends lane side).state ≡ Out → ⊥)
      → row_detach working lane side (desk (tray_of bench) queues) entries ≡ goes lane side entries
  unfolding row_detach look
  detach_goes lane side entries held = not_out lane side ((tray_of bench).ends lane side).state entries held

  pub detach_leaves : (lane : ℕ) (side : Side) (entry : Entry) (rest : List Entry)
      → (((tray_of bench).ends lane side).state ≡ Out → ⊥)
      → a_detach lane side entry ≡ Some false
      → row_detach working lane side (desk (tray_of bench) queues) (entry ∷ rest)
      ≡ done tt (desk (with_end lane side out_end (after_entry entry (tray_of bench))) queues) rest
  unfolding go_on read reading detached change_tray
  detach_leaves lane side entry rest held told =
      detach_goes lane side (entry ∷ rest) held
      ∙ ap (λ o. go_on (reading o entry (desk (tray_of bench) queues) rest) (detached working lane side)) told

  pub detach_closes : (lane : ℕ) (side : Side) (entry : Entry) (rest : List Entry)
      → (((tray_of bench).ends lane side).state ≡ Out → ⊥)
      → a_detach lane side entry ≡ Some true
      → row_detach working lane side (desk (tray_of bench) queues) (entry ∷ rest)
      ≡ close_lane working lane side (desk (with_end lane side (closing_end 0) (after_entry entry (tray_of bench))) queues) rest
  unfolding go_on read reading detached change_tray ◌>>=◌
  detach_closes lane side entry rest held told =
      detach_goes lane side (entry ∷ rest) held
      ∙ ap (λ o. go_on (reading o entry (desk (tray_of bench) queues) rest) (detached working lane side)) told

  pub detach_refuses : (lane : ℕ) (side : Side) (script : List Entry) → (((tray_of bench).ends lane side).state ≡ Out → ⊥)
      → first_of (a_detach lane side) script ≡ None
      → row_detach working lane side (desk (tray_of bench) queues) script ≡ refused (desk (tray_of bench) queues) script
  unfolding go_on read reading
  detach_refuses lane side [] held told = detach_goes lane side [] held
  detach_refuses lane side (entry ∷ rest) held told =
      detach_goes lane side (entry ∷ rest) held
      ∙ ap (λ o. go_on (reading o entry (desk (tray_of bench) queues) rest) (detached working lane side)) told
