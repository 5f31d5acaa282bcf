-- A link comes to a world, or goes from it, as a desk shows it.
use Rattle.std.proofs.Common.{List, None, Ok, Option, Some, ap, arith, inl, inr, refl, subst, sym, ℕ, ◌∙◌, ◌≡◌, ◌≤◌}
use Rattle.std.proofs.Common.{if◌then◌else◌}
use mathlib.Core.Path.{fun_ext}
use Rattle.std.proofs.lemmas.Bool.Decides.{eqb_tells}
use Rattle.sn_link.specs.Link.{Line, new_line}
use Rattle.sn_packet.specs.Hold.{among}
use Rattle.sn_app.specs.Answers.{Answers, Stays}
use Rattle.sn_app.specs.Desk.{Desk, Queue, Tray, no_queue, with_queue}
use Rattle.sn_app.specs.Reader.{change}
use Rattle.sn_app.specs.Runs.{Moves, Runs}
use Rattle.sn_app.specs.World.{IsSound, Used, World, desk_of, in_slot, misfits_of, nowhere, places_of, queue_in, queue_of}
use Rattle.sn_app.specs.World.{rows_in, world, ◌⊕◌}
use Rattle.sn_app.proofs.Readings.{answers_changed, stays_same}
use Rattle.sn_wiring.specs.Links.{KeepsLinks, opens, slot_at}
use Rattle.sn_wiring.proofs.Opened.{Opened, misfits_opened, places_opened, queues_past, rows_here, rows_opened, rows_past}
use Rattle.sn_wiring.proofs.Rows.{queue_none, queue_there}

-- the desk is changed by a function, to the desk of a later world
runs_changed : (f : Desk → Desk) {w v : World} {before after : ℕ → ℕ} → f (desk_of w) ≡ desk_of v
    → v.tray.log ≡ w.tray.log → Stays w.tray v.tray → Moves w v before after → Runs (change f) w v before after (Ok tt)
unfolding desk_of
runs_changed f {w} {v} same log stays moves = record {
  answers =
      subst (λ d. Answers (change f) (desk_of w) d (Ok tt)) same
      (answers_changed f (desk_of w) (ap (λ (d : Desk). d.tray.log) same
      ∙ log) (subst (λ (d : Desk). Stays w.tray d.tray) (sym same) stays));
  moves = λ x e. moves;
}

module _ {old new : List (Option Line)} {key : ℕ} {line : Line} (h : Opened old new key line)
    (none : rows_in line.row old ≡ 0) where
  row_once : rows_in line.row new ≤ 1
  row_once = omega (arith, rows_here h, none)

  -- a desk shows the link at its row, and nothing there without it
  desk_with : (t : Tray) (u : Used)
      → with_queue line.row (Some (queue_of u line)) (desk_of (world t u old)) ≡ desk_of (world t u new)
  unfolding desk_of
  desk_with t u =
      ap (λ (queues : ℕ → Option Queue). record { tray = t; queues = queues })
      (fun_ext (λ row. elim (eqb_tells row line.row) [
        | inl is ↦
            ap (λ b. if b then Some (queue_of u line) else queue_in u old row) is.0
            ∙ sym (ap (queue_in u new) is.1 ∙ queue_there u new key line h.here row_once)
        | inr apart ↦
            ap (λ b. if b then Some (queue_of u line) else queue_in u old row) apart.0 ∙ sym (queues_past h u row apart.1)
      ]))

  desk_without : (t : Tray) (u : Used) → with_queue line.row None (desk_of (world t u new)) ≡ desk_of (world t u old)
  unfolding desk_of
  desk_without t u =
      ap (λ (queues : ℕ → Option Queue). record { tray = t; queues = queues })
      (fun_ext (λ row. elim (eqb_tells row line.row) [
        | inl is ↦
            ap (λ b. if b then None else queue_in u new row) is.0
            ∙ sym (ap (queue_in u old) is.1 ∙ queue_none u old line.row none)
        | inr apart ↦
            ap (λ b. if b then None else queue_in u new row) apart.0 ∙ queues_past h u row apart.1
      ]))

  -- the link takes no place away, and adds its own
  sound_with : (t : Tray) (u : Used) (mine : ℕ → ℕ) → ((q : ℕ) → in_slot q (Some line) ≡ 0) → misfits_of u (Some line) ≡ 0
      → IsSound (world t u old) mine → IsSound (world t u new) mine
  sound_with t u mine empty fits s = record {
    once = λ q. omega (arith, places_opened h q, empty q, s.once q);
    in_use = λ q k. s.in_use q (omega (arith, places_opened h q, empty q, k));
    lengths = omega (arith, misfits_opened h u, fits, s.lengths);
    rows = λ row. elim (eqb_tells row line.row) [
      | inl is ↦ subst (λ r. rows_in r new ≤ 1) (sym is.1) row_once
      | inr apart ↦ omega (arith, rows_past h row apart.1, s.rows row)
    ];
  }

  -- without the link its places are in hand
  pub moves_out : (t : Tray) (u : Used) → Moves (world t u new) (world t u old) nowhere (among (places_of line.queued))
  unfolding in_slot
  moves_out t u = record {
    sound = λ others s. record {
      once = λ q. omega (arith, places_opened h q, s.once q);
      in_use = λ q k. s.in_use q (omega (arith, places_opened h q, k));
      lengths = omega (arith, misfits_opened h u, s.lengths);
      rows = λ row. omega (arith, rows_opened h row, s.rows row);
    };
    kept = λ others s q k. refl;
  }

  pub runs_out : (t : Tray) (u : Used) → Runs (change (with_queue line.row None)) (world t u new) (world t u old) nowhere
      (among (places_of line.queued)) (Ok tt)
  runs_out t u = runs_changed (with_queue line.row None) (desk_without t u) refl (stays_same t) (moves_out t u)

-- a link comes that nothing was sent on
pub runs_opens : {old new : List (Option Line)} {key : ℕ} {line : Line} (row : ℕ) → Opened old new key line → line ≡ new_line row
    → rows_in row old ≡ 0 → (t : Tray) (u : Used) (mine : ℕ → ℕ) → Runs (opens row) (world t u old) (world t u new) mine mine
    (Ok tt)
unfolding opens queue_of in_slot misfits_of
runs_opens {old} {new} {key} {line} row h is none t u mine =
    let fresh : Opened old new key (new_line row) = record { was = h.was; here = h.here ∙ ap Some is; others = h.others } in
    runs_changed (with_queue row (Some no_queue)) (desk_with fresh none t u) refl (stays_same t) (record {
      sound = λ others s. sound_with fresh none t u (mine ⊕ others) (λ q. refl) refl s;
      kept = λ others s q k. refl;
    })

-- what stood stands yet
pub keeps_links : {old new : List (Option Line)} {key : ℕ} {line : Line} → Opened old new key line → KeepsLinks old new
keeps_links {old} {key = key} h = record {
  kept = λ other there is. h.others other (λ e. absurd (no_two old key other there e h.was is)) ∙ is;
}
  where
    no_two : (slots : List (Option Line)) (key other : ℕ) (there : Line) → other ≡ key → slot_at slots key ≡ None
        → slot_at slots other ≡ Some there → ⊥
    no_two slots key other there e none some =
        let same : slot_at slots other ≡ None = ap (slot_at slots) e ∙ none in
        cc
