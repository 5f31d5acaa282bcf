-- A packet is sent on a link, dropped there, or taken from it: what a desk shows of it, and how its place moves.
use Rattle.std.proofs.Common.{◌≡◌, ◌≢◌, ℕ, ◌+◌, ◌<◌, ◌≤◌, ◌==◌, Bool, true, false, cond, List, [], ◌∷◌, ◌++◌, map, length, get_or, set, Option, Some, None, IsSome, IfSome, Ok, unwrap_or, nat_lt, refl, sym, ap, subst, ◌∙◌, inl, inr, arith, rules, get_or-set_other, if◌then◌else◌}
use mathlib.Core.Path.{fun_ext}
use Rattle.std.proofs.lemmas.Bool.{cases_eq, eq-eqb, eqb-true, false≢true}
use Rattle.std.proofs.lemmas.List.{length-map, map_push, set-get_or}
use Rattle.std.proofs.lemmas.List.Sums.{sum_by-cons, sum_by_push, get_or-le-sum_by}
use Rattle.std.specs.List.{sum_by}
use Rattle.std.specs.Option.{option_map}
use Rattle.sn_link.specs.Counts.{with_sent, with_dropped, with_received}
use Rattle.sn_link.specs.Link.{Line, most_queued, new_line, handed_back, transmitted, received, received_as, first_place, front_of}
use Rattle.sn_packet.specs.Hold.{among, put_at}
use Rattle.sn_packet.proofs.Puts.{put_at_other}
use Rattle.sn_app.specs.Answers.{Answers, Stays}
use Rattle.sn_app.specs.Desk.{Desk, Tray, Queue, name_of, freed, sent, sent_as, sent_on, front_rest, with_queue, on_tray}
use Rattle.sn_app.specs.Ports.{HasLinks, KeepsRows, key_at, line_at}
use Rattle.sn_app.specs.Reader.{change, pure}
use Rattle.sn_app.specs.Rows.{sends, takes, taking_front}
use Rattle.sn_app.specs.Runs.{Moves, Runs}
use Rattle.sn_app.specs.World.{Used, World, world, packet_at, places_of, IsSound, desk_of, queue_of, in_slot, in_slots, misfit, misfits_of, misfits, nowhere, at_answer, ◌⊕◌}
use Rattle.sn_app.proofs.Moving.{desk_used, moves_gone, moves_then, something, sound_as, sound_moved, untouched_own}
use Rattle.sn_app.proofs.Places.{among_first}
use Rattle.sn_app.proofs.Readings.{answers_changed, stays_same}
use Rattle.sn_app.proofs.Running.{runs_at, runs_bind, runs_look, runs_pure}
use Rattle.sn_app.proofs.Slots.{get-set, in_slots-set, misfits-set, queue_at, queues-set, rows_in-set, same_rows, some_within}

-- the desk is changed by a function, to the desk of a later world
pub runs_changed : (f : Desk → Desk) {w v : World} {before after : ℕ → ℕ} → f (desk_of w) ≡ desk_of v
    → v.tray.log ≡ w.tray.log → Stays w.tray v.tray → Moves w v before after → Runs (change f) w v before after (Ok tt)
unfolding desk_of
runs_changed f {w} {v} same log stays moves = record {
  answers =
      subst (λ d. Answers (change f) (desk_of w) d (Ok tt)) same
      (answers_changed f (desk_of w) (ap (λ (d : Desk). d.tray.log) same ∙ log) (subst (λ (d : Desk). Stays w.tray d.tray) (sym same) stays));
  moves = λ x e. moves;
}

-- the queued lengths of one link are right where those of all are
misfits_within : (used : Used) (slots : List (Option Line)) (key : ℕ) (line : Line) → get_or slots key None ≡ Some line
    → misfits used slots ≡ 0 → misfits_of used (Some line) ≡ 0
unfolding misfits
misfits_within used slots key line there none =
    omega (arith, get_or-le-sum_by (misfits_of used) slots key None (some_within slots key line there), ap (misfits_of used) there)

module _ (tray : Tray) (used : Used) (slots : List (Option Line)) (key : ℕ) (line changed : Line)
    (there : get_or slots key None ≡ Some line) (row : changed.row ≡ line.row) where
  -- one link changes, and places come from an app or go to it
  moves_link : (before after : ℕ → ℕ) → ((q : ℕ) → before q + in_slot q (Some line) ≡ after q + in_slot q (Some changed))
      → (misfits_of used (Some line) ≡ 0 → misfits_of used (Some changed) ≡ 0)
      → Moves (world tray used slots) (world tray used (set slots key (Some changed))) before after
  moves_link before after flows fits = record {
    sound = λ others h. record {
      once = λ q. omega (arith, h.once q, in_slots-set slots key line there changed q, flows q);
      in_use = λ q k. h.in_use q (omega (arith, k, in_slots-set slots key line there changed q, flows q));
      lengths = lengths others h;
      rows = λ r. omega (arith, h.rows r, rows_in-set slots key line there changed r, same_rows r changed line row);
    };
    kept = λ others h q k. refl;
  }
    where
      lengths : (others : ℕ → ℕ) → IsSound (world tray used slots) (before ⊕ others) → misfits used (set slots key (Some changed)) ≡ 0
      lengths others h =
          let before_none : misfits_of used (Some line) ≡ 0 = misfits_within used slots key line there h.lengths in
          omega (arith, h.lengths, misfits-set slots key line there changed used, before_none, fits before_none)

  -- a desk shows the changed link at its row
  desk_link : (mine : ℕ → ℕ) → IsSound (world tray used slots) mine
      → desk_of (world tray used (set slots key (Some changed))) ≡ with_queue line.row (Some (queue_of used changed)) (desk_of (world tray used slots))
  unfolding desk_of
  desk_link mine h =
      ap (λ (queues : ℕ → Option Queue). record { tray = tray; queues = queues })
      (fun_ext (λ r. queues-set used slots key line changed there row h.rows r))

  -- the queue that a desk shows at a link's row
  desk_row : (mine : ℕ → ℕ) → IsSound (world tray used slots) mine → (desk_of (world tray used slots)).queues line.row ≡ Some (queue_of used line)
  unfolding desk_of
  desk_row mine h = queue_at used slots key line there (h.rows line.row)

module _ (tray : Tray) (used : Used) (slots : List (Option Line)) (key : ℕ) (line : Line)
    (there : get_or slots key None ≡ Some line) (place len : ℕ) (length_is : len ≡ length (packet_at used place).bytes) where
  abbrev pub joined : Line
  joined = record line { queued = line.queued ++ (place, len) ∷ []; counts = with_sent len line.counts }

  flows_sent : (q : ℕ) → among (place ∷ []) q + in_slot q (Some line) ≡ nowhere q + in_slot q (Some joined)
  unfolding in_slot
  flows_sent q =
      omega (
        arith,
        ap (λ places. among places q) (map_push (λ (entry : ℕ × ℕ). entry.0) line.queued (place, len)),
        sum_by_push (λ other. cond (other == q) 1 0) (places_of line.queued) place,
        sum_by-cons (λ other. cond (other == q) 1 0) place [],
      )

  fits_sent : misfits_of used (Some line) ≡ 0 → misfits_of used (Some joined) ≡ 0
  unfolding misfits_of misfit
  fits_sent none =
      omega (arith, none, sum_by_push (misfit used) line.queued (place, len), ap (λ n. misfit used (place, n)) length_is, here)
    where
      here : misfit used (place, length (packet_at used place).bytes) ≡ 0
      here = ap {B = ℕ} (λ b. cond b 0 1) (eq-eqb (length (packet_at used place).bytes) (length (packet_at used place).bytes) refl)

  module _ (h : IsSound (world tray used slots) (among (place ∷ []))) where
    sent_here : nat_lt (length line.queued) most_queued ≡ true
        → sent line.row (packet_at used place) (desk_of (world tray used slots)) ≡ desk_of (world tray used (set slots key (Some joined)))
    unfolding queue_of
    sent_here room =
        let d = desk_of (world tray used slots) in
        let p = packet_at used place in
        ap (λ queue. sent_on queue line.row p d) (desk_row tray used slots key line joined there refl (among (place ∷ [])) h)
        ∙ (ap (λ n. sent_as (nat_lt n most_queued) line.row p (queue_of used line) d) (length-map line.queued (λ entry. packet_at used entry.0))
        ∙ (ap (λ b. sent_as b line.row p (queue_of used line) d) room
        ∙ (ap (λ packets. with_queue line.row (Some (record { packets = packets; counts = with_sent (length p.bytes) line.counts })) d)
        (sym (map_push (λ (entry : ℕ × ℕ). packet_at used entry.0) line.queued (place, len)))
        ∙ (ap (λ n. with_queue line.row (Some (record { packets = (queue_of used joined).packets; counts = with_sent n line.counts })) d) (sym length_is)
        ∙ sym (desk_link tray used slots key line joined there refl (among (place ∷ [])) h)))))

    -- there was room
    pub runs_joined : nat_lt (length line.queued) most_queued ≡ true
        → Runs (sends line.row (packet_at used place)) (world tray used slots) (world tray used (set slots key (Some joined))) (among (place ∷ [])) nowhere (Ok tt)
    unfolding sends
    runs_joined room =
        runs_changed (sent line.row (packet_at used place)) (sent_here room) refl (stays_same tray)
        (moves_link tray used slots key line joined there refl (among (place ∷ [])) nowhere flows_sent fits_sent)

    abbrev pub dropped : Line
    dropped = record line { counts = with_dropped line.counts }

    module _ (later : Used) (rest : (q : ℕ) → q ≢ place → later q ≡ used q) where
      counted : Moves (world tray used slots) (world tray used (set slots key (Some dropped))) (among (place ∷ [])) (among (place ∷ []))
      unfolding in_slot misfits_of
      counted = moves_link tray used slots key line dropped there refl (among (place ∷ [])) (among (place ∷ [])) (λ q. refl) (λ none. none)

      untouched : (q : ℕ) → 0 < in_slots (set slots key (Some dropped)) q → later q ≡ used q
      untouched q k =
          let now : IsSound (world tray used (set slots key (Some dropped))) (among (place ∷ [])) = sound_moved counted h in
          untouched_own tray tray used later (set slots key (Some dropped)) place rest nowhere (sound_as (λ r. omega arith) now) q (omega (arith, k))

      full_here : nat_lt (length line.queued) most_queued ≡ false
          → sent line.row (packet_at used place) (desk_of (world tray used slots))
          ≡ desk_of (world (freed (name_of (packet_at used place)) tray) later (set slots key (Some dropped)))
      unfolding queue_of desk_of
      full_here full =
          let d = desk_of (world tray used slots) in
          let p = packet_at used place in
          ap (λ queue. sent_on queue line.row p d) (desk_row tray used slots key line dropped there refl (among (place ∷ [])) h)
          ∙ (ap (λ n. sent_as (nat_lt n most_queued) line.row p (queue_of used line) d) (length-map line.queued (λ entry. packet_at used entry.0))
          ∙ (ap (λ b. sent_as b line.row p (queue_of used line) d) full
          ∙ (ap (on_tray (freed (name_of p))) (sym (desk_link tray used slots key line dropped there refl (among (place ∷ [])) h))
          ∙ sym (desk_used tray (freed (name_of p) tray) used later (set slots key (Some dropped)) untouched))))

      -- the link was full
      pub runs_dropped : nat_lt (length line.queued) most_queued ≡ false
          → Runs (sends line.row (packet_at used place)) (world tray used slots)
          (world (freed (name_of (packet_at used place)) tray) later (set slots key (Some dropped))) (among (place ∷ [])) nowhere (Ok tt)
      unfolding sends
      runs_dropped full =
          runs_changed (sent line.row (packet_at used place)) (full_here full) refl (record { constants = refl; started = λ file e. e })
          (moves_then counted (moves_gone tray (freed (name_of (packet_at used place)) tray) used later (set slots key (Some dropped)) place rest))

-- TAKEN FROM A LINK

-- the first packet of a queue is there, and has the queued length
module _ (used : Used) (slots : List (Option Line)) (key : ℕ) (line : Line) (there : get_or slots key None ≡ Some line)
    (place len : ℕ) (rest : List (ℕ × ℕ)) (is : line.queued ≡ (place, len) ∷ rest) where
  first_fits : misfits used slots ≡ 0 → (length (packet_at used place).bytes ≡ len) × (sum_by (misfit used) rest ≡ 0)
  unfolding misfits_of misfit
  first_fits none =
      let all : sum_by (misfit used) ((place, len) ∷ rest) ≡ 0 =
      ap (λ queued. sum_by (misfit used) queued) (sym is) ∙ misfits_within used slots key line there none in
      let here : misfit used (place, len) ≡ 0 = omega (arith, all, sum_by-cons (misfit used) (place, len) rest) in (
        eqb-true (length (packet_at used place).bytes) len (no_misfit (length (packet_at used place).bytes == len) here),
        omega (arith, all, sum_by-cons (misfit used) (place, len) rest),
      )
    where
      no_misfit : (b : Bool) → cond {A = ℕ} b 0 1 ≡ 0 → b ≡ true
      no_misfit true e = refl
      no_misfit false e = absurd (omega (arith, e))

  first_place_in : 1 ≤ in_slot place (Some line)
  unfolding in_slot
  first_place_in = omega (arith, ap (λ queued. among (places_of queued) place) is, among_first place (places_of rest))

  pub first_used : (tray : Tray) (mine : ℕ → ℕ) → IsSound (world tray used slots) mine → IsSome (used place)
  unfolding in_slots
  first_used tray mine h =
      h.in_use place (omega (
        arith,
        first_place_in,
        get_or-le-sum_by (in_slot place) slots key None (some_within slots key line there),
        ap (in_slot place) there,
      ))

module _ (tray : Tray) (used : Used) (slots : List (Option Line)) (key : ℕ) (line : Line)
    (there : get_or slots key None ≡ Some line) (h : IsSound (world tray used slots) nowhere) where
  emptied : (queued : List (ℕ × ℕ)) → line.queued ≡ queued → queued ≡ [] → set slots key (Some (received_as line.row [] line.counts)) ≡ slots
  emptied queued is none =
      ap (λ q. set slots key (Some (record { row = line.row; queued = q; counts = line.counts }))) (sym (is ∙ none))
      ∙ (ap (λ slot. set slots key slot) (sym there) ∙ set-get_or slots key None)

  front_none : line.queued ≡ [] → front_rest ((desk_of (world tray used slots)).queues line.row) ≡ None
  unfolding queue_of
  front_none is =
      ap front_rest (desk_row tray used slots key line line there refl nowhere h)
      ∙ ap (λ queued. front_rest (Some (record { packets = map (λ (entry : ℕ × ℕ). packet_at used entry.0) queued; counts = line.counts }))) is

  runs_none : line.queued ≡ [] → Runs (takes line.row) (world tray used slots) (world tray used slots) nowhere nowhere (Ok None)
  unfolding takes taking_front
  runs_none is =
      runs_look (λ d. taking_front line.row (front_rest (d.queues line.row)))
      (runs_at (λ entries. ap (λ front. taking_front line.row front (desk_of (world tray used slots)) entries) (front_none is))
      (runs_pure None (world tray used slots) nowhere))

  module _ (place len : ℕ) (rest : List (ℕ × ℕ)) (is : line.queued ≡ (place, len) ∷ rest) where
    abbrev pub shorter : Line
    shorter = record { row = line.row; queued = rest; counts = with_received len line.counts }

    front_some : front_rest ((desk_of (world tray used slots)).queues line.row) ≡ Some (packet_at used place, queue_of used shorter)
    unfolding queue_of
    front_some =
        ap front_rest (desk_row tray used slots key line line there refl nowhere h)
        ∙ (ap (λ queued. front_rest (Some (record { packets = map (λ (entry : ℕ × ℕ). packet_at used entry.0) queued; counts = line.counts }))) is
        ∙ ap (λ n. Some (packet_at used place, record { packets = map (λ (entry : ℕ × ℕ). packet_at used entry.0) rest; counts = with_received n line.counts }))
        (first_fits used slots key line there place len rest is h.lengths).0)

    moves_taken : Moves (world tray used slots) (world tray used (set slots key (Some shorter))) nowhere (among (place ∷ []))
    unfolding in_slot misfits_of
    moves_taken =
        moves_link tray used slots key line shorter there refl nowhere (among (place ∷ []))
        (λ q. omega (
          arith,
          ap (λ queued. among (places_of queued) q) is,
          sum_by-cons (λ other. cond (other == q) 1 0) place (places_of rest),
          sum_by-cons (λ other. cond (other == q) 1 0) place [],
        ))
        (λ none. (first_fits used slots key line there place len rest is h.lengths).1)

    runs_first : Runs (takes line.row) (world tray used slots) (world tray used (set slots key (Some shorter))) nowhere (among (place ∷ []))
        (Ok (Some (packet_at used place)))
    unfolding takes taking_front
    runs_first =
        runs_look (λ d. taking_front line.row (front_rest (d.queues line.row)))
        (runs_at (λ entries. ap (λ front. taking_front line.row front (desk_of (world tray used slots)) entries) front_some)
        (runs_bind (λ done. pure (Some (packet_at used place)))
        (runs_changed (with_queue line.row (Some (queue_of used shorter)))
        (sym (desk_link tray used slots key line shorter there refl nowhere h)) refl (stays_same tray) moves_taken)
        (runs_pure (Some (packet_at used place)) (world tray used (set slots key (Some shorter))) (among (place ∷ [])))))

  runs_as_queued : (queued : List (ℕ × ℕ)) → line.queued ≡ queued
      → Runs (takes line.row) (world tray used slots) (world tray used (set slots key (Some (received_as line.row queued line.counts)))) nowhere
      (at_answer (first_place queued)) (Ok (option_map (packet_at used) (first_place queued)))
  runs_as_queued [] is =
      subst (λ later. Runs (takes line.row) (world tray used slots) (world tray used later) nowhere nowhere (Ok None))
      (sym (emptied [] is refl)) (runs_none is)
  runs_as_queued (first ∷ rest) is = runs_first first.0 first.1 rest is

  -- a packet is taken, if there is one
  pub runs_received : Runs (takes line.row) (world tray used slots) (world tray used (set slots key (Some (received line)))) nowhere
      (at_answer (front_of line)) (Ok (option_map (packet_at used) (front_of line)))
  runs_received = runs_as_queued line.queued refl

  used_as_queued : (queued : List (ℕ × ℕ)) → line.queued ≡ queued → IfSome (first_place queued) (λ place. IsSome (used place))
  used_as_queued [] is = search rules
  used_as_queued (first ∷ rest) is = let some = first_used used slots key line there first.0 first.1 rest is tray nowhere h in search rules

  pub front_used : IfSome (front_of line) (λ place. IsSome (used place))
  front_used = used_as_queued line.queued refl

-- LINKS KEEP THEIR ROWS

module _ (slots : List (Option Line)) (key : ℕ) (line changed : Line) (there : get_or slots key None ≡ Some line) (row : changed.row ≡ line.row) where
  row_kept : (other : ℕ) → (line_at (set slots key (Some changed)) other).row ≡ (line_at slots other).row
  row_kept other = elim (cases_eq other key) [
    | inl same ↦
        let P : ℕ → Type 0 = λ k. (line_at (set slots key (Some changed)) k).row ≡ (line_at slots k).row in
        subst P (sym same)
        (ap (λ slot. (unwrap_or slot (new_line 0)).row) (get-set slots key line changed there)
        ∙ (row ∙ ap (λ slot. (unwrap_or slot (new_line 0)).row) (sym there)))
    | inr differs ↦ ap (λ slot. (unwrap_or slot (new_line 0)).row) (get_or-set_other slots key other (Some changed) None differs)
  ]

  held_kept : (other : ℕ) → IsSome (get_or slots other None) → IsSome (get_or (set slots key (Some changed)) other None)
  held_kept other some = elim (cases_eq other key) [
    | inl same ↦
        let P : ℕ → Type 0 = λ k. IsSome (get_or (set slots key (Some changed)) k None) in
        subst P (sym same) (something (Some changed) (get_or (set slots key (Some changed)) key None) refl (sym (get-set slots key line changed there)))
    | inr differs ↦
        something (get_or slots other None) (get_or (set slots key (Some changed)) other None) some
        (sym (get_or-set_other slots key other (Some changed) None differs))
  ]

  none_kept : (other : ℕ) → get_or slots other None ≡ None → get_or (set slots key (Some changed)) other None ≡ None
  none_kept other none = elim (cases_eq other key) [
    | inl same ↦
        let empty : get_or slots key None ≡ None = subst (λ k. get_or slots k None ≡ None) same none in
        absurd (false≢true (something (get_or slots key None) None (subst (λ slot. IsSome slot) (sym there) refl) empty))
    | inr differs ↦ get_or-set_other slots key other (Some changed) None differs ∙ none
  ]

  pub keeps_rows : KeepsRows slots (set slots key (Some changed))
  keeps_rows = record { rows = row_kept; held = held_kept; none = none_kept }

-- what a port leads to is there
pub line_there : (slots : List (Option Line)) (ports : List (List ℕ × ℕ)) (i : ℕ) → HasLinks slots ports → i < length ports
    → get_or slots (key_at ports i) None ≡ Some (line_at slots (key_at ports i))
line_there slots ports i has within = is_something (get_or slots (key_at ports i) None) (has.held i within)
  where
    is_something : (slot : Option Line) → IsSome slot → slot ≡ Some (unwrap_or slot (new_line 0))
    is_something None some = absurd (false≢true some)
    is_something (Some line) some = refl

-- THE VERBS' OWN FORMS

module _ (tray : Tray) (used : Used) (slots after : List (Option Line)) (key : ℕ) (line : Line)
    (there : get_or slots key None ≡ Some line) (place len : ℕ) (length_is : len ≡ length (packet_at used place).bytes)
    (h : IsSound (world tray used slots) (among (place ∷ [])))
    (slots_are : after ≡ set slots key (Some (transmitted place len line))) where
  -- nothing was handed back
  pub runs_sent : None ≡ handed_back place line → Runs (sends line.row (packet_at used place)) (world tray used slots) (world tray used after) (among (place ∷ [])) nowhere (Ok tt)
  runs_sent back =
      let room = has_room (nat_lt (length line.queued) most_queued) back in
      let joins : after ≡ set slots key (Some (joined tray used slots key line there place len length_is)) =
      slots_are ∙ ap (λ b. set slots key (Some (if b then record line { queued = line.queued ++ (place, len) ∷ []; counts = with_sent len line.counts } else record line { counts = with_dropped line.counts }))) room in
      subst (λ s. Runs (sends line.row (packet_at used place)) (world tray used slots) (world tray used s) (among (place ∷ [])) nowhere (Ok tt))
      (sym joins) (runs_joined tray used slots key line there place len length_is h room)
    where
      has_room : (b : Bool) → None ≡ (if b then None else Some place) → b ≡ true
      has_room true e = refl
      has_room false e = absurd cc

  -- the place was handed back, and its packet freed
  pub runs_full : (later : Tray) (rest : Used) (back : ℕ) → Some back ≡ handed_back place line
      → later ≡ freed (name_of (packet_at used back)) tray → rest ≡ put_at back None used
      → Runs (sends line.row (packet_at used place)) (world tray used slots) (world later rest after) (among (place ∷ [])) nowhere (Ok tt)
  runs_full later rest back given tray_is used_is =
      let full = is_full (nat_lt (length line.queued) most_queued) given in
      let drops : after ≡ set slots key (Some (dropped tray used slots key line there place len length_is h)) =
      slots_are ∙ ap (λ b. set slots key (Some (if b then record line { queued = line.queued ++ (place, len) ∷ []; counts = with_sent len line.counts } else record line { counts = with_dropped line.counts }))) full.0 in
      let at_place : later ≡ freed (name_of (packet_at used place)) tray = tray_is ∙ ap (λ q. freed (name_of (packet_at used q)) tray) full.1 in
      let gone : rest ≡ put_at place None used = used_is ∙ ap (λ q. put_at q None used) full.1 in
      let others : (q : ℕ) → q ≢ place → rest q ≡ used q = λ q differs. ap (λ f. f q) gone ∙ put_at_other place None used q differs in
      subst (λ t. Runs (sends line.row (packet_at used place)) (world tray used slots) (world t rest after) (among (place ∷ [])) nowhere (Ok tt))
      (sym at_place)
      (subst (λ s. Runs (sends line.row (packet_at used place)) (world tray used slots) (world (freed (name_of (packet_at used place)) tray) rest s) (among (place ∷ [])) nowhere (Ok tt))
      (sym drops) (runs_dropped tray used slots key line there place len length_is h rest others full.0))
    where
      is_full : (b : Bool) → Some back ≡ (if b then None else Some place) → (b ≡ false) × (back ≡ place)
      is_full true e = absurd cc
      is_full false e = (refl, cc)

  pub keeps_rows_sent : KeepsRows slots after
  keeps_rows_sent =
      subst (λ s. KeepsRows slots s) (sym slots_are)
      (keeps_rows slots key line (transmitted place len line) there (row_of_sent (nat_lt (length line.queued) most_queued)))
    where
      row_of_sent : (b : Bool) → (if b then record line { queued = line.queued ++ (place, len) ∷ []; counts = with_sent len line.counts } else record line { counts = with_dropped line.counts }).row ≡ line.row
      row_of_sent true = refl
      row_of_sent false = refl

module _ (slots after : List (Option Line)) (key : ℕ) (line : Line) (there : get_or slots key None ≡ Some line)
    (slots_are : after ≡ set slots key (Some (received line))) where
  pub runs_taken : (tray : Tray) (used : Used) (result : Option ℕ) → IsSound (world tray used slots) nowhere → result ≡ front_of line
      → Runs (takes line.row) (world tray used slots) (world tray used after) nowhere (at_answer result) (Ok (option_map (packet_at used) result))
  runs_taken tray used result h is =
      subst (λ r. Runs (takes line.row) (world tray used slots) (world tray used after) nowhere (at_answer r) (Ok (option_map (packet_at used) r))) (sym is)
      (subst (λ s. Runs (takes line.row) (world tray used slots) (world tray used s) nowhere (at_answer (front_of line)) (Ok (option_map (packet_at used) (front_of line))))
      (sym slots_are) (runs_received tray used slots key line there h))

  pub keeps_rows_taken : KeepsRows slots after
  keeps_rows_taken =
      subst (λ s. KeepsRows slots s) (sym slots_are) (keeps_rows slots key line (received line) there (row_of_received line.queued))
    where
      row_of_received : (queued : List (ℕ × ℕ)) → (received_as line.row queued line.counts).row ≡ line.row
      row_of_received [] = refl
      row_of_received (first ∷ rest) = refl
