-- What a call of a context is to an app that makes it: a run of the call's row, with the app's places.
use Rattle.std.proofs.Common.{◌≡◌, ◌≢◌, ℕ, ◌<◌, List, [], ◌∷◌, Option, Some, None, IfSome, Result, Ok, Err, refl, sym, ap, subst, ◌∙◌, arith}
use Rattle.sn_link.specs.Link.{Line}
use Rattle.sn_packet.specs.Hold.{among, put_at}
use Rattle.sn_packet.specs.Packet.{PacketState}
use Rattle.sn_packet.proofs.Puts.{put_at_other, put_at_same}
use Rattle.sn_app.specs.Answers.{Answers, OnTray, Stays}
use Rattle.sn_app.specs.Calls.{IsFresh, named}
use Rattle.sn_app.specs.Desk.{Tray, counted_on, freed, name_of, on_tray}
use Rattle.sn_app.specs.Reader.{Meaning, change, change_tray}
use Rattle.sn_app.specs.Rows.{counts, frees, row_allocate}
use Rattle.sn_app.specs.Runs.{Moves, Runs}
use Rattle.sn_app.specs.World.{Used, world, packet_at, IsSound, desk_of, queue_in, in_slots, nowhere, ◌⊕◌}
use Rattle.sn_app.specs.declared.counters.Counter.{Counter}
use Rattle.sn_app.specs.declared.halt.Halt.{Halt}
use Rattle.sn_app.proofs.Moving.{desk_used, moves_fresh, moves_gone, moves_still, moves_written, something, sound_as, untouched_fresh, untouched_own}
use Rattle.sn_app.proofs.Sending.{runs_changed}
use Rattle.sn_app.proofs.Slots.{all_misfits_same}

-- where the packets stay that anybody needs, a call of a context is its row on the desk
on_desk : {R : Type 0} {m : Meaning R} {t s : Tray} {r : Result R Halt} (u v : Used) (slots : List (Option Line))
    → ((q : ℕ) → 0 < in_slots slots q → v q ≡ u q) → OnTray m t s r → Answers m (desk_of (world t u slots)) (desk_of (world s v slots)) r
unfolding desk_of
on_desk {m = m} {t} {s} {r} u v slots same call =
    subst (λ d. Answers m (desk_of (world t u slots)) d r) (sym (desk_used t s u v slots same)) (call.at (queue_in u slots))

-- all packets stay
pub runs_left : {R : Type 0} {m : Meaning R} {t s : Tray} {r : Result R Halt} (u v : Used) (slots : List (Option Line)) (mine : ℕ → ℕ)
    → OnTray m t s r → ((q : ℕ) → v q ≡ u q) → Runs m (world t u slots) (world s v slots) mine mine r
runs_left {t = t} {s} u v slots mine call same = record {
  answers = on_desk u v slots (λ q k. same q) call;
  moves = λ x e. record {
    sound = λ others h. record {
      once = h.once;
      in_use = λ q k. something (u q) (v q) (h.in_use q k) (sym (same q));
      lengths = all_misfits_same u v slots (λ q k. same q) ∙ h.lengths;
      rows = h.rows;
    };
    kept = λ others h q k. same q;
  };
}

-- a packet came to a place
pub runs_fresh : {R : Type 0} {m : Meaning R} {t s : Tray} {x : R} (u v : Used) (slots : List (Option Line)) (mine : ℕ → ℕ) (place : ℕ)
    → IsSound (world t u slots) mine → OnTray m t s (Ok x) → IsFresh u v place → ((q : ℕ) → q ≢ place → v q ≡ u q)
    → Runs m (world t u slots) (world s v slots) mine (mine ⊕ among (place ∷ [])) (Ok x)
runs_fresh {t = t} {s} u v slots mine place h call fresh others = record {
  answers = on_desk u v slots (λ q k. untouched_fresh t s u v slots place fresh.none fresh.some others mine h q (omega (arith, k))) call;
  moves = λ x e. moves_fresh t s u v slots place fresh.none fresh.some others mine;
}

-- the tray alone changes, by a function that leaves the log and the started files
pub runs_tray : (f : Tray → Tray) {t s : Tray} (u v : Used) (slots : List (Option Line)) (mine : ℕ → ℕ)
    → s ≡ f t → v ≡ u → (f t).log ≡ t.log → Stays t (f t) → Runs (change_tray f) (world t u slots) (world s v slots) mine mine (Ok tt)
unfolding desk_of change change_tray
runs_tray f {t} {s} u v slots mine tray used log stays =
    subst (λ z. Runs (change_tray f) (world t u slots) (world z v slots) mine mine (Ok tt)) (sym tray)
    (subst (λ w. Runs (change_tray f) (world t u slots) (world (f t) w slots) mine mine (Ok tt)) (sym used)
    (runs_changed (on_tray f) refl log stays (moves_still t (f t) u slots mine)))

pub runs_count : {t s : Tray} (app : ℕ) (counter : Counter) (by : ℕ) (u v : Used) (slots : List (Option Line)) (mine : ℕ → ℕ)
    → s ≡ counted_on app counter by t → v ≡ u → Runs (counts app counter by) (world t u slots) (world s v slots) mine mine (Ok tt)
unfolding counts
runs_count {t} app counter by u v slots mine tray used =
    runs_tray (counted_on app counter by) u v slots mine tray used refl (record { constants = refl; started = λ file e. e })

-- a packet becomes free
pub runs_free : {t s : Tray} (u v : Used) (slots : List (Option Line)) (place : ℕ) → IsSound (world t u slots) (among (place ∷ []))
    → s ≡ freed (name_of (packet_at u place)) t → v ≡ put_at place None u
    → Runs (frees (name_of (packet_at u place))) (world t u slots) (world s v slots) (among (place ∷ [])) nowhere (Ok tt)
unfolding frees desk_of change change_tray
runs_free {t} {s} u v slots place h tray used =
    subst (λ z. Runs (frees (name_of (packet_at u place))) (world t u slots) (world z v slots) (among (place ∷ [])) nowhere (Ok tt)) (sym tray)
    (runs_changed (on_tray later) (sym (desk_used t (later t) u v slots (λ q k. untouched_own t t u v slots place others nowhere beside q (omega (arith, k)))))
    refl (record { constants = refl; started = λ file e. e }) (moves_gone t (later t) u v slots place others))
  where
    later : Tray → Tray
    later z = freed (name_of (packet_at u place)) z

    others : (q : ℕ) → q ≢ place → v q ≡ u q
    others q differs = ap (λ f. f q) used ∙ put_at_other place None u q differs

    beside : IsSound (world t u slots) (among (place ∷ []) ⊕ nowhere)
    beside = sound_as (λ q. omega arith) h

-- a packet of one's own is written: no desk shows it
module _ {t s : Tray} (u v : Used) (slots : List (Option Line)) (place : ℕ) (packet : PacketState)
    (tray : s ≡ t) (used : v ≡ put_at place (Some packet) u) where
  others : (q : ℕ) → q ≢ place → v q ≡ u q
  others q differs = ap (λ f. f q) used ∙ put_at_other place (Some packet) u q differs

  pub written_at : v place ≡ Some packet
  written_at = ap (λ f. f place) used ∙ put_at_same place (Some packet) u

  pub moves_written_at : Moves (world t u slots) (world s v slots) (among (place ∷ [])) (among (place ∷ []))
  moves_written_at =
      subst (λ z. Moves (world t u slots) (world z v slots) (among (place ∷ [])) (among (place ∷ []))) (sym tray)
      (moves_written t t u v slots place others (something (Some packet) (v place) refl (sym written_at)))

  pub desk_written_at : IsSound (world t u slots) (among (place ∷ [])) → desk_of (world s v slots) ≡ desk_of (world t u slots)
  unfolding desk_of
  desk_written_at h =
      let beside : IsSound (world t u slots) (among (place ∷ []) ⊕ nowhere) = sound_as (λ q. omega arith) h in
      desk_used t s u v slots (λ q k. untouched_own t t u v slots place others nowhere beside q (omega (arith, k)))
      ∙ ap (λ (z : Tray). record { tray = z; queues = queue_in u slots }) tray

-- ALLOCATE, as an app meets it

abbrev pub gave : Option ℕ → Result (Option ℕ) Halt
gave place = Ok place

abbrev pub halts : Halt → Result (Option ℕ) Halt
halts halt = Err halt

module _ {t s : Tray} (u v : Used) (slots : List (Option Line)) (mine : ℕ → ℕ) (h : IsSound (world t u slots) mine) where
  pub runs_allocate_none : (o : Option ℕ) → o ≡ None → OnTray row_allocate t s (named v (Ok o))
      → ((q : ℕ) → (gave o ≡ gave (Some q) → ⊥) → v q ≡ u q)
      → Runs row_allocate (world t u slots) (world s v slots) mine mine (Ok None)
  runs_allocate_none o none reads rest =
      runs_left u v slots mine (subst (λ p. OnTray row_allocate t s (named v (Ok p))) none reads) (λ q. rest q (λ e. cc))

  pub runs_allocate_some : (o : Option ℕ) (place : ℕ) → o ≡ Some place → OnTray row_allocate t s (named v (Ok o))
      → IfSome o (IsFresh u v) → ((q : ℕ) → (gave o ≡ gave (Some q) → ⊥) → v q ≡ u q)
      → Runs row_allocate (world t u slots) (world s v slots) mine (mine ⊕ among (place ∷ [])) (Ok (Some (name_of (packet_at v place))))
  runs_allocate_some o place some reads fresh rest =
      let is_fresh : IsFresh u v place = fresh_at o place some fresh in
      runs_fresh u v slots mine place h (subst (λ p. OnTray row_allocate t s (named v (Ok p))) some reads) is_fresh (λ q differs. rest q (λ e. differs (the_place o place q some e)))
    where
      fresh_at : (o : Option ℕ) (place : ℕ) → o ≡ Some place → IfSome o (IsFresh u v) → IsFresh u v place
      fresh_at o place some f = subst (λ p. IfSome p (IsFresh u v)) some f

      the_place : (o : Option ℕ) (place q : ℕ) → o ≡ Some place → gave o ≡ gave (Some q) → q ≡ place
      the_place o place q some e = cc

  pub runs_allocate_err : (halt : Halt) (after : ℕ → ℕ) → OnTray row_allocate t s (named v (Err halt))
      → ((q : ℕ) → (halts halt ≡ gave (Some q) → ⊥) → v q ≡ u q)
      → Runs row_allocate (world t u slots) (world s v slots) mine after (Err halt)
  runs_allocate_err halt after reads rest =
      let run = runs_left u v slots mine reads (λ q. rest q (λ e. cc)) in
      record { answers = run.answers; moves = λ x e. absurd (cc) }
