-- A link goes from a world: its packets become free, and its counts are kept.
use Rattle.std.proofs.Common.{List, Ok, Option, Some, ap, arith, refl, subst, sym, true, ℕ, ◌∙◌, ◌≡◌, ◌≢◌}
use Rattle.sn_link.specs.Link.{Line}
use Rattle.sn_packet.specs.Hold.{among}
use Rattle.sn_app.specs.Desk.{Tray, kept_counts, roster_of}
use Rattle.sn_app.specs.Hands.{frees_each, packets_at}
use Rattle.sn_app.specs.Reader.{Meaning}
use Rattle.sn_app.specs.Rows.{keeps_counts}
use Rattle.sn_app.specs.Runs.{Runs}
use Rattle.sn_app.specs.Starts.{AreKept}
use Rattle.sn_app.specs.World.{IsSound, Used, desk_of, nowhere, places_of, queue_of, rows_in, world}
use Rattle.sn_app.specs.declared.halt.Halt.{Halt}
use Rattle.std.proofs.Common.{Result}
use Rattle.sn_app.proofs.Calling.{runs_tray}
use Rattle.sn_app.proofs.Hands.{kept_in_hand}
use Rattle.sn_app.proofs.Moving.{sound_moved}
use Rattle.sn_app.proofs.Running.{runs_bind, runs_look}
use Rattle.sn_wiring.proofs.Comings.{moves_out, runs_out}
use Rattle.sn_wiring.proofs.Opened.{Opened, rows_here}
use Rattle.sn_wiring.proofs.Queued.{packets_queued}
use Rattle.sn_wiring.proofs.Rows.{queue_there}
use Rattle.sn_wiring.specs.Links.{closes, closing, slot_at}

-- what never changes stays over a run
pub roster_stays : {R : Type 0} {m : Meaning R} {t s : Tray} {u v : Used} {old new : List (Option Line)}
    {before after : ℕ → ℕ} {r : Result R Halt}
    → Runs m (world t u old) (world s v new) before after r → roster_of s ≡ roster_of t
unfolding desk_of
roster_stays run = ap (λ constants. constants.roster) run.answers.stays.constants

module _ {old new : List (Option Line)} {key : ℕ} {line : Line} (h : Opened old new key line) {t : Tray} {u : Used}
    (sound : IsSound (world t u new) nowhere) where
  pub row_gone : rows_in line.row old ≡ 0
  row_gone = omega (arith, rows_here h, sound.rows line.row)

  pub sound_out : IsSound (world t u old) (among (places_of line.queued))
  sound_out = sound_moved (moves_out h row_gone t u) sound

  pub kept_out : AreKept u (among (places_of line.queued))
  kept_out = kept_in_hand sound_out

  queue_here : (desk_of (world t u new)).queues line.row ≡ Some (queue_of u line)
  unfolding desk_of
  queue_here = queue_there u new key line h.here (sound.rows line.row)

  pub runs_closes : {s z : Tray} {v x : Used} (row : ℕ) → line.row ≡ row
      → Runs (frees_each (packets_at u (places_of line.queued))) (world t u old) (world s v old) (among (places_of line.queued))
      nowhere (Ok true)
      → z ≡ kept_counts row line.counts s → x ≡ v → Runs (closes row) (world t u new) (world z x old) nowhere nowhere (Ok tt)
  unfolding closes closing queue_of keeps_counts
  runs_closes {s} {z} {v} {x} row is freed tray used =
      subst (λ r. z ≡ kept_counts r line.counts s → Runs (closes r) (world t u new) (world z x old) nowhere nowhere
      (Ok tt)) is whole tray
    where
      out : Runs (frees_each (queue_of u line).packets) (world t u old) (world s v old) (among (places_of line.queued)) nowhere
          (Ok true)
      out =
          subst (λ packets. Runs (frees_each packets) (world t u old) (world s v old) (among (places_of line.queued)) nowhere
          (Ok true))
          (sym (packets_queued u line.queued)) freed

      whole : z ≡ kept_counts line.row line.counts s
          → Runs (closes line.row) (world t u new) (world z x old) nowhere nowhere (Ok tt)
      whole kept =
          runs_look (λ d. closing line.row (d.queues line.row))
          (subst (λ queue. Runs (closing line.row queue) (world t u new) (world z x old) nowhere nowhere (Ok tt)) (sym queue_here)
          (runs_bind (λ done. keeps_counts line.row line.counts)
          (runs_bind (λ done. frees_each (queue_of u line).packets) (runs_out h row_gone t u) out)
          (runs_tray (kept_counts line.row line.counts) v x old nowhere kept used refl
          (record { constants = refl; started = λ file e. e }))))

-- a link of another row stands yet
pub other_kept : {old new : List (Option Line)} {key : ℕ} {line : Line} (row : ℕ) → Opened old new key line → line.row ≡ row
    → (other : ℕ) (there : Line) → there.row ≢ row → slot_at new other ≡ Some there → slot_at old other ≡ Some there
other_kept {old} {new} {key} {line} row h is other there apart some = sym (h.others other (λ e. apart (same e))) ∙ some
  where
    same : other ≡ key → there.row ≡ row
    same e =
        let two : Some there ≡ Some line = sym some ∙ (ap (slot_at new) e ∙ h.here) in
        let one : there ≡ line = cc in
        ap (λ (l : Line). l.row) one ∙ is
