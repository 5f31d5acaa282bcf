-- Gates: where a stop line names one, and what a row reads there.
use Rattle.std.proofs.Common.{◌≡◌, ℕ, ◌==◌, ◌&&◌, ◌∷◌, ◌∙◌, Bool, true, false, List, [], length, Option, Result, Ok, Err}
use Rattle.std.proofs.Common.{refl, sym, ap, subst, append-nil}
use Rattle.std.proofs.lemmas.Bool.{and_from}
use Rattle.std.specs.List.{list_any}
use Rattle.sn_journal.specs.declared.entry.Entry.{Entry}
use Rattle.sn_journal.specs.declared.entry.Entry.TheVariants.{Stop}
use Rattle.sn_app.specs.Answers.{AnswersCase, OnTray, Stays, halted}
use Rattle.sn_app.specs.Desk.{Queue, Tray, after_entry, gate_passed}
use Rattle.sn_app.specs.Gates.{gate_by, gate_named, gate_of, passed, stop_at, stops_here}
use Rattle.sn_app.specs.Reader.{done, stopped}
use Rattle.sn_app.specs.declared.halt.Halt.{Halt}
use Rattle.sn_app.specs.declared.halt.Halt.TheVariants.{Stopped, OutOfMemory}
use Rattle.sn_app.proofs.OnTrays.{tray_lost}
use Rattle.sn_app.proofs.Playing.{desk}
use Rattle.sn_app.proofs.Readings.{stays_same}
use Rattle.sn_seat.specs.GateSteps.{GateStep}
use Rattle.sn_seat.specs.Trays.{seat_tray}
use Rattle.sn_seat.specs.declared.seat.Seat.{Seat}

-- a search of the stop lines tells whether one names the gate
pub named_here : (t : Tray) (stops : List (ℕ × ℕ)) (entries gates : ℕ) (named : Bool)
    → named ≡ list_any (λ (line : ℕ × ℕ). line.0 == entries && line.1 == gates) stops
    → stops ≡ t.log.constants.stops → entries ≡ length t.log.past → gates ≡ t.gates → stops_here t ≡ named
unfolding stops_here
named_here t stops entries gates named told lines count passed_gates =
    sym (told
    ∙ (ap (λ n. list_any (λ (line : ℕ × ℕ). line.0 == n && line.1 == gates) stops) count
    ∙ (ap (λ n. list_any (λ (line : ℕ × ℕ). line.0 == length t.log.past && line.1 == n) stops) passed_gates
    ∙ ap (list_any (λ (line : ℕ × ℕ). line.0 == length t.log.past && line.1 == t.gates)) lines)))

-- a gate that is passed, and one at which the worker stops
module _ (t : Tray) (queues : ℕ → Option Queue) (unscripted : t.log.constants.scripted ≡ false) where
  pub gate_on : stops_here t ≡ false → (entries : List Entry)
      → gate_by true (desk t queues) entries ≡ done tt (desk (gate_passed t) queues) entries
  unfolding gate_by gate_of gate_named passed
  gate_on on entries =
      ap (λ b. gate_of b (desk t queues) entries) unscripted ∙ ap (λ b. gate_named b (desk t queues) entries) on

  pub gate_stops : stops_here t ≡ true → (entries : List Entry)
      → gate_by true (desk t queues) (Stop ∷ entries) ≡ stopped (desk (after_entry Stop t) queues) entries
  unfolding gate_by gate_of gate_named stop_at
  gate_stops here entries =
      ap (λ b. gate_of b (desk t queues) (Stop ∷ entries)) unscripted
      ∙ ap (λ b. gate_named b (desk t queues) (Stop ∷ entries)) here

  pub stop_halts : stops_here t ≡ true → (entries : List Entry)
      → gate_by true (desk t queues) (Stop ∷ entries) ≡ halted t.log.constants.scripted (desk (after_entry Stop t) queues) entries
  unfolding halted
  stop_halts here entries =
      gate_stops here entries ∙ ap (λ b. halted b (desk (after_entry Stop t) queues) entries) (sym unscripted)

stays_passed : (t : Tray) → Stays t (gate_passed t)
stays_passed t = record { constants = refl; started = λ file h. h }

stays_stopped : (t : Tray) → Stays t (after_entry Stop t)
stays_stopped t = record { constants = refl; started = λ file h. h }

passes : (t : Tray) → t.log.constants.scripted ≡ false → stops_here t ≡ false → OnTray (gate_by true) t (gate_passed t) (Ok tt)
unfolding AnswersCase
passes t unscripted on = record {
  at = λ queues. record {
    stays = stays_passed t;
    by_case = record {
      entries = [];
      past = sym (append-nil t.log.past);
      only = refl;
      gives = λ rest. gate_on t queues unscripted on rest;
    };
  };
}

stops : (t : Tray) → t.log.constants.scripted ≡ false → t.log.constants.may Stop ≡ true → stops_here t ≡ true
    → OnTray (gate_by true) t (after_entry Stop t) (Err Stopped)
unfolding AnswersCase
stops t unscripted may here = record {
  at = λ queues. record {
    stays = stays_stopped t;
    by_case = record {
      entries = Stop ∷ [];
      past = refl;
      only = and_from (t.log.constants.may Stop) true may refl;
      gives = λ rest ended. stop_halts t queues unscripted here rest;
    };
  };
}

-- what a seat's gate answers a row reads
pub gate_read : (captures : List (List ℕ)) (old new : Seat) (result : Result Unit Halt) → GateStep old result new
    → OnTray (gate_by true) (seat_tray captures old) (seat_tray captures new) result
gate_read captures old new (Ok on) step =
    subst (λ u. OnTray (gate_by true) (seat_tray captures old) u (Ok on)) (sym (step.tray captures))
    (passes (seat_tray captures old) refl (step.on captures))
gate_read captures old new (Err Stopped) step =
    subst (λ u. OnTray (gate_by true) (seat_tray captures old) u (Err Stopped)) (sym (step.tray captures))
    (stops (seat_tray captures old) refl refl (step.here captures))
gate_read captures old new (Err OutOfMemory) step =
    subst (λ u. OnTray (gate_by true) (seat_tray captures old) u (Err OutOfMemory)) (sym (step.tray captures))
    (tray_lost (gate_by true) (stays_same (seat_tray captures old)))
