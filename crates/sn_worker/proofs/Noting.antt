-- An entry of the worker's own is noted: it is read, and nothing else changes.
use Rattle.std.proofs.Common.{◌≡◌, ◌&&◌, ◌==◌, ℕ, Bool, true, false, List, [], ◌∷◌, Option, Some, None, if◌then◌else◌, Ok, Err}
use Rattle.std.proofs.Common.{refl, sym, ap, subst}
use Rattle.std.proofs.lemmas.Bool.{eq-eqb}
use Rattle.sn_app.specs.Answers.{AnswersCase, OnTray, Stays}
use Rattle.sn_app.specs.Desk.{Tray, after_entry}
use Rattle.sn_app.specs.Reader.{Meaning, read, reading}
use Rattle.sn_app.specs.Runs.{Runs}
use Rattle.sn_app.specs.World.{Used, world}
use Rattle.sn_app.specs.declared.halt.Halt.{Halt}
use Rattle.sn_app.specs.declared.halt.Halt.TheVariants.{OutOfMemory}
use Rattle.sn_app.proofs.Calling.{runs_left}
use Rattle.sn_app.proofs.OnTrays.{tray_lost}
use Rattle.sn_app.proofs.Readings.{stays_same}
use Rattle.sn_journal.specs.declared.entry.Entry.{Entry}
use Rattle.sn_journal.specs.declared.entry.Entry.TheVariants.{Round}
use Rattle.sn_link.specs.Link.{Line}
use Rattle.sn_worker.specs.Own.{a_round}

-- what never changes stays
pub noted_stays : (entry : Entry) (t s : Tray) → s ≡ after_entry entry t → Stays t s
noted_stays entry t s e = subst (λ z. Stays t z) (sym e) (record { constants = refl; started = λ file h. h })

and_true : (b : Bool) → b ≡ true → (b && true) ≡ true
and_true b e = ap (λ c. c && true) e

on_tray_noted : (f : Entry → Option (Unit {0})) (entry : Entry) (t : Tray) → f entry ≡ Some tt → t.log.constants.may entry ≡ true
    → OnTray (read f) t (after_entry entry t) (Ok tt)
unfolding AnswersCase read reading
on_tray_noted f entry t is may = record {
  at = λ queues. record {
    stays = noted_stays entry t (after_entry entry t) refl;
    by_case = record {
      entries = entry ∷ [];
      past = refl;
      only = and_true (t.log.constants.may entry) may;
      gives = λ rest. ap (λ o. reading o entry (record { tray = t; queues = queues }) rest) is;
    };
  };
}

-- the round of this number
found_if : (b : Bool) → b ≡ true → ◌≡◌ {A = Option (Unit {0})} (if b then Some tt else None) (Some tt)
found_if true e = refl
found_if false e = absurd cc

pub round_read : (number : ℕ) → a_round number (Round number) ≡ Some tt
round_read number = found_if (number == number) (eq-eqb number number refl)

-- the entry is read
pub runs_noted : (f : Entry → Option (Unit {0})) (entry : Entry) (t s : Tray) (u v : Used) (slots : List (Option Line))
    (mine : ℕ → ℕ)
    → f entry ≡ Some tt → t.log.constants.may entry ≡ true → s ≡ after_entry entry t → v ≡ u
    → Runs (read f) (world t u slots) (world s v slots) mine mine (Ok tt)
runs_noted f entry t s u v slots mine is may noted same =
    runs_left u v slots mine (subst (λ z. OnTray (read f) t z (Ok tt)) (sym noted) (on_tray_noted f entry t is may))
    (λ q. ap (λ g. g q) same)

-- memory was refused, and nothing changed
pub runs_refused : {R : Type 0} (m : Meaning R) (t s : Tray) (u v : Used) (slots : List (Option Line)) (mine after : ℕ → ℕ)
    (halt : Halt) → halt ≡ OutOfMemory → s ≡ t → v ≡ u → Runs m (world t u slots) (world s v slots) mine after (Err halt)
runs_refused {R} m t s u v slots mine after halt memory same used =
    let refused : OnTray m t s (Err halt) =
    subst (λ (h : Halt). OnTray m t s (Err h)) (sym memory)
    (tray_lost m (subst (λ z. Stays t z) (sym same) (stays_same t))) in
    let left = runs_left u v slots mine refused (λ q. ap (λ g. g q) used) in
    record { answers = left.answers; moves = λ x e. absurd cc }
