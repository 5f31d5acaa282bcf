-- Calls of a context one after the other, and a part that is repeated.
use Rattle.std.proofs.Common.{◌≡◌, ℕ, suc, ◌+◌, ◌-◌, ◌<◌, ◌≤◌, Bool, true, false, ◌∙◌, IsErrAnd, Result, Ok, Err, ap, subst, arith, if◌then◌else◌}
use Rattle.std.proofs.lemmas.Result.{err_from_is_err_and}
use Rattle.sn_app.specs.Answers.{OnTray, Stays}
use Rattle.sn_app.specs.Calls.{LeavesEnds}
use Rattle.sn_app.specs.Desk.{Tray, on_tray}
use Rattle.sn_app.specs.Reader.{Meaning, change, change_tray, pure, times, ◌>>=◌}
use Rattle.sn_app.specs.declared.halt.Halt.{Halt}
use Rattle.sn_app.specs.declared.halt.Halt.TheVariants.{OutOfMemory}
use Rattle.sn_app.proofs.Readings.{answers_bind, answers_changed, answers_fail, answers_lost, answers_pure}

pub tray_pure : {R : Type 0} (x : R) (t : Tray) → OnTray (pure x) t t (Ok x)
tray_pure x t = record { at = λ queues. answers_pure x (record { tray = t; queues = queues }) }

pub tray_bind : {R S : Type 0} {m : Meaning R} (k : R → Meaning S) {t u v : Tray} {x : R} {r : Result S Halt}
    → OnTray m t u (Ok x) → OnTray (k x) u v r → OnTray (m >>= k) t v r
tray_bind k f g = record { at = λ queues. answers_bind k (f.at queues) (g.at queues) }

pub tray_fail : {R S : Type 0} {m : Meaning R} (k : R → Meaning S) {t u : Tray} {h : Halt}
    → OnTray m t u (Err h) → OnTray (m >>= k) t u (Err h)
tray_fail k f = record { at = λ queues. answers_fail k (f.at queues) }

-- memory was refused
pub tray_lost : {R : Type 0} (m : Meaning R) {t u : Tray} → Stays t u → OnTray m t u (Err OutOfMemory)
tray_lost m stays = record { at = λ queues. answers_lost m stays }

abbrev pub err_of : {R : Type 0} → Halt → Result R Halt
err_of halt = Err halt

-- as a call answers it
pub halt_lost : {R : Type 0} (r : Result R Halt) → IsErrAnd r (λ halt. halt ≡ OutOfMemory) → r ≡ Err OutOfMemory
halt_lost {R} r e = let p = err_from_is_err_and r e in p.1 ∙ ap (err_of {R = R}) p.2

-- the tray changes, and its log doesn't
pub tray_changed : (f : Tray → Tray) (t : Tray) → (f t).log ≡ t.log → Stays t (f t) → OnTray (change_tray f) t (f t) (Ok tt)
unfolding change change_tray
tray_changed f t log stays = record {
  at = λ queues. answers_changed (on_tray f) (record { tray = t; queues = queues }) log stays;
}

pub leaves_then : {a b c : Tray} → LeavesEnds a b → LeavesEnds b c → LeavesEnds a c
leaves_then x y = record { constants = y.constants ∙ x.constants; files = y.files ∙ x.files; ends = y.ends ∙ x.ends }

-- A REPEATED PART: however what is left of it answers, so does the whole

pub record Leads {R : Type 0} (left whole : Meaning R) (start now : Tray) : Type 0 where
  pub ends : (later : Tray) (result : Result R Halt) → OnTray left now later result → OnTray whole start later result

pub leads_start : {R : Type 0} (m : Meaning R) (t : Tray) → Leads m m t t
leads_start m t = record { ends = λ later result call. call }

module _ (most turn : ℕ) (m : Meaning Bool) {start now : Tray} (l : Leads (times (most - turn) m) (times most m) start now) where
  -- the next one, and the others
  one_more : turn < most → Leads (times (suc (most - (turn + 1))) m) (times most m) start now
  one_more within =
      let more : most - turn ≡ suc (most - (turn + 1)) = omega (arith, within) in
      subst (λ n. Leads (times n m) (times most m) start now) more l

  pub leads_next : {next : Tray} → turn < most → OnTray m now next (Ok true)
      → Leads (times (most - (turn + 1)) m) (times most m) start next
  unfolding times
  leads_next within call = record {
    ends = λ later result rest. (one_more within).ends later result
        (tray_bind (λ on. if on then times (most - (turn + 1)) m else pure false) call rest);
  }

  pub leads_stop : {later : Tray} → turn < most → OnTray m now later (Ok false) → OnTray (times most m) start later (Ok false)
  unfolding times
  leads_stop {later} within call =
      (one_more within).ends later (Ok false)
      (tray_bind (λ on. if on then times (most - (turn + 1)) m else pure false) call (tray_pure false later))

  pub leads_fail : {later : Tray} (h : Halt) → turn < most → OnTray m now later (Err h)
      → OnTray (times most m) start later (Err h)
  unfolding times
  leads_fail {later} h within call =
      (one_more within).ends later (Err h) (tray_fail (λ on. if on then times (most - (turn + 1)) m else pure false) call)

  pub leads_done : most ≤ turn → OnTray (times most m) start now (Ok true)
  unfolding times
  leads_done past =
      let none : most - turn ≡ 0 = omega (arith, past) in
      (subst (λ n. Leads (times n m) (times most m) start now) none l).ends now (Ok true) (tray_pure true now)
