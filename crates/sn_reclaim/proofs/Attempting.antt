-- The reading of an attempt, by its parts.
use Rattle.std.proofs.Common.{◌≡◌, ◌∙◌, [], OnErr, OnOk, Result, Ok, Err, ap, refl, subst}
use Rattle.sn_app.specs.Answers.{OnTray}
use Rattle.sn_app.specs.Desk.{Tray}
use Rattle.sn_app.specs.Reader.{Meaning, repeated}
use Rattle.sn_app.specs.declared.halt.Halt.{Halt}
use Rattle.sn_app.specs.declared.halt.Halt.TheVariants.{OutOfMemory}
use Rattle.sn_app.proofs.OnTrays.{tray_bind, tray_changed}
use Rattle.sn_seat.specs.Settling.{LeavesFiles, settles_lanes}
use Rattle.sn_reclaim.specs.Attempts.{attempt, give_or_end}

pub attempt_reads : {t u v : Tray} {r : Result Unit Halt} → OnTray settles_lanes (record t { free = [] }) u (Ok tt)
    → OnTray (repeated give_or_end) u v r → OnTray attempt t v r
unfolding attempt
attempt_reads {t} settled given =
    tray_bind (λ x. repeated give_or_end)
    (tray_bind (λ x. settles_lanes)
    (tray_changed (λ a. record a { free = [] }) t refl (record { constants = refl; started = λ file h. h })) settled)
    given

-- the ends were settled, after no packet was free
pub settled_from : (t : Tray) {m v : Tray} {r : Result Unit Halt} → m ≡ record t { free = [] } → OnTray settles_lanes m v r
    → OnTray settles_lanes (record t { free = [] }) v r
settled_from t {v = v} {r} now f = subst (λ z. OnTray settles_lanes z v r) now f

pub refused_as : {R : Type 0} {m : Meaning R} {t v : Tray} {h : Halt} → h ≡ OutOfMemory → OnTray m t v (Err h)
    → OnTray m t v (Err OutOfMemory)
refused_as {m = m} {t} {v} is f = subst (λ z. OnTray m t v (Err z)) is f

pub files_from : (t : Tray) {m v : Tray} → m ≡ record t { free = [] } → LeavesFiles m v → LeavesFiles t v
files_from t now l = record {
  constants = l.constants ∙ ap (λ (z : Tray). z.log.constants) now;
  files = l.files ∙ ap (λ (z : Tray). z.files) now;
}

-- a fact for one outcome
pub on_ok_then : {T E A B : Type 0} (r : Result T E) → (A → B) → OnOk r A → OnOk r B
on_ok_then (Ok x) f h = f h
on_ok_then (Err e) f h = h

pub on_err_then : {T E A B : Type 0} (r : Result T E) → (A → B) → OnErr r A → OnErr r B
on_err_then (Ok x) f h = h
on_err_then (Err e) f h = f h
