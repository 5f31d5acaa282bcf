-- A file is emptied to its header, and a record is added where it fits.
use Rattle.std.proofs.Common.{◌≡◌, ℕ, zero, suc, ◌<◌, ◌∙◌, Bool, true, false, List, [], ◌∷◌, length, get_or, set, Option, Some, None, is_some, IsTrue, Ok, Err, refl, sym, ap, arith, subst}
use Rattle.std.proofs.lemmas.List.{set-get_or}
use Rattle.sn_packet.specs.Packet.{PacketState}
use Rattle.sn_app.specs.Answers.{OnTray, Stays}
use Rattle.sn_app.specs.Desk.{Tray, file_appended, file_at, file_begun, has_room, with_file}
use Rattle.sn_app.specs.Outputs.{appended, fits_into}
use Rattle.sn_app.specs.Reader.{Meaning, pure}
use Rattle.sn_app.specs.Rows.{append_where, row_file_append, row_file_start}
use Rattle.sn_app.specs.declared.halt.Halt.TheVariants.{OutOfMemory}
use Rattle.sn_app.proofs.OnTrays.{tray_bind, tray_changed, tray_lost, tray_pure}
use Rattle.sn_app.proofs.Readings.{answers_look, stays_same}

-- a file that was started is there
pub started_within : (files : List (Option (List ℕ))) (file : ℕ) → IsTrue (is_some (get_or files file None)) → file < length files
started_within [] file h = absurd cc
started_within (first ∷ files) zero h = omega arith
started_within (first ∷ files) (suc file) h = omega (arith, started_within files file h)

-- files that were started stay so
still_started : (files : List (Option (List ℕ))) (file other : ℕ) (bytes : List ℕ) → IsTrue (is_some (get_or files other None))
    → IsTrue (is_some (get_or (set files file (Some bytes)) other None))
still_started [] file other bytes h = h
still_started (first ∷ files) zero zero bytes h = refl
still_started (first ∷ files) zero (suc other) bytes h = h
still_started (first ∷ files) (suc file) zero bytes h = h
still_started (first ∷ files) (suc file) (suc other) bytes h = still_started files file other bytes h

stays_filed : (t : Tray) (file : ℕ) (bytes : List ℕ) → Stays t (with_file file bytes t)
stays_filed t file bytes = record { constants = refl; started = λ other h. still_started t.files file other bytes h }

pub row_begun : (t : Tray) (file : ℕ) → OnTray (row_file_start file) t (file_begun file t) (Ok tt)
unfolding row_file_start
row_begun t file = tray_changed (file_begun file) t refl (stays_filed t file _)

-- the tray after a record was added, or where it had no room
pub filed : Bool → ℕ → PacketState → Tray → Tray
filed added file packet t = record t { files = set t.files file (appended added packet.bytes (file_at file t)) }

row_where : (added : Bool) (t : Tray) (file : ℕ) (packet : PacketState)
    → OnTray (append_where added file packet) t (filed added file packet t) (Ok added)
unfolding append_where filed
row_where true t file packet =
    tray_bind (λ done. pure true) (tray_changed (file_appended file packet) t refl (stays_filed t file _))
    (tray_pure true (file_appended file packet t))
row_where false t file packet =
    let same : t.files ≡ set t.files file (file_at file t) = sym (set-get_or t.files file None) in
    subst (λ files. OnTray (append_where false file packet) t (record t { files = files }) (Ok false)) same (tray_pure false t)

pub row_filed : (added : Bool) (t : Tray) (file : ℕ) (packet : PacketState) → added ≡ has_room file packet t
    → OnTray (row_file_append file packet) t (filed added file packet t) (Ok added)
unfolding row_file_append
row_filed added t file packet fits = record {
  at = λ queues. answers_look (λ d. append_where (has_room file packet d.tray) file packet)
      ((subst (λ room. OnTray (append_where room file packet) t (filed added file packet t) (Ok added)) fits
      (row_where added t file packet)).at queues);
}

-- memory was refused, and the file stays as it was
pub lost_filed : {R : Type 0} (m : Meaning R) (t : Tray) (file : ℕ) (bytes : Option (List ℕ)) → bytes ≡ file_at file t
    → OnTray m t (record t { files = set t.files file bytes }) (Err OutOfMemory)
lost_filed m t file bytes same =
    let kept : t.files ≡ set t.files file bytes = sym (ap (set t.files file) same ∙ set-get_or t.files file None) in
    tray_lost m (subst (λ files. Stays t (record t { files = files })) kept (stays_same t))

-- a record was added, or had no room
pub row_added : (added : Bool) (t : Tray) (file : ℕ) (packet : PacketState) (payload : List ℕ) (before after : Option (List ℕ))
    → before ≡ file_at file t → payload ≡ packet.bytes → added ≡ fits_into before payload → after ≡ appended added payload before
    → OnTray (row_file_append file packet) t (record t { files = set t.files file after }) (Ok added)
unfolding filed
row_added added t file packet payload before after there same fits writes =
    let room : added ≡ has_room file packet t = fits ∙ (ap (fits_into before) same ∙ ap (λ f. fits_into f packet.bytes) there) in
    let now : appended added packet.bytes (file_at file t) ≡ after =
    sym (writes ∙ (ap (λ b. appended added b before) same ∙ ap (appended added packet.bytes) there)) in
    subst (λ f. OnTray (row_file_append file packet) t (record t { files = set t.files file f }) (Ok added)) now
    (row_filed added t file packet room)
