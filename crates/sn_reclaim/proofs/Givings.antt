-- The readings of givings, and of the end of a reclamation.
use Rattle.std.proofs.Common.{◌≡◌, ◌∙◌, ◌==◌, ◌∷◌, ◌+◌, ℕ, true, false, [], length, IsTrue, OnErr, OnOk, Result, Ok, Err}
use Rattle.std.proofs.Common.{ap, length-append, refl, subst, sym}
use Rattle.std.proofs.lemmas.Bool.{and_from}
use Rattle.std.specs.Prelude.{is_some, slice_index_or, None}
use Rattle.std.specs.declared.alloc.AllocError.{AllocError}
use Rattle.sn_journal.specs.HandOvers.{PacketName}
use Rattle.sn_journal.specs.declared.entry.Entry.{Entry}
use Rattle.sn_journal.specs.declared.entry.Entry.TheVariants.{Gave, Full, Worn, Reclaimed}
use Rattle.sn_packet.specs.Packet.{PacketState, highest_turn}
use Rattle.sn_app.specs.Answers.{AnswersCase, OnTray}
use Rattle.sn_app.specs.Calls.{LeavesEnds}
use Rattle.sn_app.specs.Desk.{Tray, after_entry, freed, name_of}
use Rattle.sn_app.specs.Reader.{Meaning, change_tray, go_on, pure, read, read_if, reading, reading_if, repeated, ◌>>=◌}
use Rattle.sn_app.specs.Rows.{frees}
use Rattle.sn_app.specs.declared.halt.Halt.TheVariants.{OutOfMemory}
use Rattle.sn_app.specs.World.{Used, packet_at}
use Rattle.sn_app.proofs.OnTrays.{leaves_then, tray_lost}
use Rattle.sn_seat.specs.GiveSteps.{gave_entry, used_after}
use Rattle.sn_seat.specs.Settling.{LeavesFiles}
use Rattle.sn_seat.specs.declared.gave.Gave.{Gave as GaveAnswer}
use Rattle.sn_seat.specs.declared.gave.Gave.TheVariants as answer
use Rattle.sn_seat.proofs.Again.{Repeats, repeat_last}
use Rattle.sn_reclaim.specs.Attempts.{as_unit, give_on, give_or_end, keeps}

-- memory was refused
pub lost_files : {R : Type 0} (m : Meaning R) {t u : Tray} → LeavesFiles t u → OnTray m t u (Err OutOfMemory)
lost_files m leaves = tray_lost m (record {
  constants = leaves.constants;
  started = λ file h. subst (λ files. IsTrue (is_some (slice_index_or files file None))) (sym leaves.files) h;
})

pub lost_ends : {R : Type 0} (m : Meaning R) {t u : Tray} → LeavesEnds t u → OnTray m t u (Err OutOfMemory)
lost_ends m leaves = lost_files m (record { constants = leaves.constants; files = leaves.files })

module _ (t v : Tray) (may : (entry : Entry) → t.log.constants.may entry ≡ true) where
  pub done_reads : (packet : PacketState) → v ≡ after_entry (Gave packet.number (packet.turn + 1)) t
      → OnTray give_or_end t v (Ok true)
  unfolding AnswersCase give_or_end give_on ◌>>=◌ go_on read_if reading_if read reading keeps pure
  done_reads packet now = subst (λ z. OnTray give_or_end t z (Ok true)) (sym now) (record {
    at = λ queues. record {
      stays = record { constants = refl; started = λ file h. h };
      by_case = record {
        entries = Gave packet.number (packet.turn + 1) ∷ [];
        past = refl;
        only = and_from (t.log.constants.may (Gave packet.number (packet.turn + 1))) true (may _) refl;
        gives = λ rest. refl;
      };
    };
  })

  pub full_reads : (packet : PacketState) → v ≡ freed (name_of packet) (after_entry (Full packet.number packet.turn) t)
      → OnTray give_or_end t v (Ok true)
  unfolding AnswersCase give_or_end give_on ◌>>=◌ go_on read_if reading_if read reading keeps frees change_tray pure
  full_reads packet now = subst (λ z. OnTray give_or_end t z (Ok true)) (sym now) (record {
    at = λ queues. record {
      stays = record { constants = refl; started = λ file h. h };
      by_case = record {
        entries = Full packet.number packet.turn ∷ [];
        past = refl;
        only = and_from (t.log.constants.may (Full packet.number packet.turn)) true (may _) refl;
        gives = λ rest. refl;
      };
    };
  })

  pub worn_reads : (packet : PacketState) → (packet.turn == highest_turn) ≡ true
      → v ≡ freed (name_of packet) (after_entry (Worn packet.number packet.turn) t) → OnTray give_or_end t v (Ok true)
  unfolding AnswersCase give_or_end give_on ◌>>=◌ go_on read_if reading_if read reading keeps frees change_tray pure
  worn_reads packet worn now = subst (λ z. OnTray give_or_end t z (Ok true)) (sym now) (record {
    at = λ queues. record {
      stays = record { constants = refl; started = λ file h. h };
      by_case = record {
        entries = Worn packet.number packet.turn ∷ [];
        past = refl;
        only = and_from (t.log.constants.may (Worn packet.number packet.turn)) true (may _) refl;
        gives = λ rest. rw worn refl;
      };
    };
  })

  pub end_reads : v ≡ after_entry Reclaimed t → OnTray give_or_end t v (Ok false)
  unfolding AnswersCase give_or_end give_on ◌>>=◌ go_on read_if reading_if pure
  end_reads now = subst (λ z. OnTray give_or_end t z (Ok false)) (sym now) (record {
    at = λ queues. record {
      stays = record { constants = refl; started = λ file h. h };
      by_case = record {
        entries = Reclaimed ∷ [];
        past = refl;
        only = and_from (t.log.constants.may Reclaimed) true (may _) refl;
        gives = λ rest. refl;
      };
    };
  })

-- a packet that wasn't given becomes free
used_same : {u v : Used} {gave kept : GaveAnswer} (place : ℕ) → used_after place kept u ≡ u → v ≡ used_after place gave u
    → gave ≡ kept → v ≡ u
used_same {u} place same now is = now ∙ (ap (λ g. used_after place g u) is ∙ same)

pub used_full : {u v : Used} {gave : GaveAnswer} (place : ℕ) → v ≡ used_after place gave u → gave ≡ answer.Full → v ≡ u
used_full place now is = used_same place refl now is

pub used_worn : {u v : Used} {gave : GaveAnswer} (place : ℕ) → v ≡ used_after place gave u → gave ≡ answer.Worn → v ≡ u
used_worn place now is = used_same place refl now is

pub noted_as : (t : Tray) {v : Tray} {gave kept : GaveAnswer} (packet : PacketState) → v ≡ after_entry (gave_entry packet gave) t
    → gave ≡ kept → v ≡ after_entry (gave_entry packet kept) t
noted_as t packet now is = now ∙ ap (λ g. after_entry (gave_entry packet g) t) is

pub freed_after : (t m : Tray) {v : Tray} {u w : Used} (place : ℕ) (entry : Entry)
    → v ≡ freed (name_of (packet_at w place)) m → w ≡ u → m ≡ after_entry entry t
    → v ≡ freed (name_of (packet_at u place)) (after_entry entry t)
freed_after t m {u = u} place entry now same noted =
    now ∙ (ap (λ z. freed (name_of (packet_at z place)) m) same ∙ ap (freed (name_of (packet_at u place))) noted)

pub one_more : (t : Tray) {v : Tray} (name : PacketName) (entry : Entry) → v ≡ freed name (after_entry entry t)
    → length v.log.past ≡ length t.log.past + 1
one_more t name entry now = ap (λ (z : Tray). length z.log.past) now ∙ length-append t.log.past (entry ∷ [])

pub leaves_freed : (t : Tray) {v : Tray} (name : PacketName) (entry : Entry) → v ≡ freed name (after_entry entry t)
    → LeavesEnds t v
leaves_freed t name entry now =
    subst (λ z. LeavesEnds t z) (sym now) (record { constants = refl; files = refl; ends = refl })

-- the reclamation ended, or memory was refused
pub ended : (start now v : Tray) (r : Result Unit AllocError) → ((entry : Entry) → now.log.constants.may entry ≡ true)
    → Repeats give_or_end start now → LeavesEnds start now → OnOk r (v ≡ after_entry Reclaimed now) → OnErr r (v ≡ now)
    → OnTray (repeated give_or_end) start v (as_unit r)
ended start now v (Ok x) may before leaves noted refused =
    before.ends v (Ok tt) tt (repeat_last give_or_end (end_reads now v may noted))
ended start now v (Err e) may before leaves noted refused =
    lost_ends (repeated give_or_end) (subst (λ z. LeavesEnds start z) (sym refused) leaves)

pub ended_leaves : (start now v : Tray) (r : Result Unit AllocError) → LeavesEnds start now
    → OnOk r (v ≡ after_entry Reclaimed now) → OnErr r (v ≡ now) → LeavesEnds start v
ended_leaves start now v (Ok x) leaves noted refused =
    leaves_then leaves (subst (λ z. LeavesEnds now z) (sym noted) (record { constants = refl; files = refl; ends = refl }))
ended_leaves start now v (Err e) leaves noted refused = subst (λ z. LeavesEnds start z) (sym refused) leaves
