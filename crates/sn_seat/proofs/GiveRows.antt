-- The rows of hearing and of giving back, over a seat's trays.
use Rattle.std.proofs.Common.{◌≡◌, ℕ, ◌+◌, ◌==◌, ◌∷◌, ◌∙◌, Bool, true, false, [], Some, Ok, Err}
use Rattle.std.proofs.Common.{cond, refl, sym, ap, subst}
use Rattle.std.proofs.lemmas.Bool.{and_from, eq-eqb}
use Rattle.sn_journal.specs.HandOvers.{PacketName}
use Rattle.sn_journal.specs.declared.entry.Entry.{Entry}
use Rattle.sn_journal.specs.declared.entry.Entry.TheVariants.{Full, Gave, Hear, Worn}
use Rattle.sn_packet.specs.Packet.{PacketState, highest_turn}
use Rattle.sn_app.specs.Answers.{AnswersCase, OnTray}
use Rattle.sn_app.specs.Desk.{name_of, Tray, after_entry, giving, given_in, nothing, with_pending, worded}
use Rattle.sn_app.specs.Gates.{gate_by, gate_in, stands}
use Rattle.sn_app.specs.Reader.{Meaning, change_tray, done, go_on, pure, read, read_if, reading, reading_if, ◌>>=◌}
use Rattle.sn_app.specs.Rows.{a_gave, a_hear, a_worn, give_where, given, is_full_entry, row_give, row_hear}
use Rattle.sn_app.specs.declared.halt.Halt.{Halt}
use Rattle.sn_app.proofs.OnTrays.{tray_bind, tray_fail, tray_pure}
use Rattle.sn_app.proofs.Playing.{desk}
use Rattle.sn_app.proofs.Readings.{answers_at}
use Rattle.sn_seat.specs.GiveSteps.{gave_entry, is_done, is_worn_gave}
use Rattle.sn_seat.specs.Settling.{a_given_back, fresh_given, gives_back, worn_given}
use Rattle.sn_seat.specs.declared.gave.Gave.{Gave as GaveAnswer}
use Rattle.sn_seat.specs.declared.gave.Gave.TheVariants as answer
use Rattle.sn_seat.proofs.AttachRows.{assoc_at}
use Rattle.sn_seat.proofs.LaneRows.{tray_read}

-- HEARING

pub hear_reads : {t u v : Tray} (n : ℕ) → OnTray (gate_by true) t u (Ok tt) → u.log.constants.may (Hear n) ≡ true
    → v ≡ after_entry (Hear n) u → OnTray row_hear t v (Ok n)
unfolding row_hear gate_in stands
hear_reads {t} {u} n gated may now =
    subst (λ z. OnTray row_hear t z (Ok n)) (sym now)
    (tray_bind (λ x. read a_hear) gated (tray_read a_hear u (Hear n) n refl may))

pub hear_fails : {t u : Tray} {halt : Halt} → OnTray (gate_by true) t u (Err halt) → OnTray row_hear t u (Err halt)
unfolding row_hear gate_in stands
hear_fails gated = tray_fail (λ x. read a_hear) gated

-- GIVING BACK

-- a worn packet
pub worn_reads : (t v : Tray) (name : PacketName) → (name.1 == highest_turn) ≡ true → t.log.constants.may
    (Worn name.0 name.1) ≡ true
    → v ≡ after_entry (Worn name.0 name.1) t → OnTray (row_give name) t v (Ok false)
unfolding row_give give_where
worn_reads t v name is may now =
    subst (λ b. OnTray (give_where b name) t v (Ok false)) (sym is)
    (subst (λ z. OnTray (give_where true name) t z (Ok false)) (sym now)
    (tray_bind (λ x. pure false) (tray_read (a_worn name) t (Worn name.0 name.1) tt told may)
    (tray_pure false (after_entry (Worn name.0 name.1) t))))
  where
    told : a_worn name (Worn name.0 name.1) ≡ Some tt
    told = rw (eq-eqb name.0 name.0 refl, eq-eqb name.1 name.1 refl) refl

-- what follows the gate
abbrev pub row_claimed : PacketName → Meaning Bool
row_claimed name = read_if (is_full_entry name) >>= given name

-- the group had no room
full_reads : (u v : Tray) (name : PacketName) → u.log.constants.may (Full name.0 name.1) ≡ true
    → v ≡ after_entry (Full name.0 name.1) u → OnTray (row_claimed name) u v (Ok false)
unfolding AnswersCase given pure ◌>>=◌ go_on read_if reading_if
full_reads u v name may now =
    subst (λ z. OnTray (row_claimed name) u z (Ok false)) (sym now) (record {
      at = λ queues. record {
        stays = record { constants = refl; started = λ file h. h };
        by_case = record {
          entries = Full name.0 name.1 ∷ [];
          past = refl;
          only = and_from (u.log.constants.may (Full name.0 name.1)) true may refl;
          gives = λ rest. ap (λ b. go_on (reading_if b (Full name.0 name.1) (desk u queues) rest) (given name)) is;
        };
      };
    })
  where
    is : is_full_entry name (Full name.0 name.1) ≡ true
    is = rw (eq-eqb name.0 name.0 refl, eq-eqb name.1 name.1 refl) refl

-- it is given
done_reads : (u v : Tray) (name : PacketName) → u.pending ≡ nothing → u.log.constants.may (Gave name.0 (name.1 + 1)) ≡ true
    → v ≡ after_entry (Gave name.0 (name.1 + 1)) u → OnTray (row_claimed name) u v (Ok true)
unfolding AnswersCase given pure ◌>>=◌ go_on read_if reading_if gate_in gate_by stands change_tray read reading
done_reads u v name none may now =
    subst (λ z. OnTray (row_claimed name) u z (Ok true)) (sym now) (record {
      at = λ queues. record {
        stays = record { constants = refl; started = λ file h. h };
        by_case = record {
          entries = entry ∷ [];
          past = refl;
          only = and_from (u.log.constants.may entry) true may refl;
          gives = λ rest.
              ap (λ o. go_on (go_on (reading o entry (desk w queues) rest) (λ x. change_tray (with_pending nothing)))
              (λ x. pure true)) told
              ∙ ap (λ p. done true (desk (record (after_entry entry u) { pending = p }) queues) rest) (sym none);
        };
      };
    })
  where
    entry : Entry
    entry = Gave name.0 (name.1 + 1)

    w : Tray
    w = with_pending (worded name) (with_pending (given_in name) (with_pending (giving name) u))

    told : a_gave name (Gave name.0 (name.1 + 1)) ≡ Some tt
    told = rw (eq-eqb name.0 name.0 refl, eq-eqb (name.1 + 1) (name.1 + 1) refl) refl

-- the whole row of a packet that isn't worn
gate_then : {t u v : Tray} (name : PacketName) (given_back : Bool) → (name.1 == highest_turn) ≡ false → OnTray
    (gate_by true) t u (Ok tt)
    → OnTray (row_claimed name) u v (Ok given_back) → OnTray (row_give name) t v (Ok given_back)
unfolding row_give give_where gate_in stands
gate_then {t} {u} {v} name given_back fresh gated rest =
    subst (λ b. OnTray (give_where b name) t v (Ok given_back)) (sym fresh) (record {
      at = λ queues. answers_at (λ es. assoc_at (gate_by true) (read_if (is_full_entry name)) (given name) _ es)
          ((tray_bind (λ x. row_claimed name) gated rest).at queues);
    })

pub give_fails : {t u : Tray} {halt : Halt} (name : PacketName) → (name.1 == highest_turn) ≡ false
    → OnTray (gate_by true) t u (Err halt) → OnTray (row_give name) t u (Err halt)
unfolding row_give give_where gate_in stands
give_fails {t} {u} {halt} name fresh gated =
    subst (λ b. OnTray (give_where b name) t u (Err halt)) (sym fresh)
    (tray_fail (given name) (tray_fail (λ x. read_if (is_full_entry name)) gated))

pub give_reads : {t u v : Tray} (packet : PacketState) (gave : GaveAnswer) → (packet.turn == highest_turn) ≡ false
    → OnTray (gate_by true) t u (Ok tt) → u.pending ≡ nothing → ((entry : Entry) → u.log.constants.may entry ≡ true)
    → is_worn_gave gave ≡ false → v ≡ after_entry (gave_entry packet gave) u
    → OnTray (row_give (name_of packet)) t v (Ok (is_done gave))
give_reads {t} {u} {v} packet answer.Done fresh gated none may not_worn now =
    gate_then (name_of packet) true fresh gated
    (done_reads u v (name_of packet) none (may (Gave packet.number (packet.turn + 1))) now)
give_reads {t} {u} {v} packet answer.Full fresh gated none may not_worn now =
    gate_then (name_of packet) false fresh gated (full_reads u v (name_of packet) (may (Full packet.number packet.turn)) now)
give_reads packet answer.Worn fresh gated none may not_worn now = absurd cc

-- IN A RECLAMATION

back_told : (packet : PacketState) (gave : GaveAnswer) → is_worn_gave gave ≡ false
    → fresh_given (name_of packet) (gave_entry packet gave) ≡ Some (is_done gave)
back_told packet answer.Done fresh = rw (eq-eqb packet.number packet.number refl, eq-eqb (packet.turn + 1) (packet.turn + 1) refl)
    refl
back_told packet answer.Full fresh = rw (eq-eqb packet.number packet.number refl, eq-eqb packet.turn packet.turn refl) refl
back_told packet answer.Worn fresh = absurd cc

-- a packet that isn't worn
pub back_reads : (u v : Tray) (packet : PacketState) (gave : GaveAnswer) → (packet.turn == highest_turn) ≡ false
    → ((entry : Entry) → u.log.constants.may entry ≡ true) → is_worn_gave gave ≡ false
    → v ≡ after_entry (gave_entry packet gave) u → OnTray (gives_back (name_of packet)) u v (Ok (is_done gave))
unfolding gives_back
back_reads u v packet gave fresh may not_worn now =
    subst (λ z. OnTray (read (a_given_back (name_of packet))) u z (Ok (is_done gave))) (sym now)
    (tray_read (a_given_back (name_of packet)) u (gave_entry packet gave) (is_done gave) told (may (gave_entry packet gave)))
  where
    told : a_given_back (name_of packet) (gave_entry packet gave) ≡ Some (is_done gave)
    told =
        ap (λ b. cond b (worn_given (name_of packet) (gave_entry packet gave)) (fresh_given (name_of packet)
        (gave_entry packet gave))) fresh
        ∙ back_told packet gave not_worn

-- a worn packet
pub worn_back_reads : (u v : Tray) (packet : PacketState) → (packet.turn == highest_turn) ≡ true
    → u.log.constants.may (gave_entry packet answer.Worn) ≡ true → v ≡ after_entry (gave_entry packet answer.Worn) u
    → OnTray (gives_back (name_of packet)) u v (Ok false)
unfolding gives_back
worn_back_reads u v packet is may now =
    subst (λ z. OnTray (read (a_given_back (name_of packet))) u z (Ok false)) (sym now)
    (tray_read (a_given_back (name_of packet)) u (gave_entry packet answer.Worn) false told may)
  where
    told : a_given_back (name_of packet) (gave_entry packet answer.Worn) ≡ Some false
    told =
        rw (is, eq-eqb packet.number packet.number refl, eq-eqb packet.turn packet.turn refl) refl
