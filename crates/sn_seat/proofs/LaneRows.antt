-- The rows of calls at ends that are up, over a seat's trays.
use Rattle.std.proofs.Common.{◌≡◌, ℕ, ◌+◌, ◌<◌, ◌≤◌, ◌==◌, ◌∷◌, ◌∙◌, true, false, List, [], length, Option, Some, Result, Ok}
use Rattle.std.proofs.Common.{Err, refl, sym, ap, subst, append-nil, bytes_eq}
use Rattle.std.proofs.lemmas.Bool.{and_from, eq-eqb, le-leb, lt-ltb}
use Rattle.sn_core.specs.declared.events.Side.{Side}
use Rattle.sn_core.specs.declared.events.Side.TheVariants.{Tx, Rx}
use Rattle.sn_journal.specs.declared.entry.Entry.{Entry}
use Rattle.sn_journal.specs.declared.entry.Entry.TheVariants.{Seen, Room, Take, Stop}
use Rattle.sn_packet.specs.Packet.{PacketState, highest_turn, most_bytes, most_packets}
use Rattle.sn_app.specs.Answers.{AnswersCase, OnTray}
use Rattle.sn_app.specs.Calls.{LeavesOtherEnds}
use Rattle.sn_app.specs.Desk.{End, Tray, after_entry, all_published, all_released, change_end, gate_passed, set_end, with_end}
use Rattle.sn_app.specs.Desk.{with_known, with_laid, with_taken}
use Rattle.sn_app.specs.Gates.{gate_by, gate_in, stands}
use Rattle.sn_app.specs.Reader.{Meaning, change_tray, pure, read, reading}
use Rattle.sn_app.specs.Rows.{a_put, a_room, a_seen, a_take, learned, row_look, row_put, row_room, row_take, took}
use Rattle.sn_app.specs.declared.halt.Halt.{Halt}
use Rattle.sn_app.specs.declared.halt.Halt.TheVariants.{Stopped, OutOfMemory}
use Rattle.sn_app.proofs.OnTrays.{tray_bind, tray_changed, tray_fail, tray_lost, tray_pure}
use Rattle.sn_app.proofs.OtherEnds.{change_twice, only_end, set_end_at, set_end_kept}
use Rattle.sn_seat.specs.GateSteps.{GateStep, Passed}
use Rattle.sn_seat.specs.PacketSteps.{put_entry}
use Rattle.sn_seat.specs.Trays.{seat_tray}
use Rattle.sn_seat.specs.declared.seat.Seat.{Seat}

-- PIECES OF ROWS

bytes_self : (bytes : List ℕ) → bytes_eq bytes bytes ≡ true
bytes_self [] = refl
bytes_self (b ∷ bytes) = and_from (b == b) (bytes_eq bytes bytes) (eq-eqb b b refl) (bytes_self bytes)

-- an entry is read
pub tray_read : {R : Type 0} (f : Entry → Option R) (t : Tray) (entry : Entry) (x : R) → f entry ≡ Some x
    → t.log.constants.may entry ≡ true → OnTray (read f) t (after_entry entry t) (Ok x)
unfolding AnswersCase read reading
tray_read f t entry x told may = record {
  at = λ queues. record {
    stays = record { constants = refl; started = λ file h. h };
    by_case = record {
      entries = entry ∷ [];
      past = refl;
      only = and_from (t.log.constants.may entry) true may refl;
      gives = λ rest. ap (λ o. reading o entry (record { tray = t; queues = queues }) rest) told;
    };
  };
}

-- a gate that doesn't stand
pub tray_skip : (t : Tray) → OnTray (gate_by false) t t (Ok tt)
unfolding AnswersCase gate_by
tray_skip t = record {
  at = λ queues. record {
    stays = record { constants = refl; started = λ file h. h };
    by_case = record { entries = []; past = sym (append-nil t.log.past); only = refl; gives = λ rest. refl };
  };
}

-- LOOK AND ROOM

seen_told : (lane n : ℕ) → n ≤ 1023 → a_seen lane (Seen lane n) ≡ Some n
seen_told lane n few = rw (eq-eqb lane lane refl, le-leb n 1023 few) refl

room_told : (lane n : ℕ) → n ≤ 1023 → a_room lane (Room lane n) ≡ Some n
room_told lane n few = rw (eq-eqb lane lane refl, le-leb n 1023 few) refl

module _ {t u v : Tray} (gated : OnTray (gate_by true) t u (Ok tt)) where
  pub look_reads : (lane n : ℕ) → u.log.constants.may (Seen lane n) ≡ true → n ≤ 1023
      → v ≡ with_end lane Rx (with_known n (u.ends lane Rx)) (after_entry (Seen lane n) u) → OnTray (row_look lane) t v (Ok n)
  unfolding row_look gate_in stands learned
  look_reads lane n may few now =
      subst (λ z. OnTray (row_look lane) t z (Ok n)) (sym now)
      (tray_bind (learned lane Rx)
      (tray_bind (λ x. read (a_seen lane)) gated (tray_read (a_seen lane) u (Seen lane n) n (seen_told lane n few) may))
      (tray_bind (λ x. pure n)
      (tray_changed (change_end lane Rx (with_known n)) (after_entry (Seen lane n) u) refl
      (record { constants = refl; started = λ file h. h }))
      (tray_pure n (with_end lane Rx (with_known n (u.ends lane Rx)) (after_entry (Seen lane n) u)))))

  pub room_reads : (lane n : ℕ) → u.log.constants.may (Room lane n) ≡ true → n ≤ 1023
      → v ≡ with_end lane Tx (with_known n (u.ends lane Tx)) (after_entry (Room lane n) u) → OnTray (row_room lane) t v (Ok n)
  unfolding row_room gate_in stands learned
  room_reads lane n may few now =
      subst (λ z. OnTray (row_room lane) t z (Ok n)) (sym now)
      (tray_bind (learned lane Tx)
      (tray_bind (λ x. read (a_room lane)) gated (tray_read (a_room lane) u (Room lane n) n (room_told lane n few) may))
      (tray_bind (λ x. pure n)
      (tray_changed (change_end lane Tx (with_known n)) (after_entry (Room lane n) u) refl
      (record { constants = refl; started = λ file h. h }))
      (tray_pure n (with_end lane Tx (with_known n (u.ends lane Tx)) (after_entry (Room lane n) u)))))

module _ {t u : Tray} {halt : Halt} (gated : OnTray (gate_by true) t u (Err halt)) where
  pub look_fails : (lane : ℕ) → OnTray (row_look lane) t u (Err halt)
  unfolding row_look gate_in stands
  look_fails lane = tray_fail (learned lane Rx) (tray_fail (λ x. read (a_seen lane)) gated)

  pub room_fails : (lane : ℕ) → OnTray (row_room lane) t u (Err halt)
  unfolding row_room gate_in stands
  room_fails lane = tray_fail (learned lane Tx) (tray_fail (λ x. read (a_room lane)) gated)

  pub take_fails : (lane : ℕ) → OnTray (row_take lane) t u (Err halt)
  unfolding row_take gate_in stands
  take_fails lane = tray_fail (took lane) (tray_fail (λ x. read (a_take lane)) gated)

  pub put_fails : (lane : ℕ) (packet : PacketState) → OnTray (row_put lane packet) t u (Err halt)
  unfolding row_put gate_in stands
  put_fails lane packet =
      tray_fail (λ x. change_tray (change_end lane Tx all_published))
      (tray_fail (λ x. read (a_put lane packet))
      (tray_fail (λ x. gate_by false) (tray_fail (λ x. change_tray (change_end lane Tx (with_laid packet))) gated)))

-- TAKE

-- the tray after one end changed
abbrev pub after_step : ℕ → Side → End → Entry → Tray → Tray
after_step lane side end entry u = with_end lane side end (after_entry entry u)

take_told : (lane at : ℕ) (packet : PacketState) → packet.number < most_packets → packet.turn ≤ highest_turn
    → length packet.bytes ≤ most_bytes
    → a_take lane (Take lane at packet.number packet.turn packet.bytes) ≡ Some packet
take_told lane at packet number turn bytes =
    rw (
      eq-eqb lane lane refl,
      lt-ltb packet.number most_packets number,
      le-leb packet.turn highest_turn turn,
      le-leb (length packet.bytes) most_bytes bytes,
    ) refl

put_told : (lane at : ℕ) (packet : PacketState) → a_put lane packet (put_entry lane at packet) ≡ Some tt
put_told lane at packet =
    rw (
      eq-eqb lane lane refl,
      eq-eqb packet.number packet.number refl,
      eq-eqb (packet.turn + 1) (packet.turn + 1) refl,
      bytes_self packet.bytes,
    ) refl

module _ {t u v : Tray} (gated : OnTray (gate_by true) t u (Ok tt)) (lane at : ℕ) (packet : PacketState) where
  pub take_reads : packet.number < most_packets → packet.turn ≤ highest_turn → length packet.bytes ≤ most_bytes
      → u.log.constants.may (Take lane at packet.number packet.turn packet.bytes) ≡ true
      → v ≡ after_step lane Rx (all_released (with_taken (u.ends lane Rx)))
      (Take lane at packet.number packet.turn packet.bytes) u
      → OnTray (row_take lane) t v (Ok packet)
  unfolding row_take gate_in stands took
  take_reads number turn bytes may now =
      let entry : Entry = Take lane at packet.number packet.turn packet.bytes in
      let read_it : Tray = after_entry entry u in
      let taken : Tray = change_end lane Rx with_taken read_it in
      let end : Tray = change_end lane Rx all_released taken in
      let same : end ≡ after_step lane Rx (all_released (with_taken (u.ends lane Rx))) entry u =
      ap (λ es. record read_it { ends = es }) (change_twice lane Rx with_taken all_released u.ends) in
      subst (λ z. OnTray (row_take lane) t z (Ok packet)) (same ∙ sym now)
      (tray_bind (took lane)
      (tray_bind (λ x. read (a_take lane)) gated
      (tray_read (a_take lane) u entry packet (take_told lane at packet number turn bytes) may))
      (tray_bind (λ x. pure packet)
      (tray_bind (λ x. change_tray (change_end lane Rx all_released))
      (tray_bind (λ x. gate_by false)
      (tray_changed (change_end lane Rx with_taken) read_it refl (record { constants = refl; started = λ file h. h }))
      (tray_skip taken))
      (tray_changed (change_end lane Rx all_released) taken refl (record { constants = refl; started = λ file h. h })))
      (tray_pure packet end)))

  -- PUT

  pub put_reads : u.log.constants.may (put_entry lane at packet) ≡ true
      → v ≡ after_step lane Tx (all_published (with_laid packet (u.ends lane Tx))) (put_entry lane at packet) u
      → OnTray (row_put lane packet) t v (Ok tt)
  unfolding row_put gate_in stands
  put_reads may now =
      let entry : Entry = put_entry lane at packet in
      let laid : Tray = change_end lane Tx (with_laid packet) u in
      let read_it : Tray = after_entry entry laid in
      let end : Tray = change_end lane Tx all_published read_it in
      let same : end ≡ after_step lane Tx (all_published (with_laid packet (u.ends lane Tx))) entry u =
      ap (λ es. record (after_entry entry u) { ends = es }) (change_twice lane Tx (with_laid packet) all_published u.ends) in
      subst (λ z. OnTray (row_put lane packet) t z (Ok tt)) (same ∙ sym now)
      (tray_bind (λ x. change_tray (change_end lane Tx all_published))
      (tray_bind (λ x. read (a_put lane packet))
      (tray_bind (λ x. gate_by false)
      (tray_bind (λ x. change_tray (change_end lane Tx (with_laid packet))) gated
      (tray_changed (change_end lane Tx (with_laid packet)) u refl (record { constants = refl; started = λ file h. h })))
      (tray_skip laid))
      (tray_read (a_put lane packet) laid entry tt (put_told lane at packet) may))
      (tray_changed (change_end lane Tx all_published) read_it refl (record { constants = refl; started = λ file h. h })))

-- WHAT STAYS

-- a gate leaves all but the log and its own count
pub leaves_gated : (lane : ℕ) (side : Side) (captures : List (List ℕ)) (old new : Seat) (result : Result Unit Halt)
    → GateStep old result new → LeavesOtherEnds lane side (seat_tray captures old) (seat_tray captures new)
leaves_gated lane side captures old new (Ok on) step = by (seat_tray captures old) (seat_tray captures new) (step.tray captures)
  where
    by : (t u : Tray) → u ≡ gate_passed t → LeavesOtherEnds lane side t u
    by t u now = subst (λ z. LeavesOtherEnds lane side t z) (sym now)
        (record { constants = refl; files = refl; others = sym (set_end_kept lane side t.ends) })
leaves_gated lane side captures old new (Err Stopped) step = by (seat_tray captures old) (seat_tray captures new)
    (step.tray captures)
  where
    by : (t u : Tray) → u ≡ after_entry Stop t → LeavesOtherEnds lane side t u
    by t u now = subst (λ z. LeavesOtherEnds lane side t z) (sym now)
        (record { constants = refl; files = refl; others = sym (set_end_kept lane side t.ends) })
leaves_gated lane side captures old new (Err OutOfMemory) step = by (seat_tray captures old) (seat_tray captures new)
    (step.tray captures)
  where
    by : (t u : Tray) → u ≡ t → LeavesOtherEnds lane side t u
    by t u now = subst (λ z. LeavesOtherEnds lane side t z) (sym now)
        (record { constants = refl; files = refl; others = sym (set_end_kept lane side t.ends) })

-- the tray stayed
pub leaves_same : (lane : ℕ) (side : Side) (t u : Tray) → u ≡ t → LeavesOtherEnds lane side t u
leaves_same lane side t u now = subst (λ z. LeavesOtherEnds lane side t z) (sym now)
    (record { constants = refl; files = refl; others = sym (set_end_kept lane side t.ends) })

-- and then a step at one end
module _ (lane : ℕ) (side : Side) (captures : List (List ℕ)) (old mid : Seat) (passed : Passed old mid) (v : Tray)
    (end : End) (entry : Entry)
    (now : v ≡ after_step lane side end entry (seat_tray captures mid)) where
  pub leaves_stepped : LeavesOtherEnds lane side (seat_tray captures old) v
  leaves_stepped = by (seat_tray captures old) (seat_tray captures mid) v (passed.tray captures) now
    where
      by : (t u v : Tray) → u ≡ gate_passed t → v ≡ after_step lane side end entry u → LeavesOtherEnds lane side t v
      by t u v first second = record {
        constants = ap (λ z. z.log.constants) second ∙ ap (λ z. z.log.constants) first;
        files = ap (λ z. z.files) second ∙ ap (λ z. z.files) first;
        others = only_end lane side end t.ends v.ends (ap (λ z. z.ends) second ∙ ap (λ z. set_end lane side end z.ends) first);
      }

  pub end_stepped : (f : End → End) → end ≡ f ((seat_tray captures mid).ends lane side)
      → v.ends lane side ≡ f ((seat_tray captures old).ends lane side)
  end_stepped f is =
      ap (λ z. z.ends lane side) now ∙ (set_end_at lane side end (seat_tray captures mid).ends
      ∙ (is ∙ ap (λ z. f (z.ends lane side)) (passed.tray captures)))

-- memory was refused, and the tray stayed
pub lost_same : {R : Type 0} (m : Meaning R) (t u : Tray) → u ≡ t → OnTray m t u (Err OutOfMemory)
lost_same m t u now = subst (λ z. OnTray m t z (Err OutOfMemory)) (sym now)
    (tray_lost m (record { constants = refl; started = λ file h. h }))

pub lost_by : {R : Type 0} (m : Meaning R) (t u : Tray) (halt : Halt) → halt ≡ OutOfMemory → u ≡ t → OnTray m t u (Err halt)
lost_by m t u halt is now = subst (λ h. OnTray m t u (Err h)) (sym is) (lost_same m t u now)
