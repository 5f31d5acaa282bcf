-- The row of a detach over a seat's trays.
use Rattle.std.proofs.Common.{◌≡◌, ℕ, ◌<◌, ◌≤◌, ◌==◌, ◌∙◌, Bool, true, false, cond}
use Rattle.std.proofs.Common.{Some, None, Result, Ok, Err, refl, sym, ap, subst}
use Rattle.std.proofs.lemmas.Bool.{and_from, eq-eqb, le-leb, lt-ltb}
use Rattle.sn_core.specs.declared.events.Side.{Side}
use Rattle.sn_core.specs.declared.events.Side.TheVariants.{Tx, Rx}
use Rattle.sn_journal.specs.HandOvers.{PacketName}
use Rattle.sn_journal.specs.declared.entry.Entry.{Entry}
use Rattle.sn_journal.specs.declared.entry.Entry.TheVariants.{Detach, Drain, Reset}
use Rattle.sn_packet.specs.Packet.{highest_turn, most_packets}
use Rattle.sn_app.specs.Answers.{OnTray}
use Rattle.sn_app.specs.Calls.{LeavesOtherEnds}
use Rattle.sn_app.specs.Desk.{End, Tray, after_entry, closing_end, freed, out_end, set_end, with_end}
use Rattle.sn_app.specs.Gates.{Gate, Phase, detach, drain_or_reset, drain_release, gate_by, gate_in, load_far, reclaiming, stands}
use Rattle.sn_app.specs.Gates.{working}
use Rattle.sn_app.specs.Reader.{change_tray, pure, read, repeated}
use Rattle.sn_app.specs.Rows.{a_detach, a_far, close_lane, detach_from, detached, drain_one, drain_or_reset_of, drained}
use Rattle.sn_app.specs.Rows.{drained_in, row_detach}
use Rattle.sn_app.specs.Words.{is_closer, is_held_by, is_up_in, is_word}
use Rattle.sn_app.specs.declared.end_state.EndState.{EndState}
use Rattle.sn_app.specs.declared.end_state.EndState.TheVariants.{Out, Up}
use Rattle.sn_app.specs.declared.halt.Halt.{Halt}
use Rattle.sn_app.proofs.OnTrays.{tray_bind, tray_changed, tray_fail, tray_pure}
use Rattle.sn_app.proofs.OtherEnds.{only_end, set_end_twice}
use Rattle.sn_app.proofs.Readings.{answers_at, answers_look}
use Rattle.sn_seat.specs.LaneSteps.{FoundAs, far_entry_of}
use Rattle.sn_seat.specs.Settling.{leaving, phase_by}
use Rattle.sn_seat.proofs.AttachRows.{assoc_at}
use Rattle.sn_seat.proofs.LaneRows.{after_step, tray_read, tray_skip}

-- ONE DRAIN

drain_told : (lane at : ℕ) (name : PacketName) → name.0 < most_packets → name.1 ≤ highest_turn
    → drain_or_reset_of lane (Drain lane at name.0 name.1) ≡ Some (Some name)
drain_told lane at name number turn =
    rw (eq-eqb lane lane refl, lt-ltb name.0 most_packets number, le-leb name.1 highest_turn turn) refl

reset_told : (lane : ℕ) → drain_or_reset_of lane (Reset lane) ≡ Some None
reset_told lane = rw (eq-eqb lane lane refl) refl

-- no gate stands before a drain, before what follows it, or before a closer's load of the far word
skips : (phase : Phase) (g : Gate) (t : Tray) → stands phase g ≡ false → OnTray (gate_in phase g) t t (Ok tt)
unfolding gate_in
skips phase g t is = subst (λ b. OnTray (gate_by b) t t (Ok tt)) (sym is) (tray_skip t)

drain_ungated : (phase : Phase) → stands phase drain_or_reset ≡ false
unfolding stands
drain_ungated working = refl
drain_ungated reclaiming = refl

release_ungated : (phase : Phase) → stands phase drain_release ≡ false
unfolding stands
release_ungated working = refl
release_ungated reclaiming = refl

load_ungated : (phase : Phase) → stands phase load_far ≡ false
unfolding stands
load_ungated working = refl
load_ungated reclaiming = refl

-- the packet becomes free, or stays held
drained_on : (phase : Phase) (name : PacketName) (lane : ℕ) (side : Side) (b : Tray)
    → OnTray (change_tray (λ t. drained_in phase name (with_end lane side (closing_end 0) t))) b
    (drained_in phase name (with_end lane side (closing_end 0) b)) (Ok tt)
unfolding drained_in
drained_on working name lane side b =
    tray_changed (λ t. drained_in working name (with_end lane side (closing_end 0) t)) b refl
    (record { constants = refl; started = λ file h. h })
drained_on reclaiming name lane side b =
    tray_changed (λ t. drained_in reclaiming name (with_end lane side (closing_end 0) t)) b refl
    (record { constants = refl; started = λ file h. h })

module _ (phase : Phase) (u v : Tray) (lane : ℕ) (side : Side) where
  pub drain_took : (at : ℕ) (name : PacketName) → name.0 < most_packets → name.1 ≤ highest_turn
      → u.log.constants.may (Drain lane at name.0 name.1) ≡ true
      → v ≡ drained_in phase name (after_step lane side (closing_end 0) (Drain lane at name.0 name.1) u)
      → OnTray (drain_one phase lane side) u v (Ok true)
  unfolding drain_one drained
  drain_took at name number turn may now =
      let entry : Entry = Drain lane at name.0 name.1 in
      let a : Tray = after_entry entry u in
      let b : Tray = with_end lane side (closing_end 1) a in
      let e : Tray = drained_in phase name (with_end lane side (closing_end 0) b) in
      let same : e ≡ drained_in phase name (after_step lane side (closing_end 0) entry u) =
      ap (λ es. drained_in phase name (record a { ends = es }))
      (set_end_twice lane side (closing_end 0) (closing_end 1) u.ends) in
      subst (λ z. OnTray (drain_one phase lane side) u z (Ok true)) (same ∙ sym now)
      (tray_bind (drained phase lane side)
      (tray_bind (λ x. read (drain_or_reset_of lane)) (skips phase drain_or_reset u (drain_ungated phase))
      (tray_read (drain_or_reset_of lane) u entry (Some name) (drain_told lane at name number turn) may))
      (tray_bind (λ x. pure true)
      (tray_bind (λ x. change_tray (λ t. drained_in phase name (with_end lane side (closing_end 0) t)))
      (tray_bind (λ x. gate_in phase drain_release)
      (tray_changed (with_end lane side (closing_end 1)) a refl (record { constants = refl; started = λ file h. h }))
      (skips phase drain_release b (release_ungated phase)))
      (drained_on phase name lane side b))
      (tray_pure true e)))

  pub drain_ended : u.log.constants.may (Reset lane) ≡ true → v ≡ after_step lane side out_end (Reset lane) u
      → OnTray (drain_one phase lane side) u v (Ok false)
  unfolding drain_one drained
  drain_ended may now =
      let a : Tray = after_entry (Reset lane) u in
      subst (λ z. OnTray (drain_one phase lane side) u z (Ok false)) (sym now)
      (tray_bind (drained phase lane side)
      (tray_bind (λ x. read (drain_or_reset_of lane)) (skips phase drain_or_reset u (drain_ungated phase))
      (tray_read (drain_or_reset_of lane) u (Reset lane) None (reset_told lane) may))
      (tray_bind (λ x. pure false)
      (tray_changed (with_end lane side out_end) a refl (record { constants = refl; started = λ file h. h }))
      (tray_pure false (with_end lane side out_end a))))

-- by what the call says of it
pub drained_by : {t v : Tray} {r : Result Bool Halt} (freeing other : Bool) (lane : ℕ) (side : Side) → freeing ≡ other
    → OnTray (drain_one (phase_by other) lane side) t v r → OnTray (drain_one (phase_by freeing) lane side) t v r
drained_by {t} {v} {r} freeing other lane side is f =
    subst (λ b. OnTray (drain_one (phase_by b) lane side) t v r) (sym is) f

-- where it becomes free, and where it stays held
pub took_freed : (name : PacketName) (u v : Tray) → v ≡ freed name u → v ≡ drained_in working name u
unfolding drained_in
took_freed name u v now = now

pub took_kept : (name : PacketName) (u v : Tray) → v ≡ u → v ≡ drained_in reclaiming name u
unfolding drained_in
took_kept name u v now = now

-- CLOSING

far_told : (lane : ℕ) (side : Side) (n : ℕ) → n ≤ 1023 → a_far lane side (far_entry_of lane side n) ≡ Some n
far_told lane Tx n few = rw (eq-eqb lane lane refl, le-leb n 1023 few) refl
far_told lane Rx n few = rw (eq-eqb lane lane refl, le-leb n 1023 few) refl

pub close_reads : {t v : Tray} {r : Result Unit Halt} (phase : Phase) (lane : ℕ) (side : Side) (n : ℕ) → n ≤ 1023
    → t.log.constants.may (far_entry_of lane side n) ≡ true
    → OnTray (repeated (drain_one phase lane side)) (after_entry (far_entry_of lane side n) t) v r
    → OnTray (close_lane phase lane side) t v r
unfolding close_lane
close_reads {t} phase lane side n few may rest =
    tray_bind (λ x. repeated (drain_one phase lane side))
    (tray_bind (λ x. read (a_far lane side)) (skips phase load_far t (load_ungated phase))
    (tray_read (a_far lane side) t (far_entry_of lane side n) n (far_told lane side n few) may))
    rest

-- DETACHING

detach_told : (lane : ℕ) (side : Side) (word : ℕ) (closer : Bool) → FoundAs side true word → is_closer side word ≡ closer
    → a_detach lane side (Detach lane word) ≡ Some closer
detach_told lane side word closer found is =
    ap (λ b. cond b (Some (is_closer side word)) None)
    (and_from (lane == lane) (is_held_by side word) (eq-eqb lane lane refl)
    (and_from (is_word word) (is_up_in side word) found.word_is found.own))
    ∙ ap Some is

-- an end goes that is up, behind its gate
module _ {u v : Tray} (phase : Phase) (lane : ℕ) (side : Side) (word : ℕ) (found : FoundAs side true word)
    (may : u.log.constants.may (Detach lane word) ≡ true) where
  pub leave_other : is_closer side word ≡ false → v ≡ after_step lane side out_end (Detach lane word) u
      → OnTray (leaving phase lane side) u v (Ok tt)
  unfolding leaving detached
  leave_other not_closer now =
      subst (λ z. OnTray (leaving phase lane side) u z (Ok tt)) (sym now)
      (tray_bind (detached phase lane side)
      (tray_read (a_detach lane side) u (Detach lane word) false (detach_told lane side word false found not_closer) may)
      (tray_changed (with_end lane side out_end) (after_entry (Detach lane word) u) refl
      (record { constants = refl; started = λ file h. h })))

  pub leave_closing : {w : Tray} {r : Result Unit Halt} → is_closer side word ≡ true
      → v ≡ after_step lane side (closing_end 0) (Detach lane word) u
      → OnTray (close_lane phase lane side) v w r → OnTray (leaving phase lane side) u w r
  unfolding leaving detached
  leave_closing {w} {r} closer now rest =
      tray_bind (detached phase lane side)
      (tray_read (a_detach lane side) u (Detach lane word) true (detach_told lane side word true found closer) may)
      (tray_bind (λ x. close_lane phase lane side)
      (tray_changed (with_end lane side (closing_end 0)) (after_entry (Detach lane word) u) refl
      (record { constants = refl; started = λ file h. h }))
      (subst (λ z. OnTray (close_lane phase lane side) z w r) now rest))

-- the whole row, by how the end stands
up_row : {t v : Tray} {r : Result Unit Halt} (phase : Phase) (lane : ℕ) (side : Side) (state : EndState) → state ≡ Up
    → OnTray (detach_from phase lane side Up) t v r → OnTray (detach_from phase lane side state) t v r
up_row {t} {v} {r} phase lane side state is f = subst (λ s. OnTray (detach_from phase lane side s) t v r) (sym is) f

whole_row : {t v : Tray} {r : Result Unit Halt} (phase : Phase) (lane : ℕ) (side : Side) (state : EndState)
    → (t.ends lane side).state ≡ state → OnTray (detach_from phase lane side state) t v r
    → OnTray (row_detach phase lane side) t v r
unfolding row_detach
whole_row {t} {v} {r} phase lane side state is f = record {
  at = λ queues. answers_look (λ d. detach_from phase lane side (d.tray.ends lane side).state)
      ((subst (λ s. OnTray (detach_from phase lane side s) t v r) (sym is) f).at queues);
}

-- its gate is passed
pub detach_then : {t u v : Tray} {r : Result Unit Halt} (phase : Phase) (lane : ℕ) (side : Side) → (t.ends lane side).state ≡ Up
    → OnTray (gate_in phase detach) t u (Ok tt) → OnTray (leaving phase lane side) u v r
    → OnTray (row_detach phase lane side) t v r
unfolding detach_from leaving
detach_then phase lane side up gated rest =
    whole_row phase lane side Up up (record {
      at = λ queues. answers_at
          (λ es. assoc_at (gate_in phase detach) (read (a_detach lane side)) (detached phase lane side) _ es)
          ((tray_bind (λ x. leaving phase lane side) gated rest).at queues);
    })

pub detach_gated : {t u v : Tray} {r : Result Unit Halt} (lane : ℕ) (side : Side) → (t.ends lane side).state ≡ Up
    → OnTray (gate_by true) t u (Ok tt) → OnTray (leaving working lane side) u v r → OnTray (row_detach working lane side) t v r
unfolding gate_in stands
detach_gated lane side up gated rest = detach_then working lane side up gated rest

pub detach_fails : {t u : Tray} {halt : Halt} (lane : ℕ) (side : Side) → (t.ends lane side).state ≡ Up
    → OnTray (gate_by true) t u (Err halt) → OnTray (row_detach working lane side) t u (Err halt)
unfolding detach_from gate_in stands
detach_fails lane side up gated =
    whole_row working lane side Up up (tray_fail (detached working lane side) (tray_fail (λ x. read (a_detach lane side)) gated))

pub detach_out : (t : Tray) (lane : ℕ) (side : Side) → (t.ends lane side).state ≡ Out → OnTray
    (row_detach working lane side) t t (Ok tt)
unfolding detach_from
detach_out t lane side out = whole_row working lane side Out out (tray_pure tt t)

-- no gate stands before it in a reclamation
pub detach_ungated : {t v : Tray} {r : Result Unit Halt} (lane : ℕ) (side : Side) → (t.ends lane side).state ≡ Up
    → OnTray (leaving reclaiming lane side) t v r → OnTray (row_detach reclaiming lane side) t v r
unfolding stands
detach_ungated {t} lane side up rest = detach_then reclaiming lane side up (skips reclaiming detach t refl) rest

-- WHAT STAYS

pub leaves_on : (lane : ℕ) (side : Side) (t u v : Tray) → LeavesOtherEnds lane side t u → LeavesOtherEnds lane side u v
    → LeavesOtherEnds lane side t v
leaves_on lane side t u v a b = record {
  constants = b.constants ∙ a.constants;
  files = b.files ∙ a.files;
  others = b.others ∙ (ap (set_end lane side (v.ends lane side)) a.others
      ∙ set_end_twice lane side (v.ends lane side) (u.ends lane side) t.ends);
}

pub leaves_stepped_at : (lane : ℕ) (side : Side) (end : End) (entry : Entry) (u v : Tray) → v ≡ after_step lane side end entry u
    → LeavesOtherEnds lane side u v
leaves_stepped_at lane side end entry u v now = record {
  constants = ap (λ (z : Tray). z.log.constants) now;
  files = ap (λ (z : Tray). z.files) now;
  others = only_end lane side end u.ends v.ends (ap (λ (z : Tray). z.ends) now);
}

pub leaves_freed : (lane : ℕ) (side : Side) (end : End) (entry : Entry) (name : PacketName) (u v : Tray)
    → v ≡ freed name (after_step lane side end entry u) → LeavesOtherEnds lane side u v
leaves_freed lane side end entry name u v now = record {
  constants = ap (λ (z : Tray). z.log.constants) now;
  files = ap (λ (z : Tray). z.files) now;
  others = only_end lane side end u.ends v.ends (ap (λ (z : Tray). z.ends) now);
}
