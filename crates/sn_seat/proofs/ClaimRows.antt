-- How a seat's tray allocates.
use Rattle.std.proofs.Common.{◌≡◌, ℕ, ◌<◌, ◌≤◌, ◌==◌, ◌∷◌, ◌++◌, ◌∙◌, Bool, true, false, List, [], map, Option, Some, None}
use Rattle.std.proofs.Common.{IsSome, IfNone, IfSome, Result, Ok, Err, refl, sym, ap, subst, unwrap_or}
use Rattle.std.proofs.lemmas.Bool.{le-leb, lt-ltb}
use Rattle.std.proofs.lemmas.List.{map_push}
use Rattle.sn_journal.specs.HandOvers.{PacketName}
use Rattle.sn_journal.specs.declared.entry.Entry.{Entry}
use Rattle.sn_journal.specs.declared.entry.Entry.TheVariants.{Dry, Got, Stop}
use Rattle.sn_packet.specs.Hold.{Held, among, at_of, frees_of, put_at, there, used_of}
use Rattle.sn_packet.specs.Packet.{PacketState, highest_turn, most_packets, no_packet}
use Rattle.sn_packet.proofs.Puts.{put_at_same, some_laid}
use Rattle.sn_app.specs.Answers.{OnTray}
use Rattle.sn_app.specs.Calls.{LeavesEnds, named}
use Rattle.sn_app.specs.Desk.{Tray, after_entry, freed, gate_passed, name_of, nothing, taking, with_pending}
use Rattle.sn_app.specs.Gates.{gate_by, gate_in, stands}
use Rattle.sn_app.specs.Reader.{change_tray, pure, read}
use Rattle.sn_app.specs.Rows.{but_last, claim_taken, got_or_dry, last_of, refill_one, take_last}
use Rattle.sn_app.specs.World.{packet_at}
use Rattle.sn_app.specs.declared.halt.Halt.{Halt}
use Rattle.sn_app.specs.declared.halt.Halt.TheVariants.{Stopped, OutOfMemory}
use Rattle.sn_app.proofs.Claiming.{but_last_push, last_of_push, took_last}
use Rattle.sn_app.proofs.Gaining.{packet_laid, used_held}
use Rattle.sn_app.proofs.OnTrays.{tray_bind, tray_changed, tray_fail, tray_pure}
use Rattle.sn_seat.specs.ClaimReads.{ClaimRead, GotRead}
use Rattle.sn_seat.specs.GateSteps.{GateStep}
use Rattle.sn_seat.specs.Trays.{seat_tray}
use Rattle.sn_seat.specs.declared.seat.Seat.{Seat}
use Rattle.sn_seat.proofs.LaneRows.{tray_read, tray_skip}

-- ONE CLAIM

got_told : (name : PacketName) → name.0 < most_packets → name.1 ≤ highest_turn → got_or_dry (Got name.0 name.1) ≡ Some (Some name)
got_told name number turn = rw (lt-ltb name.0 most_packets number, le-leb name.1 highest_turn turn) refl

-- nothing is under way again
settled : (u : Tray) (name : PacketName) → u.pending ≡ nothing → freed name (with_pending nothing u) ≡ freed name u
settled u name none = ap (λ p. record (freed name u) { pending = p }) (sym none)

module _ {t u v : Tray} (gated : OnTray (gate_by true) t u (Ok tt)) (none : u.pending ≡ nothing)
    (may : (entry : Entry) → u.log.constants.may entry ≡ true) where
  pub claim_got : GotRead u v → OnTray refill_one t v (Ok true)
  unfolding refill_one gate_in stands claim_taken
  claim_got g =
      let name : PacketName = g.name in
      let a : Tray = after_entry (Got name.0 name.1) u in
      let b : Tray = with_pending (taking (name ∷ []) 0) a in
      let d : Tray = with_pending (taking (name ∷ []) 1) b in
      let e : Tray = freed name (with_pending nothing d) in
      subst (λ z. OnTray refill_one t z (Ok true)) (settled a name none ∙ sym g.tray)
      (tray_bind claim_taken
      (tray_bind (λ x. read got_or_dry) gated
      (tray_read got_or_dry u (Got name.0 name.1) (Some name) (got_told name g.number g.turn) (may (Got name.0 name.1))))
      (tray_bind (λ x. pure true)
      (tray_bind (λ x. change_tray (λ z. freed name (with_pending nothing z)))
      (tray_bind (λ x. gate_by false)
      (tray_bind (λ x. change_tray (with_pending (taking (name ∷ []) 1)))
      (tray_bind (λ x. gate_by false)
      (tray_changed (with_pending (taking (name ∷ []) 0)) a refl (record { constants = refl; started = λ file h. h }))
      (tray_skip b))
      (tray_changed (with_pending (taking (name ∷ []) 1)) b refl (record { constants = refl; started = λ file h. h })))
      (tray_skip d))
      (tray_changed (λ z. freed name (with_pending nothing z)) d refl (record { constants = refl; started = λ file h. h })))
      (tray_pure true e)))

  pub claim_dry : v ≡ after_entry Dry u → OnTray refill_one t v (Ok false)
  unfolding refill_one gate_in stands claim_taken
  claim_dry now =
      subst (λ z. OnTray refill_one t z (Ok false)) (sym now)
      (tray_bind claim_taken
      (tray_bind (λ x. read got_or_dry) gated (tray_read got_or_dry u Dry None refl (may Dry)))
      (tray_pure false (after_entry Dry u)))

  pub claim_reads : (came : Bool) → ClaimRead u came v → OnTray refill_one t v (Ok came)
  claim_reads true step = claim_got step
  claim_reads false step = claim_dry step

pub claim_fails : {t u : Tray} {halt : Halt} → OnTray (gate_by true) t u (Err halt) → OnTray refill_one t u (Err halt)
unfolding refill_one gate_in stands
claim_fails gated = tray_fail claim_taken (tray_fail (λ x. read got_or_dry) gated)

-- what stays
pub leaves_same : (t u : Tray) → u ≡ t → LeavesEnds t u
leaves_same t u now = subst (λ z. LeavesEnds t z) (sym now) (record { constants = refl; files = refl; ends = refl })

pub leaves_gated : (captures : List (List ℕ)) (old new : Seat) (result : Result Unit Halt) → GateStep old result new
    → LeavesEnds (seat_tray captures old) (seat_tray captures new)
leaves_gated captures old new (Ok on) step = by (seat_tray captures old) (seat_tray captures new) (step.tray captures)
  where
    by : (t u : Tray) → u ≡ gate_passed t → LeavesEnds t u
    by t u now = subst (λ z. LeavesEnds t z) (sym now) (record { constants = refl; files = refl; ends = refl })
leaves_gated captures old new (Err Stopped) step = by (seat_tray captures old) (seat_tray captures new) (step.tray captures)
  where
    by : (t u : Tray) → u ≡ after_entry Stop t → LeavesEnds t u
    by t u now = subst (λ z. LeavesEnds t z) (sym now) (record { constants = refl; files = refl; ends = refl })
leaves_gated captures old new (Err OutOfMemory) step =
    leaves_same (seat_tray captures old) (seat_tray captures new) (step.tray captures)

pub leaves_claimed : (u v : Tray) (came : Bool) → ClaimRead u came v → LeavesEnds u v
leaves_claimed u v true step =
    subst (λ z. LeavesEnds u z) (sym step.tray) (record { constants = refl; files = refl; ends = refl })
leaves_claimed u v false step =
    subst (λ z. LeavesEnds u z) (sym step) (record { constants = refl; files = refl; ends = refl })

pub leaves_noted : (entry : Entry) (u v : Tray) → v ≡ after_entry entry u → LeavesEnds u v
leaves_noted entry u v now = subst (λ z. LeavesEnds u z) (sym now) (record { constants = refl; files = refl; ends = refl })

-- a packet that came is the one that is freed
pub there_laid : (hold : Held) (used : ℕ → Option PacketState) (place : ℕ) (packet : PacketState)
    → used_of hold ≡ put_at place (Some packet) used → there hold place ≡ packet
there_laid hold used place packet laid =
    let is : IsSome (used_of hold place) = some_laid used (used_of hold) place packet laid in
    ap (λ o. unwrap_or o no_packet) (sym (used_held (among hold.free place == 0) (at_of hold place) is))
    ∙ packet_laid used (used_of hold) place packet laid

-- the names of the free packets with one more
pub names_more : (t : Tray) (frees : List PacketState) (packet : PacketState) (later : List PacketState) → later ≡ frees ++
    packet ∷ []
    → map name_of later ≡ map name_of frees ++ name_of packet ∷ []
names_more t frees packet later more = ap (map name_of) more ∙ map_push name_of frees packet

-- THE LAST FREE PACKET

took_as : (t : Tray) (names : List PacketName) (name : Option PacketName) → but_last t.free ≡ names → last_of t.free ≡ name
    → OnTray take_last t (record t { free = names }) (Ok name)
took_as t names name before last =
    subst (λ n. OnTray take_last t (record t { free = names }) (Ok n)) last
    (subst (λ ns. OnTray take_last t (record t { free = ns }) (Ok (last_of t.free))) before (took_last t))

pub took_reads : (t : Tray) (old new : Held) (result : Option ℕ) → t.free ≡ map name_of (frees_of old)
    → IfNone result ((old.free ≡ []) × (new ≡ old))
    → IfSome result (λ place. frees_of old ≡ frees_of new ++ there old place ∷ [])
    → IfSome result (λ place. used_of new ≡ put_at place (at_of old place) (used_of old))
    → OnTray take_last t (record t { free = map name_of (frees_of new) }) (named (used_of new) (Ok result))
took_reads t old new None is none frees used =
    let empty : map name_of (frees_of old) ≡ [] = ap (λ free. map name_of (map (there old) free)) none.0 in
    let same : map name_of (frees_of new) ≡ [] = ap (λ hold. map name_of (frees_of hold)) none.1 ∙ empty in
    took_as t (map name_of (frees_of new)) None (ap but_last (is ∙ empty) ∙ sym same) (ap last_of (is ∙ empty))
took_reads t old new (Some place) is none frees used =
    let names : t.free ≡ map name_of (frees_of new) ++ name_of (there old place) ∷ [] =
    is ∙ (ap (map name_of) frees ∙ map_push name_of (frees_of new) (there old place)) in
    let there_now : used_of new place ≡ at_of old place =
    ap (λ f. f place) used ∙ put_at_same place (at_of old place) (used_of old) in
    took_as t (map name_of (frees_of new)) (Some (name_of (packet_at (used_of new) place)))
    (ap but_last names ∙ but_last_push (map name_of (frees_of new)) (name_of (there old place)))
    (ap last_of names ∙ (last_of_push (map name_of (frees_of new)) (name_of (there old place))
    ∙ ap (λ slot. Some (name_of (unwrap_or slot no_packet))) (sym there_now)))
