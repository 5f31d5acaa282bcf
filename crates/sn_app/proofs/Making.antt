-- A packet is made: it is allocated and written, and then sent and counted, or freed and counted.
use Rattle.std.proofs.Common.{◌≡◌, ℕ, List, [], ◌∷◌, Bool, true, false, Option, Some, IfSome, Result, Ok, Err, unwrap_or, inl, inr, refl, sym, ap, subst, ◌∙◌, arith}
use Rattle.sn_link.specs.Link.{Line}
use mathlib.Core.Path.{fun_ext}
use Rattle.std.proofs.lemmas.Bool.{cases_eq}
use Rattle.sn_packet.specs.Hold.{among, put_at}
use Rattle.sn_packet.specs.Packet.{PacketState, no_packet, with_bytes}
use Rattle.sn_packet.proofs.Puts.{put_at_other, put_at_same}
use Rattle.sn_app.specs.Answers.{OnTray}
use Rattle.sn_app.specs.Apps.{AppState, frees_counted, runs_dry, sends_counted, staying}
use Rattle.sn_app.specs.Calls.{IsFresh, named, rewritten_at}
use Rattle.sn_app.specs.Desk.{Tray, counted_on, name_of}
use Rattle.sn_app.specs.Reader.{Meaning, pure}
use Rattle.sn_app.specs.Rows.{counts, frees, packet_of, row_allocate, sends}
use Rattle.sn_app.specs.Runs.{Runs}
use Rattle.sn_app.specs.World.{Used, World, world, packet_at, IsSound, nowhere}
use Rattle.sn_app.specs.declared.counters.Counter.{Counter}
use Rattle.sn_app.specs.declared.halt.Halt.{Halt}
use Rattle.sn_app.specs.declared.counters.Counter.TheVariants.{Packets, Dry}
use Rattle.sn_app.proofs.Calling.{desk_written_at, gave, moves_written_at, runs_allocate_some, runs_count, written_at}
use Rattle.sn_app.proofs.Moving.{sound_moved}
use Rattle.sn_app.proofs.Running.{runs_as, runs_bind, runs_fail, runs_pure, runs_silent, runs_silent_after}

module _ {t s z : Tray} (u v w : Used) (slots : List (Option Line)) (h : IsSound (world t u slots) nowhere)
    (o : Option ℕ) (place : ℕ) (bytes : List ℕ) (some : o ≡ Some place) (reads : OnTray row_allocate t s (named v (Ok o)))
    (fresh : IfSome o (IsFresh u v)) (rest : (q : ℕ) → (gave o ≡ gave (Some q) → ⊥) → v q ≡ u q)
    (tray : z ≡ s) (used : w ≡ rewritten_at place bytes v) where
  came : Runs row_allocate (world t u slots) (world s v slots) nowhere (among (place ∷ [])) (Ok (Some (name_of (packet_at v place))))
  came =
      runs_as nowhere (among (place ∷ [])) (λ q. refl) (λ q. omega arith) (runs_allocate_some u v slots nowhere h o place some reads fresh rest)

  sound_came : IsSound (world s v slots) (among (place ∷ []))
  sound_came = sound_moved (came.moves (Some (name_of (packet_at v place))) refl) h

  -- the packet as it was written
  abbrev pub made : PacketState
  made = packet_of (packet_at v place).number (packet_at v place).turn bytes

  pub made_is : packet_at w place ≡ made
  made_is = ap (λ (slot : Option PacketState). unwrap_or slot no_packet) (written_at {t = s} {s = z} v w slots place (with_bytes bytes (packet_at v place)) tray used)

  pub made_runs : Runs row_allocate (world t u slots) (world z w slots) nowhere (among (place ∷ [])) (Ok (Some (name_of (packet_at v place))))
  made_runs =
      runs_silent_after came (desk_written_at v w slots place (with_bytes bytes (packet_at v place)) tray used sound_came)
      (moves_written_at v w slots place (with_bytes bytes (packet_at v place)) tray used)

  pub made_sound : IsSound (world z w slots) (among (place ∷ []))
  made_sound = sound_moved (moves_written_at v w slots place (with_bytes bytes (packet_at v place)) tray used) sound_came

  pub made_sent : {later : World} (out : ℕ) {after : ℕ → ℕ} → Runs (sends out (packet_at w place)) (world z w slots) later (among (place ∷ [])) after (Ok tt)
      → Runs (sends out made) (world z w slots) later (among (place ∷ [])) after (Ok tt)
  made_sent {later} out {after} run =
      subst (λ packet. Runs (sends out packet) (world z w slots) later (among (place ∷ [])) after (Ok tt)) made_is run

-- sent, and counted
pub runs_sends_counted : {now : World} {t s : Tray} (u v : Used) (slots : List (Option Line)) {before after : ℕ → ℕ} (app out : ℕ) (packet : PacketState)
    → Runs (sends out packet) now (world t u slots) before after (Ok tt) → s ≡ counted_on app Packets 1 t → v ≡ u
    → Runs (sends_counted app out packet) now (world s v slots) before after (Ok true)
unfolding sends_counted
runs_sends_counted {s = s} u v slots {after = after} app out packet run tray used =
    runs_bind (λ done. pure true)
    (runs_bind (λ done. counts app Packets 1) run (runs_count app Packets 1 u v slots after tray used))
    (runs_pure true (world s v slots) after)

-- freed, and counted
pub runs_frees_counted : {now : World} {t s : Tray} (u v : Used) (slots : List (Option Line)) {before after : ℕ → ℕ} (app : ℕ) (counter : Counter)
    (packet : PacketState) → Runs (frees (name_of packet)) now (world t u slots) before after (Ok tt) → s ≡ counted_on app counter 1 t → v ≡ u
    → Runs (frees_counted app counter packet) now (world s v slots) before after (Ok true)
unfolding frees_counted
runs_frees_counted {s = s} u v slots {after = after} app counter packet run tray used =
    runs_bind (λ done. pure true)
    (runs_bind (λ done. counts app counter 1) run (runs_count app counter 1 u v slots after tray used))
    (runs_pure true (world s v slots) after)

-- the call ends for want of a free packet
pub runs_runs_dry : {t s : Tray} (u v : Used) (slots : List (Option Line)) (mine : ℕ → ℕ) (app : ℕ) → s ≡ counted_on app Dry 1 t → v ≡ u
    → Runs (runs_dry app) (world t u slots) (world s v slots) mine mine (Ok false)
unfolding runs_dry
runs_runs_dry {s = s} u v slots mine app tray used =
    runs_bind (λ done. pure false) (runs_count app Dry 1 u v slots mine tray used) (runs_pure false (world s v slots) mine)

-- a call that does this and keeps its state
pub runs_staying : {w v : World} {before after : ℕ → ℕ} {m : Meaning Bool} {on : Bool} (s : AppState) → Runs m w v before after (Ok on)
    → Runs (staying s m) w v before after (Ok s)
unfolding staying
runs_staying {v = v} {after = after} s run = runs_bind (λ done. pure s) run (runs_pure s v after)

pub runs_staying_halt : {w v : World} {before mid : ℕ → ℕ} {m : Meaning Bool} {h : Halt} (s : AppState) (after : ℕ → ℕ) → Runs m w v before mid (Err h)
    → Runs (staying s m) w v before after (Err h)
unfolding staying
runs_staying_halt s after run = runs_fail (λ done. pure s) after run

-- a packet in hand is written, and then something is done with it
module _ {t s : Tray} (u v : Used) (slots : List (Option Line)) (place : ℕ) (bytes : List ℕ) (tray : s ≡ t) (used : v ≡ rewritten_at place bytes u) where
  pub rewritten_packet : packet_at v place ≡ with_bytes bytes (packet_at u place)
  rewritten_packet =
      ap (λ (slot : Option PacketState). unwrap_or slot no_packet) (written_at {t = t} {s = s} u v slots place (with_bytes bytes (packet_at u place)) tray used)

  pub sound_rewritten : IsSound (world t u slots) (among (place ∷ [])) → IsSound (world s v slots) (among (place ∷ []))
  sound_rewritten h = sound_moved (moves_written_at u v slots place (with_bytes bytes (packet_at u place)) tray used) h

  pub runs_rewritten : {R : Type 0} {m : Meaning R} {later : World} {after : ℕ → ℕ} {r : Result R Halt} → IsSound (world t u slots) (among (place ∷ []))
      → Runs m (world s v slots) later (among (place ∷ [])) after r → Runs m (world t u slots) later (among (place ∷ [])) after r
  runs_rewritten h run =
      runs_silent (desk_written_at u v slots place (with_bytes bytes (packet_at u place)) tray used h)
      (moves_written_at u v slots place (with_bytes bytes (packet_at u place)) tray used) run

-- the packet at a place, written as it was, leaves all as it was
pub put_as_is : (place : ℕ) (u : Used) (packet : PacketState) → u place ≡ Some packet → put_at place (Some packet) u ≡ u
put_as_is place u packet at = fun_ext (λ q. elim (cases_eq q place) [
  | inl same ↦
      let P : ℕ → Type 0 = λ p. put_at place (Some packet) u p ≡ u p in
      subst P (sym same) (put_at_same place (Some packet) u ∙ sym at)
  | inr differs ↦ put_at_other place (Some packet) u q differs
])
