-- A ledger of no entries tells all, and rests.
use Rattle.std.proofs.Common.{◌≡◌, ℕ, suc, ◌==◌, Bool, true, false, cond, List, [], ◌∷◌, ◌++◌, Some, refl, sym, ap, ◌∙◌}
use Rattle.std.proofs.Common.{arith, slice_get, sum_by}
use Rattle.sn_channel.specs.Ends.{ListenerLog}
use Rattle.sn_group.specs.Seats.{SeatState}
use Rattle.sn_interlink.specs.Ends.{LaneEnd, new_lane_end}
use Rattle.sn_interlink.specs.declared.entry.LaneEntry.{LaneEntry}
use Rattle.sn_interlink.specs.declared.view.EndState.{EndState}
use Rattle.sn_interlink.specs.declared.view.EndState.TheVariants.{Out, Up, Closing}
use Rattle.sn_packet.specs.Hold.{Held, slot_weight, weight}
use Rattle.sn_seat.specs.Openings.{AreNew, IsNewSeat}
use Rattle.sn_seat.specs.Resting.{AtRest, Quiet}
use Rattle.sn_seat.specs.SeatEnds.{Numbered, end_in, side_in}
use Rattle.sn_seat.specs.Told.{Told, log_at, told_log}

nothing : (b : Bool) → cond {A = List LaneEntry} b [] [] ≡ []
nothing true = refl
nothing false = refl

-- the logs of new ends are empty
log_new : (number : ℕ) (ends : List Numbered)
    → ((k : ℕ) (x : Numbered) → slice_get ends k ≡ Some x → end_in x.1 ≡ new_lane_end (end_in x.1).lane (side_in x.1))
    → log_at number ends ≡ []
log_new number [] each = refl
log_new number (x ∷ ends) each =
    ap (λ l. cond (x.0 == number) l [] ++ log_at number ends) (ap told_log (each 0 x refl))
    ∙ (ap (λ l. l ++ log_at number ends) (nothing (x.0 == number)) ∙ log_new number ends (λ k y there. each (suc k) y there))

weightless : (f : ℕ → ℕ → ℕ) (hold : Held) → hold.slots ≡ [] → weight f hold ≡ 0
weightless f hold none = ap (sum_by (slot_weight f)) none

pub told_new : (ends : List Numbered) (hold : Held) (seat : SeatState) (listener : ListenerLog) → AreNew ends → IsNewSeat seat
    → listener.heard ≡ [] → hold.slots ≡ [] → Told [] hold ends seat listener
told_new ends hold seat listener new fresh heard none = record {
  once = new.once;
  lanes = λ number. sym (log_new number ends new.each);
  grouped = sym (ap (λ s. s.log) fresh);
  listened = sym heard;
  held = λ f. let w = weightless f hold none in omega (arith, w);
}

abbrev code : EndState → ℕ
code Out = 0
code Up = 1
code Closing = 2

pub rests_new : (x : Numbered) → end_in x.1 ≡ new_lane_end (end_in x.1).lane (side_in x.1) → AtRest x.1
rests_new x new = record {
  side = ap (λ (e : LaneEnd). e.side) new;
  half = ap (λ (e : LaneEnd). e.half) new;
  laid = ap (λ (e : LaneEnd). e.laid) new;
  released = ap (λ (e : LaneEnd). e.unreleased) new;
  out = λ s. ap (λ (e : LaneEnd). e.reach) new;
  synced = λ s. absurd (let t : Out ≡ Up = sym (ap (λ (e : LaneEnd). e.state) new) ∙ s in let e : 0 ≡ 1 = ap code t in cc);
  closes = λ s. absurd (let t : Out ≡ Closing = sym (ap (λ (e : LaneEnd). e.state) new) ∙ s in let e : 0 ≡ 2 = ap code t in cc);
}

pub quiet_new : (ends : List Numbered) (seat : SeatState) → AreNew ends → IsNewSeat seat → Quiet ends seat
quiet_new ends seat new fresh = record {
  rests = λ k x there. rests_new x (new.each k x there);
  pending = ap (λ s. s.pending) fresh;
  carried = ap (λ s. s.carried) fresh;
}
