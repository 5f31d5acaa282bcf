-- A link stays wired, and its world sound, through calls of apps and through what else a worker does.
use mathlib.Core.Path.{fun_ext}
use Rattle.std.proofs.Common.{◌≡◌, ◌≢◌, ◌∙◌, ◌<◌, ◌∷◌, ℕ, zero, suc, IsSome, None, Some}
use Rattle.std.proofs.Common.{Ok, Result, IsTrue, Option, List, [], ap, arith, inl, inr, length, subst, sym}
use Rattle.std.proofs.lemmas.Bool.Decides.{eqb_tells}
use Rattle.std.specs.Prelude.{IfSome, slice_index_or}
use Rattle.sn_packet.specs.Hold.{put_at}
use Rattle.sn_packet.proofs.Puts.{put_at_other, put_at_same}
use Rattle.sn_link.specs.Link.{Line}
use Rattle.sn_app.specs.Calls.{IsFresh}
use Rattle.sn_app.specs.Desk.{Tray}
use Rattle.sn_app.specs.Ports.{HasLinks, KeepsRows, key_at}
use Rattle.sn_app.specs.Runs.{Moves}
use Rattle.sn_app.specs.World.{Used, world}
use Rattle.sn_app.specs.declared.halt.Halt.{Halt}
use Rattle.sn_basic.specs.declared.sink.Sink.{Sink}
use Rattle.sn_core.specs.declared.events.Side.TheVariants.{Rx}
use Rattle.sn_edge.specs.declared.receiver.Receiver.{Receiver}
use Rattle.sn_seat.specs.GiveSteps.{used_after}
use Rattle.sn_seat.specs.declared.gave.Gave.{Gave}
use Rattle.seat_bench.specs.Lines.{CanReceive}
use Rattle.sn_app.proofs.Moving.{sound_moved}
use Rattle.seat_bench.specs.Wires.{IsWired}
use Rattle.seat_bench.specs.declared.wire.Wire.{Wire}

has_links : {old new : List (Option Line)} {ports : List (List ℕ × ℕ)} → KeepsRows old new
    → HasLinks old ports → HasLinks new ports
has_links rows h = record { held = λ i k. rows.held _ (h.held i k) }

pub wired_then : {wire later : Wire} {t s : Tray} {used after : Used} {mine then : ℕ → ℕ} → IsWired wire t used mine
    → Moves (world t used wire.links.slots) (world s after later.links.slots) mine then
    → KeepsRows wire.links.slots later.links.slots → later.outs ≡ wire.outs → later.ins ≡ wire.ins → IsWired later s after then
wired_then {wire} {later} h moves rows outs ins = record {
  sound = sound_moved moves h.sound;
  outs = subst (λ ports. HasLinks later.links.slots ports.items) (sym outs) (has_links rows h.outs);
  ins = subst (λ ports. HasLinks later.links.slots ports.items) (sym ins) (has_links rows h.ins);
}

-- the same packets are in use, whatever else changed
pub wired_still : {wire : Wire} {t s : Tray} {used after : Used} {mine : ℕ → ℕ} → after ≡ used → IsWired wire t used mine
    → IsWired wire s after mine
wired_still {wire} {t} {s} {used} {after} {mine} same h =
    subst (λ u. IsWired wire s u mine) (sym same) (record {
      sound = record { once = h.sound.once; in_use = h.sound.in_use; lengths = h.sound.lengths; rows = h.sound.rows };
      outs = h.outs;
      ins = h.ins;
    })

-- one port, at a link that is there
pub one_port : {slots : List (Option Line)} {ports : List (List ℕ × ℕ)} {key : ℕ} → length ports ≡ 1 → key_at ports 0 ≡ key
    → IsSome (slice_index_or slots key None) → HasLinks slots ports
one_port {slots} {ports} {key} one is linked = record { held = at }
  where
    at : (i : ℕ) → i < length ports → IsSome (slice_index_or slots (key_at ports i) None)
    at zero k = subst (λ n. IsSome (slice_index_or slots n None)) (sym is) linked
    at (suc i) k = absurd (let z : ⊥ = omega (arith, k, one) in z)

-- a packet came to a place, and is gone
pub restored : {u v w : Used} (place : ℕ) → u place ≡ None → ((q : ℕ) → q ≢ place → v q ≡ u q) → w ≡ put_at place None v
    → w ≡ u
restored {u} {v} {w} place none others gone = gone ∙ fun_ext at
  where
    at : (q : ℕ) → put_at place None v q ≡ u q
    at q = elim (eqb_tells q place) [
      | inl same ↦ ap (put_at place None v) same.1 ∙ (put_at_same place None v ∙ (sym none ∙ ap u (sym same.1)))
      | inr differs ↦ put_at_other place None v q differs.1 ∙ others q differs.1
    ]

-- an answer with a place
abbrev answered : Option ℕ → Result (Option ℕ) Halt
answered came = Ok came

same_place : (came : Option ℕ) (p q : ℕ) → came ≡ Some p → answered came ≡ answered (Some q) → q ≡ p
same_place came p q is e = cc

-- a packet was allocated and given
pub given_back : {u v w : Used} {came : Option ℕ} (place : ℕ) → came ≡ Some place → IfSome came (IsFresh u v)
    → ((q : ℕ) → answered came ≢ answered (Some q) → v q ≡ u q) → w ≡ put_at place None v → w ≡ u
given_back {u} {v} {w} {came} place is fresh others gone =
    let there : IsFresh u v place = subst (λ o. IfSome o (IsFresh u v)) is fresh in
    restored place there.none (λ q differs. others q (λ e. differs (same_place came place q is e))) gone

-- a packet stays where it wasn't given
pub not_gone : {u v : Used} {gave kept : Gave} (place : ℕ) → v ≡ used_after place gave u → gave ≡ kept
    → used_after place kept u ≡ u → IsSome (u place) → IsSome (v place)
not_gone {u} {v} {gave} {kept} place now is same there =
    subst (λ (used : Used). IsSome (used place)) (sym (now ∙ (ap (λ g. used_after place g u) is ∙ same))) there

-- a receiver and a sink can still run
pub receives_still : {receiver : Receiver} {sink : Sink} {t s : Tray} → s.log.constants ≡ t.log.constants
    → CanReceive receiver sink t → CanReceive receiver sink s
receives_still {receiver} {sink} same h = record {
  takes = record {
    counts = subst (λ c. receiver.row < length c.roster.apps) (sym same) h.takes.counts;
    there = subst (λ c. IsTrue (c.has_end receiver.lane Rx)) (sym same) h.takes.there;
  };
  frees = subst (λ c. sink.row < length c.roster.apps) (sym same) h.frees;
}
