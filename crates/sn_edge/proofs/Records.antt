-- What a reader does at a record of its capture, or at the end.
use Rattle.std.proofs.Common.{◌≡◌, ℕ, Bool, true, false, List, [], length, nat_lt, Option, Result, Ok, sym, subst, ◌∙◌}
use Rattle.std.proofs.lemmas.Bool.Decides.{Decides-ltb, same_from_decides}
use Rattle.sn_link.specs.Link.{Line}
use Rattle.sn_packet.specs.Packet.{most_bytes}
use Rattle.sn_pcap.specs.declared.record.RecordAt.{RecordAt}
use Rattle.sn_pcap.specs.Places.{IsAtEnd, StandsAt, payload_of, payloads_at}
use Rattle.sn_app.specs.Apps.{read_one, read_record}
use Rattle.sn_app.specs.Desk.{Tray, counted_on}
use Rattle.sn_app.specs.Loops.{Did}
use Rattle.sn_app.specs.Reader.{Meaning, pure}
use Rattle.sn_app.specs.Runs.{Runs}
use Rattle.sn_app.specs.World.{Used, World, world}
use Rattle.sn_app.specs.declared.counters.Counter.TheVariants.{Oversize}
use Rattle.sn_app.specs.declared.halt.Halt.{Halt}
use Rattle.sn_app.specs.declared.ports.Ports.{Ports}
use Rattle.sn_app.proofs.Calling.{runs_count}
use Rattle.sn_app.proofs.Running.{runs_bind, runs_pure}
use Rattle.sn_edge.specs.Shown.{shown_as}

module _ (bytes : List ℕ) (at app out : ℕ) where
  -- nothing is left
  pub runs_none_left : (w : World) (mine : ℕ → ℕ) → IsAtEnd bytes at
      → Runs (read_one app out (payloads_at bytes at)) w w mine mine (Ok (false, payloads_at bytes at))
  unfolding read_one
  runs_none_left w mine h =
      subst (λ left. Runs (read_one app out left) w w mine mine (Ok (false, left))) (sym h.none_left)
      (runs_pure (false, []) w mine)

  module _ (found : RecordAt) (stands : StandsAt bytes at found) where
    over_is : nat_lt most_bytes (length (payload_of bytes found)) ≡ found.oversize
    over_is =
        subst (λ n. nat_lt most_bytes n ≡ found.oversize) stands.len
        (same_from_decides (nat_lt most_bytes found.len) found.oversize (Decides-ltb most_bytes found.len) stands.oversize)

    -- what is done with the record is what is done next
    pub runs_record : (over : Bool) → found.oversize ≡ over
        → {w v : World} {before after : ℕ → ℕ} {r : Result (Bool × List (List ℕ)) Halt}
        → Runs (read_record over app out (payload_of bytes found) (payloads_at bytes found.next)) w v before after r
        → Runs (read_one app out (payloads_at bytes at)) w v before after r
    unfolding read_one
    runs_record over is {w} {v} {before} {after} {r} run =
        subst (λ left. Runs (read_one app out left) w v before after r) (sym stands.first)
        (subst (λ b. Runs (read_record b app out (payload_of bytes found) (payloads_at bytes found.next)) w v before after r)
        (sym (over_is ∙ is)) run)

    -- one that is too long is passed, and counted
    pub runs_oversize : {t s : Tray} (u v : Used) (slots : List (Option Line)) (mine : ℕ → ℕ) → found.oversize ≡ true
        → s ≡ counted_on app Oversize 1 t → v ≡ u
        → Runs (read_one app out (payloads_at bytes at)) (world t u slots) (world s v slots) mine mine
        (Ok (true, payloads_at bytes found.next))
    unfolding read_record
    runs_oversize {s = s} u v slots mine is tray used =
        let rest = payloads_at bytes found.next in
        runs_record true is
        (runs_bind (λ done. pure (true, rest)) (runs_count app Oversize 1 u v slots mine tray used)
        (runs_pure (true, rest) (world s v slots) mine))

-- where a step goes on, as a desk shows it: with the payloads from there on
abbrev left_at : List ℕ → Bool × ℕ → Bool × List (List ℕ)
left_at bytes step = (step.0, payloads_at bytes step.1)

-- the same over the bytes that the capture has had from the start
pub did_over : {t s : Tray} {u v : Used} {from to : Ports} (m : List (List ℕ) → Meaning (Bool × List (List ℕ))) (at : ℕ)
    (r : Result (Bool × ℕ) Halt) (later first : List ℕ) → later ≡ first
    → Did (m (payloads_at later at)) t s u v from to (shown_as (left_at later) r)
    → Did (m (payloads_at first at)) t s u v from to (shown_as (left_at first) r)
did_over {t} {s} {u} {v} {from} {to} m at r later first same did =
    subst (λ bytes. Did (m (payloads_at bytes at)) t s u v from to (shown_as (left_at bytes) r)) same did
