-- A packet is taken from an input and handled, and how many an input has and an output takes.
use Rattle.std.proofs.Common.{◌≡◌, ℕ, ◌+◌, ◌-◌, ◌<◌, Bool, false, List, [], ◌∷◌, length, Option, Some, None, Result, Ok, Err, refl, ap, subst, ◌∙◌, arith}
use Rattle.std.proofs.lemmas.List.{length-map}
use Rattle.std.specs.Option.{option_map}
use Rattle.sn_link.specs.Link.{Line, most_queued}
use Rattle.sn_packet.specs.Hold.{among}
use Rattle.sn_packet.specs.Packet.{PacketState}
use Rattle.sn_app.specs.Apps.{next_of, readable, readable_of, room_on, with_next}
use Rattle.sn_app.specs.Desk.{Desk, Tray}
use Rattle.sn_app.specs.Loops.{Did}
use Rattle.sn_app.specs.Ports.{HasLinks, KeepsRows, SamePorts, in_line, in_row, ins_of, key_at, line_at, out_line, out_row, outs_of, slots_of}
use Rattle.sn_app.specs.Reader.{Meaning, look, pure, ◌>>=◌}
use Rattle.sn_app.specs.Rows.{takes}
use Rattle.sn_app.specs.Runs.{Runs}
use Rattle.sn_app.specs.World.{IsSound, Used, World, at_answer, desk_of, nowhere, packet_at, queue_of, world}
use Rattle.sn_app.specs.declared.halt.Halt.{Halt}
use Rattle.sn_app.specs.declared.ports.Ports.{Ports}
use Rattle.sn_app.proofs.Looping.{ports_then, rows_then}
use Rattle.sn_app.proofs.Moving.{sound_moved}
use Rattle.sn_app.proofs.Running.{runs_bind, runs_fail, runs_look, runs_pure}
use Rattle.sn_app.proofs.Sending.{line_there}
use Rattle.sn_app.proofs.Slots.{queue_at}

module _ {t : Tray} {u : Used} {from mid : Ports} (row : ℕ) (result : Option ℕ)
    (taken : Runs (takes row) (world t u (slots_of from)) (world t u (slots_of mid)) nowhere (at_answer result) (Ok (option_map (packet_at u) result)))
    (same : SamePorts from mid) (rows : KeepsRows (slots_of from) (slots_of mid)) (m : PacketState → Meaning Bool) where
  -- the input has none
  pub did_next_none : result ≡ None → Did (next_of row m) t t u u from mid (Ok false)
  unfolding next_of with_next
  did_next_none none = record {
    runs = runs_bind (λ packet. with_next packet m)
        (subst (λ r. Runs (takes row) (world t u (slots_of from)) (world t u (slots_of mid)) nowhere (at_answer r) (Ok (option_map (packet_at u) r))) none taken)
        (runs_pure false (world t u (slots_of mid)) nowhere);
    same = same;
    rows = rows;
  }

  module _ (place : ℕ) (some : result ≡ Some place) where
    taken_at : Runs (takes row) (world t u (slots_of from)) (world t u (slots_of mid)) nowhere (among (place ∷ [])) (Ok (Some (packet_at u place)))
    taken_at = subst (λ r. Runs (takes row) (world t u (slots_of from)) (world t u (slots_of mid)) nowhere (at_answer r) (Ok (option_map (packet_at u) r))) some taken

    -- the packet is in hand
    pub sound_next : IsSound (world t u (slots_of from)) nowhere → IsSound (world t u (slots_of mid)) (among (place ∷ []))
    sound_next h = sound_moved (taken_at.moves (Some (packet_at u place)) refl) h

    -- and what is done with it
    pub did_next : {s : Tray} {v : Used} {to : Ports} {r : Result Bool Halt}
        → Runs (m (packet_at u place)) (world t u (slots_of mid)) (world s v (slots_of to)) (among (place ∷ [])) nowhere r
        → SamePorts mid to → KeepsRows (slots_of mid) (slots_of to) → Did (next_of row m) t s u v from to r
    unfolding next_of with_next
    did_next run later_same later_rows = record {
      runs = runs_bind (λ packet. with_next packet m) taken_at run;
      same = ports_then same later_same;
      rows = rows_then rows later_rows;
    }

-- the world stays sound without the place in hand
pub sound_without : {w : World} {mine : ℕ → ℕ} → IsSound w mine → IsSound w nowhere
sound_without h = record {
  once = λ q. omega (arith, h.once q);
  in_use = λ q k. h.in_use q (omega (arith, k));
  lengths = h.lengths;
  rows = h.rows;
}

-- a part of a call by what stands on the desk
pub did_look : {R : Type 0} (f : Desk → Meaning R) {t s : Tray} {u v : Used} {from to : Ports} {r : Result R Halt}
    → Did (f (desk_of (world t u (slots_of from)))) t s u v from to r → Did (look f) t s u v from to r
did_look f d = record { runs = runs_look f d.runs; same = d.same; rows = d.rows }

-- how many packets a link has, as a desk shows it
readable_at : (t : Tray) (u : Used) (slots : List (Option Line)) (mine : ℕ → ℕ) (ports : List (List ℕ × ℕ)) (i : ℕ) → HasLinks slots ports
    → i < length ports → IsSound (world t u slots) mine
    → readable (line_at slots (key_at ports i)).row (desk_of (world t u slots)) ≡ length (line_at slots (key_at ports i)).queued
unfolding desk_of queue_of
readable_at t u slots mine ports i has within h =
    let line = line_at slots (key_at ports i) in
    ap readable_of (queue_at u slots (key_at ports i) line (line_there slots ports i has within) (h.rows line.row))
    ∙ length-map line.queued (λ entry. packet_at u entry.0)

pub readable_is : {t : Tray} {u : Used} {mine : ℕ → ℕ} (ports : Ports) (i : ℕ) → HasLinks (slots_of ports) (ins_of ports) → i < length (ins_of ports)
    → IsSound (world t u (slots_of ports)) mine → readable (in_row ports i) (desk_of (world t u (slots_of ports))) ≡ length (in_line ports i).queued
readable_is {t} {u} {mine} ports i has within h = readable_at t u (slots_of ports) mine (ins_of ports) i has within h

-- and for how many it has room
pub room_is : {t : Tray} {u : Used} {mine : ℕ → ℕ} (ports : Ports) (o room : ℕ) → HasLinks (slots_of ports) (outs_of ports) → o < length (outs_of ports)
    → IsSound (world t u (slots_of ports)) mine → room + length (out_line ports o).queued ≡ most_queued
    → room_on (out_row ports o) (desk_of (world t u (slots_of ports))) ≡ room
room_is {t} {u} {mine} ports o room has within h sum =
    let here = readable_at t u (slots_of ports) mine (outs_of ports) o has within h in
    ap (λ n. most_queued - n) here ∙ omega (arith, sum)

-- what a part of a call gives is changed, or it halts
pub did_gives : {R S : Type 0} {m : Meaning R} (f : R → S) {t s : Tray} {u v : Used} {from to : Ports} {x : R} → Did m t s u v from to (Ok x)
    → Did (m >>= (λ y. pure (f y))) t s u v from to (Ok (f x))
did_gives f {s = s} {v = v} {to = to} {x} d = record {
  runs = runs_bind (λ y. pure (f y)) d.runs (runs_pure (f x) (world s v (slots_of to)) nowhere);
  same = d.same;
  rows = d.rows;
}

pub did_fails : {R S : Type 0} {m : Meaning R} (k : R → Meaning S) {t s : Tray} {u v : Used} {from to : Ports} {h : Halt} → Did m t s u v from to (Err h)
    → Did (m >>= k) t s u v from to (Err h)
did_fails k d = record { runs = runs_fail k nowhere d.runs; same = d.same; rows = d.rows }
