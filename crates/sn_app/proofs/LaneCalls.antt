-- What it is to an app that a packet is taken from an interlink, or put into one.
use Rattle.std.proofs.Common.{◌≡◌, ◌≢◌, ℕ, ◌<◌, List, [], ◌∷◌, Option, Result, Ok, Err, refl, sym, subst, arith}
use Rattle.sn_link.specs.Link.{Line}
use Rattle.sn_packet.specs.Hold.{among}
use Rattle.sn_packet.specs.Packet.{PacketState}
use Rattle.sn_app.specs.Answers.{Answers, OnTray}
use Rattle.sn_app.specs.Calls.{IsFresh, packet_there}
use Rattle.sn_app.specs.Desk.{Tray}
use Rattle.sn_app.specs.Reader.{Meaning}
use Rattle.sn_app.specs.Rows.{row_put, row_take}
use Rattle.sn_app.specs.Runs.{Runs}
use Rattle.sn_app.specs.World.{IsSound, Used, desk_of, in_slots, nowhere, packet_at, queue_in, world, ◌⊕◌}
use Rattle.sn_app.specs.declared.halt.Halt.{Halt}
use Rattle.sn_app.proofs.Calling.{runs_fresh, runs_left}
use Rattle.sn_app.proofs.Moving.{desk_used, moves_gone, sound_as, untouched_own}
use Rattle.sn_app.proofs.Running.{runs_as}

-- TAKE: a packet comes to a place

abbrev pub came_to : ℕ → Result ℕ Halt
came_to place = Ok place

abbrev pub came_not : Halt → Result ℕ Halt
came_not halt = Err halt

module _ {t s : Tray} (u v : Used) (slots : List (Option Line)) (lane : ℕ) where
  pub runs_take : (place : ℕ) → IsSound (world t u slots) nowhere → OnTray (row_take lane) t s (packet_there v (came_to place))
      → IsFresh u v place → ((q : ℕ) → (came_to place ≡ came_to q → ⊥) → v q ≡ u q)
      → Runs (row_take lane) (world t u slots) (world s v slots) nowhere (among (place ∷ [])) (Ok (packet_at v place))
  runs_take place h call fresh rest =
      runs_as nowhere (among (place ∷ [])) (λ q. refl) (λ q. omega arith)
      (runs_fresh u v slots nowhere place h call fresh (λ q differs. rest q (λ e. differs (same_place q e))))
    where
      same_place : (q : ℕ) → came_to place ≡ came_to q → q ≡ place
      same_place q e = cc

  pub runs_take_halt : (halt : Halt) (mine : ℕ → ℕ) → OnTray (row_take lane) t s (packet_there v (came_not halt))
      → ((q : ℕ) → (came_not halt ≡ came_to q → ⊥) → v q ≡ u q)
      → Runs (row_take lane) (world t u slots) (world s v slots) mine mine (Err halt)
  runs_take_halt halt mine call rest = runs_left u v slots mine call (λ q. rest q (λ e. absurd (cc)))

-- PUT: a packet goes from its place

module _ {t : Tray} (u v : Used) (slots : List (Option Line)) (place : ℕ) (h : IsSound (world t u slots) (among (place ∷ [])))
    (rest : (q : ℕ) → q ≢ place → v q ≡ u q) where
  queued_stay : (q : ℕ) → 0 < in_slots slots q → v q ≡ u q
  queued_stay q k =
      let beside : IsSound (world t u slots) (among (place ∷ []) ⊕ nowhere) = sound_as (λ p. omega arith) h in
      untouched_own t t u v slots place rest nowhere beside q (omega (arith, k))

  gone_on_desk : {s : Tray} {R : Type 0} {m : Meaning R} {r : Result R Halt} → OnTray m t s r
      → Answers m (desk_of (world t u slots)) (desk_of (world s v slots)) r
  unfolding desk_of
  gone_on_desk {s} {m = m} {r} call =
      subst (λ d. Answers m (desk_of (world t u slots)) d r) (sym (desk_used t s u v slots queued_stay))
      (call.at (queue_in u slots))

  pub runs_put : {s : Tray} (lane : ℕ) (packet : PacketState) → OnTray (row_put lane packet) t s (Ok tt)
      → Runs (row_put lane packet) (world t u slots) (world s v slots) (among (place ∷ [])) nowhere (Ok tt)
  runs_put {s} lane packet call = record { answers = gone_on_desk call; moves = λ x e. moves_gone t s u v slots place rest }

  pub runs_put_halt : {s : Tray} (lane : ℕ) (packet : PacketState) {halt : Halt} (after : ℕ → ℕ)
      → OnTray (row_put lane packet) t s (Err halt)
      → Runs (row_put lane packet) (world t u slots) (world s v slots) (among (place ∷ [])) after (Err halt)
  runs_put_halt lane packet after call = record { answers = gone_on_desk call; moves = λ x e. absurd (cc) }
