-- A call that leaves all packets, as those on files and most at interlinks do, and what follows it.
use Rattle.std.proofs.Common.{◌≡◌, ℕ, true, List, [], ◌∷◌, Option, None, Result, Ok, Err, ap, subst}
use Rattle.sn_link.specs.Link.{Line}
use Rattle.sn_packet.specs.Hold.{among, put_at}
use Rattle.sn_app.specs.Answers.{OnTray}
use Rattle.sn_app.specs.Desk.{Tray, freed, name_of}
use Rattle.sn_app.specs.Reader.{Meaning, pure}
use Rattle.sn_app.specs.Rows.{◌>>◌, frees}
use Rattle.sn_app.specs.Runs.{Runs, stands_at}
use Rattle.sn_app.specs.World.{IsSound, Used, World, nowhere, packet_at, world}
use Rattle.sn_app.specs.declared.halt.Halt.{Halt}
use Rattle.sn_app.proofs.Calling.{runs_free, runs_left}
use Rattle.sn_app.proofs.Running.{runs_bind, runs_fail, runs_pure}

-- all packets stay, as a clause says it
pub runs_kept : {R : Type 0} {m : Meaning R} {t s : Tray} {r : Result R Halt} (u v : Used) (slots : List (Option Line))
    (mine : ℕ → ℕ)
    → OnTray m t s r → v ≡ u → Runs m (world t u slots) (world s v slots) mine mine r
runs_kept u v slots mine call used = runs_left u v slots mine call (λ q. ap (λ f. f q) used)

-- a packet becomes free that such a call left
pub runs_free_kept : {t s : Tray} (u v w : Used) (slots : List (Option Line)) (place : ℕ)
    → IsSound (world t v slots) (among (place ∷ [])) → v ≡ u
    → s ≡ freed (name_of (packet_at v place)) t → w ≡ put_at place None v
    → Runs (frees (name_of (packet_at u place))) (world t v slots) (world s w slots) (among (place ∷ [])) nowhere (Ok tt)
runs_free_kept {t} {s} u v w slots place h kept tray used =
    subst (λ (f : Used). Runs (frees (name_of (packet_at f place))) (world t v slots) (world s w slots)
    (among (place ∷ [])) nowhere (Ok tt)) kept
    (runs_free v w slots place h tray used)

-- a run gives what its value is
pub runs_gave : {R : Type 0} {m : Meaning R} {w v : World} {before after : ℕ → ℕ} {x y : R} → x ≡ y
    → Runs m w v before after (Ok x)
    → Runs m w v before after (Ok y)
runs_gave {m = m} {w} {v} {before} {after} e run = subst (λ z. Runs m w v before after (Ok z)) e run

-- a call that gives nothing, and then true
pub runs_then_true : {m : Meaning Unit} {w v : World} {before after : ℕ → ℕ} (r : Result Unit Halt) → Runs m w v before after r
    → Runs (m >> pure true) w v before after (stands_at true r)
runs_then_true {v = v} {after = after} (Ok done) run = runs_bind (λ x. pure true) run (runs_pure true v after)
runs_then_true {after = after} (Err halt) run = runs_fail (λ x. pure true) after run
