-- What a worker knows stays where its context did something beside its apps and gave back what it took.
use Rattle.std.proofs.Common.{◌≡◌, ℕ, List, Option, None, Result, Ok}
use Rattle.std.proofs.Common.{Err, OnErr, OnOk, IsSome, sym, ap, subst, ◌∙◌, arith}
use mathlib.Core.Path.{fun_ext}
use Rattle.sn_link.specs.Link.{Line}
use Rattle.sn_app.specs.Answers.{Answers, OnTray, Stays}
use Rattle.sn_app.specs.Desk.{Tray}
use Rattle.sn_app.specs.Reader.{Meaning}
use Rattle.sn_app.specs.Runs.{Runs}
use Rattle.sn_app.specs.World.{IsSound, Used, desk_of, queue_in, world}
use Rattle.sn_app.specs.declared.halt.Halt.{Halt}
use Rattle.sn_app.proofs.Calling.{runs_left}
use Rattle.sn_app.proofs.Moving.{desk_used}
use Rattle.sn_network.specs.Nets.{Net}
use Rattle.sn_network.specs.Networks.{CanBreathe, shown}
use Rattle.sn_network.proofs.Noted.{still_breathes, still_shown}
use Rattle.sn_worker.specs.Workers.{CanWork, kept_of, life_of, plan_in, world_around}
use Rattle.sn_worker.specs.declared.worker.Worker.{Worker}
use Rattle.sn_worker.proofs.Staying.{all_stay}

-- what is so where a call was refused
pub on_err : {A E P : Type 0} (r : Result A E) → P → OnErr r P
on_err (Ok x) p = tt
on_err (Err e) p = p

-- what any call keeps
pub tray_stays : {R : Type 0} {m : Meaning R} {t s : Tray} {r : Result R Halt} → OnTray m t s r → Stays t s
tray_stays call = (call.at (λ row. None)).stays

module _ (worker : Worker) (u v : Used) (t s : Tray) (stays : Stays t s) (same : v ≡ u) where
  pub kept_works : CanWork worker u t → CanWork worker v s
  kept_works h = record {
    breathes =
        subst (λ (used : Used). CanBreathe worker.network used s) (sym same)
        (still_breathes worker.network u t s stays h.breathes);
    within = h.within;
    takes = h.takes;
    finds = all_stay (plan_in worker) t s stays h.finds;
  }

  pub kept_life : life_of worker v s ≡ life_of worker u t
  kept_life =
      ap (λ (net : Net). record (life_of worker u t) { net = net })
      (ap (λ (used : Used). shown worker.network used s) same ∙ still_shown worker.network u t s stays)

-- its world is sound
pub works_sound : (worker : Worker) (u : Used) (t : Tray) → CanWork worker u t
    → IsSound (world_around worker u t) (kept_of worker)
works_sound worker u t h = h.breathes.stands.sound

-- the same packets are used
pub same_used : {u v : Used} → ((q : ℕ) → v q ≡ u q) → v ≡ u
same_used same = fun_ext same

-- a call after which the same packets are used runs as its row reads
module _ {R : Type 0} {m : Meaning R} {t s : Tray} (u v : Used) (slots : List (Option Line)) (mine : ℕ → ℕ)
    (sound : IsSound (world t u slots) mine) where
  on_desk : {r : Result R Halt} → ((q : ℕ) → IsSome (u q) → v q ≡ u q) → OnTray m t s r
      → Answers m (desk_of (world t u slots)) (desk_of (world s v slots)) r
  unfolding desk_of
  on_desk {r} stay call =
      subst (λ d. Answers m (desk_of (world t u slots)) d r)
      (sym (desk_used t s u v slots (λ q k. stay q (sound.in_use q (omega (arith, k)))))) (call.at (queue_in u slots))

  pub runs_stayed : (r : Result R Halt) → OnTray m t s r → OnOk r ((q : ℕ) → v q ≡ u q) → ((q : ℕ) → IsSome (u q) → v q ≡ u q)
      → Runs m (world t u slots) (world s v slots) mine mine r
  runs_stayed (Ok x) call same stay = runs_left u v slots mine call same
  runs_stayed (Err halt) call same stay = record { answers = on_desk stay call; moves = λ x e. absurd cc }
