-- How a worker takes an action, breathes and ends, part by part, as their meanings have it.
use Rattle.std.proofs.Common.{◌≡◌, ℕ, true, false, if◌then◌else◌, List, [], ◌∷◌, ◌++◌, Result, Ok, Err, sym, subst}
use Rattle.sn_actions.specs.declared.action.Action.{Action}
use Rattle.sn_app.specs.Reader.{Meaning, pure, ◌>>=◌, read}
use Rattle.sn_app.specs.Runs.{Runs, stands_at}
use Rattle.sn_app.specs.World.{World}
use Rattle.sn_app.specs.declared.halt.Halt.{Halt}
use Rattle.sn_app.proofs.Running.{runs_bind, runs_fail, runs_pure}
use Rattle.sn_breath.specs.Breaths.{breath, folding}
use Rattle.sn_network.specs.Acting.{acts}
use Rattle.sn_network.specs.Nets.{Net}
use Rattle.sn_scenario.specs.PlanLaws.{is_commit}
use Rattle.sn_worker.specs.Lives.{Life, applied_to, at_prefix, commits, takes, waits}
use Rattle.sn_worker.specs.Own.{a_breath, a_spent}
use Rattle.sn_worker.specs.Turns.{breathes, last_turn}

-- the same value
pub same_value : {R : Type 0} {m : Meaning R} {w v : World} {before after : ℕ → ℕ} {x y : R} → x ≡ y
    → Runs m w v before after (Ok x) → Runs m w v before after (Ok y)
same_value {m = m} {w} {v} {before} {after} e run = subst (λ z. Runs m w v before after (Ok z)) e run

-- the same meaning
pub of_same : {A R : Type 0} (m : A → Meaning R) {x y : A} {w v : World} {before after : ℕ → ℕ} {r : Result R Halt} → x ≡ y
    → Runs (m x) w v before after r → Runs (m y) w v before after r
of_same m {w = w} {v} {before} {after} {r} e run = subst (λ z. Runs (m z) w v before after r) e run

-- A COMMIT: what waits is applied, and then it

module _ (action : Action) (life : Life) (w v : World) (before between : ℕ → ℕ) where
  after_waiting : Net → Meaning Life
  after_waiting net = acts action net >>= (λ last. pure (applied_to life last))

  pub runs_commits : (mid last : Net) (next : Life) (z : World) (after : ℕ → ℕ) → applied_to life last ≡ next
      → Runs (folding life.waiting acts life.net) w v before between (Ok mid) → Runs (acts action mid) v z between after (Ok last)
      → Runs (commits action life) w z before after (Ok next)
  unfolding commits after_waiting
  runs_commits mid last next z after e applied committed =
      same_value e (runs_bind after_waiting applied
      (runs_bind (λ net. pure (applied_to life net)) committed (runs_pure (applied_to life last) z after)))

  pub waiting_fails : (halt : Halt) (after : ℕ → ℕ) → Runs (folding life.waiting acts life.net) w v before between (Err halt)
      → Runs (commits action life) w v before after (Err halt)
  unfolding commits after_waiting
  waiting_fails halt after applied = runs_fail after_waiting after applied

  pub commit_fails : (mid : Net) (z : World) (inner after : ℕ → ℕ) (halt : Halt)
      → Runs (folding life.waiting acts life.net) w v before between (Ok mid)
      → Runs (acts action mid) v z between inner (Err halt)
      → Runs (commits action life) w z before after (Err halt)
  unfolding commits after_waiting
  commit_fails mid z inner after halt applied committed =
      runs_bind after_waiting applied (runs_fail (λ net. pure (applied_to life net)) after committed)

-- ANY ACTION

pub takes_commit : (action : Action) (life : Life) (w v : World) (before after : ℕ → ℕ) (r : Result Life Halt)
    → is_commit action ≡ true → Runs (commits action life) w v before after r → Runs (takes action life) w v before after r
unfolding takes
takes_commit action life w v before after r is run =
    subst (λ b. Runs (if b then commits action life else pure (waits (life.waiting ++ action ∷ []) life)) w v before after r)
    (sym is) run

pub takes_other : (action : Action) (life next : Life) (w : World) (mine : ℕ → ℕ) → is_commit action ≡ false
    → waits (life.waiting ++ action ∷ []) life ≡ next → Runs (takes action life) w w mine mine (Ok next)
unfolding takes
takes_other action life next w mine is e =
    subst (λ b. Runs (if b then commits action life else pure (waits (life.waiting ++ action ∷ []) life)) w w mine mine (Ok next))
    (sym is) (same_value e (runs_pure (waits (life.waiting ++ action ∷ []) life) w mine))

-- A BREATH

module _ (plan : List Action) (life : Life) (w v : World) (before : ℕ → ℕ) where
  with_net : Net → Meaning Life
  with_net net = pure (record life { net = net })

  after_entry : Unit {0} → Meaning Life
  after_entry done = breath (at_prefix plan life) >>= with_net

  pub runs_breathes : (net : Net) (next : Life) (z : World) (after : ℕ → ℕ) → record life { net = net } ≡ next
      → Runs (read a_breath) w v before before (Ok tt) → Runs (breath (at_prefix plan life)) v z before after (Ok net)
      → Runs (breathes plan life) w z before after (Ok next)
  unfolding breathes after_entry with_net
  runs_breathes net next z after e noted breathed =
      same_value e (runs_bind after_entry noted (runs_bind with_net breathed (runs_pure (record life { net = net }) z after)))

  pub breath_fails : (z : World) (inner after : ℕ → ℕ) (halt : Halt) → Runs (read a_breath) w v before before (Ok tt)
      → Runs (breath (at_prefix plan life)) v z before inner (Err halt) → Runs (breathes plan life) w z before after (Err halt)
  unfolding breathes after_entry with_net
  breath_fails z inner after halt noted breathed = runs_bind after_entry noted (runs_fail with_net after breathed)

  -- whatever the breath answered
  pub breathes_by : (net : Net) (next : Life) (z : World) (after : ℕ → ℕ) (r : Result (Unit {0}) Halt)
      → record life { net = net } ≡ next → Runs (read a_breath) w v before before (Ok tt)
      → Runs (breath (at_prefix plan life)) v z before after (stands_at net r)
      → Runs (breathes plan life) w z before after (stands_at next r)
  breathes_by net next z after (Ok done) e noted breathed = runs_breathes net next z after e noted breathed
  breathes_by net next z after (Err halt) e noted breathed = breath_fails z after after halt noted breathed

-- THE LAST TURN

pub runs_last : (life next : Life) (w v : World) (mine : ℕ → ℕ) → record life { spent = true } ≡ next
    → Runs (read a_spent) w v mine mine (Ok tt) → Runs (last_turn life) w v mine mine (Ok next)
unfolding last_turn
runs_last life next w v mine e noted =
    same_value e
    (runs_bind (λ noted. pure (record life { spent = true })) noted (runs_pure (record life { spent = true }) v mine))
