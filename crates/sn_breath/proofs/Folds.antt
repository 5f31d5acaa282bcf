-- How the calls of a breath go together.
use Rattle.std.proofs.Common.{Err, List, Ok, Result, ap, drop, length, slice_index_or, subst, ℕ, ◌+◌, ◌<◌, ◌≡◌, ◌≤◌}
use Rattle.sn_app.specs.Reader.{Meaning}
use Rattle.sn_app.specs.Runs.{Continues, Runs}
use Rattle.sn_app.specs.World.{World}
use Rattle.sn_app.specs.declared.halt.Halt.{Halt}
use Rattle.sn_app.proofs.Hands.{drop_next, drop_past}
use Rattle.sn_app.proofs.Running.{continues_as, continues_bind, continues_done, continues_fail, continues_start, runs_bind}
use Rattle.sn_app.proofs.Running.{runs_fail, runs_pure}
use Rattle.sn_actions.specs.PlainForms.{PlainForm}
use Rattle.sn_breath.specs.Breaths.{breath, folding}
use Rattle.sn_network.specs.Calling.{pull_app, push_app}
use Rattle.sn_network.specs.Nets.{Net}
use Rattle.sn_network.specs.Orders.{pull_order, push_order}

module _ {A S : Type 0} (names : List A) (m : A → S → Meaning S) (start : S) (w : World) (before : ℕ → ℕ) where
  -- what stands at a turn: however the calls that are left run from here, all run from the start
  abbrev pub Onward : ℕ → S → World → (ℕ → ℕ) → Type 0
  Onward i s now mine = Continues (folding (drop i names) m s) (folding names m start) w now before mine

  pub onward_start : Onward 0 start w before
  onward_start = continues_start (folding names m start) w before

  -- the next one was called; the names as they are read there are the same
  pub onward_next : (others : List A) → others ≡ names → (i : ℕ) (d : A) (s t : S) (now next : World) (mine kept : ℕ → ℕ)
      → i < length names → Onward i s now mine → Runs (m (slice_index_or others i d) s) now next mine kept (Ok t)
      → Onward (i + 1) t next kept
  unfolding folding
  onward_next others same i d s t now next mine kept within onward run =
      continues_bind (folding (drop (i + 1) names) m)
      (continues_as (ap (λ xs. folding xs m s) (drop_next names i d within)) onward)
      (subst (λ xs. Runs (m (slice_index_or xs i d) s) now next mine kept (Ok t)) same run)

  -- it halted
  pub onward_fail : (others : List A) → others ≡ names → (i : ℕ) (d : A) (s : S) (now later : World) (mine kept : ℕ → ℕ)
      (halt : Halt) (after : ℕ → ℕ) → i < length names → Onward i s now mine
      → Runs (m (slice_index_or others i d) s) now later mine kept (Err halt)
      → Runs (folding names m start) w later before after (Err halt)
  unfolding folding
  onward_fail others same i d s now later mine kept halt after within onward run =
      continues_fail (folding (drop (i + 1) names) m) after
      (continues_as (ap (λ xs. folding xs m s) (drop_next names i d within)) onward)
      (subst (λ xs. Runs (m (slice_index_or xs i d) s) now later mine kept (Err halt)) same run)

  -- none is left
  pub onward_done : (i : ℕ) (s : S) (now : World) (mine : ℕ → ℕ) → length names ≤ i → Onward i s now mine
      → Runs (folding names m start) w now before mine (Ok s)
  unfolding folding
  onward_done i s now mine past onward =
      continues_done (continues_as (ap (λ xs. folding xs m s) (drop_past names i past)) onward) (runs_pure s now mine)

-- the pulls and then the pushes are a breath; the pushes' order is told by the same plain form
pub runs_breath : (net mid : Net) (w v z : World) (before between after : ℕ → ℕ) (plain : PlainForm) (r : Result Net Halt)
    → plain ≡ net.plain → Runs (folding (pull_order net.plain) pull_app net) w v before between (Ok mid)
    → Runs (folding (push_order plain) push_app mid) v z between after r → Runs (breath net) w z before after r
unfolding breath
runs_breath net mid w v z before between after plain r same pulled pushed =
    runs_bind (folding (push_order net.plain) push_app) pulled
    (subst (λ (p : PlainForm). Runs (folding (push_order p) push_app mid) v z between after r) same pushed)

pub breath_fails : (net : Net) (w v : World) (before between after : ℕ → ℕ) (halt : Halt)
    → Runs (folding (pull_order net.plain) pull_app net) w v before between (Err halt)
    → Runs (breath net) w v before after (Err halt)
unfolding breath
breath_fails net w v before between after halt pulled = runs_fail (folding (push_order net.plain) push_app) after pulled
