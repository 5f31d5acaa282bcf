-- So many steps, each with the value that the one before made, as runs of a whole.
use Rattle.std.proofs.Common.{◌≡◌, ℕ, zero, suc, ◌+◌, ◌-◌, ◌<◌, ◌≤◌, Bool, true, false, if◌then◌else◌, Ok, Err, ap, arith}
use Rattle.sn_app.specs.Reader.{Meaning, pure, ◌>>=◌, stepping}
use Rattle.sn_app.specs.Runs.{Continues, Runs}
use Rattle.sn_app.specs.World.{World}
use Rattle.sn_app.specs.declared.halt.Halt.{Halt}
use Rattle.sn_app.proofs.Running.{continues_as, continues_bind, continues_done, continues_fail, continues_start, runs_pure}

module _ {S : Type 0} (n : ℕ) (m : S → Meaning (Bool × S)) (start : S) (w : World) (before : ℕ → ℕ) where
  -- what stands at a step: however the steps that are left run from here, all run from the start
  abbrev pub Stepped : ℕ → S → World → (ℕ → ℕ) → Type 0
  Stepped i s now mine = Continues (stepping (n - i) m s) (stepping n m start) w now before mine

  pub stepped_start : Stepped 0 start w before
  stepped_start =
      let e : n ≡ n - 0 = omega arith in
      continues_as (ap (λ k. stepping k m start) e) (continues_start (stepping n m start) w before)

  next_or_last : (S → Meaning S) → Bool × S → Meaning S
  next_or_last next t = if t.0 then next t.1 else pure t.1

  steps_left : (i : ℕ) (s : S) → i < n → stepping (n - i) m s ≡ (m s >>= next_or_last (stepping (n - (i + 1)) m))
  unfolding stepping next_or_last
  steps_left i s within = let e : n - i ≡ suc (n - (i + 1)) = omega arith in ap (λ k. stepping k m s) e

  steps_over : (i : ℕ) (s : S) → n ≤ i → stepping (n - i) m s ≡ pure s
  unfolding stepping
  steps_over i s past = let e : n - i ≡ zero = omega arith in ap (λ k. stepping k m s) e

  -- a step that says to go on, one that says to end, one that halts, and the end of all
  pub stepped_next : (i : ℕ) (s t : S) (now next : World) (mine kept : ℕ → ℕ) → i < n → Stepped i s now mine
      → Runs (m s) now next mine kept (Ok (true, t)) → Stepped (i + 1) t next kept
  unfolding next_or_last
  stepped_next i s t now next mine kept within c run =
      continues_bind (next_or_last (stepping (n - (i + 1)) m)) (continues_as (steps_left i s within) c) run

  pub stepped_stop : (i : ℕ) (s t : S) (now later : World) (mine after : ℕ → ℕ) → i < n → Stepped i s now mine
      → Runs (m s) now later mine after (Ok (false, t)) → Runs (stepping n m start) w later before after (Ok t)
  unfolding next_or_last
  stepped_stop i s t now later mine after within c run =
      continues_done (continues_bind (next_or_last (stepping (n - (i + 1)) m)) (continues_as (steps_left i s within) c) run)
      (runs_pure t later after)

  pub stepped_halt : (i : ℕ) (s : S) (now later : World) (mine kept : ℕ → ℕ) (h : Halt) (after : ℕ → ℕ) → i < n
      → Stepped i s now mine → Runs (m s) now later mine kept (Err h)
      → Runs (stepping n m start) w later before after (Err h)
  stepped_halt i s now later mine kept h after within c run =
      continues_fail (next_or_last (stepping (n - (i + 1)) m)) after (continues_as (steps_left i s within) c) run

  pub stepped_end : (i : ℕ) (s : S) (now : World) (mine : ℕ → ℕ) → n ≤ i → Stepped i s now mine
      → Runs (stepping n m start) w now before mine (Ok s)
  stepped_end i s now mine past c = continues_done (continues_as (steps_over i s past) c) (runs_pure s now mine)
