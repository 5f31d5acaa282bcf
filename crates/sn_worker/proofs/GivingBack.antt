-- A free packet is given back, or isn't, as its meaning reads; and again and again.
use Rattle.std.proofs.Common.{◌≡◌, ℕ, ◌-◌, ◌<◌, ◌≤◌, ◌==◌, Bool, true, false, List}
use Rattle.std.proofs.Common.{[], ◌∷◌, length, nat_lt, Option, Some, None, Result, Ok, Err}
use Rattle.std.proofs.Common.{refl, sym, subst, arith, le-ltb, lt-ltb, ltb-true}
use Rattle.sn_app.specs.Answers.{Answers, OnTray}
use Rattle.sn_app.specs.Desk.{Desk, Tray, freed}
use Rattle.sn_app.specs.Reader.{go_on, look, pure, times, ◌>>=◌}
use Rattle.sn_app.specs.Rows.{frees, refill_needed, refill_where, row_allocate, row_give, take_last}
use Rattle.sn_app.specs.declared.halt.Halt.{Halt}
use Rattle.sn_app.proofs.OnTrays.{Leads, leads_start, tray_bind, tray_changed, tray_fail, tray_pure}
use Rattle.sn_app.proofs.Playing.{desk}
use Rattle.sn_app.proofs.Readings.{answers_at, answers_look}
use Rattle.sn_journal.specs.HandOvers.{PacketName}
use Rattle.sn_journal.specs.declared.entry.Entry.{Entry}
use Rattle.sn_worker.specs.Giving.{given_or_freed, gives_after, gives_named, gives_one, gives_over, gives_when, gives_where}

-- A PACKET

module _ (name : PacketName) (t s : Tray) (given : Bool) where
  pub gave_done : given ≡ true → OnTray (row_give name) t s (Ok given) → OnTray (gives_named (Some name)) t s (Ok true)
  unfolding gives_named given_or_freed
  gave_done is call =
      tray_bind (given_or_freed name) (subst (λ b. OnTray (row_give name) t s (Ok b)) is call) (tray_pure true s)

  pub gave_not : (z : Tray) → given ≡ false → z ≡ freed name s → OnTray (row_give name) t s (Ok given)
      → OnTray (gives_named (Some name)) t z (Ok false)
  unfolding gives_named given_or_freed frees
  gave_not z is free call =
      subst (λ y. OnTray (gives_named (Some name)) t y (Ok false)) (sym free)
      (tray_bind (given_or_freed name) (subst (λ b. OnTray (row_give name) t s (Ok b)) is call)
      (tray_bind (λ done. pure false)
      (tray_changed (freed name) s refl (record { constants = refl; started = λ file h. h }))
      (tray_pure false (freed name s))))

pub gave_halts : (name : PacketName) (t s : Tray) (halt : Halt) → OnTray (row_give name) t s (Err halt)
    → OnTray (gives_named (Some name)) t s (Err halt)
unfolding gives_named
gave_halts name t s halt call = tray_fail (given_or_freed name) call

-- THE ONE FREED LAST, WHERE MORE ARE FREE

gives_by : (keep : ℕ) (t s : Tray) (b : Bool) (r : Result Bool Halt) → nat_lt keep (length t.free) ≡ b
    → OnTray (gives_where b) t s r → OnTray (gives_one keep) t s r
unfolding gives_one
gives_by keep t s b r e call = record {
  at = λ queues.
      answers_look (λ d. gives_where (nat_lt keep (length d.tray.free)))
      (subst (λ c. Answers (gives_where c) (desk t queues) (desk s queues) r) (sym e) (call.at queues));
}

-- one is free: nothing is read
needless : (keep : ℕ) (free : List PacketName) (d : Desk) (entries : List Entry) → nat_lt keep (length free) ≡ true
    → take_last d entries ≡ go_on (refill_where free d entries) (λ came. take_last)
unfolding refill_where go_on pure
needless keep [] d entries more =
    let none : keep < 0 = ltb-true keep 0 more in absurd (omega (arith, none))
needless keep (name ∷ names) d entries more = refl

took_last : (keep : ℕ) (t s : Tray) (r : Result (Option PacketName) Halt) → nat_lt keep (length t.free) ≡ true
    → OnTray row_allocate t s r → OnTray take_last t s r
unfolding row_allocate refill_needed look ◌>>=◌
took_last keep t s r more call = record {
  at = λ queues. answers_at (λ entries. needless keep t.free (desk t queues) entries more) (call.at queues);
}

pub gives_none : (keep : ℕ) (t : Tray) → nat_lt keep (length t.free) ≡ false → OnTray (gives_one keep) t t (Ok false)
unfolding gives_where
gives_none keep t few = gives_by keep t t false (Ok false) few (tray_pure false t)

module _ (keep : ℕ) (t s : Tray) where
  pub gives_last : (z : Tray) (name : Option PacketName) (r : Result Bool Halt) → nat_lt keep (length t.free) ≡ true
      → OnTray row_allocate t s (Ok name) → OnTray (gives_named name) s z r → OnTray (gives_one keep) t z r
  unfolding gives_where
  gives_last z name r more came call =
      gives_by keep t z true r more (tray_bind gives_named (took_last keep t s (Ok name) more came) call)

  pub gives_halts : (halt : Halt) → nat_lt keep (length t.free) ≡ true → OnTray row_allocate t s (Err halt)
      → OnTray (gives_one keep) t s (Err halt)
  unfolding gives_where
  gives_halts halt more came =
      gives_by keep t s true (Err halt) more (tray_fail gives_named (took_last keep t s (Err halt) more came))

-- how many are free, as code counts them
pub few_free : (keep frees count : ℕ) → frees ≡ count → frees ≤ keep → nat_lt keep count ≡ false
few_free keep frees count e few = le-ltb keep count (subst (λ n. n ≤ keep) e few)

pub more_free : (keep frees count : ℕ) → frees ≡ count → keep < frees → nat_lt keep count ≡ true
more_free keep frees count e more = lt-ltb keep count (subst (λ n. keep < n) e more)

-- none came
pub named_none : (s : Tray) → OnTray (gives_named None) s s (Ok false)
unfolding gives_named
named_none s = tray_pure false s

-- AGAIN AND AGAIN

pub gave_as : (keep : ℕ) (t s : Tray) (b : Bool) {c : Bool} → b ≡ c → OnTray (gives_one keep) t s (Ok b)
    → OnTray (gives_one keep) t s (Ok c)
gave_as keep t s b e call = subst (λ given. OnTray (gives_one keep) t s (Ok given)) e call

pub leads_first : (n keep : ℕ) (t : Tray) → Leads (times (n - 0) (gives_one keep)) (times n (gives_one keep)) t t
leads_first n keep t =
    let e : n ≡ n - 0 = omega arith in
    subst (λ k. Leads (times k (gives_one keep)) (times n (gives_one keep)) t t) e (leads_start (times n (gives_one keep)) t)

over_by : (keep : ℕ) (t s : Tray) (n : ℕ) (r : Result Bool Halt) → n ≡ length t.free → OnTray (times n (gives_one keep)) t s r
    → OnTray (look (λ d. times (length d.tray.free) (gives_one keep))) t s r
over_by keep t s n r e call = record {
  at = λ queues.
      answers_look (λ d. times (length d.tray.free) (gives_one keep))
      (subst (λ k. Answers (times k (gives_one keep)) (desk t queues) (desk s queues) r) e (call.at queues));
}

module _ (keep : ℕ) (t s : Tray) (n : ℕ) (all : n ≡ length t.free) where
  pub over_done : (b : Bool) → OnTray (times n (gives_one keep)) t s (Ok b) → OnTray (gives_over keep) t s (Ok tt)
  unfolding gives_over
  over_done b call = tray_bind (λ given. pure tt) (over_by keep t s n (Ok b) all call) (tray_pure tt s)

  pub over_halts : (halt : Halt) → OnTray (times n (gives_one keep)) t s (Err halt) → OnTray (gives_over keep) t s (Err halt)
  unfolding gives_over
  over_halts halt call = tray_fail (λ given. pure tt) (over_by keep t s n (Err halt) all call)

-- WITH EACH HUNDRED BREATHS

module _ (keep breathed : ℕ) (t s : Tray) (r : Result Unit Halt) where
  pub after_hundred : (breathed == 0) ≡ true → OnTray (gives_over keep) t s r → OnTray (gives_after keep breathed) t s r
  unfolding gives_after gives_when
  after_hundred full call = subst (λ b. OnTray (gives_when b keep) t s r) (sym full) call

pub after_fewer : (keep breathed : ℕ) (t : Tray) → (breathed == 0) ≡ false → OnTray (gives_after keep breathed) t t (Ok tt)
unfolding gives_after gives_when
after_fewer keep breathed t fewer = subst (λ b. OnTray (gives_when b keep) t t (Ok tt)) (sym fewer) (tray_pure tt t)
