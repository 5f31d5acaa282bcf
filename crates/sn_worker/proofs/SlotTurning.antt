-- What a worker does in a turn over a seat, part by part, as the turn's meaning has it.
use Rattle.std.proofs.Common.{◌≡◌, ℕ, ◌≤◌, ◌&&◌, Bool, true, false, not, nat_le, List}
use Rattle.std.proofs.Common.{[], ◌∷◌, Result, Ok, Err, All, OnOk, sym, ap, subst}
use Rattle.std.proofs.lemmas.Bool.{and_from, le-leb}
use Rattle.std.proofs.lemmas.List.Elements.{recursion_from_All}
use Rattle.std.specs.List.{AllByRecursion, list_all}
use Rattle.std.specs.Prelude.{refl}
use Rattle.sn_actions.specs.declared.action.Action.{Action}
use Rattle.sn_app.specs.Answers.{Answers, OnTray}
use Rattle.sn_app.specs.Desk.{Tray}
use Rattle.sn_app.specs.Reader.{pure, ◌>>=◌, read, stepping}
use Rattle.sn_app.specs.Rows.{row_hear}
use Rattle.sn_app.specs.Runs.{Runs, stands_at}
use Rattle.sn_app.specs.World.{World, desk_of}
use Rattle.sn_app.specs.declared.halt.Halt.{Halt}
use Rattle.sn_app.proofs.Playing.{desk}
use Rattle.sn_app.proofs.Readings.{answers_bind, answers_fail, answers_look, answers_pure}
use Rattle.sn_app.proofs.Running.{runs_bind, runs_fail, runs_look, runs_pure}
use Rattle.sn_breath.specs.Breaths.{folding}
use Rattle.sn_seat.specs.Told.{of_channel}
use Rattle.sn_worker.specs.Giving.{gives_after}
use Rattle.sn_worker.specs.Lives.{Life, next_actions, takes}
use Rattle.sn_worker.specs.Own.{a_round, is_full}
use Rattle.sn_worker.specs.SlotTurns.{acting, heard_where, hears, may_hear, one_slot_turn, rests, slot_last, slot_round}
use Rattle.sn_worker.specs.SlotTurns.{slot_turn}
use Rattle.sn_worker.specs.SlotTurns.{slot_turn_where, slot_work, until_spent}
use Rattle.sn_worker.specs.Slots.{SlotLife, after_breath}
use Rattle.sn_worker.specs.Turns.{breathes, last_turn}
use Rattle.sn_worker.proofs.Turning.{same_value}

-- HEARING

all_within : (n : ℕ) (heard : List ℕ) → AllByRecursion (λ before. before ≤ n) heard
    → list_all (λ before. nat_le before n) heard ≡ true
all_within n [] h = refl
all_within n (x ∷ heard) h =
    and_from (nat_le x n) (list_all (λ before. nat_le before n) heard) (le-leb x n h.0) (all_within n heard h.1)

module _ (floor : ℕ) (t s : Tray) where
  pub heard_well : (n : ℕ) → floor ≤ n → All (λ before. before ≤ n) (of_channel t.log.past) → OnTray row_hear t s (Ok n)
      → OnTray (hears floor) t s (Ok n)
  unfolding hears heard_where
  heard_well n least rising call =
      let may : (nat_le floor n && list_all (λ before. nat_le before n) (of_channel t.log.past)) ≡ true =
      and_from (nat_le floor n) (list_all (λ before. nat_le before n) (of_channel t.log.past)) (le-leb floor n least)
      (all_within n (of_channel t.log.past)
      (recursion_from_All (λ before. before ≤ n) (of_channel t.log.past) rising)) in
      record {
        at = λ queues.
            answers_look (λ d. row_hear >>= (λ m. heard_where (may_hear floor d m) m))
            (answers_bind (λ m. heard_where (may_hear floor (desk t queues) m) m) (call.at queues)
            (subst (λ b. Answers (heard_where b n) (desk s queues) (desk s queues) (Ok n)) (sym may)
            (answers_pure n (desk s queues))));
      }

  pub hears_halts : (halt : Halt) → OnTray row_hear t s (Err halt) → OnTray (hears floor) t s (Err halt)
  unfolding hears
  hears_halts halt call = record {
    at = λ queues.
        answers_look (λ d. row_hear >>= (λ m. heard_where (may_hear floor d m) m))
        (answers_fail (λ m. heard_where (may_hear floor (desk t queues) m) m) (call.at queues));
  }

-- ACTING

module _ (plan : List Action) (life : Life) (due : ℕ) (w v : World) (before between : ℕ → ℕ) where
  pub runs_acting : (taken : Life) (z : World) (after : ℕ → ℕ) (r : Result Life Halt)
      → Runs (folding (next_actions plan due life.taken) takes life) w v before between (Ok taken)
      → Runs (breathes plan taken) v z between after r → Runs (acting plan life due) w z before after r
  unfolding acting
  runs_acting taken z after r took breathed = runs_bind (breathes plan) took breathed

  pub acting_fails : (halt : Halt) (after : ℕ → ℕ)
      → Runs (folding (next_actions plan due life.taken) takes life) w v before between (Err halt)
      → Runs (acting plan life due) w v before after (Err halt)
  unfolding acting
  acting_fails halt after took = runs_fail (breathes plan) after took

-- RESTING

module _ (keep breathed : ℕ) (life : Life) (w v : World) (mine : ℕ → ℕ) where
  pub rests_by : (next : SlotLife) (r : Result Unit Halt) → OnOk r (record { life = life; breathed = breathed } ≡ next)
      → Runs (gives_after keep breathed) w v mine mine r → Runs (rests keep breathed life) w v mine mine (stands_at next r)
  unfolding rests
  rests_by next (Ok done) e gave =
      same_value e (runs_bind (λ gone. pure (record { life = life; breathed = breathed })) gave
      (runs_pure (record { life = life; breathed = breathed }) v mine))
  rests_by next (Err halt) e gave = runs_fail (λ gone. pure (record { life = life; breathed = breathed })) mine gave

-- A TURN

module _ (plan : List Action) (floor keep : ℕ) (s : SlotLife) (w v : World) (before between : ℕ → ℕ) where
  pub work_unheard : (halt : Halt) (after : ℕ → ℕ) → Runs (hears floor) w v before between (Err halt)
      → Runs (slot_work plan floor keep s) w v before after (Err halt)
  unfolding slot_work
  work_unheard halt after heard =
      runs_fail (rests keep (after_breath s.breathed)) after (runs_fail (acting plan s.life) after heard)

  pub work_halts : (due : ℕ) (halt : Halt) (z : World) (inner after : ℕ → ℕ) → Runs (hears floor) w v before between (Ok due)
      → Runs (acting plan s.life due) v z between inner (Err halt)
      → Runs (slot_work plan floor keep s) w z before after (Err halt)
  unfolding slot_work
  work_halts due halt z inner after heard acted =
      runs_fail (rests keep (after_breath s.breathed)) after (runs_bind (acting plan s.life) heard acted)

  pub runs_work : (due : ℕ) (life : Life) (x z : World) (inner after : ℕ → ℕ) (r : Result SlotLife Halt)
      → Runs (hears floor) w v before between (Ok due)
      → Runs (acting plan s.life due) v x between inner (Ok life)
      → Runs (rests keep (after_breath s.breathed) life) x z inner after r
      → Runs (slot_work plan floor keep s) w z before after r
  unfolding slot_work
  runs_work due life x z inner after r heard acted rested =
      runs_bind (rests keep (after_breath s.breathed)) (runs_bind (acting plan s.life) heard acted) rested

pub last_by : (s next : SlotLife) (life : Life) (w v : World) (before after : ℕ → ℕ) (r : Result Unit Halt)
    → record s { life = life } ≡ next → Runs (last_turn s.life) w v before after (stands_at life r)
    → Runs (slot_last s) w v before after (stands_at next r)
unfolding slot_last
last_by s next life w v before after (Ok done) e run =
    same_value e (runs_bind (λ (l : Life). pure (record s { life = l })) run (runs_pure (record s { life = life }) v after))
last_by s next life w v before after (Err halt) e run = runs_fail (λ (l : Life). pure (record s { life = l })) after run

module _ (plan : List Action) (floor keep : ℕ) (s : SlotLife) (w v : World) (before after : ℕ → ℕ)
    (r : Result SlotLife Halt) where
  turn_by : (b : Bool) → is_full w.tray ≡ b → Runs (slot_turn_where b plan floor keep s) w v before after r
      → Runs (slot_turn plan floor keep s) w v before after r
  unfolding slot_turn desk_of
  turn_by b full run =
      runs_look (λ d. slot_turn_where (is_full d.tray) plan floor keep s)
      (subst (λ c. Runs (slot_turn_where c plan floor keep s) w v before after r) (sym full) run)

  pub slot_full : is_full w.tray ≡ true → Runs (slot_last s) w v before after r
      → Runs (slot_turn plan floor keep s) w v before after r
  unfolding slot_turn_where
  slot_full full run = turn_by true full run

  pub slot_works : is_full w.tray ≡ false → Runs (slot_work plan floor keep s) w v before after r
      → Runs (slot_turn plan floor keep s) w v before after r
  unfolding slot_turn_where
  slot_works full run = turn_by false full run

-- A TURN OF A LOOP

module _ (plan : List Action) (floor keep : ℕ) (s : SlotLife) (w v : World) (before after : ℕ → ℕ) where
  pub slot_goes_on : (next : SlotLife) → next.life.spent ≡ false → Runs (slot_turn plan floor keep s) w v before after (Ok next)
      → Runs (one_slot_turn plan floor keep s) w v before after (Ok (true, next))
  unfolding one_slot_turn until_spent
  slot_goes_on next spent run =
      same_value (ap (λ b. (not b, next)) spent) (runs_bind until_spent run (runs_pure (not next.life.spent, next) v after))

  pub slot_ends : (next : SlotLife) → next.life.spent ≡ true → Runs (slot_turn plan floor keep s) w v before after (Ok next)
      → Runs (one_slot_turn plan floor keep s) w v before after (Ok (false, next))
  unfolding one_slot_turn until_spent
  slot_ends next spent run =
      same_value (ap (λ b. (not b, next)) spent) (runs_bind until_spent run (runs_pure (not next.life.spent, next) v after))

  pub slot_halts : (inner : ℕ → ℕ) (halt : Halt) → Runs (slot_turn plan floor keep s) w v before inner (Err halt)
      → Runs (one_slot_turn plan floor keep s) w v before after (Err halt)
  unfolding one_slot_turn
  slot_halts inner halt run = runs_fail until_spent after run

-- A ROUND

pub runs_slot_round : (plan : List Action) (breaths floor keep number : ℕ) (s : SlotLife) (w v z : World) (before after : ℕ → ℕ)
    (r : Result SlotLife Halt) → Runs (read (a_round number)) w v before before (Ok tt)
    → Runs (stepping breaths (one_slot_turn plan floor keep) s) v z before after r
    → Runs (slot_round plan breaths floor keep number s) w z before after r
unfolding slot_round
runs_slot_round plan breaths floor keep number s w v z before after r noted run =
    runs_bind (λ noted. stepping breaths (one_slot_turn plan floor keep) s) noted run
