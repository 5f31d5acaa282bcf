-- Each number that a round hears is due in it or in the round before.
use Rattle.std.proofs.Common.{◌≡◌, ◌⊎◌, ◌∙◌, ◌+◌, ◌≤◌, ◌++◌, ℕ, zero, suc, All, List, [], ◌∷◌, inl, inr, refl, sym, ap}
use Rattle.std.proofs.Common.{arith, subst}
use Rattle.std.specs.Prelude.{slice_index_or}
use Rattle.std.proofs.lemmas.List.{append-nil, append_assoc}
use Rattle.std.proofs.lemmas.List.Elements.{All-cons, All-nil, All-push, All-tail, All-weaker}
use Rattle.sn_app.specs.Reader.{done}
use Rattle.sn_channel.specs.Ends.{IsRising, IsSaid}
use Rattle.sn_journal.specs.declared.entry.Entry.{Entry}
use Rattle.sn_manager.proofs.DueGrows.{due_grows}
use Rattle.sn_scenario.specs.ConfigLines.{no_config}
use Rattle.sn_scenario.specs.Plans.{configs_of, due_of, plan_of}
use Rattle.sn_scenario.specs.Scenarios.{ScenarioForm}
use Rattle.sn_seat.specs.Told.{heard_part, of_channel}
use Rattle.sn_worker.specs.Slots.{keep_of}
use Rattle.sn_worker.specs.SlotTurns.{slot_round}
use Rattle.sn_crew.specs.Stands.{IsDueIn, RoundMade, RoundRead, Stand, said_by}
use Rattle.sn_crew.proofs.FirstHeard.{BeginsAt, round_first}

-- what a journal's parts say of the channel
heard_behind : (entries more : List Entry) → of_channel (entries ++ more) ≡ of_channel entries ++ of_channel more
heard_behind [] more = refl
heard_behind (entry ∷ entries) more =
    ap (λ (l : List ℕ). heard_part entry ++ l) (heard_behind entries more)
    ∙ sym (append_assoc (heard_part entry) (of_channel entries) (of_channel more))

-- what holds of all holds of those behind
rising_behind : (front behind : List ℕ) → IsRising (front ++ behind) → IsRising behind
rising_behind [] behind rises = rises
rising_behind (n ∷ front) behind rises =
    rising_behind front behind (λ i j d before within. rises (suc i) (suc j) d (omega (arith, before)) (omega (arith, within)))

all_behind : (P : ℕ → Type 0) (front behind : List ℕ) → All P (front ++ behind) → All P behind
all_behind P [] behind all = all
all_behind P (n ∷ front) behind all = all_behind P front behind (All-tail P n (front ++ behind) all)

-- numbers that rise are all at least what the first one is
all_from : (floor : ℕ) (numbers : List ℕ) → BeginsAt floor numbers → IsRising numbers → All (λ n. floor ≤ n) numbers
all_from floor [] begins rises = All-nil (λ n. floor ≤ n)
all_from floor (n ∷ numbers) begins rises =
    All-cons (λ m. floor ≤ m) n numbers begins
    (λ k d within. let h : n ≤ slice_index_or numbers k d = rises zero (suc k) d (omega arith) (omega (arith, within)) in
    omega (arith, begins, h))

module _ (form : ScenarioForm) (worker : ℕ) where
  grows : (round : ℕ) → due_of worker round form ≤ due_of worker (suc round) form
  grows round = due_grows round (suc round) no_config (configs_of worker form) (omega arith)

  -- what was said up to a round is at most what is due in it
  said_most : (round : ℕ) → All (λ n. n ≤ due_of worker round form) (said_by form worker round)
  said_most zero =
      let due = due_of worker 0 form in All-cons (λ n. n ≤ due) due [] (omega arith) (All-nil (λ n. n ≤ due))
  said_most (suc round) =
      let due = due_of worker (suc round) form in
      All-push (λ n. n ≤ due) (said_by form worker round) due
      (All-weaker (λ n. n ≤ due_of worker round form) (λ n. n ≤ due)
      (λ n h. let g = grows round in omega (arith, h, g)) (said_by form worker round) (said_most round)) (omega arith)

  -- and at most what was due in the round before, or it is just that
  abbrev Within : ℕ → ℕ → Type 0
  Within round n = (n ≤ due_of worker round form) ⊎ (n ≡ due_of worker (suc round) form)

  said_within : (round : ℕ) → All (Within round) (said_by form worker (suc round))
  said_within round =
      All-push (Within round) (said_by form worker round) (due_of worker (suc round) form)
      (All-weaker (λ n. n ≤ due_of worker round form) (Within round) (λ n h. inl h) (said_by form worker round)
      (said_most round)) (inr refl)

  is_due : (round n : ℕ) → due_of worker round form ≤ n → IsSaid (said_by form worker (suc round)) n
      → (n ≡ due_of worker round form) ⊎ (n ≡ due_of worker (suc round) form)
  is_due round n least (inl none) = inl (omega (arith, least, none))
  is_due round n least (inr there) =
      elim (subst (Within round) there.2 (said_within round there.0 n there.1)) [
        | inl most ↦ inl (omega (arith, least, most))
        | inr now ↦ inr now
      ]

  due_in : (before n : ℕ) → due_of worker before form ≤ n → IsSaid (said_by form worker (before + 1)) n
      → IsDueIn form worker before n
  due_in before n least said =
      let next : suc before ≡ before + 1 = omega (arith) in
      subst (λ (round : ℕ). (n ≡ due_of worker before form) ⊎ (n ≡ due_of worker round form)) next
      (is_due before n least (subst (λ (round : ℕ). IsSaid (said_by form worker round) n) (sym next) said))

  module _ (before : ℕ) (from to : Stand) (read : RoundRead form worker before from to) where
    begins : BeginsAt (due_of worker before form) (of_channel read.entries)
    begins =
        round_first (plan_of worker form) (due_of worker before form) (keep_of form.settings) form.settings.breaths (before + 1)
        from.life from.desk read.entries to.life to.desk
        (subst (λ (l : List Entry). slot_round (plan_of worker form) form.settings.breaths (due_of worker before form)
        (keep_of form.settings) (before + 1) from.life from.desk l ≡ done to.life to.desk []) (append-nil read.entries)
        (read.reads []))

    numbers : of_channel to.desk.tray.log.past ≡ of_channel from.desk.tray.log.past ++ of_channel read.entries
    numbers = ap of_channel read.past ∙ heard_behind from.desk.tray.log.past read.entries

    pub made : All (IsSaid (said_by form worker (before + 1))) (of_channel to.desk.tray.log.past)
        → IsRising (of_channel to.desk.tray.log.past) → RoundMade form worker before from to
    made heard rises =
        let past = of_channel from.desk.tray.log.past in
        let here = of_channel read.entries in
        let said = all_behind (IsSaid (said_by form worker (before + 1))) past here
        (subst (All (IsSaid (said_by form worker (before + 1)))) numbers heard) in
        let least = all_from (due_of worker before form) here begins
        (rising_behind past here (subst IsRising numbers rises)) in
        record {
          read = read;
          due = λ k d within. due_in before (slice_index_or here k d) (least k d within) (said k d within);
          heard = heard;
          rises = rises;
        }
