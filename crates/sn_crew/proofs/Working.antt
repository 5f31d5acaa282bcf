-- A slot after the work of one round more.
use Rattle.std.proofs.Common.{◌≡◌, ◌+◌, ◌∙◌, ◌++◌, ℕ, suc, false, List, sym, ap, subst, arith}
use Rattle.sn_app.specs.Reader.{Meaning}
use Rattle.sn_app.specs.World.{desk_of}
use Rattle.sn_scenario.specs.Plans.{due_of, plan_of}
use Rattle.sn_scenario.specs.Scenarios.{ScenarioForm}
use Rattle.sn_seat.specs.Trays.{captures_of}
use Rattle.sn_seat.specs.declared.shared.Shared.{Shared}
use Rattle.sn_sharing.specs.Bonds.{IsBondAt}
use Rattle.sn_worker.specs.Slots.{keep_of}
use Rattle.sn_worker.specs.SlotTurns.{slot_round}
use Rattle.sn_worker.specs.SlotViews.{CanRun, RoundRead as SlotRead, SameSlot, SlotFits, slot_bond, slot_met, slot_plan}
use Rattle.sn_worker.specs.SlotViews.{slot_spent}
use Rattle.sn_worker.specs.Slots.{SlotLife}
use Rattle.sn_worker.specs.declared.slot.Slot.{Slot}
use Rattle.sn_crew.specs.Crews.{SlotAfter, SlotUnmet, stand_of}
use Rattle.sn_crew.specs.Stands.{AfterRounds, RoundMade, RoundRead, Stand}
use Rattle.sn_crew.proofs.DueHeard.{made}

-- one round more was made
pub after_more : (form : ScenarioForm) (captures : List (List ℕ)) (worker rounds : ℕ) (from to : Stand)
    → AfterRounds form captures worker rounds from → RoundMade form worker rounds from to
    → AfterRounds form captures worker (rounds + 1) to
unfolding AfterRounds
after_more form captures worker rounds from to after made =
    let next : suc rounds ≡ rounds + 1 = omega (arith) in
    subst (λ n. AfterRounds form captures worker n to) next (from, after, made)

module _ (form : ScenarioForm) (shared : Shared) (rounds worker : ℕ) (before after : Slot) where
  -- a round of the slot is one of the scenario's
  round_is : SlotAfter form shared rounds worker before
      → slot_round (plan_of worker form) form.settings.breaths (due_of worker rounds form) (keep_of form.settings)
      ≡ slot_round (slot_plan before) before.breaths (slot_met before) before.keep
  round_is was =
      ap (λ p. slot_round p form.settings.breaths (due_of worker rounds form) (keep_of form.settings)) (sym was.of.plan)
      ∙ (ap (λ b. slot_round (slot_plan before) b (due_of worker rounds form) (keep_of form.settings)) (sym was.of.breaths)
      ∙ (ap (λ f. slot_round (slot_plan before) before.breaths f (keep_of form.settings)) (sym was.met)
      ∙ ap (λ k. slot_round (slot_plan before) before.breaths (slot_met before) k) (sym was.of.keep)))

  round_read : SlotAfter form shared rounds worker before → slot_spent before ≡ false
      → SlotRead (captures_of shared) (rounds + 1) before after
      → RoundRead form worker rounds (stand_of shared before) (stand_of shared after)
  unfolding desk_of
  round_read was unspent read = record {
    unspent = unspent;
    entries = read.entries;
    past = read.past;
    reads = λ rest. ap (λ (m : ℕ → SlotLife → Meaning SlotLife). m (rounds + 1) (stand_of shared before).life
        (stand_of shared before).desk (read.entries ++ rest)) (round_is was) ∙ read.reads rest;
  }

  pub worked : SlotAfter form shared rounds worker before → slot_spent before ≡ false → SlotFits after shared
      → CanRun (captures_of shared) after → SlotRead (captures_of shared) (rounds + 1) before after
      → slot_bond after ≡ slot_bond before → SameSlot before after → SlotUnmet form shared (rounds + 1) worker after
  unfolding desk_of
  worked was unspent fits can read bond same = record {
    of = record {
      fits = fits;
      bond = subst (IsBondAt form.lanes shared worker) (sym bond) was.of.bond;
      plan = same.plan ∙ was.of.plan;
      breaths = same.breaths ∙ was.of.breaths;
      keep = same.keep ∙ was.of.keep;
      can = can;
    };
    after = λ heard rises. after_more form (captures_of shared) worker rounds (stand_of shared before) (stand_of shared after)
        was.after (made form worker rounds (stand_of shared before) (stand_of shared after) (round_read was unspent read)
        heard rises);
  }
