-- A slot that met its worker's speaker, and speakers that stay.
use Rattle.std.proofs.Common.{◌≡◌, ◌∙◌, ℕ, zero, suc, All, List, refl, sym, ap}
use Rattle.std.proofs.Common.{subst}
use Rattle.sn_channel.specs.Ends.{IsRising, IsSaid, last_said}
use Rattle.sn_channel.proofs.Keeps.{last_said-push}
use Rattle.sn_scenario.specs.Plans.{due_of}
use Rattle.sn_scenario.specs.Scenarios.{ScenarioForm}
use Rattle.sn_seat.specs.Fitting.{met_again}
use Rattle.sn_seat.specs.Told.{of_channel}
use Rattle.sn_seat.specs.Trays.{captures_of}
use Rattle.sn_seat.specs.declared.shared.Shared.{Shared}
use Rattle.sn_sharing.specs.Bonds.{IsBondAt}
use Rattle.sn_app.specs.Desk.{Tray}
use Rattle.sn_app.specs.World.{Used, desk_of}
use Rattle.sn_worker.specs.SlotViews.{SlotFits, slot_bond, slot_plan, slot_seat, slot_tray, slot_used}
use Rattle.sn_worker.specs.Workers.{CanWork, slot_life_of, world_around}
use Rattle.sn_worker.specs.declared.slot.Slot.{Slot}
use Rattle.sn_worker.specs.declared.worker.Worker.{Worker}
use Rattle.sn_crew.specs.Crews.{SlotAfter, SlotUnmet, stand_of}
use Rattle.sn_crew.specs.Stands.{AfterRounds, Stand, said_by}

-- what was said last up to a round was due in it
pub last_due : (form : ScenarioForm) (worker rounds : ℕ) → last_said (said_by form worker rounds) ≡ due_of worker rounds form
last_due form worker zero = refl
last_due form worker (suc rounds) = last_said-push (said_by form worker rounds) (due_of worker (suc rounds) form)

-- the stand of a worker over a seat's tray
stand_by : Worker → ℕ → Used → Tray → Stand
stand_by worker breathed used t =
    record { life = slot_life_of worker breathed used t; desk = desk_of (world_around worker used t) }

module _ (form : ScenarioForm) (shared : Shared) (rounds worker : ℕ) (before after : Slot) (said : List ℕ) where
  pub met : SlotUnmet form shared rounds worker before → said ≡ said_by form worker rounds
      → slot_bond after ≡ met_again (last_said said) (slot_bond before)
      → ((captures : List (List ℕ)) → slot_tray captures after ≡ slot_tray captures before)
      → slot_used after ≡ slot_used before → after ≡ record before { seat = slot_seat after } → SlotFits after shared
      → All (IsSaid said) (of_channel (slot_tray (captures_of shared) before).log.past)
      → IsRising (of_channel (slot_tray (captures_of shared) before).log.past)
      → SlotAfter form shared rounds worker after
  unfolding stand_by
  met was said_is bond tray used same fits among rises =
      let caps = captures_of shared in
      let worker_is : after.worker ≡ before.worker = ap (λ (s : Slot). s.worker) same in
      let breathed_is : after.breathed ≡ before.breathed = ap (λ (s : Slot). s.breathed) same in
      let b = was.of.bond in
      let stand_is : stand_of shared after ≡ stand_of shared before =
      ap (λ w. stand_by w after.breathed (slot_used after) (slot_tray caps after)) worker_is
      ∙ (ap (λ n. stand_by before.worker n (slot_used after) (slot_tray caps after)) breathed_is
      ∙ (ap (λ u. stand_by before.worker before.breathed u (slot_tray caps after)) used
      ∙ ap (λ t. stand_by before.worker before.breathed (slot_used before) t) (tray caps))) in
      let heard : All (IsSaid (said_by form worker rounds)) (of_channel (slot_tray caps before).log.past) =
      subst (λ xs. All (IsSaid xs) (of_channel (slot_tray caps before).log.past)) said_is among in
      record {
        of = record {
          fits = fits;
          bond = subst (IsBondAt form.lanes shared worker) (sym bond) (record {
            number = b.number;
            ends = b.ends;
            group_is = b.group_is;
            channel = b.channel;
            captures_are = b.captures_are;
            lanes_are = b.lanes_are;
          });
          plan = ap slot_plan same ∙ was.of.plan;
          breaths = ap (λ (s : Slot). s.breaths) same ∙ was.of.breaths;
          keep = ap (λ (s : Slot). s.keep) same ∙ was.of.keep;
          can = record {
            works = subst (λ w. CanWork w (slot_used after) (slot_tray caps after)) (sym worker_is)
                (subst (λ u. CanWork before.worker u (slot_tray caps after)) (sym used)
                (subst (λ t. CanWork before.worker (slot_used before) t) (sym (tray caps)) was.of.can.works));
            runs = ap (λ (s : Slot). s.state) same ∙ was.of.can.runs;
            open_yet = ap (λ (s : Slot). s.closed) same ∙ was.of.can.open_yet;
          };
        };
        after = subst (AfterRounds form caps worker rounds) (sym stand_is) (was.after heard rises);
        met = ap (λ b. b.wiring.met) bond ∙ (ap last_said said_is ∙ last_due form worker rounds);
      }
