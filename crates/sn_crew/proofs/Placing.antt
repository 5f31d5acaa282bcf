-- A slot at a seat that opens is one of the scenario's before its first round.
use Rattle.std.proofs.Common.{◌≡◌, ◌∙◌, ℕ, false, List, [], None, Option, refl, sym, ap, subst}
use mathlib.Core.Path.{fun_ext}
use Rattle.sn_app.specs.Desk.{Desk, Queue, Tray}
use Rattle.sn_app.specs.World.{Used, desk_of, queue_in, world}
use Rattle.sn_scenario.specs.Plans.{plan_of, roster_of}
use Rattle.sn_scenario.specs.Scenarios.{ScenarioForm}
use Rattle.sn_seat.specs.Trays.{Fits, bond_of, captures_of, seat_tray}
use Rattle.sn_seat.specs.declared.seat.Seat.{Seat}
use Rattle.sn_seat.specs.declared.shared.Shared.{Shared}
use Rattle.sn_sharing.specs.Bonds.{IsBondAt}
use Rattle.sn_sharing.specs.Opened.{IsOpenedSeat, opening_tray}
use Rattle.sn_worker.specs.Plans.{Serves}
use Rattle.sn_worker.specs.Slots.{keep_of}
use Rattle.sn_worker.specs.SlotViews.{CanRun, slot_desk, slot_life, slot_plan, slot_seat, slot_tray, slot_used}
use Rattle.sn_worker.specs.Slots.{new_slot_life}
use Rattle.sn_worker.specs.declared.slot.Slot.{Slot}
use Rattle.sn_crew.specs.Crews.{PlaceUnmet, stand_of}
use Rattle.sn_crew.specs.Stands.{AfterRounds, Stand, opening_desk, opening_stand}
use Rattle.sn_crew.proofs.OwnEnds.{AreApart, receives_there, transmits_there}

-- no links show no queues
no_queues : (used : Used) → queue_in used [] ≡ (λ row. None)
unfolding queue_in
no_queues used = fun_ext (λ row. refl)

bare_desk : (t : Tray) (used : Used) → desk_of (world t used []) ≡ record { tray = t; queues = λ row. None }
unfolding desk_of
bare_desk t used = ap (λ (q : ℕ → Option Queue). record { tray = t; queues = q }) (no_queues used)

-- it was at the opening
at_opening : (form : ScenarioForm) (captures : List (List ℕ)) (worker : ℕ) (stand : Stand)
    → stand ≡ opening_stand form captures worker → AfterRounds form captures worker 0 stand
unfolding AfterRounds
at_opening form captures worker stand is = is

module _ (form : ScenarioForm) (shared : Shared) (worker : ℕ) (seat : Seat) (slot : Slot) (apart : AreApart form.lanes)
    (opened : IsOpenedSeat form shared worker seat) (seat_is : slot_seat slot ≡ seat) where
  abbrev pub caps : List (List ℕ)
  caps = captures_of shared

  tray_is : slot_tray caps slot ≡ opening_tray form caps worker
  tray_is = ap (seat_tray caps) seat_is ∙ opened.tray caps

  serves : Serves (roster_of worker form) form.lanes worker (slot_tray caps slot)
  serves = subst (Serves (roster_of worker form) form.lanes worker) (sym tray_is) (record {
    roster = refl;
    receives = λ lane leads. receives_there form.lanes worker lane apart leads;
    transmits = λ lane leads. transmits_there form.lanes worker lane apart leads;
  })

  stand_is : slot_life caps slot ≡ new_slot_life
      → slot_desk caps slot ≡ desk_of (world (slot_tray caps slot) (slot_used slot) [])
      → stand_of shared slot ≡ opening_stand form caps worker
  stand_is life desk =
      let desk_is : slot_desk caps slot ≡ opening_desk form caps worker =
      desk ∙ (bare_desk (slot_tray caps slot) (slot_used slot)
      ∙ ap (λ (t : Tray). record { tray = t; queues = λ row. None }) tray_is) in
      ap (λ l. record { life = l; desk = slot_desk caps slot }) life
      ∙ ap (λ (d : Desk). record { life = new_slot_life; desk = d }) desk_is

  pub placed : slot_plan slot ≡ plan_of worker form → slot.breaths ≡ form.settings.breaths
      → slot.keep ≡ keep_of form.settings → slot_life caps slot ≡ new_slot_life
      → slot_desk caps slot ≡ desk_of (world (slot_tray caps slot) (slot_used slot) [])
      → (Serves (roster_of worker form) form.lanes worker (slot_tray caps slot) → CanRun caps slot)
      → PlaceUnmet form shared 0 worker (record { slot = slot; lacked = false })
  placed plan breaths keep life desk can = record {
    slot = record {
      of = record {
        fits = subst (λ s. Fits s shared) (sym seat_is) opened.fits;
        bond = subst (λ s. IsBondAt form.lanes shared worker (bond_of s)) (sym seat_is) opened.bond;
        plan = plan;
        breaths = breaths;
        keep = keep;
        can = can serves;
      };
      after = λ heard rises. at_opening form caps worker (stand_of shared slot) (stand_is life desk);
    };
    lacks_none = refl;
  }
