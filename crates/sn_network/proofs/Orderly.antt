-- The app at a place of an order, and that orders stay in calls.
use Rattle.std.proofs.Common.{◌≡◌, ℕ, zero, suc, ◌<◌, List, [], ◌∷◌, length, map, slice_get, slice_index_or, Option, Some, None}
use Rattle.std.proofs.Common.{Result, Ok, Err, OnOk, refl, sym, ap, subst, ◌∙◌, arith}
use mathlib.Core.Path.{fun_ext}
use Rattle.std.specs.Option.{option_map}
use Rattle.sn_actions.specs.PlainForms.{PlainForm}
use Rattle.sn_app.specs.Desk.{Tray, roster_of}
use Rattle.sn_app.specs.Ports.{KeepsRows}
use Rattle.sn_app.specs.Reader.{Meaning}
use Rattle.sn_app.specs.Runs.{Runs}
use Rattle.sn_app.specs.World.{Used, world}
use Rattle.sn_app.specs.declared.halt.Halt.{Halt}
use Rattle.sn_link.specs.Link.{Line}
use Rattle.sn_wiring.proofs.Fits.{fits_stays, keeps_same}
use Rattle.sn_wiring.specs.Links.{FitsRoster}
use Rattle.sn_network.specs.Standing.{AreWired, Breathes, IsOrder, Stands, name_in}
use Rattle.sn_network.specs.declared.place.Place.{Place}
use Rattle.sn_network.proofs.Linked.{roster_kept}
use Rattle.sn_network.proofs.Sums.{get_within}

-- the name at a place of an order
pub order_at : (places : List Place) (order : List ℕ) (names : List (List ℕ)) (i at : ℕ) → IsOrder places order names
    → i < length names
    → at ≡ slice_index_or order i at → name_in places at ≡ Some (slice_index_or names i [])
order_at places order [] i at e lt is = absurd (omega (arith, lt))
order_at places [] (name ∷ names) i at e lt is = absurd cc
order_at places (place ∷ order) (name ∷ names) zero at e lt is = ap (name_in places) is ∙ first
  where
    first : name_in places place ≡ Some name
    first = cc
order_at places (place ∷ order) (name ∷ names) (suc i) at e lt is =
    let rest : IsOrder places order names = cc in order_at places order names i at rest (omega (arith, lt)) is

-- a place with a name is one of the network
pub name_within : (places : List Place) (at : ℕ) (name : List ℕ) → name_in places at ≡ Some name → at < length places
name_within places at name is = by (slice_get places at) refl is
  where
    by : (slot : Option Place) → slice_get places at ≡ slot → option_map (λ (place : Place). place.name) slot ≡ Some name
        → at < length places
    by None e there = absurd cc
    by (Some place) e there = get_within places at place e

-- what can breathe can so after a call
pub breathes_after : (places new : List Place) (slots later : List (Option Line)) (plain : PlainForm) (pulls pushes : List ℕ)
    (t s : Tray)
    (u v : Used) (r : Result Unit Halt) → Breathes places slots plain pulls pushes t u
    → ((i : ℕ) → name_in new i ≡ name_in places i) → OnOk r (Stands new later plain s v)
    → OnOk r (AreWired new later plain (roster_of s).links) → OnOk r (Breathes new later plain pulls pushes s v)
breathes_after places new slots later plain pulls pushes t s u v (Ok done) h names stands wired = record {
  stands = stands;
  wired = wired;
  pulled = ap (λ (f : ℕ → Option (List ℕ)). map f pulls) (fun_ext names) ∙ h.pulled;
  pushed = ap (λ (f : ℕ → Option (List ℕ)). map f pushes) (fun_ext names) ∙ h.pushed;
}
breathes_after places new slots later plain pulls pushes t s u v (Err halt) h names stands wired = tt

-- and can be lost, whatever the call answered
pub fits_after : {R : Type 0} {m : Meaning R} {r : Result R Halt} {before after : ℕ → ℕ} (slots later : List (Option Line))
    (t s : Tray) (u v : Used)
    → Runs m (world t u slots) (world s v later) before after r → KeepsRows slots later → FitsRoster (roster_of t).links slots
    → FitsRoster (roster_of s).links later
fits_after slots later t s u v run rows fits =
    subst (λ roster. FitsRoster roster later) (sym (roster_kept t s u v slots later run))
    (fits_stays (roster_of t).links slots later (keeps_same slots later rows) fits)
