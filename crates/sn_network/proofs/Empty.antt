-- An empty network.
use Rattle.std.specs.FinMap as finmap
use Rattle.std.specs.FinSet as finset
use Rattle.std.proofs.Common.{◌≡◌, ℕ, List, [], ◌∷◌, length, map, Option, Some, None, refl, sym, ap, subst, ◌∙◌, arith}
use Rattle.std.proofs.lemmas.Bool.{true≢false}
use Rattle.std.specs.Option.{option_map}
use Rattle.sn_actions.specs.Consistency.{IsConsistent}
use Rattle.sn_actions.specs.PlainForms.{PlainForm, empty_form}
use Rattle.sn_app.specs.Desk.{Tray, roster_of}
use Rattle.sn_app.specs.World.{Used, in_slots, misfits, rows_in}
use Rattle.sn_config.specs.declared.app_spec.AppSpec.{AppSpec}
use Rattle.sn_link.specs.Link.{Line}
use Rattle.sn_names.specs.LinkOrder.{link_cmp, name_cmp, port_cmp}
use Rattle.sn_names.specs.declared.link.LinkSpec.{LinkSpec}
use Rattle.sn_order.specs.Order.{in_order, push_names}
use Rattle.sn_wiring.proofs.Fits.{none_fits}
use Rattle.sn_wiring.proofs.Lines.{no_lines}
use Rattle.sn_network.specs.Nets.{no_net}
use Rattle.sn_network.specs.Orders.{bringing, linked, pull_order, push_order}
use Rattle.sn_network.specs.Places.{found, kept_in, named_in, net_of}
use Rattle.sn_network.specs.Standing.{Breathes, Stands}
use Rattle.sn_network.specs.declared.place.Place.{Place}

no_element : {A : Type 0} (xs : List A) → length xs ≡ 0 → xs ≡ []
no_element [] e = refl
no_element (x ∷ xs) e = absurd (omega (arith, e))

no_apps : finmap.entries (finmap.empty {X = AppSpec} {R = name_cmp}) ≡ []
no_apps = no_element _ (sym (finmap.len-entries (finmap.empty {X = AppSpec} {R = name_cmp})) ∙ finmap.len-empty name_cmp AppSpec)

no_outs : finmap.entries (finmap.empty {X = LinkSpec} {R = port_cmp}) ≡ []
no_outs = no_element _
    (sym (finmap.len-entries (finmap.empty {X = LinkSpec} {R = port_cmp})) ∙ finmap.len-empty port_cmp LinkSpec)

no_pulls : pull_order empty_form ≡ []
no_pulls = ap (λ apps. in_order (bringing apps)) no_apps

no_pushes : push_order empty_form ≡ []
no_pushes = ap (λ (apps : List (List ℕ × AppSpec)). push_names (linked empty_form) (in_order (map (λ app. app.0) apps))) no_apps

-- it shows nothing
pub empty_shown : (places : List Place) (plain : PlainForm) (used : Used) (t : Tray) → places ≡ [] → plain ≡ empty_form
    → net_of plain places used t ≡ no_net
unfolding found
empty_shown places plain used t none form =
    ap (λ ps. net_of plain ps used t) none ∙ ap (λ p. record { plain = p; states = λ name. None }) form

pub empty_kept : (places : List Place) (place : ℕ) → places ≡ [] → kept_in places place ≡ 0
unfolding kept_in
empty_kept places place none = ap (λ ps. kept_in ps place) none

stands_empty : (t : Tray) (u : Used) → IsConsistent empty_form → Stands [] [] empty_form t u
unfolding found named_in kept_in in_slots misfits rows_in
stands_empty t u consistent = record {
  apps = record {
    once = λ name. omega arith;
    classes = λ name. sym (ap (option_map (λ (spec : AppSpec). spec.class)) (finmap.get-empty {X = AppSpec} name_cmp name));
    ready = λ i place there. absurd cc;
  };
  links = record {
    lines = no_lines (roster_of t).links;
    fits = none_fits (roster_of t).links;
    listed = λ link there. absurd (true≢false (sym there ∙ finset.contains-empty link_cmp link));
  };
  consistent = consistent;
  sound = record {
    once = λ place. omega arith;
    in_use = λ place k. absurd (omega (arith, k));
    lengths = refl;
    rows = λ row. omega arith;
  };
}

-- and can breathe
pub breathes_empty : (places : List Place) (slots : List (Option Line)) (plain : PlainForm) (pulls pushes : List ℕ) (t : Tray)
    (u : Used)
    → places ≡ [] → slots ≡ [] → plain ≡ empty_form → pulls ≡ [] → pushes ≡ [] → IsConsistent plain
    → Breathes places slots plain pulls pushes t u
breathes_empty places slots plain pulls pushes t u no_places no_slots form no_pull no_push consistent =
    subst (λ ps. Breathes ps slots plain pulls pushes t u) (sym no_places)
    (subst (λ ls. Breathes [] ls plain pulls pushes t u) (sym no_slots)
    (subst (λ (p : PlainForm). Breathes [] [] p pulls pushes t u) (sym form)
    (subst (λ ns. Breathes [] [] empty_form ns pushes t u) (sym no_pull)
    (subst (λ ns. Breathes [] [] empty_form [] ns t u) (sym no_push)
    (record {
      stands = stands_empty t u (subst (λ (p : PlainForm). IsConsistent p) form consistent);
      wired = λ i place there. absurd cc;
      pulled = sym (ap (map (λ name. Some name)) no_pulls);
      pushed = sym (ap (map (λ name. Some name)) no_pushes);
    })))))
