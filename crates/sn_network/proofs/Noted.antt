-- The tray of a context changes, and its packets don't: a network stands and breathes over it as before, and shows the same.
use Rattle.std.proofs.Common.{◌≡◌, ℕ, refl, sym, ap, subst, ◌∙◌, List, Option}
use Rattle.sn_actions.specs.PlainForms.{PlainForm}
use Rattle.sn_app.specs.Answers.{Stays}
use Rattle.sn_app.specs.Desk.{Tray, roster_of}
use Rattle.sn_app.specs.World.{IsSound, Used, world}
use Rattle.sn_kind.specs.Kinds.{kind_stays}
use Rattle.sn_link.specs.Link.{Line}
use Rattle.sn_network.specs.Networks.{CanBreathe, plain_in, shown}
use Rattle.sn_network.specs.Standing.{AreWired, Breathes, HasPlainLinks, Stands}
use Rattle.sn_network.specs.declared.network.Network.{Network}
use Rattle.sn_network.specs.declared.place.Place.{Place}
use Rattle.sn_network.proofs.Pushed.{states_stay}

roster_same : {t s : Tray} → Stays t s → (roster_of s).links ≡ (roster_of t).links
roster_same stays = ap (λ constants. constants.roster.links) stays.constants

sound_still : {t s : Tray} {u : Used} {slots : List (Option Line)} {mine : ℕ → ℕ} → IsSound (world t u slots) mine
    → IsSound (world s u slots) mine
sound_still h = record { once = h.once; in_use = h.in_use; lengths = h.lengths; rows = h.rows }

stands_still : {places : List Place} {slots : List (Option Line)} {plain : PlainForm} {t s : Tray} {u : Used} → Stays t s
    → Stands places slots plain t u → Stands places slots plain s u
stands_still {places} {slots} {plain} {t} {s} stays h = record {
  apps = record {
    once = h.apps.once;
    classes = h.apps.classes;
    ready = λ i place there. kind_stays place.kind t s stays (h.apps.ready i place there);
  };
  links = subst (λ roster. HasPlainLinks slots plain.links roster) (sym (roster_same stays)) h.links;
  consistent = h.consistent;
  sound = sound_still h.sound;
}

-- it can breathe as before
pub still_breathes : (network : Network) (used : Used) (t s : Tray) → Stays t s → CanBreathe network used t
    → CanBreathe network used s
still_breathes network used t s stays h = record {
  stands = stands_still stays h.stands;
  wired =
      subst (λ roster. AreWired network.places.items network.links.slots (plain_in network) roster) (sym (roster_same stays)) h.wired;
  pulled = h.pulled;
  pushed = h.pushed;
}

-- and shows the same apps
pub still_shown : (network : Network) (used : Used) (t s : Tray) → Stays t s → shown network used s ≡ shown network used t
still_shown network used t s stays =
    ap (λ states. record { plain = (shown network used t).plain; states = states })
    (states_stay network.places.items used used t s stays (λ place k. refl))
