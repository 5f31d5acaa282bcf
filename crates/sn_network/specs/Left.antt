-- What a network has left: the records that its readers haven't passed, and the packets in its links.
use Rattle.std.specs.FinMap as finmap
use Rattle.std.specs.Prelude.{ℕ, zero, suc, ◌+◌, ◌-◌, ◌^◌, ◌≡◌, ◌≤◌, List, Option, Some, None, length, min, slice_get, sum_by}
use Rattle.std.specs.Prelude.{unwrap_or}
use Rattle.sn_actions.specs.PlainForms.{PlainForm}
use Rattle.sn_app.specs.Apps.{AppState, readable}
use Rattle.sn_app.specs.Desk.{Desk, roster_of}
use Rattle.sn_link.specs.Link.{Line}
use Rattle.sn_kind.specs.Unread.{CanCount, kind_unread, unread_of}
use Rattle.sn_network.specs.Nets.{Net}
use Rattle.sn_network.specs.Places.{class_in, found, named_in}
use Rattle.sn_network.specs.Standing.{class_of}
use Rattle.sn_network.specs.declared.place.Place.{Place}

-- the records that an app of this state hasn't passed, if there is one
abbrev pub unread_if : Option AppState → ℕ
unread_if None = 0
unread_if (Some state) = unread_of state

-- the records that the apps of a network haven't passed
abbrev pub unread_in : Net → ℕ
unread_in net = sum_by (λ name. unread_if (net.states name)) (finmap.keys net.plain.apps)

-- what the app of a name in memory counts among these captures, if it is there
abbrev pub counted_in : List Place → List (List ℕ) → List ℕ → ℕ
counted_in places captures name = unwrap_or (found (λ place. kind_unread place.kind captures) places name) 0

-- each app can count among these captures
abbrev pub CanCountAll : List Place → List (List ℕ) → Type 0
CanCountAll places captures = (i : ℕ) (place : Place) → slice_get places i ≡ Some place → CanCount place.kind captures

-- The apps stand once each, with the classes that a plain form has, and each can count among these captures.
pub record CanCountLeft (places : List Place) (plain : PlainForm) (captures : List (List ℕ)) : Type 0 where
  pub once : (name : List ℕ) → named_in name places ≤ 1
  pub classes : (name : List ℕ) → class_in places name ≡ class_of plain name
  pub counts : CanCountAll places captures

-- the packets in the links of this many rows
unfoldable pub packets_in : ℕ → Desk → ℕ
packets_in zero d = 0
packets_in (suc row) d = packets_in row d + readable row d

-- the packets of a link, if there is one
abbrev pub queued_in : Option Line → ℕ
queued_in None = 0
queued_in (Some line) = length line.queued

-- both together, or the greatest number of 64 bits where they are more
abbrev pub left_in : Net → Desk → ℕ
left_in net d = min (unread_in net + packets_in (length (roster_of d.tray).links) d) (2 ^ 64 - 1)
