-- A network in memory, as contracts see it with a context's tray and used packets.
use Rattle.std.specs.Prelude.{ℕ}
use Rattle.sn_actions.specs.PlainForms.{PlainForm}
use Rattle.sn_actions.specs.PlainOf.{plain_of}
use Rattle.sn_app.specs.Desk.{Tray, roster_of}
use Rattle.sn_app.specs.World.{Used, World, world}
use Rattle.sn_wiring.specs.Links.{FitsRoster}
use Rattle.sn_network.specs.Nets.{Net}
use Rattle.sn_network.specs.Places.{kept_in, net_of}
use Rattle.sn_network.specs.Standing.{Breathes, Stands}
use Rattle.sn_network.specs.declared.network.Network.{Network}

-- its plain form
abbrev pub plain_in : Network → PlainForm
plain_in network = plain_of network.plain

-- its plain form and its apps' states
abbrev pub shown : Network → Used → Tray → Net
shown network used t = net_of (plain_of network.plain) network.places.items used t

-- the world of a context and its links
abbrev pub world_of : Network → Used → Tray → World
world_of network used t = world t used network.links.slots

-- how often a place is among those that its apps keep
abbrev pub kept_by : Network → ℕ → ℕ
kept_by network = kept_in network.places.items

-- it stands over the context: it may take an action
abbrev pub IsStanding : Network → Used → Tray → Type 0
IsStanding network used t = Stands network.places.items network.links.slots (plain_of network.plain) t used

-- it is new, or the action taken last was a commit: its apps may be called
abbrev pub CanBreathe : Network → Used → Tray → Type 0
CanBreathe network used t =
    Breathes network.places.items network.links.slots (plain_of network.plain) network.pulls.items network.pushes.items t used

-- it may be lost, also after a halt
abbrev pub CanBeLost : Network → Tray → Type 0
CanBeLost network t = FitsRoster (roster_of t).links network.links.slots
