-- What an action does to a network: to its plain form, to its apps, and to the packets and counts of its links.
use Rattle.std.specs.Prelude.{ℕ, Bool, List, Option, Some, None, Ok, Err, Result, true}
use Rattle.sn_actions.specs.PlainForms.{PlainForm}
use Rattle.sn_actions.specs.Plains.{apply}
use Rattle.sn_actions.specs.declared.action.Action.{Action}
use Rattle.sn_actions.specs.declared.action.Action.TheVariants.{FreeLink, NewLink, ReconfigApp, StartApp, StopApp}
use Rattle.sn_actions.specs.declared.fault.ActionFault.{ActionFault}
use Rattle.sn_config.specs.declared.app_spec.AppSpec.{AppSpec}
use Rattle.sn_names.specs.declared.arg.Arg.{Arg}
use Rattle.sn_names.specs.declared.link.LinkSpec.{LinkSpec}
use Rattle.sn_app.specs.Apps.{AppState, reconfigs, starts, stops}
use Rattle.sn_app.specs.Calls.{row_of, row_of_link}
use Rattle.sn_app.specs.Desk.{roster_of}
use Rattle.sn_app.specs.Reader.{Meaning, pure, ◌>>=◌, look}
use Rattle.sn_app.specs.Rows.{◌>>◌}
use Rattle.sn_wiring.specs.Links.{closes, opens}
use Rattle.sn_network.specs.Nets.{Net, States, set_named}

-- an app starts, at the row of its name
unfoldable pub starting : List ℕ → AppSpec → Meaning AppState
starting name spec = look (λ d. starts spec.class spec.arg (row_of (roster_of d.tray).apps name))

-- the app of this state stops, if there is one; or it takes a new argument
unfoldable pub stopping : Option AppState → Meaning Bool
stopping None = pure true
stopping (Some state) = stops state

unfoldable pub reconfiguring : Arg → Option AppState → Meaning (Option AppState)
reconfiguring arg None = pure None
reconfiguring arg (Some state) = reconfigs arg state >>= (λ later. pure (Some later))

-- a link comes, and a link goes, at the row of its names
unfoldable pub opening : LinkSpec → Meaning Unit
opening link = look (λ d. opens (row_of_link (roster_of d.tray).links link))

unfoldable pub freeing : LinkSpec → Meaning Unit
freeing link = look (λ d. closes (row_of_link (roster_of d.tray).links link))

-- what an action does to apps and to the links between them; the states that the apps have then
unfoldable pub changes : Action → States → Meaning States
changes (FreeLink link) states = freeing link >> pure states
changes (NewLink link) states = opening link >> pure states
changes (StopApp name) states = stopping (states name) >> pure (set_named name None states)
changes (StartApp name spec) states = starting name spec >>= (λ state. pure (set_named name (Some state) states))
changes (ReconfigApp name spec) states = reconfiguring spec.arg (states name) >>= (λ state. pure (set_named name state states))
changes action states = pure states

-- the plain form after an action that it takes
abbrev pub taken_or : PlainForm → Result PlainForm ActionFault → PlainForm
taken_or plain (Ok after) = after
taken_or plain (Err fault) = plain

abbrev pub plain_after : Action → PlainForm → PlainForm
plain_after action plain = taken_or plain (apply action plain)

-- an action: what it does to apps and links, and the plain form after it
unfoldable pub acts : Action → Net → Meaning Net
acts action net =
    changes action net.states >>= (λ states. pure (record { plain = plain_after action net.plain; states = states }))
