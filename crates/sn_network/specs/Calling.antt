-- A call of one app of a network: its ports are those that the plain form has.
use Rattle.std.specs.Prelude.{ℕ, List, Option, Some, None}
use Rattle.sn_app.specs.Apps.{AppState, pulls, pushes}
use Rattle.sn_app.specs.Desk.{roster_of}
use Rattle.sn_app.specs.Ports.{Port}
use Rattle.sn_app.specs.Reader.{Meaning, pure, ◌>>=◌, look}
use Rattle.sn_wiring.specs.Wired.{ports_of}
use Rattle.sn_network.specs.Nets.{Net, with_state}
use Rattle.sn_network.specs.declared.verb.Verb.{Verb}
use Rattle.sn_network.specs.declared.verb.Verb.TheVariants.{Pull, Push}

-- what is done with an app at its inputs and outputs
abbrev pub done_by : Verb → AppState → List Port → List Port → Meaning AppState
done_by Pull state ins outs = pulls state ins outs
done_by Push state ins outs = pushes state ins outs

-- the app of this name and state is called, if there is one, and its new state is noted
unfoldable pub calling : Verb → Option AppState → List ℕ → List Port → List Port → Net → Meaning Net
calling verb None name ins outs net = pure net
calling verb (Some state) name ins outs net = done_by verb state ins outs >>= (λ later. pure (with_state name (Some later) net))

unfoldable pub call : Verb → List ℕ → Net → Meaning Net
call verb name net =
    look (λ d. calling verb (net.states name) name
    (ports_of (roster_of d.tray).links net.plain.ins name) (ports_of (roster_of d.tray).links net.plain.outs name) net)

-- a pull, and a push, of the app of this name
unfoldable pub pull_app : List ℕ → Net → Meaning Net
pull_app name net = call Pull name net

unfoldable pub push_app : List ℕ → Net → Meaning Net
push_app name net = call Push name net
