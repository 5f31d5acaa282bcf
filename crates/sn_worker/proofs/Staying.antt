-- What an action names stays there.
use Rattle.std.proofs.Common.{◌+◌, ℕ, List, slice_range, subst, sym}
use Rattle.sn_actions.specs.declared.action.Action.{Action}
use Rattle.sn_actions.specs.declared.action.Action.TheVariants.{NewLink, ReconfigApp}
use Rattle.sn_actions.specs.declared.action.Action.TheVariants.{StartApp}
use Rattle.sn_app.specs.Answers.{Stays}
use Rattle.sn_app.specs.Calls.{HasLink, HasName}
use Rattle.sn_app.specs.Desk.{Constants, Tray}
use Rattle.sn_app.specs.Starts.{ArgIsThere}
use Rattle.sn_names.specs.declared.arg.Arg.{Arg}
use Rattle.sn_names.specs.declared.class.Class.{Class}
use Rattle.sn_names.specs.declared.class.Class.TheVariants.{PcapReader, PcapWriter, Receiver}
use Rattle.sn_names.specs.declared.class.Class.TheVariants.{Transmitter}
use Rattle.sn_network.specs.Standing.{Finds}
use Rattle.sn_worker.specs.Plans.{FindsAll}
use Rattle.sn_worker.proofs.Ranges.{in_range}

-- over a tray with other constants, which are the same
abbrev over : Tray → Constants → Tray
over t constants = record t { log = record t.log { constants = constants } }

arg_stays : (class : Class) (arg : Arg) (t s : Tray) → Stays t s → ArgIsThere class arg t → ArgIsThere class arg s
arg_stays PcapReader arg t s stays h = subst (λ (c : Constants). ArgIsThere PcapReader arg (over s c)) (sym stays.constants) h
arg_stays PcapWriter arg t s stays h = subst (λ (c : Constants). ArgIsThere PcapWriter arg (over s c)) (sym stays.constants) h
arg_stays Receiver arg t s stays h = subst (λ (c : Constants). ArgIsThere Receiver arg (over s c)) (sym stays.constants) h
arg_stays Transmitter arg t s stays h = subst (λ (c : Constants). ArgIsThere Transmitter arg (over s c)) (sym stays.constants) h
arg_stays _ arg t s stays h = tt

finds_stay : (action : Action) (t s : Tray) → Stays t s → Finds action t → Finds action s
finds_stay (StartApp name spec) t s stays h = (
  subst (λ (c : Constants). HasName c.roster.apps name) (sym stays.constants) h.0,
  (h.1.0, arg_stays spec.class spec.arg t s stays h.1.1),
)
finds_stay (ReconfigApp name spec) t s stays h = (h.0, arg_stays spec.class spec.arg t s stays h.1)
finds_stay (NewLink link) t s stays h = subst (λ (c : Constants). HasLink c.roster.links link) (sym stays.constants) h
finds_stay _ t s stays h = tt

pub all_stay : (actions : List Action) (t s : Tray) → Stays t s → FindsAll actions t → FindsAll actions s
all_stay actions t s stays h i action there = finds_stay action t s stays (h i action there)

-- the same of a part of the actions
pub finds_part : (actions : List Action) (from to : ℕ) (t : Tray) → FindsAll actions t
    → FindsAll (slice_range actions from to) t
finds_part actions from to t h i action there = h (from + i) action (in_range actions from to i action there)
