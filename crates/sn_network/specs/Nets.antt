-- A network, as contracts see it: its plain form, and each app's state by its name.
use Rattle.std.specs.Prelude.{ℕ, List, Option, None, bytes_eq, if◌then◌else◌}
use Rattle.sn_actions.specs.PlainForms.{PlainForm, empty_form}
use Rattle.sn_app.specs.Apps.{AppState}

-- the states of apps by their names, None where there is no such app
abbrev pub States : Type 0
States = List ℕ → Option AppState

pub record Net : Type 0 where
  pub plain : PlainForm
  pub states : States

-- a network of no app and no link
abbrev pub no_net : Net
no_net = record { plain = empty_form; states = λ name. None }

-- what is at one name changes
abbrev pub set_named : {A : Type 0} → List ℕ → Option A → (List ℕ → Option A) → List ℕ → Option A
set_named name x named other = if bytes_eq other name then x else named other

abbrev pub with_state : List ℕ → Option AppState → Net → Net
with_state name state net = record net { states = set_named name state net.states }
