-- A worker's life: its network, and how far it took its plan.
use Rattle.std.specs.Prelude.{ℕ, ◌+◌, ◌-◌, Bool, false, if◌then◌else◌, List, [], ◌∷◌, ◌++◌, drop, min, take}
use Rattle.sn_actions.specs.PlainForms.{PlainForm, empty_form}
use Rattle.sn_actions.specs.Plains.{apply_all}
use Rattle.sn_actions.specs.declared.action.Action.{Action}
use Rattle.sn_app.specs.Reader.{Meaning, pure, ◌>>=◌}
use Rattle.sn_breath.specs.Breaths.{folding}
use Rattle.sn_network.specs.Acting.{acts, taken_or}
use Rattle.sn_network.specs.Nets.{Net, no_net}
use Rattle.sn_scenario.specs.PlanLaws.{committed, is_commit}

-- Its network; how many actions of its plan were taken; those of them that wait for a commit; and whether its journal is full.
pub record Life : Type 0 where
  pub net : Net
  pub taken : ℕ
  pub waiting : List Action
  pub spent : Bool

-- a life that begins
abbrev pub new_life : Life
new_life = record { net = no_net; taken = 0; waiting = []; spent = false }

-- one action more was taken, and these wait now; or none does, and this is the network
abbrev pub waits : List Action → Life → Life
waits waiting life = record life { taken = life.taken + 1; waiting = waiting }

abbrev pub applied_to : Life → Net → Life
applied_to life net = record life { net = net; taken = life.taken + 1; waiting = [] }

-- a commit: the actions that wait are applied, in their order, and then it
unfoldable pub commits : Action → Life → Meaning Life
commits action life =
    folding life.waiting acts life.net >>= (λ net. acts action net >>= (λ last. pure (applied_to life last)))

-- an action is taken: it waits, but a commit
unfoldable pub takes : Action → Life → Meaning Life
takes action life = if is_commit action then commits action life else pure (waits (life.waiting ++ action ∷ []) life)

-- the most actions that a turn takes
abbrev pub most_taken : ℕ
most_taken = 4

-- the next actions of a plan numbered up to this, at most four
abbrev pub next_actions : List Action → ℕ → ℕ → List Action
next_actions plan due taken = take (min most_taken (due - taken)) (drop taken plan)

-- The plain form after the actions up to the last commit among the first n of a plan; this one where they aren't all taken.
abbrev pub prefix_form : List Action → ℕ → PlainForm → PlainForm
prefix_form plan n plain = taken_or plain (apply_all (committed (take n plan)) empty_form)

-- the network of a life, with the plain form of the plan's prefix that was taken
abbrev pub at_prefix : List Action → Life → Net
at_prefix plan life = record life.net { plain = prefix_form plan life.taken life.net.plain }
