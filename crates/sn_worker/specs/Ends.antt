-- What a worker has left.
use Rattle.std.specs.Prelude.{ℕ, ◌+◌, ◌-◌, ◌^◌, List, length, min}
use Rattle.sn_actions.specs.declared.action.Action.{Action}
use Rattle.sn_app.specs.Desk.{Desk}
use Rattle.sn_network.specs.Left.{left_in}
use Rattle.sn_worker.specs.Lives.{Life}

-- the actions of a plan that weren't applied: those that weren't taken, and those that wait for a commit
abbrev pub unapplied : List Action → Life → ℕ
unapplied plan life = length plan - (life.taken - length life.waiting)

-- these, the records that its readers haven't passed, and the packets in its links; or the greatest number of 64 bits where they
-- are more
abbrev pub left_of : List Action → Life → Desk → ℕ
left_of plan life d = min (unapplied plan life + left_in life.net d) (2 ^ 64 - 1)
