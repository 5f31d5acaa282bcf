-- What a worker's breath and its last turn mean.
use Rattle.std.specs.Prelude.{true, List}
use Rattle.sn_actions.specs.declared.action.Action.{Action}
use Rattle.sn_app.specs.Reader.{Meaning, pure, ◌>>=◌, read}
use Rattle.sn_app.specs.Rows.{◌>>◌}
use Rattle.sn_breath.specs.Breaths.{breath}
use Rattle.sn_worker.specs.Lives.{Life, at_prefix}
use Rattle.sn_worker.specs.Own.{a_breath, a_spent}

-- The worker breathes: the network has the plain form of the plan's prefix that was taken, and is then the one after a breath.
unfoldable pub breathes : List Action → Life → Meaning Life
breathes plan life = read a_breath >> (breath (at_prefix plan life) >>= (λ net. pure (record life { net = net })))

-- its turn where the journal is full: this is noted, and the worker is spent
unfoldable pub last_turn : Life → Meaning Life
last_turn life = read a_spent >> pure (record life { spent = true })
