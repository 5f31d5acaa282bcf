-- A breath: every app that brings packets in is called once, and then every app, to pass them on.
use Rattle.std.specs.Prelude.{List, [], ◌∷◌}
use Rattle.sn_app.specs.Reader.{Meaning, pure, ◌>>=◌}
use Rattle.sn_network.specs.Calling.{pull_app, push_app}
use Rattle.sn_network.specs.Nets.{Net}
use Rattle.sn_network.specs.Orders.{pull_order, push_order}

-- a meaning for each of a list, one after another, from one value to the next
unfoldable pub folding : {A S : Type 0} → List A → (A → S → Meaning S) → S → Meaning S
folding [] m s = pure s
folding (x ∷ more) m s = m x s >>= folding more m

-- the pulls in their order, and then the pushes in theirs
unfoldable pub breath : Net → Meaning Net
breath net = folding (pull_order net.plain) pull_app net >>= folding (push_order net.plain) push_app
