-- answers of src/left.rt, queued_packets
use Rattle.std.proofs.Common.{arith}
use Rattle.sn_app.proofs.Hands.{drop_past}
use Rattle.sn_network.specs.Left.{queued_in}
use Rattle.sn_network.proofs.Cut.{adds_last}
use Rattle.sn_network.proofs.left.queued_packets.Goals as goal

pub returns : goal.returns
returns c =
    adds_last 18446744073709551615 queued_in c.args.links.now.slots _ c.loop-key.total c.loop-key.invariant
    (drop_past c.args.links.now.slots c.loop-key.key (omega (arith, c.loop-key-test.false, c.capacity-key-end.ensures.slots)))
