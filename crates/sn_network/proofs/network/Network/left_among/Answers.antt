-- answers of src/left.rt, Network::left_among
use Rattle.std.specs.FinMap as finmap
use Rattle.std.proofs.Common.{subst, sym}
use Rattle.sn_actions.specs.PlainOf.{plain_of}
use Rattle.sn_network.specs.Left.{CanCountAll, unread_in}
use Rattle.sn_network.specs.Networks.{shown}
use Rattle.sn_network.proofs.Counted.{counted_shown}
use Rattle.sn_network.proofs.QueuedRows.{left_is}
use Rattle.sn_network.proofs.network.Network.left_among.Goals as goal

pub unread_records-unread-requires-clause-captures : goal.unread_records-unread-requires-clause-captures
unread_records-unread-requires-clause-captures c =
    subst (λ places. CanCountAll places c.args.captures.now) (sym c.deref.ensures.value) c.requires.counts

pub returns : goal.returns
returns c = λ used t fits captures.
    left_is t used c.args.self.now.links.slots 18446744073709551615 (unread_in (shown c.args.self.now used t))
    c.saturating_add.result c.unread_records-unread.result c.queued_packets.result fits
    (counted_shown c.deref.result.now c.args.self.now.places.items c.deref.ensures.value used t c.args.captures.now
    (finmap.keys (plain_of c.args.self.now.plain).apps) 18446744073709551615 c.unread_records-unread.result captures
    c.unread_records-unread.ensures)
    c.queued_packets.ensures c.saturating_add.ensures
