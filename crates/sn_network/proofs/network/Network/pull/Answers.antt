-- answers of src/network.rt, Network::pull
use Rattle.sn_actions.specs.PlainOf.{plain_of}
use Rattle.sn_network.specs.Calling.{pull_app}
use Rattle.sn_network.specs.Orders.{pull_order}
use Rattle.sn_network.proofs.Orderly.{breathes_after, fits_after, name_within, order_at}
use Rattle.sn_network.proofs.network.Network.pull.Goals as goal

pub call_at-requires-clause-at : goal.call_at-requires-clause-at
call_at-requires-clause-at g c =
    name_within _ _ _
    (order_at _ _ (pull_order (plain_of c.args.self.now.plain)) c.args.i _ c.requires.ready.pulled c.requires.within
    c.index-at.ensures)

pub returns-clause-runs : goal.returns-clause-runs
unfolding pull_app
returns-clause-runs g c =
    c.call_at.ensures.runs _
    (order_at _ _ (pull_order (plain_of c.args.self.now.plain)) c.args.i _ c.requires.ready.pulled c.requires.within
    c.index-at.ensures)

pub returns-clause-ready : goal.returns-clause-ready
returns-clause-ready g c =
    let done = c.call_at.ensures in
    breathes_after c.args.self.now.places.items _ c.args.self.now.links.slots _ _ _ _ _ _ _ _ c.call_at.result c.requires.ready
    done.names done.stands done.wired

pub returns-clause-lost : goal.returns-clause-lost
returns-clause-lost g c =
    fits_after c.args.self.now.links.slots _ _ _ _ _
    (c.call_at.ensures.runs _
    (order_at _ _ (pull_order (plain_of c.args.self.now.plain)) c.args.i _ c.requires.ready.pulled c.requires.within
    c.index-at.ensures))
    c.call_at.ensures.rows c.requires.ready.stands.links.fits
