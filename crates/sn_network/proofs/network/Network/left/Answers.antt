-- answers of src/left.rt, Network::left
use Rattle.sn_network.proofs.Counted.{all_count}
use Rattle.sn_network.proofs.network.Network.left.Goals as goal

pub left_among-requires : goal.left_among-requires
left_among-requires g c = record {
  once = c.requires.stands.apps.once;
  classes = c.requires.stands.apps.classes;
  counts =
      all_count c.args.self.now.places.items (g.C.Ctx.tray c.args._ctx.now) c.args.captures.now c.requires.captures
      c.requires.stands.apps.ready;
}

pub returns : goal.returns
returns g c =
    c.left_among.ensures (g.C.Ctx.used c.args._ctx.now) (g.C.Ctx.tray c.args._ctx.now) c.requires.stands.links.fits
    c.requires.captures
