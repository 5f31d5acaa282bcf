-- answers of src/acting.rt, take_new
use Rattle.sn_network.proofs.Acted.{took_new}
use Rattle.sn_network.proofs.acting.take_new.Goals as goal

pub returns : goal.returns
returns g c = record {
  took =
      let done = c.open_one.ensures in
      took_new c.args.action.now _ _ c.args._places.now c.args.links.now.slots c.open_one.new.links.slots _ _ _ _ c.args.link.now
      c.open_one.result c.requires.stands c.requires.action done.runs done.taken done.consistent done.links done.fits;
}
