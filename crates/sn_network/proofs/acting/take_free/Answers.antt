-- answers of src/acting.rt, take_free
use Rattle.sn_network.proofs.Acted.{took_free}
use Rattle.sn_network.proofs.acting.take_free.Goals as goal

pub returns-clause-took : goal.returns-clause-took
returns-clause-took g c =
    let done = c.free_one.ensures in
    took_free c.args.action.now _ _ c.args._places.now c.args.links.now.slots c.free_one.new.links.slots _ _ _ _ c.args.link.now
    c.free_one.result c.requires.stands c.requires.action done.runs done.taken done.consistent done.links done.fits
