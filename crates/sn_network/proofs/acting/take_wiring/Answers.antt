-- answers of src/acting.rt, take_wiring
use Rattle.sn_network.proofs.Acted.{took_wiring_at}
use Rattle.sn_network.proofs.acting.take_wiring.Goals as goal

pub returns : goal.returns
returns g c = record {
  took = took_wiring_at c.args.action.now _ _ c.args._places.now c.args._links.now.slots _ _ c.take_action.result
      c.requires.stands c.requires.wiring
      c.take_action.ensures.taken c.take_action.ensures.consistent c.take_action.ensures.memory;
}
