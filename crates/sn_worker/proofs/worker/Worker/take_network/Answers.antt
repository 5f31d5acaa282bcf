-- answers of src/worker.rt, Worker::take_network
use Rattle.std.proofs.Common.{ap, ◌∙◌}
use Rattle.sn_network.specs.Networks.{world_of}
use Rattle.sn_network.specs.declared.network.Network.{Network}
use Rattle.sn_worker.proofs.worker.Worker.take_network.Goals as goal

pub returns-clause-queues : goal.returns-clause-queues
returns-clause-queues c = λ used t.
    ap (λ (network : Network). world_of network used t) c.replace.ensures.after ∙ c.new.ensures.queues used t
