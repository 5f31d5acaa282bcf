-- answers of src/worker.rt, Worker::new
use Rattle.std.proofs.Common.{[], Ok, ap, arith, false, refl, sym}
use Rattle.sn_network.specs.Nets.{Net}
use Rattle.sn_worker.proofs.worker.Worker.new.Goals as goal

pub returns-clause-life : goal.returns-clause-life
returns-clause-life c = λ used t.
    ap (λ (net : Net). record { net = net; taken = 0; waiting = []; spent = false }) (c.new.ensures.shown used t)

pub returns-clause-works : goal.returns-clause-works
returns-clause-works c = λ used t finds. record {
  breathes = c.new.ensures.ready used t;
  within = record { order = omega arith; within = omega arith; cut = refl; after = ap Ok (sym c.new.ensures.plain) };
  takes = c.requires;
  finds = finds;
}
