-- answers of src/wire.rt, new_wire
use Rattle.seat_bench.proofs.Wiring.{one_port}
use Rattle.seat_bench.proofs.wire.new_wire.Goals as goal

pub returns : goal.returns
returns c = λ t used. record {
  sound = c.in_ok-links.ensures.sound t used;
  outs = one_port c.in_ok-outs.ensures.one c.in_ok-outs.ensures.key c.in_ok-links.ensures.linked.first;
  ins = one_port c.in_ok-ins.ensures.one c.in_ok-ins.ensures.key c.in_ok-links.ensures.linked.first;
}
