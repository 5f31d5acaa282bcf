use Rattle.std.proofs.Common.{◌≡◌}
use Rattle.sn_unit_tests.proofs.channels.hear_evens.Given as goal

abbrev pub invariant-loop : goal.invariant-loop
invariant-loop l = l.listener.channel ≡ l.channel
