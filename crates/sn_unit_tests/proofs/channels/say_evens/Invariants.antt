use Rattle.std.proofs.Common.{◌≡◌, ◌-◌, ◌*◌, ◌≤◌}
use Rattle.sn_channel.specs.Ends.{last_said}
use Rattle.sn_unit_tests.proofs.channels.say_evens.Given as goal

abbrev pub invariant-loop-n : goal.invariant-loop-n
invariant-loop-n l = (l.speaker.channel ≡ l.channel) × (l.n ≤ 100000) × (last_said l.speaker.said ≡ 2 * l.n)

abbrev pub decreases-loop-n : goal.decreases-loop-n
decreases-loop-n l = 100000 - l.n
