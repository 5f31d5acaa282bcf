use Rattle.std.proofs.Common.{length, replicate, take, ◌-◌, ◌≡◌, ◌≤◌}
use Rattle.sn_names.proofs.parts.spaces_len.Given as goal

abbrev pub invariant-loop-len : goal.invariant-loop-len
invariant-loop-len l = record {
  within : l.len ≤ length l.text;
  spaces : take l.len l.text ≡ replicate l.len 32;
}

abbrev pub decreases-loop-len : goal.decreases-loop-len
decreases-loop-len l = length l.text - l.len
