use Rattle.std.proofs.Common.{length, take, true, ◌-◌, ◌≡◌, ◌≤◌}
use Rattle.sn_names.specs.NameText.{is_name_byte}
use Rattle.std.specs.List.{list_all}
use Rattle.sn_names.proofs.parts.name_len.Given as goal

abbrev pub invariant-loop-len : goal.invariant-loop-len
invariant-loop-len l = record {
  within : l.len ≤ length l.text;
  short : l.len ≤ 64;
  plain : list_all is_name_byte (take l.len l.text) ≡ true;
}

abbrev pub decreases-loop-len : goal.decreases-loop-len
decreases-loop-len l = length l.text - l.len
