use Rattle.std.proofs.Common.{false, take, ◌≡◌}
use Rattle.std.specs.List.{list_any}
use Rattle.sn_config.specs.Signs.{is_sign}
use Rattle.sn_config.proofs.arg_text.split_at_sign.Given as goal

abbrev pub invariant-loop-at : goal.invariant-loop-at
invariant-loop-at l = list_any is_sign (take l.at l.text) ≡ false
