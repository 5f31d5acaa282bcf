use Rattle.std.proofs.Common.{◌≡◌}
use Rattle.std.specs.BTreeMap.{is_at}
use Rattle.std.specs.Map.{lookup}
use Rattle.sn_names.specs.LinkOrder.{port_cmp}
use Rattle.sn_actions.proofs.ports.link_at.Given as goal

-- what is looked for stands among the entries to come
abbrev pub invariant-loop-key : goal.invariant-loop-key
invariant-loop-key l = lookup (is_at (port_cmp (l.app, l.port))) l.key-iterator ≡ lookup (is_at (port_cmp (l.app, l.port))) l.ports.entries
