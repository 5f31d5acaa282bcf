use Rattle.std.proofs.Common.{sym, ◌∙◌}
use Rattle.std.specs.FinSet as finset
use Rattle.sn_names.specs.LinkOrder.{link_cmp_total}
use Rattle.sn_actions.proofs.kept.has_link.Goals as goal

pub returns : goal.returns
returns c = c.contains.ensures ∙ sym (finset.contains-from_list link_cmp_total c.args.links.now.keys c.args.link.now)
