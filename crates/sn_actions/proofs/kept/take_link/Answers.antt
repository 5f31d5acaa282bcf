use Rattle.sn_actions.proofs.FiniteMaps.{set_removed}
use Rattle.sn_names.specs.LinkOrder.{exact_links, link_cmp_total}
use Rattle.sn_actions.proofs.kept.take_link.Goals as goal

pub returns : goal.returns
returns c = set_removed link_cmp_total exact_links c.args.links.now.keys c.remove.new.self.keys c.args.link.now c.remove.ensures.updates.0
