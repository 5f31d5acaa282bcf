use Rattle.sn_actions.proofs.FiniteMaps.{set_inserted}
use Rattle.sn_names.specs.LinkOrder.{exact_links, link_cmp_total}
use Rattle.sn_actions.proofs.kept.put_link.Goals as goal

pub returns-clause-ok : goal.returns-clause-ok
returns-clause-ok c = set_inserted link_cmp_total exact_links c.args.links.now.keys c.insert.new.self.keys c.args.link c.in_ok-insert.ensures.updates.0
