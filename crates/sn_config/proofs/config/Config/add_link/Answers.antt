use Rattle.std.proofs.Common.{sym, ◌∙◌}
use Rattle.sn_config.proofs.Validity.{with_link_valid}
use Rattle.sn_config.proofs.config.Config.add_link.Goals as goal

pub invariant_of-self-2 : goal.invariant_of-self-2
invariant_of-self-2 c =
    with_link_valid (record { apps = c.self.inside.apps.entries; links = c.self.inside.links.keys }) c.put_link.new.links.keys c.args.link c.self.invariant
    (sym c.link_refusal.ensures ∙ c.in_default.is) c.in_ok-put_link.ensures.found c.in_ok-put_link.ensures.len
