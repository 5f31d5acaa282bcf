use Rattle.sn_names.proofs.Links.{canonical_link}
use Rattle.sn_names.proofs.Orders.{canonical_order}
use Rattle.sn_names.proofs.link.LinkSpec.canonical.Goals as goal

pub returns-in_err-reserve-clause-reads_back : goal.returns-in_err-reserve-clause-reads_back
returns-in_err-reserve-clause-reads_back c =
    canonical_link c.args.self.now (record { from = c.as_str-from.ensures.valid; out = c.as_str-out.ensures.valid; to = c.as_str-to.ensures.valid; input = c.as_str-input.ensures.valid })

pub returns-clause-reads_back : goal.returns-clause-reads_back
returns-clause-reads_back c =
    canonical_link c.args.self.now (record { from = c.as_str-from.ensures.valid; out = c.as_str-out.ensures.valid; to = c.as_str-to.ensures.valid; input = c.as_str-input.ensures.valid })

pub returns-in_err-reserve-clause-ordered : goal.returns-in_err-reserve-clause-ordered
returns-in_err-reserve-clause-ordered c other h =
    canonical_order c.args.self.now other (record { from = c.as_str-from.ensures.valid; out = c.as_str-out.ensures.valid; to = c.as_str-to.ensures.valid; input = c.as_str-input.ensures.valid }) h

pub returns-clause-ordered : goal.returns-clause-ordered
returns-clause-ordered c other h =
    canonical_order c.args.self.now other (record { from = c.as_str-from.ensures.valid; out = c.as_str-out.ensures.valid; to = c.as_str-to.ensures.valid; input = c.as_str-input.ensures.valid }) h
