use Rattle.std.proofs.Common.{rules}
use Rattle.sn_interlink.proofs.end.End.detach.Goals.{in-Out, in-Up, in-Closing}
use Rattle.sn_interlink.proofs.Calls.{detach_allowed, found_now}
use Rattle.sn_interlink.proofs.end.End.detach.Goals as goal

pub fetch_add-word-requires : goal.fetch_add-word-requires
fetch_add-word-requires c = (search rules, search rules, detach_allowed _ _ _ _ _ _ _ _ _ _ _ c.self.invariant (search rules) (search rules) c.unit_of-added.ensures)

pub returns-clause-word : goal.returns-clause-word
returns-clause-word c =
    let found = found_now _ _ _ c.self.invariant c.fetch_add-word.ensures.2.1 in
    elim c.match-left.branch [ in-Out w ↦ search rules | in-Up w ↦ search rules | in-Closing w ↦ search rules ]
