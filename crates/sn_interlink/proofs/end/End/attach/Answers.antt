use Rattle.std.proofs.Common.{rules, sym}
use Rattle.sn_interlink.proofs.Calls.{attach_allowed, found_now}
use Rattle.sn_interlink.proofs.end.End.attach.Goals as goal

pub compare_exchange-found-requires : goal.compare_exchange-found-requires
compare_exchange-found-requires c = (search rules, search rules, attach_allowed _ _ _ _ _ _ _ _ _ _ _ _ c.self.invariant (search rules) c.requires.open_yet c.up_word-new.ensures)

pub returns-then-found-seen-clause-word : goal.returns-then-found-seen-clause-word
returns-then-found-seen-clause-word c =
    rw (sym c.self.view_is) (found_now _ _ _ c.self.invariant c.compare_exchange-found.ensures.2.2)

pub returns-clause-word : goal.returns-clause-word
returns-clause-word c = let found = found_now _ _ _ c.self.invariant c.compare_exchange-found.ensures.2.2 in search rules
