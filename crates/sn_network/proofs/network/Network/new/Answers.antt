-- answers of src/network.rt, Network::new
use Rattle.sn_network.proofs.Empty.{breathes_empty, empty_kept, empty_shown}
use Rattle.sn_network.proofs.network.Network.new.Goals as goal

pub returns-clause-shown : goal.returns-clause-shown
returns-clause-shown c = λ used t. empty_shown _ _ used t c.new.ensures.items c.new-5.ensures.form

pub returns-clause-ready : goal.returns-clause-ready
returns-clause-ready c = λ used t.
    breathes_empty _ _ _ _ _ t used c.new.ensures.items c.new-2.ensures.empty c.new-5.ensures.form c.new-3.ensures.items
    c.new-4.ensures.items
    c.new-5.ensures.sound

pub returns-clause-kept : goal.returns-clause-kept
returns-clause-kept c = λ place. empty_kept _ place c.new.ensures.items
