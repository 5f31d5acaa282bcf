use Rattle.std.proofs.Common.{ℕ, List, subst}
use Rattle.sn_pcap.specs.Grammar.{PcapText}
use Rattle.sn_pcap.specs.Places.{payloads_of}
use Rattle.sn_pcap.proofs.Headed.{opened_text}
use Rattle.sn_pcap.proofs.capture.Capture.first.Goals as goal

pub returns-clause-text : goal.returns-clause-text
returns-clause-text c =
    subst (λ (bytes : List ℕ). PcapText bytes (payloads_of bytes)) c.self.view_is
    (opened_text c.self.inside.order c.self.inside.bytes.items c.self.invariant)
