use Rattle.sn_pcap.proofs.Faulty.{one_fault}
use Rattle.sn_pcap.proofs.laws.one_fault.Goals as goal

pub returns : goal.returns
returns c = one_fault
