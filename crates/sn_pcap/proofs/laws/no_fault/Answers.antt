use Rattle.sn_pcap.proofs.Faulty.{no_fault}
use Rattle.sn_pcap.proofs.laws.no_fault.Goals as goal

pub returns : goal.returns
returns c = no_fault
