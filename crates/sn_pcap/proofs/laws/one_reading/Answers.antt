use Rattle.sn_pcap.proofs.Headed.{one_text}
use Rattle.sn_pcap.proofs.laws.one_reading.Goals as goal

pub returns : goal.returns
returns c = one_text
