use Rattle.sn_pcap.proofs.WrittenAgain.{written_again}
use Rattle.sn_pcap.proofs.laws.written_is_read.Goals as goal

pub returns : goal.returns
returns c = written_again
