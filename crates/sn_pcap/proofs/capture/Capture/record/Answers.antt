use Rattle.std.proofs.Common.{rules}
use Rattle.sn_pcap.proofs.Standing.{ends}
use Rattle.sn_pcap.proofs.capture.Capture.record.Goals as goal

pub returns-then-at-len-clause-end : goal.returns-then-at-len-clause-end
returns-then-at-len-clause-end c = ends _ c.args.at (search rules)
