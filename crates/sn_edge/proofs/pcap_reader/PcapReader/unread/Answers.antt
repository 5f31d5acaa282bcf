use Rattle.std.proofs.Common.{◌≤◌, length, rules}
use Rattle.sn_edge.proofs.Counting.{none_unread}
use Rattle.sn_edge.proofs.pcap_reader.PcapReader.unread.Goals as goal

pub returns-in-None : goal.returns-in-None
returns-in-None c =
    let past : length c.args.captures.now ≤ c.args.self.now.capture = search rules in
    none_unread c.args.self.now.capture c.args.self.now.at c.args.captures.now past
