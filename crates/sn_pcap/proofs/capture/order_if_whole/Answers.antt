use Rattle.std.proofs.Common.{arith, drop, take, sym}
use Rattle.sn_pcap.proofs.Headed.{magic_tells, magic_is_tested, header_from}
use Rattle.sn_pcap.proofs.Faulty.{cut_from}
use Rattle.sn_pcap.proofs.capture.order_if_whole.Goals as goal

pub cut_record-requires-clause-order : goal.cut_record-requires-clause-order
cut_record-requires-clause-order c = sym (magic_tells c.in-Some.order c.args.bytes.now c.in-Some.ensures.magic)

pub returns-in-Some-cut_record-clause-fault : goal.returns-in-Some-cut_record-clause-fault
returns-in-Some-cut_record-clause-fault c =
    let bytes = c.args.bytes.now in
    let order = c.in-Some.order in
    let magic = c.in-Some.ensures.magic in
    let cut = c.in-Some-cut_record.ensures.cut in (
      order,
      drop 24 bytes,
      header_from order bytes (omega arith) magic (c.has_version.ensures.0 c.if-not-has_version.false),
      cut_from order bytes c.in-Some-cut_record.nth (magic_tells order bytes magic) cut.0 cut.1,
    )

pub returns-in-None-clause-opened : goal.returns-in-None-clause-opened
returns-in-None-clause-opened c =
    let bytes = c.args.bytes.now in
    let order = c.in-Some.order in
    let magic = c.in-Some.ensures.magic in
    record {
      order_is = sym (magic_tells order bytes magic);
      magic = magic_is_tested order (take 4 bytes) magic;
      version_is = c.has_version.ensures.0 c.if-not-has_version.false;
      whole = record { fills = c.in-None.ensures.whole };
    }
