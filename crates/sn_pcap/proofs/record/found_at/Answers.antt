use Rattle.std.proofs.Common.{drop, ◌∙◌, ap, refl, arith, rules}
use Rattle.sn_pcap.specs.Places.{captured_at}
use Rattle.sn_pcap.specs.declared.order.Order.{Order}
use Rattle.sn_pcap.proofs.Standing.{whole_at, stands}
use Rattle.sn_pcap.proofs.record.found_at.Goals as goal

pub captured_length-len-requires : goal.captured_length-len-requires
captured_length-len-requires c = omega (arith, whole_at c.args.bytes.now c.args.at c.requires.place c.requires.left)

pub returns : goal.returns
returns c =
    stands c.args.bytes.now c.args.at _ c.requires.place c.requires.left
    (c.captured_length-len.ensures ∙ ap (λ (order : Order). captured_at order (drop c.args.at c.args.bytes.now)) c.requires.order)
    refl (omega arith) (search rules)
