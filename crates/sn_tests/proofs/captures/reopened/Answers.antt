use Rattle.std.proofs.Common.{◌≡◌, ◌<◌, [], length, arith}
use Rattle.std.specs.Prelude.{map}
use Rattle.std.proofs.lemmas.List.{get_or-map, length-map, take_all}
use Rattle.sn_pcap.specs.Grammar.{PcapText}
use Rattle.sn_pcap.specs.Written.{written}
use Rattle.sn_tests.proofs.captures.reopened.Goals as goal

pub write_record-requires : goal.write_record-requires
write_record-requires c =
    let i = c.loop-payload.payload-index in
    let there : i < length c.args.payloads.now = c.loop-payload-test.true in
    let here = get_or-map (λ v. v.items) c.args.payloads.now i c.payload-item.result [] there in
    let fits = c.requires i [] (omega (arith, length-map c.args.payloads.now (λ v. v.items))) in
    rw (c.deref.ensures.value, c.payload-item.is) (rw here at fits)

pub returns : goal.returns
returns c =
    let payloads = map (λ v. v.items) c.args.payloads.now in
    let all = take_all c.loop-payload.payload-index c.args.payloads.now c.loop-payload-test.false in
    let wrote : c.loop-payload.bytes.items ≡ written payloads = rw all at c.loop-payload.invariant in
    let text : PcapText c.in-Ok.capture payloads = rw (c.in-Ok.ensures.opened, wrote) (c.written_is_read.ensures payloads c.requires) in
    c.one_reading.ensures c.in-Ok.capture _ payloads c.in-Ok.ensures.text text
