use Rattle.std.proofs.Common.{ap, sym, ◌∙◌}
use Rattle.sn_app.specs.Apps.{next_of, readable, write_packet, writer_push}
use Rattle.sn_app.specs.Ports.{in_row}
use Rattle.sn_app.specs.Reader.{times}
use Rattle.sn_app.proofs.Handling.{did_look, readable_is}
use Rattle.sn_app.proofs.Looping.{did_as}
use Rattle.sn_edge.proofs.pcap_writer.append_all.Goals as goal

pub returns-clause-did : goal.returns-clause-did
unfolding writer_push
returns-clause-did g c =
    let ports = c.args.ports.now in
    let input = in_row ports c.args.i in
    let once = next_of input (write_packet c.args.row c.args.file) in
    let here = readable_is {t = g.C.Ctx.tray c.args.ctx.now} {u = g.C.Ctx.used c.args.ctx.now} ports c.args.i
    c.requires.ready.ins c.requires.i c.requires.ready.sound in
    did_look (λ d. times (readable input d) once)
    (did_as (ap (λ n. times n once) (c.readable-count.ensures ∙ sym here)) c.append_some.ensures.did)
