use Rattle.std.proofs.Common.{ap, sym, ◌∙◌}
use Rattle.sn_app.specs.Apps.{next_of, readable, sink_all, sink_packet}
use Rattle.sn_app.specs.Ports.{in_row}
use Rattle.sn_app.specs.Reader.{times}
use Rattle.sn_app.proofs.Handling.{did_look, readable_is}
use Rattle.sn_app.proofs.Looping.{did_as}
use Rattle.sn_basic.proofs.sink.take_all.Goals as goal

pub returns-clause-did : goal.returns-clause-did
unfolding sink_all
returns-clause-did g c =
    let ports = c.args.ports.now in
    let input = in_row ports c.args.i in
    did_look (λ d. times (readable input d) (next_of input (sink_packet c.args.app)))
    (did_as
    (ap (λ n. times n (next_of input (sink_packet c.args.app)))
    (c.readable-count.ensures ∙ sym (readable_is {t = g.C.Ctx.tray c.args.ctx.now} {u = g.C.Ctx.used c.args.ctx.now} ports c.args.i c.requires.ready.ins c.requires.i c.requires.ready.sound)))
    c.handle_some.ensures.did)
