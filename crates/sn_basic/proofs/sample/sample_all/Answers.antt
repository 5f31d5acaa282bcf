use Rattle.std.proofs.Common.{ap, sym, ◌∙◌}
use Rattle.sn_app.specs.Apps.{readable, sample_one, sample_push}
use Rattle.sn_app.specs.Ports.{in_row, out_row}
use Rattle.sn_app.specs.Reader.{stepping}
use Rattle.sn_app.proofs.Handling.{did_look, readable_is}
use Rattle.sn_app.proofs.Looping.{did_as}
use Rattle.sn_basic.proofs.sample.sample_all.Goals as goal

pub returns-clause-did : goal.returns-clause-did
unfolding sample_push
returns-clause-did g c =
    let ports = c.args.ports.now in
    let input = in_row ports c.args.i in
    let once = sample_one c.args.app c.args.n input (out_row ports c.args.o) in
    did_look (λ d. stepping (readable input d) once c.args.seen)
    (did_as
    (ap (λ n. stepping n once c.args.seen)
    (c.readable-count.ensures
    ∙ sym (readable_is {t = g.C.Ctx.tray c.args.ctx.now} {u = g.C.Ctx.used c.args.ctx.now} ports c.args.i c.requires.ready.ins c.requires.i c.requires.ready.sound)))
    c.sample_some.ensures.did)
