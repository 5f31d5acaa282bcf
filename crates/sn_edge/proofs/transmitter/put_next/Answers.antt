use Rattle.std.proofs.Common.{◌≡◌, Err, rules}
use Rattle.sn_app.specs.Apps.{put_packet}
use Rattle.sn_app.specs.Ports.{in_row, slots_of}
use Rattle.sn_app.proofs.Handling.{did_next, did_next_none, sound_next}
use Rattle.sn_app.proofs.Looping.{ports_same, rows_same}
use Rattle.sn_edge.proofs.transmitter.put_next.Goals as goal

pub returns-in_default-clause-did : goal.returns-in_default-clause-did
returns-in_default-clause-did g c =
    did_next_none (in_row c.args.ports.now c.args.i) c.take.result c.take.ensures.runs c.take.ensures.same c.take.ensures.rows
    (put_packet c.args.row c.args.lane) c.in_default.is

pub returns-in_err-put_one-clause-did : goal.returns-in_err-put_one-clause-did
returns-in_err-put_one-clause-did g c =
    let input = in_row c.args.ports.now c.args.i in
    let m = put_packet c.args.row c.args.lane in
    let mid = c.take.new.ports in
    let sound = sound_next input c.take.result c.take.ensures.runs c.take.ensures.same c.take.ensures.rows m c.in-Some.place
    c.in-Some.is c.requires.ready.sound in
    let e : c.from_residual.result ≡ Err c.in_err-put_one.field-0.0 = search rules in
    rw e (did_next input c.take.result c.take.ensures.runs c.take.ensures.same c.take.ensures.rows m c.in-Some.place c.in-Some.is
    (c.in_err-put_one.ensures.runs (slots_of mid) sound) (ports_same mid) (rows_same (slots_of mid)))

pub returns-clause-did : goal.returns-clause-did
returns-clause-did g c =
    let input = in_row c.args.ports.now c.args.i in
    let m = put_packet c.args.row c.args.lane in
    let mid = c.take.new.ports in
    let sound = sound_next input c.take.result c.take.ensures.runs c.take.ensures.same c.take.ensures.rows m c.in-Some.place
    c.in-Some.is c.requires.ready.sound in
    did_next input c.take.result c.take.ensures.runs c.take.ensures.same c.take.ensures.rows m c.in-Some.place c.in-Some.is
    (c.in_ok-put_one.ensures.runs (slots_of mid) sound) (ports_same mid) (rows_same (slots_of mid))
