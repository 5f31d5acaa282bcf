use Rattle.std.proofs.Common.{Some, ap, ◌∙◌}
use Rattle.sn_packet.specs.Hold.{at_of, used_of}
use Rattle.sn_packet.proofs.Puts.{put_at_same, some_laid}
use Rattle.sn_app.proofs.Gaining.{filled}
use Rattle.sn_app.proofs.arrivals.lay_filled.Goals as goal

pub returns-clause-used : goal.returns-clause-used
returns-clause-used c =
    let old = c.args.hold.now in
    let laid = c.lay-place.new.self in
    let place = c.lay-place.result in
    let held = ap (λ (f : _). f place) c.lay-place.ensures.at ∙ put_at_same place (Some c.args.packet) (at_of old) in
    filled (used_of old) (used_of laid) (used_of c.fill.new.self) place c.args.packet (at_of laid place) c.args.bytes.now held
    c.lay-place.ensures.used (c.fill.ensures.used
    (some_laid (used_of old) (used_of laid) place c.args.packet c.lay-place.ensures.used))
