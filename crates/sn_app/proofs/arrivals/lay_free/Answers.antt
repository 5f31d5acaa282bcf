use Rattle.std.proofs.Common.{◌==◌}
use Rattle.sn_packet.specs.Hold.{among, at_of, used_of}
use Rattle.sn_app.proofs.Gaining.{gained, none_used}
use Rattle.sn_app.proofs.arrivals.lay_free.Goals as goal

pub returns-clause-used : goal.returns-clause-used
returns-clause-used c =
    let old = c.args.hold.now in
    let place = c.lay-place.result in
    gained (used_of old) (used_of c.lay-place.new.self) (used_of c.free.new.self) place c.args.packet
    (none_used (among old.free place == 0) (at_of old place) c.lay-place.ensures.fresh) c.lay-place.ensures.used
    c.free.ensures.used
