use Rattle.sn_sharing.proofs.Emptying.{all_out, not_begun, one_out}
use Rattle.sn_sharing.proofs.keeping.names_of.Goals as goal

pub loop-place-init : goal.loop-place-init
loop-place-init c = rw c.new-names.ensures.items (not_begun c.args.hold c.requires)

pub loop-place-preserved : goal.loop-place-preserved
loop-place-preserved c =
    let t = c.in-Some.ensures in
    let l = c.lift-packet.ensures in
    rw (c.in_ok-push.ensures.items, c.number.ensures.value, c.turn.ensures.value)
    (one_out c.args.hold c.loop-place.hold c.take_free.new.self c.lift-packet.new.self c.loop-place.names.items c.in-Some.place
    c.lift-packet.result c.loop-place.invariant t.used t.frees t.rest l.packet l.used l.frees l.weight)

pub returns : goal.returns
returns c = all_out c.args.hold c.loop-place.hold c.loop-place.names.items c.loop-place.invariant c.in_default.ensures.none.0
