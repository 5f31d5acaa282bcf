use Rattle.std.proofs.Common.{◌≡◌, ◌<◌, length, arith, sym, ◌∙◌, subst, get_or}
use Rattle.std.proofs.lemmas.Option.{slice_get-get_or}
use Rattle.sn_core.specs.declared.events.Side.TheVariants.{Tx}
use Rattle.sn_core.specs.State.{core_of}
use Rattle.sn_core.specs.Seat.{idle_seat}
use Rattle.sn_core.proofs.Bounds.{end_in}
use Rattle.sn_core.proofs.EventResults.{read_at}
use Rattle.sn_core.proofs.LanePreservation.{PublishesRest, publishes_first, publishes_more, published_all}
use Rattle.sn_core.proofs.machine.Machine.publish.Goals as goal

pub loop-packet-init : goal.loop-packet-init
loop-packet-init c =
    let core = core_of c.args.self.now in
    let lane_in : c.args.lane < length core.lanes = omega (arith, c.args.self.now.lanes.ok.0) in
    let at = read_at core.lanes c.args.lane c.index-2.result.now lane_in c.index-2.ensures in
    publishes_first core c.args.lane c.laid_len-packet-end.result c.requires c.index-2.result.now at c.laid_len-packet-end.ensures

pub publish_first-requires-clause-kept : goal.publish_first-requires-clause-kept
publish_first-requires-clause-kept c = c.loop-packet.invariant.kept

pub publish_first-requires-clause-lane_in : goal.publish_first-requires-clause-lane_in
publish_first-requires-clause-lane_in c = omega (arith, c.args.self.now.lanes.ok.0, c.loop-packet.invariant.lanes)

pub loop-packet-preserved : goal.loop-packet-preserved
loop-packet-preserved c =
    publishes_more (core_of c.args.self.now) (core_of c.loop-packet.self) (core_of c.publish_first.new.self) c.args.lane c.laid_len-packet-end.result c.loop-packet._packet c.loop-packet.invariant
    (omega (arith, c.args.self.now.lanes.ok.0, c.loop-packet.invariant.lanes)) c.loop-packet-test.true c.publish_first.ensures

pub returns : goal.returns
returns c =
    let core = core_of c.args.self.now in
    let i = c.args.lane in
    let lane = c.index.result.now in
    let lane_in : i < length core.lanes = omega (arith, c.args.self.now.lanes.ok.0) in
    let at = read_at core.lanes i lane lane_in c.index.ensures in
    let there = slice_get-get_or core.seats lane.tx_seat (idle_seat 0) (end_in core c.requires i lane Tx at) in
    let count = c.laid_len-packet-end.result in
    let done : c.loop-packet._packet ≡ count = omega (arith, c.loop-packet-test.false, c.loop-packet.auto._packet-end) in
    published_all core (core_of c.loop-packet.self) i count lane (get_or core.seats lane.tx_seat (idle_seat 0))
    (subst (λ k. PublishesRest core (core_of c.loop-packet.self) i count k) done c.loop-packet.invariant) at there (sym c.has_laid.ensures ∙ c.if-not-has_laid.false)
