use Rattle.std.proofs.Common.{length, slice_get, subst, sym, Some, ◌<◌, ◌≡◌, ◌∙◌, arith}
use Rattle.std.proofs.lemmas.Option.{slice_get_within}
use Rattle.sn_sharing.proofs.LaneTurns.{all_closed, one_closed, still_closable}
use Rattle.sn_sharing.proofs.Lists.{read_there}
use Rattle.sn_sharing.proofs.Yielded.{next_there}
use Rattle.sn_sharing.specs.LeftEnds.{lists}
use Rattle.sn_sharing.proofs.lane_closing.close_lanes.Goals as goal

pub close_lane-requires : goal.close_lane-requires
close_lane-requires c =
    let from = c.into_iter-lane-iterator.ensures.into_iter_gives in
    let to = c.loop-lane.invariant.to in
    let line = c.index-lines-number.result in
    let number = c.len-number.result in
    let at : number ≡ length c.loop-lane.receipts.items = c.len-number.ensures ∙ c.loop-lane.receipts.ok.0 in
    let id : slice_get c.args.interlinks.items (length c.loop-lane.yielded) ≡ Some c.in-Some.lane =
    next_there c.args.interlinks.items c.into_iter-lane-iterator.result c.loop-lane.lane-iterator c.next.new.self
    c.loop-lane.yielded
    c.next.result c.in-Some.lane from.0 (from.1 ∙ c.args.interlinks.ok.0) c.loop-lane.yielded_by c.in-Some.is c.next.ensures.steps
    in
    let few = slice_get_within c.args.interlinks.items (length c.loop-lane.yielded) c.in-Some.lane id in
    let within : number < length c.args.lines.now = omega (arith, at, to.as_many, few, c.requires.as_many) in
    let there = read_there c.args.lines.now number line within c.index-lines-number.is in
    still_closable c.args.lines.now (lists c.args.ends.items) (lists c.loop-lane.ends.items)
    c.loop-lane.yielded c.in-Some.lane c.loop-lane.receipts.items line number to at
    (c.requires.each number line c.in-Some.lane there
    (subst (λ n. slice_get c.args.interlinks.items n ≡ Some c.in-Some.lane) (sym to.as_many ∙ sym at) id))

pub loop-lane-preserved : goal.loop-lane-preserved
loop-lane-preserved c =
    let from = c.into_iter-lane-iterator.ensures.into_iter_gives in
    let to = c.loop-lane.invariant.to in
    let line = c.index-lines-number.result in
    let number = c.len-number.result in
    let at : number ≡ length c.loop-lane.receipts.items = c.len-number.ensures ∙ c.loop-lane.receipts.ok.0 in
    let id : slice_get c.args.interlinks.items (length c.loop-lane.yielded) ≡ Some c.in-Some.lane =
    next_there c.args.interlinks.items c.into_iter-lane-iterator.result c.loop-lane.lane-iterator c.next.new.self
    c.loop-lane.yielded
    c.next.result c.in-Some.lane from.0 (from.1 ∙ c.args.interlinks.ok.0) c.loop-lane.yielded_by c.in-Some.is c.next.ensures.steps
    in
    let few = slice_get_within c.args.interlinks.items (length c.loop-lane.yielded) c.in-Some.lane id in
    let within : number < length c.args.lines.now = omega (arith, at, to.as_many, few, c.requires.as_many) in
    let there = read_there c.args.lines.now number line within c.index-lines-number.is in
    record {
      can = tt;
      finite = tt;
      to =
          rw c.in_ok-push.ensures.items
          (one_closed c.args.lines.now (lists c.args.ends.items) (lists c.loop-lane.ends.items)
          c.loop-lane.yielded c.in-Some.lane c.loop-lane.receipts.items line number to at there
          (lists c.close_lane.new.ends.items) c.close_lane.result
          c.close_lane.ensures.receipt c.close_lane.ensures.others);
    }

pub returns-clause-receipts : goal.returns-clause-receipts
returns-clause-receipts c =
    all_closed c.args.lines.now (lists c.args.ends.items) (lists c.loop-lane.ends.items) c.loop-lane.yielded
    c.loop-lane.receipts.items c.loop-lane.invariant.to
