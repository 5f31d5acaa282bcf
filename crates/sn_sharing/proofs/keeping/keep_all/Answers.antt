use Rattle.std.proofs.Common.{length, subst, ◌∙◌}
use Rattle.std.proofs.lemmas.List.{map_push}
use Rattle.sn_sharing.proofs.KeptTurns.{one_kept}
use Rattle.sn_sharing.proofs.Yielded.{all_yielded, next_there}
use Rattle.sn_sharing.specs.Kept.{AreKeptBy}
use Rattle.sn_sharing.specs.LeftEnds.{lists}
use Rattle.sn_sharing.proofs.keeping.keep_all.Goals as goal

pub keep-requires : goal.keep-requires
keep-requires c =
    let from = c.into_iter-hold-iterator.ensures.into_iter_gives in
    c.requires (length c.loop-hold.yielded) c.in-Some.hold
    (next_there c.args.holds.items c.into_iter-hold-iterator.result c.loop-hold.hold-iterator c.next.new.self c.loop-hold.yielded
    c.next.result c.in-Some.hold from.0 (from.1 ∙ c.args.holds.ok.0) c.loop-hold.yielded_by c.in-Some.is c.next.ensures.steps)

pub loop-hold-preserved : goal.loop-hold-preserved
loop-hold-preserved c =
    rw (c.in_ok-push.ensures.items, map_push (λ v. v.items) c.loop-hold.kept.items c.in_ok-keep.field-0)
    (one_kept c.loop-hold.yielded (lists c.loop-hold.kept.items) c.in-Some.hold c.in_ok-keep.field-0.items c.loop-hold.invariant
    c.in_ok-keep.ensures)

pub returns : goal.returns
returns c =
    let from = c.into_iter-hold-iterator.ensures.into_iter_gives in
    subst (λ l. AreKeptBy l (lists c.loop-hold.kept.items))
    (all_yielded c.args.holds.items c.into_iter-hold-iterator.result c.loop-hold.hold-iterator c.next.new.self c.loop-hold.yielded
    c.next.result from.0 (from.1 ∙ c.args.holds.ok.0) c.loop-hold.yielded_by c.in-None.is c.next.ensures.steps)
    c.loop-hold.invariant
