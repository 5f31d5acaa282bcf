-- answers of src/ports.rt, wire_all
use Rattle.std.proofs.Common.{arith, sym, ◌∙◌, ◌<◌, length}
use Rattle.sn_actions.specs.PlainOf.{plain_of}
use Rattle.sn_app.specs.Desk.{roster_of}
use Rattle.sn_wiring.specs.Wired.{Wired}
use Rattle.sn_network.specs.declared.place.Place.{Place}
use Rattle.sn_network.proofs.Bare.{bare_set, each_next, still_within}
use Rattle.sn_network.proofs.Sums.{get_read, get_within}
use Rattle.sn_network.proofs.ports.wire_all.Goals as goal

pub returns-in_err-wire_one-clause-same : goal.returns-in_err-wire_one-clause-same
returns-in_err-wire_one-clause-same g c =
    let within : c.loop-at.at < length c.args.places.now.items = let t = c.loop-at-test.true in let e = c.len-at-end.ensures in
    omega (arith, t, e) in
    let here = get_read _ _ _ (still_within c.loop-at.places.items c.args.places.now.items _ c.loop-at.invariant.same within)
    c.index_mut.ensures.value in
    bare_set _ _ _ _ here c.in_err-wire_one.ensures.same ∙ c.loop-at.invariant.same

pub loop-at-preserved : goal.loop-at-preserved
loop-at-preserved g c =
    let within : c.loop-at.at < length c.args.places.now.items = let t = c.loop-at-test.true in let e = c.len-at-end.ensures in
    omega (arith, t, e) in
    let here = get_read _ _ _ (still_within c.loop-at.places.items c.args.places.now.items _ c.loop-at.invariant.same within)
    c.index_mut.ensures.value in
    record {
      wired =
          each_next (λ (place : Place).
          Wired c.args.links.now.slots (roster_of (g.C.Ctx.tray c.args.ctx.now)).links (plain_of c.args.plain.now).ins place.name
          place.ins.items
          × Wired c.args.links.now.slots (roster_of (g.C.Ctx.tray c.args.ctx.now)).links
          (plain_of c.args.plain.now).outs place.name place.outs.items)
          c.loop-at.places.items c.loop-at.at c.index_mut.result.now c.wire_one.new.place here
          (c.in_ok-wire_one.ensures.ins, c.in_ok-wire_one.ensures.outs) c.loop-at.invariant.wired;
      same = bare_set _ _ _ _ here c.in_ok-wire_one.ensures.same ∙ c.loop-at.invariant.same;
    }

pub returns-clause-wired : goal.returns-clause-wired
returns-clause-wired g c = λ i place there.
    let far = still_within c.args.places.now.items c.loop-at.places.items i (sym c.loop-at.invariant.same)
    (get_within _ _ _ there) in
    c.loop-at.invariant.wired i place (let t = c.loop-at-test.false in let e = c.len-at-end.ensures in omega (arith, t, e, far))
    there
