use Rattle.std.proofs.Common.{◌≡◌, Some, Err, refl, sym, ap, ◌∙◌, rules}
use Rattle.std.proofs.lemmas.Result.{on_ok_weaker}
use Rattle.sn_app.specs.Bench.{BenchState, tray_of}
use Rattle.sn_app.specs.Desk.{End, closing_end, out_end}
use Rattle.sn_app.specs.Gates.{working}
use Rattle.sn_app.specs.Rows.{row_detach}
use Rattle.sn_app.specs.contracts.bench.Bench.{the_view}
use Rattle.sn_app.specs.declared.end_state.EndState.TheVariants.{Out}
use Rattle.sn_app.specs.declared.halt.Halt.TheVariants.{OutOfMemory}
use Rattle.sn_app.proofs.DetachPlays.{detach_done, detach_goes_on, detach_none, detach_stopped, leaves_then, only_then}
use Rattle.sn_app.proofs.LanePlays.{changed, end_now, leaves_end, leaves_ends, lost, state_seen, state_unseen}
use Rattle.sn_app.proofs.bench.Bench.detach.Goals as goal

pub returns-in-Out-clause-plays : goal.returns-in-Out-clause-plays
returns-in-Out-clause-plays c =
    let bench : BenchState = the_view c.self.inside in
    let lane = c.args.lane in
    let side = c.args.side in
    let out = state_seen bench lane side c.deref.ensures.value c.state_at.ensures ∙ c.in-Out.is in
    rw (sym c.self.view_is) (detach_none bench lane side out)

pub returns-in_err-reserve : goal.returns-in_err-reserve
returns-in_err-reserve c =
    let bench : BenchState = the_view c.self.inside in
    let lane = c.args.lane in
    let side = c.args.side in
    let is : c.from_residual.result ≡ Err OutOfMemory = search rules in
    record {
      plays = rw (sym c.self.view_is) (lost bench (row_detach working lane side) c.from_residual.result bench.held
          c.reserve.new.self bench.lanes is);
      out = rw is tt;
      used = rw (sym c.self.view_is) refl;
      leaves = rw (sym c.self.view_is) (leaves_ends bench lane side bench.held c.reserve.new.self bench.lanes refl);
      rest = rw (sym c.self.view_is) refl;
    }

pub returns-in_default-next_detached : goal.returns-in_default-next_detached
returns-in_default-next_detached c =
    let bench : BenchState = the_view c.self.inside in
    let lane = c.args.lane in
    let side = c.args.side in
    let up = state_unseen bench lane side Out c.deref.ensures.value c.state_at.ensures c.in_default.not-Out in
    record {
      plays = rw (sym c.self.view_is)
          (detach_stopped bench c.reserve.new.self c.reserve.ensures.past c.reserve.ensures.script lane side up
          (sym c.in_default-next_detached.is ∙ c.next_detached.ensures));
      out = tt;
      used = rw (sym c.self.view_is) refl;
      leaves = rw (sym c.self.view_is) (leaves_ends bench lane side bench.held c.reserve.new.self bench.lanes refl);
      rest = rw (sym c.self.view_is) refl;
    }

pub close-requires : goal.close-requires
close-requires c =
    let bench : BenchState = the_view c.self.inside in record {
      end = rw (sym c.self.view_is) at c.requires;
      closing = end_now bench c.args.lane c.args.side c.settle_at.new.lanes.items (closing_end 0) c.settle_at.ensures.ends;
    }

pub returns-then-closes : goal.returns-then-closes
returns-then-closes c =
    let bench : BenchState = the_view c.self.inside in
    let lane = c.args.lane in
    let side = c.args.side in
    let up = state_unseen bench lane side Out c.deref.ensures.value c.state_at.ensures c.in_default.not-Out in
    let middle : BenchState = changed bench bench.held c.advance.new.self c.settle_at.new.lanes.items in
    record {
      plays = rw (sym c.self.view_is)
          (detach_goes_on bench c.reserve.new.self c.reserve.ensures.past c.reserve.ensures.script bench.held c.advance.new.self
          c.settle_at.new.lanes.items c.self.invariant.script c.advance.ensures.read lane side (tray_of c.close.new.self)
          c.close.new.self.script
          c.close.result up (ap (λ b. Some b) (sym c.if-closes.true) ∙ (sym c.in-Some.is ∙ c.next_detached.ensures)) refl
          c.settle_at.ensures.ends
          c.close.ensures.plays);
      out = on_ok_weaker c.close.result (λ (e : _). ap (λ (e : End). e.state) e) c.close.ensures.out;
      used = rw (sym c.self.view_is) c.close.ensures.used;
      leaves = rw (sym c.self.view_is)
          (leaves_then lane side (tray_of bench) (tray_of middle) (tray_of c.close.new.self)
          (leaves_end bench lane side bench.held c.advance.new.self c.settle_at.new.lanes.items (closing_end 0)
          c.settle_at.ensures.ends)
          c.close.ensures.leaves);
      rest = rw (sym c.self.view_is) (only_then bench middle c.close.new.self refl c.close.ensures.rest);
    }

pub returns : goal.returns
returns c =
    let bench : BenchState = the_view c.self.inside in
    let lane = c.args.lane in
    let side = c.args.side in
    let up = state_unseen bench lane side Out c.deref.ensures.value c.state_at.ensures c.in_default.not-Out in
    record {
      plays = rw (sym c.self.view_is)
          (detach_done bench c.reserve.new.self c.reserve.ensures.past c.reserve.ensures.script bench.held c.advance.new.self
          c.settle_at-2.new.lanes.items c.self.invariant.script c.advance.ensures.read lane side up
          (ap (λ b. Some b) (sym c.if-closes.false) ∙ (sym c.in-Some.is ∙ c.next_detached.ensures)) refl
          c.settle_at-2.ensures.ends);
      out = ap (λ (e : End). e.state) (end_now bench lane side c.settle_at-2.new.lanes.items out_end c.settle_at-2.ensures.ends);
      used = rw (sym c.self.view_is) refl;
      leaves = rw (sym c.self.view_is) (leaves_end bench lane side bench.held c.advance.new.self c.settle_at-2.new.lanes.items
          out_end c.settle_at-2.ensures.ends);
      rest = rw (sym c.self.view_is) refl;
    }
