use Rattle.std.proofs.Common.{◌≡◌, List, Some, Err, refl, sym, ap, ◌∙◌, rules}
use Rattle.sn_app.specs.Bench.{BenchState, LaneEnds, ends_of}
use Rattle.sn_app.specs.Desk.{End, up_end}
use Rattle.sn_app.specs.Rows.{row_attach}
use Rattle.sn_app.specs.contracts.bench.Bench.{the_view}
use Rattle.sn_app.specs.declared.end_state.EndState.TheVariants.{Up}
use Rattle.sn_app.specs.declared.halt.Halt.TheVariants.{OutOfMemory}
use Rattle.sn_app.proofs.LanePlays.{attach_came, attach_changed, attach_down, attach_stopped, end_now, leaves_end, leaves_ends, lost, attach_on, state_seen}
use Rattle.sn_app.proofs.bench.Bench.attach.Goals as goal

pub returns-in-Up-clause-plays : goal.returns-in-Up-clause-plays
returns-in-Up-clause-plays c =
    let bench : BenchState = the_view c.self.inside in
    let lane = c.args.lane in
    let side = c.args.side in
    let up = state_seen bench lane side c.deref.ensures.value c.state_at.ensures ∙ c.in-Up.is in
    rw (sym c.self.view_is) (attach_on bench lane side up)

pub returns-in_err-reserve : goal.returns-in_err-reserve
returns-in_err-reserve c =
    let bench : BenchState = the_view c.self.inside in
    let is : c.from_residual.result ≡ Err OutOfMemory = search rules in
    record {
      plays = rw (sym c.self.view_is) (lost bench (row_attach c.args.lane c.args.side) c.from_residual.result bench.held
          c.reserve.new.self bench.lanes is);
      up = rw is tt;
      leaves = rw (sym c.self.view_is) (leaves_ends bench c.args.lane c.args.side bench.held c.reserve.new.self bench.lanes refl);
      rest = rw (sym c.self.view_is) refl;
    }

pub returns-then-next_is_down : goal.returns-then-next_is_down
returns-then-next_is_down c =
    let bench : BenchState = the_view c.self.inside in
    let lane = c.args.lane in
    let side = c.args.side in
    let out : (ends_of bench.lanes lane side).state ≡ Up → ⊥ =
    λ e. c.in_default.not-Up (c.state_at.ensures
    ∙ (ap (λ (l : List LaneEnds). (ends_of l lane side).state) c.deref.ensures.value ∙ e)) in
    record {
      plays = rw (sym c.self.view_is)
          (attach_down bench c.reserve.new.self c.reserve.ensures.past c.reserve.ensures.script bench.held c.advance.new.self
          bench.lanes
          c.self.invariant.script c.advance.ensures.read lane side out (sym c.if-next_is_down.true ∙ c.next_is_down.ensures) refl
          refl);
      up = λ up. absurd (cc);
      leaves = rw (sym c.self.view_is) (leaves_ends bench lane side bench.held c.advance.new.self bench.lanes refl);
      rest = rw (sym c.self.view_is) refl;
    }

pub returns-in_default-next_attached : goal.returns-in_default-next_attached
returns-in_default-next_attached c =
    let bench : BenchState = the_view c.self.inside in
    let lane = c.args.lane in
    let side = c.args.side in
    let out : (ends_of bench.lanes lane side).state ≡ Up → ⊥ =
    λ e. c.in_default.not-Up (c.state_at.ensures
    ∙ (ap (λ (l : List LaneEnds). (ends_of l lane side).state) c.deref.ensures.value ∙ e)) in
    record {
      plays = rw (sym c.self.view_is)
          (attach_stopped bench c.reserve.new.self c.reserve.ensures.past c.reserve.ensures.script lane side out
          (sym c.if-next_is_down.false ∙ c.next_is_down.ensures) (sym c.in_default-next_attached.is ∙ c.next_attached.ensures));
      up = tt;
      leaves = rw (sym c.self.view_is) (leaves_ends bench lane side bench.held c.reserve.new.self bench.lanes refl);
      rest = rw (sym c.self.view_is) refl;
    }

pub returns-then-came_up : goal.returns-then-came_up
returns-then-came_up c =
    let bench : BenchState = the_view c.self.inside in
    let lane = c.args.lane in
    let side = c.args.side in
    let out : (ends_of bench.lanes lane side).state ≡ Up → ⊥ =
    λ e. c.in_default.not-Up (c.state_at.ensures
    ∙ (ap (λ (l : List LaneEnds). (ends_of l lane side).state) c.deref.ensures.value ∙ e)) in
    let end = end_now bench lane side c.settle_at.new.lanes.items up_end c.settle_at.ensures.ends in
    record {
      plays = rw (sym c.self.view_is)
          (attach_came bench c.reserve.new.self c.reserve.ensures.past c.reserve.ensures.script bench.held c.advance-2.new.self
          c.settle_at.new.lanes.items c.self.invariant.script c.advance-2.ensures.read lane side out
          (sym c.if-next_is_down.false ∙ c.next_is_down.ensures)
          (ap (λ b. Some b) (sym c.if-came_up.true) ∙ (sym c.in-Some.is ∙ c.next_attached.ensures)) refl
          c.settle_at.ensures.ends);
      up = λ up. ap (λ (e : End). e.state) end;
      leaves = rw (sym c.self.view_is) (leaves_end bench lane side bench.held c.advance-2.new.self c.settle_at.new.lanes.items
          up_end c.settle_at.ensures.ends);
      rest = rw (sym c.self.view_is) refl;
    }

pub returns : goal.returns
returns c =
    let bench : BenchState = the_view c.self.inside in
    let lane = c.args.lane in
    let side = c.args.side in
    let out : (ends_of bench.lanes lane side).state ≡ Up → ⊥ =
    λ e. c.in_default.not-Up (c.state_at.ensures
    ∙ (ap (λ (l : List LaneEnds). (ends_of l lane side).state) c.deref.ensures.value ∙ e)) in
    record {
      plays = rw (sym c.self.view_is)
          (attach_changed bench c.reserve.new.self c.reserve.ensures.past c.reserve.ensures.script bench.held c.advance-2.new.self
          bench.lanes
          c.self.invariant.script c.advance-2.ensures.read lane side out (sym c.if-next_is_down.false ∙ c.next_is_down.ensures)
          (ap (λ b. Some b) (sym c.if-came_up.false) ∙ (sym c.in-Some.is ∙ c.next_attached.ensures)) refl refl);
      up = λ up. absurd (cc);
      leaves = rw (sym c.self.view_is) (leaves_ends bench lane side bench.held c.advance-2.new.self bench.lanes refl);
      rest = rw (sym c.self.view_is) refl;
    }
