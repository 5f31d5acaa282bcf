use Rattle.std.proofs.Common.{None, arith, get_or, sym, ◌∙◌, ◌≡◌}
use Rattle.sn_app.specs.World.{has_row}
use Rattle.sn_wiring.proofs.Scans.{found_readable, none_has, none_readable, other_has, queue_left}
use Rattle.sn_wiring.proofs.keys.readable_at.Goals as goal
use Rattle.sn_wiring.proofs.keys.readable_at.Goals.{in-Some+else-row, in_default}

pub returns-then-row : goal.returns-then-row
returns-then-row c = λ t u.
    found_readable u c.args.row t c.args.links.now.slots c.loop-key.key c.nreadable.result c.in-Some.link.now
    (sym c.in-Some.ensures)
    (sym c.row.ensures ∙ c.if-row.true) (c.loop-key.invariant u) c.nreadable.ensures.value

pub loop-key-preserved : goal.loop-key-preserved
loop-key-preserved c = λ u.
    let slots = c.args.links.now.slots in
    let slot = get_or slots c.loop-key.key None in
    let none : has_row c.args.row slot ≡ 0 = elim c.match-get.branch [
      | in-Some+else-row w ↦
          other_has c.args.row slot w.in-Some.link.now (sym w.in-Some.ensures) (λ e. w.if-row.false (w.row.ensures ∙ e))
      | in_default w ↦ none_has c.args.row slot (sym w.in_default.ensures)
    ] in
    sym (queue_left u c.args.row slots c.loop-key.key none) ∙ c.loop-key.invariant u

pub returns : goal.returns
returns c = λ t u.
    none_readable u c.args.row t c.args.links.now.slots c.loop-key.key
    (omega (arith, c.loop-key-test.false, c.capacity-key-end.ensures.slots)) (c.loop-key.invariant u)
