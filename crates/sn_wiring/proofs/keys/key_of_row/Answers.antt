use Rattle.std.proofs.Common.{None, arith, get_or, sym, ◌∙◌, ◌≡◌}
use Rattle.sn_app.specs.World.{has_row}
use Rattle.sn_wiring.proofs.Scans.{none_has, none_left, other_has, rows_left}
use Rattle.sn_wiring.proofs.keys.key_of_row.Goals as goal
use Rattle.sn_wiring.proofs.keys.key_of_row.Goals.{in-Some+else-row, in_default}

pub loop-key-preserved : goal.loop-key-preserved
loop-key-preserved c =
    let slots = c.args.links.now.slots in
    let slot = get_or slots c.loop-key.key None in
    let none : has_row c.args.row slot ≡ 0 = elim c.match-get.branch [
      | in-Some+else-row w ↦
          other_has c.args.row slot w.in-Some.link.now (sym w.in-Some.ensures) (λ e. w.if-row.false (w.row.ensures ∙ e))
      | in_default w ↦ none_has c.args.row slot (sym w.in_default.ensures)
    ] in
    omega (arith, c.loop-key.invariant, rows_left c.args.row slots c.loop-key.key none)

pub unreachable-requires : goal.unreachable-requires
unreachable-requires c =
    omega (
      arith,
      c.loop-key.invariant,
      none_left c.args.row c.args.links.now.slots c.loop-key.key (omega
          (arith, c.loop-key-test.false, c.capacity-key-end.ensures.slots)),
    )
