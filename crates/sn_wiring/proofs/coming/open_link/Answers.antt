use Rattle.std.proofs.Common.{ap, arith, ◌∙◌}
use Rattle.sn_app.specs.Calls.{row_of_link}
use Rattle.sn_app.specs.Desk.{roster_of}
use Rattle.sn_link.specs.Link.{Line, new_line}
use Rattle.sn_wiring.proofs.Comings.{runs_opens}
use Rattle.sn_wiring.proofs.Fits.{fits_come}
use Rattle.sn_wiring.proofs.Lines.{lines_come}
use Rattle.sn_wiring.proofs.Opened.{rows_more, rows_other}
use Rattle.sn_wiring.proofs.coming.open_link.Goals as goal

pub returns-clause-runs : goal.returns-clause-runs
returns-clause-runs g c =
    let here = c.in_ok-_key.ensures in
    let row = row_of_link (roster_of (g.C.Ctx.tray c.args.ctx.now)).links c.args.link.now in
    runs_opens row (record { was = here.was_vacant; here = here.updates.changed; others = here.updates.others })
    (c.in_ok-made.ensures ∙ ap new_line c.link_row-row.ensures) c.requires.free

pub returns-clause-here : goal.returns-clause-here
returns-clause-here g c =
    let here = c.in_ok-_key.ensures in
    let row = row_of_link (roster_of (g.C.Ctx.tray c.args.ctx.now)).links c.args.link.now in
    omega (
      arith,
      c.requires.free,
      rows_more row (record { was = here.was_vacant; here = here.updates.changed; others = here.updates.others })
          (ap (λ (line : Line). line.row) c.in_ok-made.ensures ∙ c.link_row-row.ensures),
    )

pub returns-clause-others : goal.returns-clause-others
returns-clause-others g c =
    let here = c.in_ok-_key.ensures in
    let row = row_of_link (roster_of (g.C.Ctx.tray c.args.ctx.now)).links c.args.link.now in
    rows_other row (record { was = here.was_vacant; here = here.updates.changed; others = here.updates.others })
    (ap (λ (line : Line). line.row) c.in_ok-made.ensures ∙ c.link_row-row.ensures)

pub returns-clause-lines : goal.returns-clause-lines
returns-clause-lines g c = λ some has.
    let roster = (roster_of (g.C.Ctx.tray c.args.ctx.now)).links in
    lines_come roster c.args.links.now.slots c.insert.new.self.slots c.args.link.now some c.requires.link
    (returns-clause-others g c) has (returns-clause-here g c)

pub returns-clause-fits : goal.returns-clause-fits
returns-clause-fits g c = λ fits.
    fits_come (roster_of (g.C.Ctx.tray c.args.ctx.now)).links c.args.links.now.slots c.insert.new.self.slots c.args.link.now
    c.requires.link (returns-clause-others g c) fits (returns-clause-here g c)
