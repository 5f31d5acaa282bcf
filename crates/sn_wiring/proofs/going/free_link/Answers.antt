use Rattle.std.proofs.Common.{Option, ap, arith, sym, ◌∙◌, length}
use Rattle.sn_app.specs.Calls.{row_of_link}
use Rattle.sn_app.specs.Desk.{kept_counts, roster_of}
use Rattle.sn_link.specs.Link.{Line, new_line}
use Rattle.sn_names.specs.Rosters.{RosterRows}
use Rattle.sn_link.specs.declared.counts.LinkCounts.{LinkCounts}
use Rattle.std.specs.Prelude.{unwrap_or}
use Rattle.sn_wiring.proofs.Goings.{kept_out, roster_stays, runs_closes, sound_out}
use Rattle.sn_wiring.proofs.Fits.{fits_go}
use Rattle.sn_wiring.proofs.Lines.{lines_go}
use Rattle.sn_wiring.proofs.Opened.{Opened, rows_more, rows_other}
use Rattle.sn_wiring.proofs.going.free_link.Goals as goal

pub free_queued-requires : goal.free_queued-requires
free_queued-requires g c =
    let out = c.remove-gone.ensures in
    kept_out
    (record { was = out.updates.changed; here = out.value; others = λ other apart. sym (out.updates.others other apart) })
    c.requires.sound

pub keep_counts-requires : goal.keep_counts-requires
keep_counts-requires g c =
    let out = c.remove-gone.ensures in
    let sound = sound_out
    (record { was = out.updates.changed; here = out.value; others = λ other apart. sym (out.updates.others other apart) })
    c.requires.sound in
    let stays = roster_stays (c.free_queued.ensures.frees c.remove-gone.new.self.slots sound) in
    let links = ap (λ (rows : RosterRows). length rows.links) stays in
    omega (arith, links, c.link_row-row.ensures, c.requires.link)

pub returns-clause-runs : goal.returns-clause-runs
returns-clause-runs g c =
    let out = c.remove-gone.ensures in
    let row = row_of_link (roster_of (g.C.Ctx.tray c.args.ctx.now)).links c.args.link.now in
    let opened : Opened c.remove-gone.new.self.slots c.args.links.now.slots c.key_of_row-key.result c.remove-gone.result =
    record { was = out.updates.changed; here = out.value; others = λ other apart. sym (out.updates.others other apart) } in
    let counts = c.counts-counts.ensures in
    runs_closes opened c.requires.sound row
    (sym (ap (λ (slot : Option Line). (unwrap_or slot (new_line 0)).row) out.value) ∙ c.key_of_row-key.ensures.row
    ∙ c.link_row-row.ensures)
    (c.free_queued.ensures.frees c.remove-gone.new.self.slots (sound_out opened c.requires.sound))
    (c.keep_counts.ensures.tray ∙ ap (λ r. kept_counts r c.counts-counts.result
    (g.C.Ctx.tray c.free_queued.new.ctx)) c.link_row-row.ensures
    ∙ ap (λ (more : LinkCounts). kept_counts row more (g.C.Ctx.tray c.free_queued.new.ctx)) counts)
    c.keep_counts.ensures.used

pub returns-clause-gone : goal.returns-clause-gone
returns-clause-gone g c =
    let out = c.remove-gone.ensures in
    let row = row_of_link (roster_of (g.C.Ctx.tray c.args.ctx.now)).links c.args.link.now in
    let opened : Opened c.remove-gone.new.self.slots c.args.links.now.slots c.key_of_row-key.result c.remove-gone.result =
    record { was = out.updates.changed; here = out.value; others = λ other apart. sym (out.updates.others other apart) } in
    omega (
      arith,
      c.requires.here,
      rows_more row opened
          (sym (ap (λ (slot : Option Line). (unwrap_or slot (new_line 0)).row) out.value) ∙ c.key_of_row-key.ensures.row
          ∙ c.link_row-row.ensures),
    )

pub returns-clause-others : goal.returns-clause-others
returns-clause-others g c = λ other apart.
    let out = c.remove-gone.ensures in
    let row = row_of_link (roster_of (g.C.Ctx.tray c.args.ctx.now)).links c.args.link.now in
    let opened : Opened c.remove-gone.new.self.slots c.args.links.now.slots c.key_of_row-key.result c.remove-gone.result =
    record { was = out.updates.changed; here = out.value; others = λ other apart. sym (out.updates.others other apart) } in
    sym (rows_other row opened
    (sym (ap (λ (slot : Option Line). (unwrap_or slot (new_line 0)).row) out.value) ∙ c.key_of_row-key.ensures.row
    ∙ c.link_row-row.ensures)
    other apart)

pub returns-clause-lines : goal.returns-clause-lines
returns-clause-lines g c = λ some has.
    lines_go (roster_of (g.C.Ctx.tray c.args.ctx.now)).links c.args.links.now.slots c.remove-gone.new.self.slots
    c.args.link.now some
    c.requires.link (returns-clause-others g c) has (returns-clause-gone g c)

pub returns-clause-fits : goal.returns-clause-fits
returns-clause-fits g c = λ fits.
    fits_go (roster_of (g.C.Ctx.tray c.args.ctx.now)).links c.args.links.now.slots c.remove-gone.new.self.slots c.args.link.now
    c.requires.link (returns-clause-others g c) fits (returns-clause-gone g c)
