use Rattle.std.proofs.Common.{ap, arith, sym, ◌+◌, ◌≤◌, ◌∙◌, ◌≡◌, length, drop, get_or, None, Some}
use Rattle.sn_app.specs.Desk.{Log, Tray, kept_counts, roster_of}
use Rattle.sn_link.specs.Link.{Line}
use Rattle.sn_link.specs.declared.counts.LinkCounts.{LinkCounts}
use Rattle.sn_wiring.proofs.Fits.{named_row}
use Rattle.sn_wiring.proofs.Losses.{all_kept, desk_lost, kept_end, kept_next, kept_past}
use Rattle.sn_wiring.proofs.losing.lose_links.Goals as goal
use Rattle.sn_wiring.proofs.losing.lose_links.Goals.{in-Some, in_default}

pub keep_counts-requires : goal.keep_counts-requires
keep_counts-requires g c =
    let slots = c.args.links.slots in
    let line : Line = c.in-Some.link.now in
    let there : get_or slots c.loop-key.key None ≡ Some line = sym c.in-Some.ensures in
    let rows = ap (λ (log : Log). length log.constants.roster.links) c.loop-key.invariant.log in
    let named = named_row (roster_of (g.C.Ctx.tray c.args.ctx.now)).links slots c.loop-key.key line c.requires there in
    omega (arith, rows, named, c.row.ensures)

pub loop-key-preserved : goal.loop-key-preserved
loop-key-preserved g c =
    let slots = c.args.links.slots in
    let key = c.loop-key.key in
    let before = c.loop-key.invariant in
    let start : Tray = g.C.Ctx.tray c.args.ctx.now in
    let t : Tray = g.C.Ctx.tray c.loop-key.ctx in
    elim c.match-get.branch [
      | in-Some w ↦
          let s : Tray = g.C.Ctx.tray c.match-get.ctx in
          let line : Line = w.in-Some.link.now in
          let there : get_or slots key None ≡ Some line = sym w.in-Some.ensures in
          let raised : s ≡ kept_counts line.row line.counts t =
          ap g.C.Ctx.tray w.ctx-is ∙ w.keep_counts.ensures.tray ∙ ap (λ r. kept_counts r w.counts.result t) w.row.ensures
          ∙ ap (λ (counts : LinkCounts). kept_counts line.row counts t) w.counts.ensures in
          record {
            left = kept_next slots key line t s there raised ∙ before.left;
            log = ap (λ (z : Tray). z.log) raised ∙ before.log;
            used = ap g.C.Ctx.used w.ctx-is ∙ w.keep_counts.ensures.used ∙ before.used;
            lent = ap g.C.Ctx.lender w.ctx-is ∙ w.keep_counts.ensures.lent ∙ before.lent;
          }
      | in_default w ↦
          let s : Tray = g.C.Ctx.tray c.match-get.ctx in
          let same : s ≡ t = ap g.C.Ctx.tray w.ctx-is in
          let none : get_or slots key None ≡ None = sym w.in_default.ensures in
          record {
            left = ap (all_kept (drop (key + 1) slots)) same ∙ kept_past slots key t none ∙ before.left;
            log = ap (λ (z : Tray). z.log) same ∙ before.log;
            used = ap g.C.Ctx.used w.ctx-is ∙ before.used;
            lent = ap g.C.Ctx.lender w.ctx-is ∙ before.lent;
          }
    ]

pub returns-clause-lost : goal.returns-clause-lost
returns-clause-lost g c =
    let slots = c.args.links.slots in
    let over : length slots ≤ c.loop-key.key = omega (arith, c.loop-key-test.false, c.capacity-key-end.ensures.slots) in
    desk_lost (g.C.Ctx.used c.args.ctx.now) (g.C.Ctx.used c.loop-key.ctx) slots (g.C.Ctx.tray c.args.ctx.now)
    (g.C.Ctx.tray c.loop-key.ctx) c.requires.once
    (sym (kept_end slots c.loop-key.key (g.C.Ctx.tray c.loop-key.ctx) over) ∙ c.loop-key.invariant.left)
