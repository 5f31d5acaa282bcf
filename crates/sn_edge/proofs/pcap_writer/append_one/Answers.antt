use Rattle.std.proofs.Common.{◌≡◌, ◌∷◌, [], Ok, Err, refl, subst, rules}
use Rattle.sn_packet.specs.Hold.{among}
use Rattle.sn_app.specs.Apps.{write_counted, write_packet}
use Rattle.sn_app.specs.Rows.{row_file_append}
use Rattle.sn_app.specs.Runs.{Runs}
use Rattle.sn_app.specs.World.{nowhere, packet_at, world}
use Rattle.sn_app.specs.declared.counters.Counter.TheVariants.{Dropped, Packets}
use Rattle.sn_app.proofs.Leaving.{runs_free_kept, runs_kept}
use Rattle.sn_app.proofs.Making.{runs_frees_counted}
use Rattle.sn_app.proofs.Moving.{sound_moved}
use Rattle.sn_app.proofs.Running.{runs_bind, runs_fail}
use Rattle.sn_edge.proofs.pcap_writer.append_one.Goals as goal

pub returns-in_err-added-clause-runs : goal.returns-in_err-added-clause-runs
unfolding write_packet
returns-in_err-added-clause-runs g c = λ slots h.
    let u = g.C.Ctx.used c.args.ctx.now in
    let v = g.C.Ctx.used c.file_append.new.self in
    let e : c.from_residual.result ≡ Err c.in_err-added.field-0.0 = search rules in
    rw e (runs_fail (write_counted c.args.row (packet_at u c.args.place)) nowhere
    (runs_kept u v slots (among (c.args.place ∷ [])) c.in_err-added.ensures.reads c.in_err-added.ensures.used))

pub returns-then-not-added-clause-runs : goal.returns-then-not-added-clause-runs
unfolding write_packet write_counted
returns-then-not-added-clause-runs g c = λ slots h.
    let u = g.C.Ctx.used c.args.ctx.now in
    let v = g.C.Ctx.used c.file_append.new.self in
    let w = g.C.Ctx.used c.free.new.self in
    let packet = packet_at u c.args.place in
    let mine = among (c.args.place ∷ []) in
    let run = runs_kept u v slots mine c.in_ok-added.ensures.reads c.in_ok-added.ensures.used in
    runs_bind (write_counted c.args.row packet)
    (subst (λ b. Runs (row_file_append c.args.file packet) (world (g.C.Ctx.tray c.args.ctx.now) u slots) (world
    (g.C.Ctx.tray c.file_append.new.self) v slots) mine mine (Ok b)) c.if-not-added.true run)
    (runs_frees_counted w (g.C.Ctx.used c.count.new.self) slots c.args.row Dropped packet
    (runs_free_kept u v w slots c.args.place (sound_moved (run.moves c.in_ok-added.added refl) h) c.in_ok-added.ensures.used
    c.free.ensures.tray c.free.ensures.used)
    c.count.ensures.tray c.count.ensures.used)

pub returns-clause-runs : goal.returns-clause-runs
unfolding write_packet write_counted
returns-clause-runs g c = λ slots h.
    let u = g.C.Ctx.used c.args.ctx.now in
    let v = g.C.Ctx.used c.file_append.new.self in
    let w = g.C.Ctx.used c.free.new.self in
    let packet = packet_at u c.args.place in
    let mine = among (c.args.place ∷ []) in
    let run = runs_kept u v slots mine c.in_ok-added.ensures.reads c.in_ok-added.ensures.used in
    runs_bind (write_counted c.args.row packet)
    (subst (λ b. Runs (row_file_append c.args.file packet) (world (g.C.Ctx.tray c.args.ctx.now) u slots) (world
    (g.C.Ctx.tray c.file_append.new.self) v slots) mine mine (Ok b)) c.if-not-added.false run)
    (runs_frees_counted w (g.C.Ctx.used c.count-2.new.self) slots c.args.row Packets packet
    (runs_free_kept u v w slots c.args.place (sound_moved (run.moves c.in_ok-added.added refl) h) c.in_ok-added.ensures.used
    c.free.ensures.tray c.free.ensures.used)
    c.count-2.ensures.tray c.count-2.ensures.used)
