use Rattle.std.proofs.Common.{replicate, sym, subst, vec_capacity}
use Rattle.sn_packet.specs.Hold.{WritesUsed, LeavesFrees}
use Rattle.sn_packet.proofs.Writes.{held_written}
use Rattle.sn_packet.proofs.Views.{used_rewritten, frees_rewritten}
use Rattle.sn_packet.proofs.hold.Hold.zeros.Goals as goal

pub returns-clause-bytes : goal.returns-clause-bytes
returns-clause-bytes c =
    rw (sym c.self.view_is)
    (held_written c.self.inside.cells.slots c.args.place (replicate c.args.len 0) c.index_mut.result.now c.zeros.new.self c.self.inside.free.items c.self.inside.cells.vacant_key c.self.inside.cells.capacity (vec_capacity c.self.inside.free) c.index_mut.ensures.value c.zeros.ensures)

pub returns-clause-used : goal.returns-clause-used
returns-clause-used c =
    subst (WritesUsed c.args.place (replicate c.args.len 0) c.args.self.now) (sym (returns-clause-bytes c)) (used_rewritten c.args.self.now c.args.place (replicate c.args.len 0))

pub returns-clause-frees : goal.returns-clause-frees
returns-clause-frees c =
    subst (LeavesFrees c.args.place c.args.self.now) (sym (returns-clause-bytes c)) (frees_rewritten c.args.self.now c.args.place (replicate c.args.len 0))
