use Rattle.std.proofs.Common.{subst, unwrap_or, None, get_or, sym, vec_capacity}
use Rattle.sn_packet.specs.Hold.{there, WritesUsed, LeavesFrees, KeepsWeight}
use Rattle.sn_packet.specs.Packet.{no_packet}
use Rattle.sn_packet.proofs.Writes.{copied, held_rewritten}
use Rattle.sn_packet.proofs.Views.{used_rewritten, frees_rewritten, weight_rewritten}
use Rattle.sn_packet.proofs.hold.Hold.copy.Goals as goal

pub returns-clause-bytes : goal.returns-clause-bytes
returns-clause-bytes c =
    let to = rw (sym c.self.view_is) at c.requires.to in
    rw (sym c.self.view_is)
    (held_rewritten c.self.inside.cells.slots _ c.args.to (unwrap_or (get_or c.self.inside.cells.slots c.args.from None) no_packet).bytes c.self.inside.free.items c.self.inside.cells.vacant_key c.self.inside.cells.capacity (vec_capacity c.self.inside.free) to
    (copied c.self.inside.cells.slots c.args.from c.args.to c.self.inside.spare c.exchange.new.spare c.bytes.result.now c.index_mut.result.now c.exchange.new.self c.index_mut-2.result.now c.fill.new.self c.index_mut-3.result.now c.exchange-2.new.self
    c.index_mut.ensures.value c.exchange.ensures.packet c.exchange.ensures.spare c.bytes.ensures.value c.index_mut-2.ensures.value c.fill.ensures c.index_mut-3.ensures.value c.exchange-2.ensures.packet))

pub returns-clause-weight : goal.returns-clause-weight
returns-clause-weight c =
    subst (KeepsWeight c.args.self.now) (sym (returns-clause-bytes c)) (weight_rewritten c.args.self.now c.args.to (there c.args.self.now c.args.from).bytes c.requires.to)

pub returns-clause-used : goal.returns-clause-used
returns-clause-used c =
    subst (WritesUsed c.args.to (there c.args.self.now c.args.from).bytes c.args.self.now) (sym (returns-clause-bytes c)) (used_rewritten c.args.self.now c.args.to (there c.args.self.now c.args.from).bytes)

pub returns-clause-frees : goal.returns-clause-frees
returns-clause-frees c =
    subst (LeavesFrees c.args.to c.args.self.now) (sym (returns-clause-bytes c)) (frees_rewritten c.args.self.now c.args.to (there c.args.self.now c.args.from).bytes)
