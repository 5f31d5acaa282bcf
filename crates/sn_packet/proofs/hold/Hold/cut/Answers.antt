use Rattle.std.proofs.Common.{take, ◌≡◌, None, get_or, unwrap_or, ap, ◌∙◌, sym, subst, vec_capacity}
use Rattle.sn_packet.specs.Packet.{with_bytes, no_packet}
use Rattle.sn_packet.specs.Hold.{there, WritesUsed, LeavesFrees}
use Rattle.sn_packet.proofs.Writes.{held_written}
use Rattle.sn_packet.proofs.Views.{used_rewritten, frees_rewritten}
use Rattle.sn_packet.proofs.hold.Hold.cut.Goals as goal

pub returns-clause-bytes : goal.returns-clause-bytes
returns-clause-bytes c =
    let bytes : c.index_mut.result.now.bytes ≡ (unwrap_or (get_or c.self.inside.cells.slots c.args.place None) no_packet).bytes =
    ap (λ o. (unwrap_or o no_packet).bytes) (sym c.index_mut.ensures.value) in
    rw (sym c.self.view_is)
    (held_written c.self.inside.cells.slots c.args.place (take c.args.len (unwrap_or (get_or c.self.inside.cells.slots c.args.place None) no_packet).bytes) c.index_mut.result.now c.cut.new.self c.self.inside.free.items c.self.inside.cells.vacant_key c.self.inside.cells.capacity (vec_capacity c.self.inside.free) c.index_mut.ensures.value
    (c.cut.ensures ∙ ap (λ b. with_bytes (take c.args.len b) c.index_mut.result.now) bytes))

pub returns-clause-used : goal.returns-clause-used
returns-clause-used c =
    subst (WritesUsed c.args.place (take c.args.len (there c.args.self.now c.args.place).bytes) c.args.self.now) (sym (returns-clause-bytes c)) (used_rewritten c.args.self.now c.args.place (take c.args.len (there c.args.self.now c.args.place).bytes))

pub returns-clause-frees : goal.returns-clause-frees
returns-clause-frees c =
    subst (LeavesFrees c.args.place c.args.self.now) (sym (returns-clause-bytes c)) (frees_rewritten c.args.self.now c.args.place (take c.args.len (there c.args.self.now c.args.place).bytes))
