use Rattle.std.proofs.Common.{rules, sym, subst, arith, IsSome}
use Rattle.sn_interlink.specs.Ends.{LaneEnd}
use Rattle.sn_interlink.proofs.RingCalls.{slot_out_at, loaded_if, on_if_closes}
use Rattle.sn_interlink.proofs.end.End.drain_take.Goals as goal

pub exchange-requires : goal.exchange-requires
exchange-requires c =
    let l = loaded_if c.self.inside.loaded c.self.inside.place c.self.inside.bound (subst (λ (e : LaneEnd). IsSome e.reach) (sym c.self.view_is) c.requires.loaded) in
    let order = c.self.invariant.fit.order l in
    (search rules, slot_out_at _ c.self.inside.seat.me _ c.self.invariant (on_if_closes _ (search rules)) l (omega arith) c.slot_of-slot.ensures)
