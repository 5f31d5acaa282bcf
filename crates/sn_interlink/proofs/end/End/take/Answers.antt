use Rattle.std.proofs.Common.{rules, sym, subst, ◌<◌}
use Rattle.sn_interlink.specs.Ends.{LaneEnd, reach_of}
use Rattle.sn_interlink.proofs.RingCalls.{slot_out_at, reaches, on_if_up}
use Rattle.sn_interlink.proofs.end.End.take.Goals as goal

pub exchange-requires : goal.exchange-requires
exchange-requires c =
    let r = reaches c.self.inside.loaded c.self.inside.place c.self.inside.bound (subst (λ (e : LaneEnd). 0 < reach_of e) (sym c.self.view_is) c.requires.seen) in
    (search rules, slot_out_at _ c.self.inside.seat.me _ c.self.invariant (on_if_up _ (search rules)) r.loaded_is r.within c.slot_of-slot.ensures)
