use Rattle.std.proofs.Common.{sym, ap, ◌≡◌, ◌∙◌, ◌∷◌, ◌++◌, ◌==◌, [], None}
use Rattle.sn_group.specs.declared.entry.GroupEntry.TheVariants as group
use Rattle.sn_packet.specs.Hold.{among, at_of, used_of}
use Rattle.sn_packet.proofs.Puts.{put_at_other}
use Rattle.sn_app.proofs.Gaining.{used_held}
use Rattle.sn_seat.proofs.PacketTelling.{back_in_place, raised_is, same_first, told_full, told_gave}
use Rattle.sn_seat.proofs.ledger.Ledger.give.Goals as goal

pub invariant_of-self-clause-told : goal.invariant_of-self-clause-told
invariant_of-self-clause-told c =
    let l = c.args.self.now in
    let p = c.lift-packet.result in
    let done = c.give_done-given in
    let carried = ap (λ s. s.carried) c.give_in.ensures.state ∙ ap (λ s. s.carried) c.in-Claimed.ensures.state in
    let same = same_first _ _ (sym done.ensures.given.1 ∙ carried) in
    rw c.add.ensures.added
    (told_gave l.told done.new.self c.lift-packet.new.self p done.result.0 done.result.1 (ap (λ q. q.number) same)
    (raised_is _ _ _ done.ensures.given.2 (ap (λ q. q.turn) same))
    (ap (λ s. s.log) done.ensures.state ∙ ap (λ g. g ++ (group.Gave done.result.0 done.result.1 ∷ []) ∷ [])
    (ap (λ s. s.log) c.give_in.ensures.state ∙ ap (λ s. s.log) c.in-Claimed.ensures.state))
    c.lift-packet.ensures.weight)

pub invariant_of-self-in-Full-clause-told : goal.invariant_of-self-in-Full-clause-told
invariant_of-self-in-Full-clause-told c =
    let l = c.args.self.now in
    let p = c.lift-packet.result in
    let n = c.number-number in
    let t = c.turn-turn in
    let f = c.in-Full in
    rw c.add-in-Full.ensures.added
    (told_full l.told c.give_claim.new.self c.lift-packet.new.self c.lay.new.self p f.back n.result t.result
    (ap (λ s. s.log) f.ensures.state
    ∙ (ap (λ m. l.group.log ++ (group.Full m p.turn ∷ []) ∷ []) (sym n.ensures.value)
    ∙ ap (λ m. l.group.log ++ (group.Full n.result m ∷ []) ∷ []) (sym t.ensures.value)))
    f.ensures.back c.lift-packet.ensures.weight c.lay.ensures.weight)

pub returns-in-Full-clause-used : goal.returns-in-Full-clause-used
returns-in-Full-clause-used c =
    let h = c.args.self.now.hold in
    let lift = c.lift-packet in
    back_in_place (used_of h) _ _ c.args.place c.lay.result lift.result c.in-Full.back (c.lay.ensures.next ∙ lift.ensures.next)
    c.in-Full.ensures.back
    (used_held (among h.free c.args.place == 0) (at_of h c.args.place) c.requires.place ∙ lift.ensures.packet)
    lift.ensures.used c.lay.ensures.used

pub returns-in-Claimed-clause-held : goal.returns-in-Claimed-clause-held
returns-in-Claimed-clause-held c = λ q differs.
    ap (λ slots. slots q) c.lift-packet.ensures.at
    ∙ put_at_other c.args.place None (at_of c.args.self.now.hold) q differs

pub returns-in-Full-clause-held : goal.returns-in-Full-clause-held
returns-in-Full-clause-held c = λ q differs.
    let apart = λ (e : q ≡ c.lay.result). differs (e ∙ (c.lay.ensures.next ∙ c.lift-packet.ensures.next)) in
    ap (λ slots. slots q) c.lay.ensures.at
    ∙ (put_at_other c.lay.result _ (at_of c.lift-packet.new.self) q apart
    ∙ (ap (λ slots. slots q) c.lift-packet.ensures.at
    ∙ put_at_other c.args.place None (at_of c.args.self.now.hold) q differs))
