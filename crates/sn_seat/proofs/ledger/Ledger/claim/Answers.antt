use Rattle.std.proofs.Common.{refl, sym, ap, ◌∙◌, append-nil}
use Rattle.sn_journal.specs.declared.entry.Entry.TheVariants.{Dry}
use Rattle.sn_seat.proofs.PacketTelling.{same_first, told_got}
use Rattle.sn_seat.proofs.Telling.{told_other}
use Rattle.sn_seat.proofs.ledger.Ledger.claim.Goals as goal

pub invariant_of-self-clause-told : goal.invariant_of-self-clause-told
invariant_of-self-clause-told c =
    let l = c.args.self.now in
    rw c.add.ensures.added
    (told_other l.told l.hold c.take_claim.new.self l.listener Dry refl (ap (λ s. s.log) c.in-Dry.ensures.state)
    (sym (append-nil l.listener.heard)) (λ f. refl))

pub invariant_of-self-in-Claimed-clause-told : goal.invariant_of-self-in-Claimed-clause-told
invariant_of-self-in-Claimed-clause-told c =
    let l = c.args.self.now in
    let n = c.in-Claimed in
    let same = same_first _ _ (sym (ap (λ s. s.carried) n.ensures.state) ∙ c.take_out-packet.ensures.packet) in
    rw c.add-in-Claimed.ensures.added
    (told_got l.told c.take_done.new.self c.lay.new.self c.take_out-packet.result n.number n.turn
    (ap (λ p. p.number) same) (ap (λ p. p.turn) same)
    (ap (λ s. s.log) c.take_done.ensures.state ∙
    (ap (λ s. s.log) c.take_out-packet.ensures.state ∙ ap (λ s. s.log) n.ensures.state))
    c.lay.ensures.weight)
