use Rattle.std.proofs.Common.{rules, sym, ap, ◌∙◌, subst, subst₂}
use Rattle.atomic_table.specs.declared.shared.Seat.{Seat}
use Rattle.sn_core.specs.declared.events.Side.TheVariants.{Tx, Rx}
use Rattle.sn_interlink.specs.declared.view.View.{View}
use Rattle.sn_interlink.specs.Rule.{Lying}
use Rattle.sn_interlink.specs.Receipt.{IsLife, Fifo}
use Rattle.sn_interlink.specs.Closing.{other_known}
use Rattle.sn_interlink.specs.Plays.{known_of}
use Rattle.sn_interlink.proofs.Ending.{closed, word_is}
use Rattle.sn_interlink.proofs.receipt.close.Goals as goal

pub returns-clause-tx_life : goal.returns-clause-tx_life
returns-clause-tx_life c =
    let t = closed _ _ c.into_seat-seat.result.me.0 c.into_seat-other.result.me.0 _ _ (ap (λ m. m.0) c.join_seat.ensures.2) (c.into_seat-seat.ensures.state ∙ search rules) (c.into_seat-other.ensures.state ∙ search rules) c.close_with-closed.ensures.values.2 in
    subst (λ (s : Seat Lying View). IsLife Tx (known_of s.me.0).log) (sym c.of-ends.ensures) t.tx_life

pub returns-clause-rx_life : goal.returns-clause-rx_life
returns-clause-rx_life c =
    let t = closed _ _ c.into_seat-seat.result.me.0 c.into_seat-other.result.me.0 _ _ (ap (λ m. m.0) c.join_seat.ensures.2) (c.into_seat-seat.ensures.state ∙ search rules) (c.into_seat-other.ensures.state ∙ search rules) c.close_with-closed.ensures.values.2 in
    subst (λ (s : Seat Lying View). IsLife Rx (other_known s.me.0).log) (sym c.of-ends.ensures) t.rx_life

pub returns-clause-fifo : goal.returns-clause-fifo
returns-clause-fifo c =
    let t = closed _ _ c.into_seat-seat.result.me.0 c.into_seat-other.result.me.0 _ _ (ap (λ m. m.0) c.join_seat.ensures.2) (c.into_seat-seat.ensures.state ∙ search rules) (c.into_seat-other.ensures.state ∙ search rules) c.close_with-closed.ensures.values.2 in
    subst (λ (s : Seat Lying View). Fifo (known_of s.me.0).log (other_known s.me.0).log c.word-put.result c.word-taken.result) (sym c.of-ends.ensures)
    (subst₂ (λ n k. Fifo (known_of c.join_seat.new.seat.me.0).log (other_known c.join_seat.new.seat.me.0).log n k) (word_is _ 1 _ c.word-put.ensures) (word_is _ 2 _ c.word-taken.ensures) t.all)
