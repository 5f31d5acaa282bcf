-- answers of src/ways.rt, go
use Rattle.std.proofs.Common.{◌∙◌, ap}
use Rattle.sn_seat.proofs.Lending.{same_name}
use Rattle.seat_bench.proofs.Wiring.{receives_still, wired_still}
use Rattle.seat_bench.proofs.ways.go.Goals as goal

pub loop-round-init : goal.loop-round-init
loop-round-init c = record {
  sends = c.in_ok-source.ensures.ready;
  sent = c.in_ok-sent.ensures _ _;
  receives = c.in_ok-receiver.ensures.ready;
  came = c.in_ok-came.ensures _ _;
  lent = ap (λ live. live.seat.ghost_name) c.in_ok-source.ensures.same;
  other_lent = ap (λ live. live.seat.ghost_name) c.in_ok-receiver.ensures.same;
}

pub loop-round-preserved : goal.loop-round-preserved
loop-round-preserved c =
    let before = c.loop-round.invariant in
    let sent = c.in_ok-send_round.ensures in
    let came = c.in_ok-receive_round.ensures in
    let gave = c.in_ok-give_back.ensures in
    record {
      sends = sent.ready;
      sent = sent.wired;
      receives = receives_still gave.leaves.constants came.ready;
      came = wired_still gave.used came.wired;
      lent = same_name _ _ _ _ sent.lent ∙ before.lent;
      other_lent = gave.lent ∙ (same_name _ _ _ _ came.lent ∙ before.other_lent);
    }

pub returns-in_err-send_round-clause-lent : goal.returns-in_err-send_round-clause-lent
returns-in_err-send_round-clause-lent c = same_name _ _ _ _ c.in_err-send_round.ensures.lent ∙ c.loop-round.invariant.lent

pub returns-in_err-receive_round-clause-lent : goal.returns-in_err-receive_round-clause-lent
returns-in_err-receive_round-clause-lent c = same_name _ _ _ _ c.in_ok-send_round.ensures.lent ∙ c.loop-round.invariant.lent

pub returns-in_err-receive_round-clause-other_lent : goal.returns-in_err-receive_round-clause-other_lent
returns-in_err-receive_round-clause-other_lent c =
    same_name _ _ _ _ c.in_err-receive_round.ensures.lent ∙ c.loop-round.invariant.other_lent

pub returns-in_err-give_back-clause-lent : goal.returns-in_err-give_back-clause-lent
returns-in_err-give_back-clause-lent c = same_name _ _ _ _ c.in_ok-send_round.ensures.lent ∙ c.loop-round.invariant.lent

pub returns-in_err-give_back-clause-other_lent : goal.returns-in_err-give_back-clause-other_lent
returns-in_err-give_back-clause-other_lent c =
    c.in_err-give_back.ensures.lent
    ∙ (same_name _ _ _ _ c.in_ok-receive_round.ensures.lent ∙ c.loop-round.invariant.other_lent)
