use Rattle.std.proofs.Common.{ap, Err}
use Rattle.std.proofs.lemmas.Result.{err_from_is_err_and}
use Rattle.sn_pcap.specs.Faults.{HasFault}
use Rattle.sn_pcap.proofs.Faulty.{one_fault, no_fault}
use Rattle.sn_pcap.proofs.Headed.{opened_text}
use Rattle.sn_pcap.proofs.capture.Capture.open.Goals as goal

pub returns-in_err-order-clause-exact : goal.returns-in_err-order-clause-exact
returns-in_err-order-clause-exact c =
    let p = err_from_is_err_and c.from_residual.result c.from_residual.ensures.1 in
    let has : HasFault c.args.bytes.items p.0 = rw p.2 (rw c.deref.ensures.value at c.in_err-order.ensures.fault) in
    λ fault other. rw p.1 (ap Err (one_fault c.args.bytes.items p.0 fault has other))

pub returns-in_err-order-clause-fault : goal.returns-in_err-order-clause-fault
returns-in_err-order-clause-fault c =
    let p = err_from_is_err_and c.from_residual.result c.from_residual.ensures.1 in
    let has : HasFault c.args.bytes.items p.0 = rw p.2 (rw c.deref.ensures.value at c.in_err-order.ensures.fault) in
    rw p.1 (λ records text. no_fault c.args.bytes.items records p.0 text has)

pub returns-clause-text : goal.returns-clause-text
returns-clause-text c =
    opened_text c.in_ok-order.order c.args.bytes.items (rw c.deref.ensures.value at c.in_ok-order.ensures.opened)

pub returns-clause-exact : goal.returns-clause-exact
returns-clause-exact c =
    let opened = rw c.deref.ensures.value at c.in_ok-order.ensures.opened in
    λ fault has. absurd (no_fault c.args.bytes.items _ fault (opened_text c.in_ok-order.order c.args.bytes.items opened) has)
