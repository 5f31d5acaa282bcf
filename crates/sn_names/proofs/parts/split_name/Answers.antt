use Rattle.std.proofs.Common.{arith, sym}
use Rattle.std.proofs.lemmas.List.{take-append-drop}
use Rattle.sn_names.proofs.Reading.{split_name_goes}
use Rattle.sn_names.proofs.parts.split_name.Goals as goal

pub returns-clause-name : goal.returns-clause-name
returns-clause-name c p =
    let front = c.split_at.ensures.front in
    let back = c.split_at.ensures.back in
    split_name_goes c.args.text.now c.split_at.result.0.now c.split_at.result.1.now
    (rw (front, back) (sym (take-append-drop c.name_len.result c.args.text.now)))
    p (rw front c.name_len.ensures.plain) (omega arith) (λ l. rw back (c.name_len.ensures.longest (omega arith)))
