use Rattle.std.proofs.Common.{arith}
use Rattle.sn_config.proofs.UniqueArguments.{one_number}
use Rattle.sn_config.proofs.arg_text.number_arg.Goals as goal

pub returns-then-number-low-clause-refused : goal.returns-then-number-low-clause-refused
returns-then-number-low-clause-refused c arg h =
    one_number c.args.word.now c.args.low c.args.high c.in-Some.number arg (omega arith) c.in-Some.ensures.found (omega arith) h
