use Rattle.sn_config.proofs.UniqueArguments.{other_byte, other_place}
use Rattle.sn_config.proofs.arg_text.byte_arg.Goals as goal

pub returns-in_default-decimal-clause-refused : goal.returns-in_default-decimal-clause-refused
returns-in_default-decimal-clause-refused c arg h =
    other_place c.args.word.now c.in-Some.place.now c.in-Some.byte.now arg c.in-Some.ensures.cut c.in-Some.ensures.first c.in_default-decimal.ensures.none h

pub returns-in_default-decimal-2-clause-refused : goal.returns-in_default-decimal-2-clause-refused
returns-in_default-decimal-2-clause-refused c arg h =
    other_byte c.args.word.now c.in-Some.place.now c.in-Some.byte.now arg c.in-Some.ensures.cut c.in-Some.ensures.first c.in_default-decimal-2.ensures.none h
