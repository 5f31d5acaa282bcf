use Rattle.std.specs.Option.{option_copied}
use Rattle.sn_scenario.proofs.AppAddition.{app_added_full, no_bad_arg}
use Rattle.sn_scenario.proofs.app_line.add_app.Goals as goal

pub returns-in-Err-TooMany : goal.returns-in-Err-TooMany
returns-in-Err-TooMany c =
    app_added_full c.args.config.now c.args.name c.args.class (option_copied c.args.text) c.args.arg.now c.in-Err-TooMany.field-0 c.in-Err-TooMany.field-0-is c.in-Err-TooMany.ensures.refused

pub returns-in-Err-BadArg : goal.returns-in-Err-BadArg
returns-in-Err-BadArg c =
    no_bad_arg c.args.config.now c.args.name c.args.class (option_copied c.args.text) c.args.arg.now c.in-Err-BadArg.field-0 c.in-Err-BadArg.field-0-is c.in-Err-BadArg.ensures.refused c.requires.taken
