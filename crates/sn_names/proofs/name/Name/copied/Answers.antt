use Rattle.sn_names.proofs.Reading.{utf8_name}
use Rattle.sn_names.proofs.name.Name.copied.Goals as goal

pub unreachable-requires : goal.unreachable-requires
unreachable-requires c = c.in_default.ensures.cases.0 (utf8_name c.args.text.now c.requires)
