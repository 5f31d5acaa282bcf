use Rattle.sn_names.proofs.Reading.{after_spaces_goes}
use Rattle.sn_names.proofs.parts.after_spaces.Goals as goal

pub returns-clause-goes_on : goal.returns-clause-goes_on
returns-clause-goes_on c =
    after_spaces_goes c.args.text.now c.spaces_len.result c.spaces_len.ensures.spaces c.spaces_len.ensures.longest
