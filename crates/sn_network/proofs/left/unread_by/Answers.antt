-- answers of src/left.rt, unread_by
use Rattle.std.proofs.Common.{◌∙◌}
use Rattle.sn_network.proofs.Counted.{counted_there, get_or_here}
use Rattle.sn_network.proofs.left.unread_by.Goals as goal

pub unread-requires : goal.unread-requires
unread-requires c =
    c.requires.captures c.find_app-at.result _
    (get_or_here c.args.places.now c.find_app-at.result c.index-places-at.result c.find_app-at.ensures.within)

pub returns : goal.returns
returns c =
    c.unread.ensures
    ∙ counted_there c.args.captures.now c.args.places.now c.find_app-at.result c.index-places-at.result c.args.name.now
    c.find_app-at.ensures.within c.find_app-at.ensures.name c.requires.once
