-- A packet goes from a cell to a seat, over a lane and to the other seat: computed on the definitions.
use Rattle.std.proofs.Common.{◌≡◌, List, [], ◌∷◌, None, refl}
use Rattle.sn_core.specs.declared.events.Side.TheVariants.{Tx, Rx}
use Rattle.sn_core.specs.declared.events.Event.{Event}
use Rattle.sn_core.specs.declared.events.Event.TheVariants.{Attach, Take, Release, Lay, Publish, TakeClaim, TakeOut, TakeDone}
use Rattle.sn_core.specs.Core.{opened, all_after, done_count, after, standing}

abbrev events : List Event
events =
    TakeClaim 0 0 ∷ TakeOut 0 ∷ TakeDone 0 ∷ Attach 0 Tx ∷ Lay 0 0 ∷ Publish 0 ∷ Attach 0 Rx ∷ Take 0 ∷ Release 0 ∷ []

pub all_done : done_count (opened 2 2 ((0, 1) ∷ [])) events ≡ 9
all_done = refl

pub once_only : after (all_after (opened 2 2 ((0, 1) ∷ [])) events) (Release 0) ≡ None
once_only = refl

pub where_all_stands : standing (all_after (opened 2 2 ((0, 1) ∷ [])) events) ≡ record { number = 1; turn = 0 } ∷ record { number = 0; turn = 1 } ∷ []
where_all_stands = refl
