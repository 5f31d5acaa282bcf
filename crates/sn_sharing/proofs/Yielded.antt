-- What a loop over a vector's items has come to.
use Rattle.std.proofs.Common.{◌≡◌, List, Option, Some, None, length, slice_get, sym, ◌∙◌}
use Rattle.std.proofs.lemmas.Iterator.Adapters.{YieldsList-from_vec}
use Rattle.std.proofs.lemmas.Iterator.Consumers.{YieldsList-end, YieldsList-turn}
use Rattle.std.proofs.lemmas.List.{map-id}
use Rattle.std.specs.Iterator.{Yields}
use Rattle.std.specs.Vec.Iter.{into_iter_items, into_iter_len, into_iter_steps}
use Rattle.std.specs.declared.vec.IntoIter.{IntoIter}
use Rattle.sn_sharing.proofs.Lists.{read_there}

-- at its end it went over all
pub all_yielded : {A Z : Type 0} (all : List A) (s t u : IntoIter A Z) (xs : List A) (r : Option A) → into_iter_items s ≡ all
    → into_iter_len s ≡ length all → Yields into_iter_steps s xs t → r ≡ None → into_iter_steps t r u → xs ≡ all
all_yielded all s t u xs r items len so_far none step =
    sym (map-id xs) ∙ (YieldsList-end (YieldsList-from_vec all items len) xs t so_far r u none step).0

-- the next item is the one behind those that it went over
pub next_there : {A Z : Type 0} (all : List A) (s t u : IntoIter A Z) (xs : List A) (r : Option A) (x : A)
    → into_iter_items s ≡ all
    → into_iter_len s ≡ length all → Yields into_iter_steps s xs t → r ≡ Some x → into_iter_steps t r u
    → slice_get all (length xs) ≡ Some x
next_there all s t u xs r x items len so_far some step =
    let turn = YieldsList-turn (YieldsList-from_vec all items len) xs t so_far r u x some step in
    read_there all (length xs) x turn.0 turn.1
