-- What a worker holds, computed on the definitions: packets are got, put, taken at the next turn, given and kept.
use Rattle.std.proofs.Common.{◌≡◌, List, [], ◌∷◌, ◌++◌, true, false, refl}
use Rattle.sn_journal.specs.declared.entry.Entry.{Entry}
use Rattle.sn_journal.specs.declared.entry.Entry.TheVariants.{Round, Got, Put, Take, Gave, Full, Worn, Stop}
use Rattle.sn_journal.specs.Holding.{holding, all_speak_of_held}

-- packet 5 goes out over interlink 0 and comes back over interlink 1, one turn later
abbrev there_and_back : List Entry
there_and_back = Round 1 ∷ Got 5 0 ∷ Got 6 2 ∷ Put 0 0 5 1 (7 ∷ []) ∷ Take 1 0 5 1 (7 ∷ []) ∷ []

pub got : holding (Round 1 ∷ Got 5 0 ∷ Got 6 2 ∷ []) ≡ (5, 0) ∷ (6, 2) ∷ []
got = refl

pub put : holding (Got 5 0 ∷ Got 6 2 ∷ Put 0 0 5 1 (7 ∷ []) ∷ []) ≡ (6, 2) ∷ []
put = refl

pub taken : holding there_and_back ≡ (6, 2) ∷ (5, 1) ∷ []
taken = refl

pub given_and_kept : holding (there_and_back ++ Stop ∷ Gave 6 3 ∷ Full 5 1 ∷ []) ≡ (5, 1) ∷ []
given_and_kept = refl

pub all_are_held : all_speak_of_held [] (there_and_back ++ Stop ∷ Gave 6 3 ∷ Full 5 1 ∷ []) ≡ true
all_are_held = refl

pub given_twice : all_speak_of_held [] (there_and_back ++ Gave 6 3 ∷ Gave 6 3 ∷ []) ≡ false
given_twice = refl

pub given_at_another_turn : all_speak_of_held [] (there_and_back ++ Gave 6 4 ∷ []) ≡ false
given_at_another_turn = refl

pub given_without_a_raise : all_speak_of_held [] (Got 5 0 ∷ Gave 5 0 ∷ []) ≡ false
given_without_a_raise = refl

pub kept_and_not_held : all_speak_of_held [] (there_and_back ++ Worn 5 0 ∷ []) ≡ false
kept_and_not_held = refl
