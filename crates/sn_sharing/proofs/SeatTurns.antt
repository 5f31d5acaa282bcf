-- One seat more is taken apart.
use Rattle.std.proofs.Common.{◌≡◌, List, [], ◌∷◌, ◌++◌, map, sym, ap, ◌∙◌}
use Rattle.std.proofs.lemmas.List.{map_push}
use Rattle.sn_seat.specs.Tellings.{TellsAll, seat_ends, seat_group, seat_hold}
use Rattle.sn_seat.specs.declared.seat.Seat.{Seat}
use Rattle.sn_sharing.proofs.Lists.{each_more}
use Rattle.sn_sharing.specs.Columns.{Adds, AreParts, counters_of, files_of, past_of}
use Rattle.sn_sharing.specs.declared.apart.Apart.{Apart}

grown : {A B : Type 0} (f : A → B) (xs : List A) (x : A) (old new : List B) → new ≡ old ++ f x ∷ [] → old ≡ map f xs
    → new ≡ map f (xs ++ x ∷ [])
grown f xs x old new more e = more ∙ (ap (λ l. l ++ f x ∷ []) e ∙ sym (map_push f xs x))

pub parts_more : (seats : List Seat) (a b : Apart) (seat : Seat) → AreParts seats a → Adds a seat b
    → AreParts (seats ++ seat ∷ []) b
parts_more seats a b seat h adds = record {
  journals = grown past_of seats seat _ _ adds.journals h.journals;
  counters = grown counters_of seats seat _ _ adds.counters h.counters;
  files = grown files_of seats seat _ _ adds.files h.files;
  holds = grown seat_hold seats seat _ _ adds.holds h.holds;
  ends = grown seat_ends seats seat _ _ adds.ends h.ends;
  groups = grown seat_group seats seat _ _ adds.groups h.groups;
  told = each_more (λ k (s : Seat). TellsAll (past_of s) s) seats seat h.told adds.told;
}
