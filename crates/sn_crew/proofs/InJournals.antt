-- How many entries of a kind the journals of workers have: over their places as over their stands.
use Rattle.std.proofs.Common.{◌≡◌, ◌∙◌, ◌+◌, ◌<◌, ◌≤◌, ℕ, Bool, List, [], ◌∷◌, get_or, length, map, take, refl, sym, ap, ap₂}
use Rattle.std.specs.Prelude.{count_by, sum_by}
use Rattle.std.proofs.lemmas.List.{take_all}
use Rattle.std.proofs.lemmas.List.Sums.{sum_by-cons, sum_by_more}
use Rattle.sn_app.specs.World.{desk_of}
use Rattle.sn_journal.specs.declared.entry.Entry.{Entry}
use Rattle.sn_seat.specs.Trays.{no_captures}
use Rattle.sn_seat.specs.declared.shared.Shared.{Shared}
use Rattle.sn_worker.specs.SlotViews.{slot_tray}
use Rattle.sn_crew.specs.Crews.{stand_of}
use Rattle.sn_crew.specs.Endings.{count_in}
use Rattle.sn_crew.specs.Stands.{Stand}
use Rattle.sn_crew.specs.declared.place.Place.{Place}

-- the entries of a place's worker, and how many of them are of a kind
abbrev pub past_at : Place → List Entry
past_at place = (slot_tray no_captures place.slot).log.past

abbrev pub count_at : (Entry → Bool) → Place → ℕ
count_at kind place = count_by kind (past_at place)

-- a sum over what many are mapped to
sum_by_map : {A B : Type 0} (g : A → B) (f : B → ℕ) (xs : List A) → sum_by f (map g xs) ≡ sum_by (λ x. f (g x)) xs
sum_by_map g f [] = refl
sum_by_map g f (x ∷ xs) =
    sum_by-cons f (g x) (map g xs)
    ∙ (ap (λ n. f (g x) + n) (sum_by_map g f xs) ∙ sym (sum_by-cons (λ y. f (g y)) x xs))

-- those of the stands are those of the places
count_of_stands : (kind : Entry → Bool) (shared : Shared) (places : List Place)
    → count_in kind (map (λ place. stand_of shared place.slot) places) ≡ sum_by (count_at kind) places
unfolding desk_of
count_of_stands kind shared places =
    sum_by_map (λ place. stand_of shared place.slot) (λ (stand : Stand). count_by kind stand.desk.tray.log.past) places

-- those of one place more
pub count_more : (kind : Entry → Bool) (places : List Place) (i : ℕ) (place : Place) (so_far one : ℕ) → i < length places
    → place ≡ get_or places i place → so_far ≡ sum_by (count_at kind) (take i places) → one ≡ count_at kind place
    → so_far + one ≡ sum_by (count_at kind) (take (i + 1) places)
count_more kind places i place so_far one within read so_far_is one_is =
    ap₂ (λ a b. a + b) so_far_is (one_is ∙ ap (count_at kind) read)
    ∙ sym (sum_by_more (count_at kind) places i place within)

-- those of all places
pub count_all : (kind : Entry → Bool) (shared : Shared) (places : List Place) (i : ℕ) → length places ≤ i
    → sum_by (count_at kind) (take i places) ≡ count_in kind (map (λ place. stand_of shared place.slot) places)
count_all kind shared places i over =
    ap (sum_by (count_at kind)) (take_all i places over) ∙ sym (count_of_stands kind shared places)
