-- The place of each class among all.
use Rattle.std.proofs.Common.{Bool, IsTrue, List, [], ap, arith, false, lit<, refl, slice_index_or, sym, ℕ, ◌+◌, ◌<◌, ◌↔◌, ◌∙◌, ◌∷◌, ◌≡◌, ◌≤◌}
use Rattle.sn_names.specs.Classes.{class_word}
use Rattle.sn_names.specs.declared.class.Class.{Class}
use Rattle.sn_names.specs.declared.class.Class.TheVariants.{ByteFilter, Join, PcapReader, PcapWriter, Receiver, Repeater, Sample, Sink, Source, Split, Tee, Transmitter, Truncate}

abbrev pub all_classes : List Class
all_classes = Source ∷ Sink ∷ Tee ∷ Join ∷ Split ∷ Repeater ∷ Truncate ∷ Sample ∷ ByteFilter ∷ PcapReader ∷ PcapWriter ∷ Receiver ∷ Transmitter ∷ []

abbrev pub place : Class → ℕ
place Source = 0
place Sink = 1
place Tee = 2
place Join = 3
place Split = 4
place Repeater = 5
place Truncate = 6
place Sample = 7
place ByteFilter = 8
place PcapReader = 9
place PcapWriter = 10
place Receiver = 11
place Transmitter = 12

pub at_place : (class : Class) → slice_index_or all_classes (place class) Source ≡ class
at_place Source = refl
at_place Sink = refl
at_place Tee = refl
at_place Join = refl
at_place Split = refl
at_place Repeater = refl
at_place Truncate = refl
at_place Sample = refl
at_place ByteFilter = refl
at_place PcapReader = refl
at_place PcapWriter = refl
at_place Receiver = refl
at_place Transmitter = refl

pub place_below : (class : Class) → place class < 13
place_below Source = lit< tt
place_below Sink = lit< tt
place_below Tee = lit< tt
place_below Join = lit< tt
place_below Split = lit< tt
place_below Repeater = lit< tt
place_below Truncate = lit< tt
place_below Sample = lit< tt
place_below ByteFilter = lit< tt
place_below PcapReader = lit< tt
place_below PcapWriter = lit< tt
place_below Receiver = lit< tt
place_below Transmitter = lit< tt

-- no class's word before this place is the text, nor is the word at it
pub later : (text : List ℕ) (i : ℕ) (class : Class) (same : Bool) → (IsTrue same ↔ (text ≡ class_word (slice_index_or all_classes i Source))) → same ≡ false → text ≡ class_word class → i ≤ place class → i + 1 ≤ place class
later text i class same h false_is e b =
    let other : i ≡ place class → ⊥ = λ p.
    let t : text ≡ class_word (slice_index_or all_classes i Source) = e ∙ ap class_word (sym (ap (λ k. slice_index_or all_classes k Source) p ∙ at_place class)) in
    let yes = h.1 t in cc
    in
    omega arith
