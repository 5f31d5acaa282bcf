-- Classes and arguments that are tested the same are the same.
use Rattle.std.proofs.Common.{List, [], ap, arith, refl, slice_index_or, sym, true, ℕ, ◌==◌, ◌∙◌, ◌∷◌, ◌≡◌}
use Rattle.std.proofs.lemmas.Bool.Decides.{nat_tests}
use Rattle.sn_actions.proofs.PlainAnswers.{both_left, both_right, named_is}
use Rattle.sn_actions.proofs.Uniqueness.{same_named}
use Rattle.sn_actions.specs.Same.{class_index, same_arg, same_class}
use Rattle.sn_config.specs.declared.app_spec.AppSpec.{AppSpec}
use Rattle.sn_names.specs.declared.arg.Arg.{Arg}
use Rattle.sn_names.specs.declared.arg.Arg.TheVariants.{Byte, File, Lane, Nothing, Number}
use Rattle.sn_names.specs.declared.class.Class.{Class}
use Rattle.sn_names.specs.declared.class.Class.TheVariants.{ByteFilter, Join, PcapReader, PcapWriter, Receiver, Repeater, Sample, Sink, Source, Split, Tee, Transmitter, Truncate}

tested : (a b : ℕ) → (a == b) ≡ true → a ≡ b
tested a b h = grind (arith, nat_tests)

abbrev all_classes : List Class
all_classes = Source ∷ Sink ∷ Tee ∷ Join ∷ Split ∷ Repeater ∷ Truncate ∷ Sample ∷ ByteFilter ∷ PcapReader ∷ PcapWriter ∷ Receiver ∷ Transmitter ∷ []

at_index : (c : Class) → slice_index_or all_classes (class_index c) Source ≡ c
at_index Source = refl
at_index Sink = refl
at_index Tee = refl
at_index Join = refl
at_index Split = refl
at_index Repeater = refl
at_index Truncate = refl
at_index Sample = refl
at_index ByteFilter = refl
at_index PcapReader = refl
at_index PcapWriter = refl
at_index Receiver = refl
at_index Transmitter = refl

exact_class : (a b : Class) → same_class a b ≡ true → a ≡ b
exact_class a b h = sym (at_index a) ∙ ap (λ i. slice_index_or all_classes i Source) (tested (class_index a) (class_index b) h) ∙ at_index b

exact_arg : (a b : Arg) → same_arg a b ≡ true → a ≡ b
exact_arg Nothing Nothing h = refl
exact_arg (Number a) (Number b) h = ap Number (tested a b h)
exact_arg (Byte o v) (Byte p w) h = λ i. Byte (tested o p (both_left (o == p) (v == w) h) i) (tested v w (both_right (o == p) (v == w) h) i)
exact_arg (File a) (File b) h = ap File (named_is a b (sym (same_named a b) ∙ h))
exact_arg (Lane a) (Lane b) h = ap Lane (named_is a b (sym (same_named a b) ∙ h))
exact_arg _ _ h = cc

pub exact_spec : (a b : AppSpec) → same_class a.class b.class ≡ true → same_arg a.arg b.arg ≡ true → a ≡ b
exact_spec a b c d = λ i. record { class = exact_class a.class b.class c i; arg = exact_arg a.arg b.arg d i }
