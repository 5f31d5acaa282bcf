-- Whether classes and arguments are the same.
use Rattle.std.specs.Prelude.{Bool, false, nat_eq, true, ℕ, ◌&&◌, ◌==◌}
use Rattle.std.specs.Cmp.Lexicographic.{pointwise}
use Rattle.sn_names.specs.declared.arg.Arg.{Arg}
use Rattle.sn_names.specs.declared.arg.Arg.TheVariants.{Byte, File, Lane, Nothing, Number}
use Rattle.sn_names.specs.declared.class.Class.{Class}
use Rattle.sn_names.specs.declared.class.Class.TheVariants.{ByteFilter, Join, PcapReader, PcapWriter, Receiver, Repeater, Sample, Sink, Source, Split, Tee, Transmitter, Truncate}

-- a number for each class
abbrev pub class_index : Class → ℕ
class_index Source = 0
class_index Sink = 1
class_index Tee = 2
class_index Join = 3
class_index Split = 4
class_index Repeater = 5
class_index Truncate = 6
class_index Sample = 7
class_index ByteFilter = 8
class_index PcapReader = 9
class_index PcapWriter = 10
class_index Receiver = 11
class_index Transmitter = 12

abbrev pub same_class : Class → Class → Bool
same_class a b = class_index a == class_index b

abbrev pub same_arg : Arg → Arg → Bool
same_arg Nothing Nothing = true
same_arg (Number a) (Number b) = a == b
same_arg (Byte offset value) (Byte other byte) = offset == other && value == byte
same_arg (File a) (File b) = pointwise nat_eq a b
same_arg (Lane a) (Lane b) = pointwise nat_eq a b
same_arg _ _ = false
