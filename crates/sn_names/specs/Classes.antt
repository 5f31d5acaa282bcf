-- The words of the classes.
use Rattle.std.specs.Prelude.{List, codes, ℕ}
use Rattle.sn_names.specs.declared.class.Class.{Class}
use Rattle.sn_names.specs.declared.class.Class.TheVariants.{ByteFilter, Join, PcapReader, PcapWriter, Receiver, Repeater, Sample, Sink, Source, Split, Tee, Transmitter, Truncate}

-- the word that a class is written as
abbrev pub class_word : Class → List ℕ
class_word Source = codes "Source"
class_word Sink = codes "Sink"
class_word Tee = codes "Tee"
class_word Join = codes "Join"
class_word Split = codes "Split"
class_word Repeater = codes "Repeater"
class_word Truncate = codes "Truncate"
class_word Sample = codes "Sample"
class_word ByteFilter = codes "ByteFilter"
class_word PcapReader = codes "PcapReader"
class_word PcapWriter = codes "PcapWriter"
class_word Receiver = codes "Receiver"
class_word Transmitter = codes "Transmitter"
