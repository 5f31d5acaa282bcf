-- Which argument each class takes, as it is written.
use Rattle.std.specs.Prelude.{Bool, List, None, Option, Some, false, length, nat_le, true, ℕ, ◌&&◌, ◌++◌, ◌∷◌, ◌≡◌, ◌≤◌}
use Rattle.std.specs.List.{list_all}
use Rattle.sn_config.specs.declared.fault.ConfigFault.{ConfigFault}
use Rattle.sn_config.specs.declared.fault.ConfigFault.TheVariants.{BadArg, NoSuchApp, OutOfMemory, PortTaken, TooMany, Twice}
use Rattle.sn_names.specs.DecimalText.{IsDecimal}
use Rattle.sn_names.specs.NameText.{IsName}
use Rattle.sn_names.specs.declared.arg.Arg.{Arg}
use Rattle.sn_names.specs.declared.arg.Arg.TheVariants.{Byte, File, Lane, Nothing, Number}
use Rattle.sn_names.specs.declared.class.Class.{Class}
use Rattle.sn_names.specs.declared.class.Class.TheVariants.{ByteFilter, Join, PcapReader, PcapWriter, Receiver, Repeater, Sample, Sink, Source, Split, Tee, Transmitter, Truncate}

-- a decimal within these bounds
pub record IsNumber (low high : ℕ) (word : List ℕ) (arg : Arg) : Type 0 where
  pub number : ℕ
  pub decimal : IsDecimal word high number
  pub enough : low ≤ number
  pub same : arg ≡ Number number

-- a place of a packet and a byte, as OFFSET=VALUE
pub record IsByte (word : List ℕ) (arg : Arg) : Type 0 where
  pub place : List ℕ
  pub byte : List ℕ
  pub written : word ≡ place ++ 61 ∷ byte
  pub offset : ℕ
  pub value : ℕ
  pub place_decimal : IsDecimal place 10239 offset
  pub byte_decimal : IsDecimal byte 255 value
  pub same : arg ≡ Byte offset value

abbrev pub is_file_byte : ℕ → Bool
is_file_byte c = nat_le 33 c && nat_le c 126

-- a file's name in a scenario: 1 to 255 bytes from 33 to 126
pub record IsFileText (word : List ℕ) : Type 0 where
  pub filled : 1 ≤ length word
  pub short : length word ≤ 255
  pub plain : list_all is_file_byte word ≡ true

pub record IsFile (word : List ℕ) (arg : Arg) : Type 0 where
  pub file : IsFileText word
  pub same : arg ≡ File word

-- an interlink's name
pub record IsLane (word : List ℕ) (arg : Arg) : Type 0 where
  pub name : IsName word
  pub same : arg ≡ Lane word

-- what each class takes of a word
abbrev pub TakesWord : Class → List ℕ → Arg → Type 0
TakesWord Source word arg = IsNumber 0 10240 word arg
TakesWord Sink word arg = ⊥
TakesWord Tee word arg = ⊥
TakesWord Join word arg = ⊥
TakesWord Split word arg = ⊥
TakesWord Repeater word arg = ⊥
TakesWord Truncate word arg = IsNumber 0 10240 word arg
TakesWord Sample word arg = IsNumber 1 1000000 word arg
TakesWord ByteFilter word arg = IsByte word arg
TakesWord PcapReader word arg = IsFile word arg
TakesWord PcapWriter word arg = IsFile word arg
TakesWord Receiver word arg = IsLane word arg
TakesWord Transmitter word arg = IsLane word arg

-- the classes that need no argument
abbrev pub goes_without : Class → Bool
goes_without Source = true
goes_without Sink = true
goes_without Tee = true
goes_without Join = true
goes_without Split = true
goes_without Repeater = true
goes_without Truncate = false
goes_without Sample = false
goes_without ByteFilter = false
goes_without PcapReader = false
goes_without PcapWriter = false
goes_without Receiver = false
goes_without Transmitter = false

-- what each class takes of what is written behind it, if anything is
abbrev pub TakesArg : Class → Option (List ℕ) → Arg → Type 0
TakesArg class None arg = (goes_without class ≡ true) × (arg ≡ Nothing)
TakesArg class (Some word) arg = TakesWord class word arg

-- the argument, however it is written, is one that the class has
abbrev pub IsArgOf : Class → Arg → Type 0
IsArgOf Source Nothing = Unit {0}
IsArgOf Source (Number n) = n ≤ 10240
IsArgOf Sink Nothing = Unit {0}
IsArgOf Tee Nothing = Unit {0}
IsArgOf Join Nothing = Unit {0}
IsArgOf Split Nothing = Unit {0}
IsArgOf Repeater Nothing = Unit {0}
IsArgOf Truncate (Number n) = n ≤ 10240
IsArgOf Sample (Number n) = (1 ≤ n) × (n ≤ 1000000)
IsArgOf ByteFilter (Byte offset value) = (offset ≤ 10239) × (value ≤ 255)
IsArgOf PcapReader (File name) = IsFileText name
IsArgOf PcapWriter (File name) = IsFileText name
IsArgOf Receiver (Lane name) = IsName name
IsArgOf Transmitter (Lane name) = IsName name
IsArgOf _ _ = ⊥

-- no argument is taken; or one is, and memory ran out
abbrev pub IsArgFault : (Arg → Type 0) → ConfigFault → Type 0
IsArgFault Takes Twice = ⊥
IsArgFault Takes NoSuchApp = ⊥
IsArgFault Takes BadArg = (arg : Arg) → Takes arg → ⊥
IsArgFault Takes PortTaken = ⊥
IsArgFault Takes TooMany = ⊥
IsArgFault Takes OutOfMemory = (arg : Arg) × Takes arg
