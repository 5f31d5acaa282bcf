-- What a token is read as: a number, a name, a file, a class or an argument.
use Rattle.std.specs.Prelude.{Bool, List, None, Ok, Option, Result, Some, [], cond, drop, find, is_none, length, nat_le, not, option_map, ℕ, ◌&&◌, ◌-◌, ◌∷◌}
use Rattle.std.specs.Fmt.{decimal}
use Rattle.std.specs.List.{list_all}
use Rattle.std.specs.Str.{bytes_eq}
use Rattle.std.specs.Str.Parse.{digits_value}
use Rattle.sn_config.specs.ArgText.{goes_without, is_file_byte}
use Rattle.sn_config.specs.Signs.{is_sign}
use Rattle.sn_names.specs.Classes.{class_word}
use Rattle.sn_names.specs.NameText.{is_name_byte}
use Rattle.sn_names.specs.Parts.{left, link_parts, starts}
use Rattle.sn_names.specs.declared.arg.Arg.{Arg}
use Rattle.sn_names.specs.declared.arg.Arg.TheVariants as args
use Rattle.sn_names.specs.declared.class.Class.{Class}
use Rattle.sn_names.specs.declared.class.Class.TheVariants as class
use Rattle.sn_names.specs.declared.link.LinkSpec.{LinkSpec}
use Rattle.sn_scenario.specs.Cutting.{behind, front, runs}
use Rattle.sn_scenario.specs.Results.{fault_if, needed}
use Rattle.sn_scenario.specs.declared.why.Why.{Why}
use Rattle.sn_scenario.specs.declared.why.Why.TheVariants as fault

-- the number that a token writes in 1 to 10 digits, with no leading zero but in 0, within these bounds
unfoldable pub number_in : ℕ → ℕ → List ℕ → Option ℕ
number_in low high token =
    let n = digits_value 10 token in
    cond (bytes_eq token (decimal n) && nat_le (length token) 10 && nat_le low n && nat_le n high) (Some n) None

-- 1 to 64 letters, digits and _
unfoldable pub is_name : List ℕ → Bool
is_name token = nat_le 1 (length token) && nat_le (length token) 64 && list_all is_name_byte token

-- 1 to 255 bytes from 33 to 126
unfoldable pub is_file : List ℕ → Bool
is_file token = nat_le 1 (length token) && nat_le (length token) 255 && list_all is_file_byte token

abbrev pub all_classes : List Class
all_classes = class.Source ∷ class.Sink ∷ class.Tee ∷ class.Join ∷ class.Split ∷ class.Repeater ∷ class.Truncate ∷ class.Sample ∷ class.ByteFilter ∷ class.PcapReader ∷ class.PcapWriter ∷ class.Receiver ∷ class.Transmitter ∷ []

-- the class of this word
unfoldable pub class_of : List ℕ → Option Class
class_of token = find (λ c. bytes_eq token (class_word c)) all_classes

abbrev pub is_no_sign : ℕ → Bool
is_no_sign x = not (is_sign x)

-- OFFSET=VALUE
abbrev pub byte_arg : Option ℕ → Option ℕ → Option Arg
byte_arg (Some offset) (Some value) = Some (args.Byte offset value)
byte_arg (Some offset) None = None
byte_arg None value = None

abbrev pub filter_arg : List ℕ → Option Arg
filter_arg token = cond (starts is_sign (behind is_no_sign token)) (byte_arg (number_in 0 10239 (front is_no_sign token)) (number_in 0 255 (drop 1 (behind is_no_sign token)))) None

-- what each class takes of a token
abbrev pub word_arg : Class → List ℕ → Option Arg
word_arg class.Source token = option_map args.Number (number_in 0 10240 token)
word_arg class.Sink token = None
word_arg class.Tee token = None
word_arg class.Join token = None
word_arg class.Split token = None
word_arg class.Repeater token = None
word_arg class.Truncate token = option_map args.Number (number_in 0 10240 token)
word_arg class.Sample token = option_map args.Number (number_in 1 1000000 token)
word_arg class.ByteFilter token = filter_arg token
word_arg class.PcapReader token = cond (is_file token) (Some (args.File token)) None
word_arg class.PcapWriter token = cond (is_file token) (Some (args.File token)) None
word_arg class.Receiver token = cond (is_name token) (Some (args.Lane token)) None
word_arg class.Transmitter token = cond (is_name token) (Some (args.Lane token)) None

-- the argument that a class takes of what is written behind it, if anything is
unfoldable pub arg_of : Class → Option (List ℕ) → Option Arg
arg_of class None = cond (goes_without class) (Some args.Nothing) None
arg_of class (Some token) = word_arg class token

-- the link of four names
abbrev pub link_of_names : List (List ℕ) → Option LinkSpec
link_of_names (from ∷ out ∷ to ∷ input ∷ more) = Some (record { from = from; out = out; to = to; input = input })
link_of_names _ = None

-- the link that a text spells: the text goes on to its end as a link's parts, and its names are its
-- runs of names' bytes
unfoldable pub link_of : List ℕ → Option LinkSpec
link_of text = cond (is_none (left link_parts text)) (link_of_names (runs is_name_byte text)) None

-- Name
abbrev pub named : List ℕ → Result (List ℕ) Why
named token = fault_if (not (is_name token)) fault.Name (Ok token)

-- FileBad
abbrev pub filed : List ℕ → Result (List ℕ) Why
filed token = fault_if (not (is_file token)) fault.FileBad (Ok token)

-- Number
abbrev pub numbered : ℕ → ℕ → List ℕ → Result ℕ Why
numbered low high token = needed fault.Number (number_in low high token)

-- Worker: a decimal below the number of workers
abbrev pub worker_in : ℕ → List ℕ → Result ℕ Why
worker_in workers token = needed fault.Worker (number_in 0 (workers - 1) token)
