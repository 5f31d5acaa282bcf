-- What the files of a scenario are used for.
use Rattle.std.specs.Prelude.{Bool, List, None, Option, Some, false, is_some, length, nat_le, not, true, ℕ, ◌&&◌, ◌==◌, ◌||◌}
use Rattle.std.specs.BTreeMap.{insert_entry, is_at}
use Rattle.std.specs.BTreeSet.{insert_key}
use Rattle.std.specs.List.{list_any}
use Rattle.std.specs.Map.{lookup}
use Rattle.std.specs.Str.{bytes_eq}
use Rattle.sn_config.specs.declared.app_spec.AppSpec.{AppSpec}
use Rattle.sn_names.specs.LinkOrder.{name_cmp}
use Rattle.sn_names.specs.declared.arg.Arg.{Arg}
use Rattle.sn_names.specs.declared.arg.Arg.TheVariants as args
use Rattle.sn_names.specs.declared.class.Class.{Class}
use Rattle.sn_names.specs.declared.class.Class.TheVariants as class

-- the captures, and the outputs with the worker of each, in the bytewise order of their names
pub record FilesForm : Type 0 where
  pub captures : List (List ℕ)
  pub outputs : List (List ℕ × ℕ)

-- the file that an argument names
abbrev pub file_named : Arg → Option (List ℕ)
file_named (args.File name) = Some name
file_named _ = None

-- whether what is named is this
abbrev pub is_named : Option (List ℕ) → List ℕ → Bool
is_named None name = false
is_named (Some other) name = bytes_eq other name

abbrev pub is_capture : FilesForm → List ℕ → Bool
is_capture files name = list_any (is_at (name_cmp name)) files.captures

-- the worker of an output
abbrev pub output_of : FilesForm → List ℕ → Option ℕ
output_of files name = lookup (is_at (name_cmp name)) files.outputs

abbrev pub is_others : Option ℕ → ℕ → Bool
is_others None worker = false
is_others (Some other) worker = not (other == worker)

abbrev pub is_writer : Class → Bool
is_writer class.PcapWriter = true
is_writer _ = false

-- an app of the configuration writes this file
abbrev pub has_writer : List (List ℕ × AppSpec) → List ℕ → Bool
has_writer apps name = list_any (λ app. is_writer app.1.class && is_named (file_named app.1.arg) name) apps

-- FileUse of a reader: the file is the journal or an output
abbrev pub reader_fault : Option (List ℕ) → FilesForm → Option (List ℕ) → Bool
reader_fault journal files None = false
reader_fault journal files (Some name) = is_named journal name || is_some (output_of files name)

-- FileUse of a writer: the file is the journal, a capture or another worker's output, or is written in this configuration
abbrev pub writer_fault : Option (List ℕ) → ℕ → List (List ℕ × AppSpec) → FilesForm → Option (List ℕ) → Bool
writer_fault journal worker apps files None = false
writer_fault journal worker apps files (Some name) = is_named journal name || is_capture files name || is_others (output_of files name) worker || has_writer apps name

-- FileUse of an app
abbrev pub file_fault : Option (List ℕ) → ℕ → List (List ℕ × AppSpec) → FilesForm → Class → Arg → Bool
file_fault journal worker apps files class.PcapReader arg = reader_fault journal files (file_named arg)
file_fault journal worker apps files class.PcapWriter arg = writer_fault journal worker apps files (file_named arg)
file_fault journal worker apps files _ arg = false

-- TooMany: a 17th capture, a 17th output
abbrev pub captures_full : FilesForm → Option (List ℕ) → Bool
captures_full files None = false
captures_full files (Some name) = not (is_capture files name) && nat_le 16 (length files.captures)

abbrev pub outputs_full : FilesForm → Option (List ℕ) → Bool
outputs_full files None = false
outputs_full files (Some name) = not (is_some (output_of files name)) && nat_le 16 (length files.outputs)

abbrev pub files_full : FilesForm → Class → Arg → Bool
files_full files class.PcapReader arg = captures_full files (file_named arg)
files_full files class.PcapWriter arg = outputs_full files (file_named arg)
files_full files _ arg = false

-- the files with the one of an app
abbrev pub with_capture : FilesForm → Option (List ℕ) → FilesForm
with_capture files None = files
with_capture files (Some name) = record files { captures = insert_key name_cmp files.captures name }

abbrev pub with_output : FilesForm → ℕ → Option (List ℕ) → FilesForm
with_output files worker None = files
with_output files worker (Some name) = record files { outputs = insert_entry name_cmp files.outputs name worker }

abbrev pub with_file : FilesForm → ℕ → Class → Arg → FilesForm
with_file files worker class.PcapReader arg = with_capture files (file_named arg)
with_file files worker class.PcapWriter arg = with_output files worker (file_named arg)
with_file files worker _ arg = files
