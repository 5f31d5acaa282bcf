-- The files of a scenario, without where they lie in memory.
use Rattle.sn_scenario.specs.FileUses.{FilesForm}
use Rattle.sn_scenario.specs.declared.files.Files.{Files}

abbrev pub files_form : Files → FilesForm
files_form files = record { captures = files.captures.keys; outputs = files.outputs.entries }
