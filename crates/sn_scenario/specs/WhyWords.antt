-- The words that are printed for faults.
use Rattle.std.specs.Prelude.{List, codes, ℕ}
use Rattle.sn_scenario.specs.declared.why.Why.{Why}
use Rattle.sn_scenario.specs.declared.why.Why.TheVariants as fault

-- the word of each check
abbrev pub why_word : Why → List ℕ
why_word fault.Long = codes "long"
why_word fault.Byte = codes "byte"
why_word fault.Header = codes "header"
why_word fault.Word = codes "word"
why_word fault.Place = codes "place"
why_word fault.Late = codes "late"
why_word fault.Product = codes "product"
why_word fault.Shape = codes "shape"
why_word fault.Number = codes "number"
why_word fault.Twice = codes "twice"
why_word fault.FileBad = codes "file"
why_word fault.Name = codes "name"
why_word fault.Worker = codes "worker"
why_word fault.Order = codes "order"
why_word fault.TooMany = codes "too-many"
why_word fault.Class = codes "class"
why_word fault.Arg = codes "arg"
why_word fault.End = codes "end"
why_word fault.FileUse = codes "file-use"
why_word fault.Link = codes "link"
why_word fault.NoApp = codes "no-app"
why_word fault.PortTaken = codes "port-taken"
why_word fault.NoEnd = codes "no-end"
