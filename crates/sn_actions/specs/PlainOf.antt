-- What a plain form in memory stands for.
use Rattle.std.specs.FinMap as finmap
use Rattle.std.specs.FinSet as finset
use Rattle.sn_actions.specs.PlainForms.{PlainForm}
use Rattle.sn_actions.specs.declared.plain.Plain.{Plain}

-- its maps and its set, without where they lie in memory
abbrev pub plain_of : Plain → PlainForm
plain_of plain =
    record {
      apps = finmap.from_entries plain.apps.entries;
      links = finset.from_list plain.links.keys;
      outs = finmap.from_entries plain.outs.entries;
      ins = finmap.from_entries plain.ins.entries;
    }
