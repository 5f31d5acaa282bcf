-- What was read of a scenario, without where it lies in memory.
use Rattle.sn_scenario.specs.FileView.{files_form}
use Rattle.sn_scenario.specs.ScenarioText.{Reading}
use Rattle.sn_scenario.specs.declared.draft.Draft.{Draft}

abbrev pub reading_of : Draft → Reading
reading_of d =
    record {
      headed = d.headed;
      begun = d.begun;
      given = d.given;
      lanes = d.lanes.items;
      placed = d.placed.items;
      current = d.current;
      stops = d.stops.items;
      files = files_form d.files;
    }
