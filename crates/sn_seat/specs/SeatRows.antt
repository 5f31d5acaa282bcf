-- What a seat keeps of its rows.
use Rattle.std.specs.Prelude.{ℕ, ◌≡◌, ◌<◌, ◌^◌, List, Option, length}
use Rattle.sn_app.specs.Counts.{CounterRows}
use Rattle.sn_names.specs.Rosters.{RosterRows}

-- lists as long as those of the roster, which 32 bits can number
pub record HasRows (counters : CounterRows) (files : List (Option (List ℕ))) (roster : RosterRows) : Type 0 where
  pub files_are : length files ≡ length roster.files
  pub apps : length counters.apps ≡ length roster.apps
  pub links : length counters.links ≡ length roster.links
  pub few_apps : length roster.apps < 2 ^ 32
  pub few_links : length roster.links < 2 ^ 32
  pub few_captures : length roster.captures < 2 ^ 32
  pub few_files : length roster.files < 2 ^ 32
  pub few_lanes : length roster.lanes < 2 ^ 32
