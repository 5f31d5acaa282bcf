-- What apps use: files that they read or write, and ends of interlinks.
use Rattle.std.specs.Prelude.{All, Bool, List, count_by, false, true, ℕ, ◌&&◌, ◌≡◌, ◌≤◌}
use Rattle.std.specs.Map.{values_of}
use Rattle.sn_config.specs.Configs.{ConfigForm}
use Rattle.sn_config.specs.declared.app_spec.AppSpec.{AppSpec}
use Rattle.sn_names.specs.declared.class.Class.{Class}
use Rattle.sn_names.specs.declared.class.Class.TheVariants as class
use Rattle.sn_scenario.specs.FileUses.{file_named, is_named, is_writer}
use Rattle.sn_scenario.specs.LaneEnds.{is_receiver, is_transmitter, lane_named}

abbrev pub is_reader : Class → Bool
is_reader class.PcapReader = true
is_reader _ = false

-- the app reads this file, writes it, receives from this interlink, transmits into it
abbrev pub reads_file : AppSpec → List ℕ → Bool
reads_file spec file = is_reader spec.class && is_named (file_named spec.arg) file

abbrev pub writes_file : AppSpec → List ℕ → Bool
writes_file spec file = is_writer spec.class && is_named (file_named spec.arg) file

abbrev pub receives_lane : AppSpec → List ℕ → Bool
receives_lane spec lane = is_receiver spec.class && is_named (lane_named spec.arg) lane

abbrev pub transmits_lane : AppSpec → List ℕ → Bool
transmits_lane spec lane = is_transmitter spec.class && is_named (lane_named spec.arg) lane

-- what the apps of a configuration use so passes
abbrev pub EachUsed : (AppSpec → List ℕ → Bool) → (List ℕ → Type 0) → ConfigForm → Type 0
EachUsed uses P config = All (λ spec. (what : List ℕ) → uses spec what ≡ true → P what) (values_of config.apps)

-- and each has one app of the configuration that uses it so
abbrev pub UsedOnce : (AppSpec → List ℕ → Bool) → ConfigForm → Type 0
UsedOnce uses config = (what : List ℕ) → count_by (λ spec. uses spec what) (values_of config.apps) ≤ 1
