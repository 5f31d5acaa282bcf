-- A scenario's text: its value, or its first faulty line with the first failing check.
use Rattle.std.specs.Prelude.{Bool, Err, List, None, Ok, Option, Result, Some, [], codes, cond, false, is_some, length, map, nat_lt, not, true, ℕ, ◌&&◌, ◌++◌, ◌+◌, ◌∷◌}
use Rattle.std.specs.List.{list_all}
use Rattle.std.specs.Str.{bytes_eq}
use Rattle.sn_scenario.specs.AppLines.{app_line}
use Rattle.sn_scenario.specs.ConfigLines.{config_line}
use Rattle.sn_scenario.specs.Cutting.{behind_token, first_token, is_line_byte, is_remark, lines_of, tokens, without_return}
use Rattle.sn_scenario.specs.FileUses.{FilesForm}
use Rattle.sn_scenario.specs.Kinds.{kind_of}
use Rattle.sn_scenario.specs.LaneLines.{lane_line}
use Rattle.sn_scenario.specs.LinkLines.{link_line}
use Rattle.sn_scenario.specs.Results.{fault_if, needed, no_token, one_token, ◌>>=◌}
use Rattle.sn_scenario.specs.Scenarios.{ScenarioForm}
use Rattle.sn_scenario.specs.SettingLines.{is_over, setting_line, settings_of}
use Rattle.sn_scenario.specs.StopLines.{stop_line}
use Rattle.sn_scenario.specs.declared.fault.ScenarioFault.{ScenarioFault}
use Rattle.sn_scenario.specs.declared.kind.Kind.{Kind}
use Rattle.sn_scenario.specs.declared.kind.Kind.TheVariants as kind
use Rattle.sn_scenario.specs.declared.lane.Lane.{Lane}
use Rattle.sn_scenario.specs.declared.placed.Placed.{Placed}
use Rattle.sn_scenario.specs.declared.settings.Given.{Given}
use Rattle.sn_scenario.specs.declared.stop.StopLine.{StopLine}
use Rattle.sn_scenario.specs.declared.why.Why.{Why}
use Rattle.sn_scenario.specs.declared.why.Why.TheVariants as fault

-- What was read so far: whether the header was, and a line after the settings; the settings, the
-- interlinks, the whole configurations, the one that isn't ended, the stops and the files.
pub record Reading : Type 0 where
  pub headed : Bool
  pub begun : Bool
  pub given : Given
  pub lanes : List Lane
  pub placed : List Placed
  pub current : Option Placed
  pub stops : List StopLine
  pub files : FilesForm

abbrev pub workers : Reading → ℕ
workers r = let settings = settings_of r.given in settings.workers

-- before the first interlink, configuration or stop: Product
unfoldable pub begin : Reading → Result Reading Why
begin r = fault_if (not r.begun && is_over (settings_of r.given)) fault.Product (Ok (record r { begun = true }))

-- a line outside of a configuration: Place; Late or Product; Shape and the line's own checks
unfoldable pub outside : Kind → Reading → List ℕ → Result Reading Why
outside (kind.Setting s) r rest = do
  given ← fault_if r.begun fault.Late (setting_line s r.given (tokens rest))
  Ok (record r { given = given })
outside kind.Interlink r rest = do
  b ← begin r
  lanes ← lane_line (workers b) b.lanes (tokens rest)
  Ok (record b { lanes = lanes })
outside kind.Config r rest = do
  b ← begin r
  placed ← config_line (workers b) b.placed (tokens rest)
  Ok (record b { current = Some placed })
outside kind.Stop r rest = do
  b ← begin r
  stops ← stop_line (workers b) b.stops (tokens rest)
  Ok (record b { stops = stops })
outside kind.App r rest = Err fault.Place
outside kind.Link r rest = Err fault.Place
outside kind.End r rest = Err fault.Place

-- a line inside of a configuration: Place; Shape and the line's own checks
unfoldable pub inside : Kind → Placed → Reading → List ℕ → Result Reading Why
inside kind.App placed r rest = do
  after ← app_line r.given.journal r.lanes r.files placed (tokens rest)
  Ok (record r { current = Some after.0; files = after.1 })
inside kind.Link placed r rest = do
  config ← link_line placed.config rest
  Ok (record r { current = Some (record placed { config = config }) })
inside kind.End placed r rest = do
  done ← no_token (tokens rest)
  Ok (record r { current = None; placed = r.placed ++ placed ∷ [] })
inside (kind.Setting s) placed r rest = Err fault.Place
inside kind.Interlink placed r rest = Err fault.Place
inside kind.Config placed r rest = Err fault.Place
inside kind.Stop placed r rest = Err fault.Place

abbrev pub by_place : Option Placed → Kind → Reading → List ℕ → Result Reading Why
by_place None kind r rest = outside kind r rest
by_place (Some placed) kind r rest = inside kind placed r rest

-- a significant line after the first, by its first token and what follows it: Word; then by its place
unfoldable pub later : Reading → List ℕ → List ℕ → Result Reading Why
later r word rest = do
  kind ← needed fault.Word (kind_of word)
  by_place r.current kind r rest

-- the two tokens of the first significant line
abbrev pub is_one : Result (List ℕ) Why → Bool
is_one (Ok token) = bytes_eq token (codes "1")
is_one (Err why) = false

abbrev pub is_header : List ℕ → List ℕ → Bool
is_header word rest = bytes_eq word (codes "scenario") && is_one (one_token (tokens rest))

-- Header
unfoldable pub header : Reading → List ℕ → List ℕ → Result Reading Why
header r word rest = fault_if (not (is_header word rest)) fault.Header (Ok (record r { headed = true }))

-- a significant line: Long; Byte; Header on the first; the others
unfoldable pub significant : Reading → List ℕ → Result Reading Why
significant r line =
    fault_if (nat_lt 1024 (length line)) fault.Long
    (fault_if (not (list_all is_line_byte line)) fault.Byte
    (cond r.headed (later r (first_token line) (behind_token line)) (header r (first_token line) (behind_token line))))

-- a line, without the byte 13 at its end; one without a token, or whose first begins with #, is skipped
unfoldable pub line_gives : Reading → List ℕ → Result Reading Why
line_gives r line = cond (is_remark (first_token line)) (Ok r) (significant r line)

-- the end of the text: Header; NoEnd; Product
abbrev pub form_of : Reading → ScenarioForm
form_of r =
    record {
      settings = settings_of r.given;
      lanes = r.lanes;
      journal = r.given.journal;
      placed = r.placed;
      stops = r.stops;
      captures = r.files.captures;
      outputs = map (λ output. output.0) r.files.outputs;
    }

unfoldable pub finish : Reading → Result ScenarioForm Why
finish r =
    fault_if (not r.headed) fault.Header
    (fault_if (is_some r.current) fault.NoEnd
    (begin r >>= λ b. Ok (form_of b)))

-- the fault of a line
abbrev pub at_line : {A : Type 0} → ℕ → Result A Why → Result A ScenarioFault
at_line number (Ok x) = Ok x
at_line number (Err why) = Err (record { line = number; why = why })

-- what comes of a line is read on with, or is the fault of that line
abbrev pub read_on : ℕ → Result Reading Why → (Reading → Result ScenarioForm ScenarioFault) → Result ScenarioForm ScenarioFault
read_on number (Ok r) more = more r
read_on number (Err why) more = Err (record { line = number; why = why })

-- the lines from this number on
unfoldable pub lines_from : ℕ → List (List ℕ) → Reading → Result ScenarioForm ScenarioFault
lines_from number [] r = at_line number (finish r)
lines_from number (line ∷ lines) r = read_on number (line_gives r (without_return line)) (lines_from (number + 1) lines)

-- nothing was read
abbrev pub start : Reading
start =
    record {
      headed = false;
      begun = false;
      given = record { pool = None; workers = None; breaths = None; rounds = None; restarts = None; journal = None };
      lanes = [];
      placed = [];
      current = None;
      stops = [];
      files = record { captures = []; outputs = [] };
    }

-- the scenario that a text spells, or its first fault
abbrev pub scenario_of : List ℕ → Result ScenarioForm ScenarioFault
scenario_of text = lines_from 1 (lines_of text) start
