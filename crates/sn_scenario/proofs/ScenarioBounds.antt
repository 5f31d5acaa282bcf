-- What a text spells is within the bounds of a scenario.
use Rattle.std.proofs.Common.{All, Bool, Err, IfOk, IfSome, List, None, Ok, Option, Result, Some, [], ap, arith, cond, count_by, false, get_or, is_some, length, nat_le, nat_lt, not, refl, subst, sym, true, ℕ, ◌&&◌, ◌+◌, ◌<◌, ◌∙◌, ◌∷◌, ◌≡◌, ◌≤◌}
use Rattle.std.proofs.lemmas.Bool.{both_ways, ltb-false}
use Rattle.std.proofs.lemmas.List.Elements.{All-nil, All-push}
use Rattle.std.specs.List.{list_all}
use Rattle.std.specs.List.Sorted.{IsStrictlySortedBy}
use Rattle.std.specs.BTreeMap.{insert_entry}
use Rattle.std.specs.Map.{keys_of}
use Rattle.sn_config.specs.Configs.{ConfigForm, has_app, link_fault, with_link}
use Rattle.sn_config.specs.declared.app_spec.AppSpec.{AppSpec}
use Rattle.sn_config.specs.declared.fault.ConfigFault.{ConfigFault}
use Rattle.sn_names.specs.LinkOrder.{name_cmp}
use Rattle.sn_names.specs.declared.arg.Arg.{Arg}
use Rattle.sn_names.specs.declared.class.Class.{Class}
use Rattle.sn_scenario.proofs.AppUses.{AreMore, IsUsing, app_keeps_using, files_keep_using, files_more, lanes_keep_using, none_using, one_writer, served}
use Rattle.sn_scenario.proofs.FileUse.{AreUsed, with_file_keeps}
use Rattle.sn_scenario.proofs.LineBounds.{AreSized, HasNextLane, IsNew, IsNext, any_ok, config_line_gives, lane_line_keeps, placed_keep, setting_line_keeps, stop_line_keeps, then_ok, unless}
use Rattle.sn_scenario.specs.AppLines.{app_added, app_line, app_taken, end_and_file}
use Rattle.sn_scenario.specs.ConfigLines.{config_line, has_later, of_worker}
use Rattle.sn_scenario.specs.Cutting.{behind_token, first_token, is_line_byte, is_remark, lines_of, tokens, without_return}
use Rattle.sn_scenario.specs.FileUses.{FilesForm, file_fault, files_full}
use Rattle.sn_scenario.specs.Kinds.{kind_of}
use Rattle.sn_scenario.specs.LaneEnds.{end_fault}
use Rattle.sn_scenario.specs.LaneLines.{lane_line}
use Rattle.sn_scenario.specs.Leaves.{arg_of, class_of, link_of, named}
use Rattle.sn_scenario.specs.LinkLines.{link_line, unless_refused}
use Rattle.sn_scenario.specs.Results.{app_tokens, fault_if, needed, no_token}
use Rattle.sn_scenario.specs.ScenarioText.{Reading, at_line, begin, by_place, finish, form_of, header, inside, is_header, later, line_gives, lines_from, outside, read_on, scenario_of, significant, start, workers}
use Rattle.sn_scenario.specs.Scenarios.{AreBounded, AreFiles, AreLanes, ArePlaced, AreStops, HasBounds, HaveOneUse, IsBounded, IsLane, IsPlaced, IsServed, IsStop, ScenarioForm}
use Rattle.sn_scenario.specs.SettingLines.{is_over, setting_line, settings_of}
use Rattle.sn_scenario.specs.StopLines.{stop_line}
use Rattle.sn_scenario.specs.declared.fault.ScenarioFault.{ScenarioFault}
use Rattle.sn_scenario.specs.declared.kind.Kind.{Kind}
use Rattle.sn_scenario.specs.declared.kind.Kind.TheVariants as kind
use Rattle.sn_scenario.specs.declared.lane.Lane.{Lane}
use Rattle.sn_scenario.specs.declared.placed.Placed.{Placed}
use Rattle.sn_scenario.specs.declared.settings.Given.{Given}
use Rattle.sn_scenario.specs.declared.why.Why.{Why}
use Rattle.sn_scenario.specs.declared.why.Why.TheVariants as fault

-- what was read so far is within the bounds of a scenario
pub record IsWithinBounds (scenario : ScenarioForm) : Type 0 where
  pub settings : AreBounded scenario.settings
  pub lanes : AreLanes scenario.settings.workers scenario.lanes
  pub stops : AreStops scenario.settings.workers scenario.stops
  pub captures : AreFiles scenario.captures
  pub outputs : AreFiles scenario.outputs
  pub uses : HaveOneUse scenario.journal scenario.captures scenario.outputs
  pub placed : ArePlaced scenario.settings.workers scenario.placed

-- what holds of the configuration that isn't ended
pub record IsOpen (r : Reading) (placed : Placed) : Type 0 where
  pub next : IsNext (workers r) r.placed placed
  pub used : IsUsing r.lanes r.files placed

-- behind the settings: what was read so far is a scenario
pub record IsBegun (r : Reading) : Type 0 where
  pub begun : r.begun ≡ true
  pub form : IsWithinBounds (form_of r)
  pub used : All (IsUsing r.lanes r.files) r.placed
  pub current : IfSome r.current (IsOpen r)

-- what holds of each still holds
each_still : {A : Type 0} (P Q : A → Type 0) (xs : List A) → ((x : A) → P x → Q x) → All P xs → All Q xs
each_still P Q xs more h k d within = more (get_or xs k d) (h k d within)

open_still : {A : Type 0} (P Q : A → Type 0) (o : Option A) → ((x : A) → P x → Q x) → IfSome o P → IfSome o Q
open_still P Q None more h = tt
open_still P Q (Some x) more h = more x h

-- among the settings: nothing else was read
abbrev before : Bool → Given → Reading
before headed given = record start { headed = headed; given = given }

data IsRead (r : Reading) : Type 0 where
  Before : (headed : Bool) (given : Given) → AreSized (settings_of given) → r ≡ before headed given → IsRead r
  Begun : IsBegun r → IsRead r

-- nothing but settings is a scenario
no_names : AreFiles []
unfolding IsStrictlySortedBy
no_names = record { few = omega arith; rising = tt }

one_use : (journal : Option (List ℕ)) → HaveOneUse journal [] []
one_use None = record { not_read = tt; not_written = tt; apart = λ file c d. absurd (omega (arith, c.1)) }
one_use (Some file) = record { not_read = λ c. absurd (omega (arith, c.1)); not_written = λ c. absurd (omega (arith, c.1)); apart = λ file c d. absurd (omega (arith, c.1)) }

alone : (headed : Bool) (given : Given) → AreSized (settings_of given) → is_over (settings_of given) ≡ false → IsWithinBounds (form_of (before headed given))
alone headed given h small = record {
  settings = record { pool = h.pool; workers = h.workers; breaths = h.breaths; rounds = h.rounds; restarts = h.restarts; product = ltb-false _ _ small };
  lanes = record { few = omega arith; each = All-nil (IsLane (workers (before headed given))); once = λ i j d less within. absurd (omega arith) };
  stops = record { few = omega arith; each = All-nil (IsStop (workers (before headed given))); once = λ i j d less within. absurd (omega arith) };
  captures = no_names;
  outputs = no_names;
  uses = one_use given.journal;
  placed = record { each = All-nil (IsPlaced (workers (before headed given))); rising = λ i j d less within. absurd (omega arith); few = λ worker. omega arith };
}

begin_gives : (r : Reading) → IsRead r → IfOk (begin r) IsBegun
unfolding begin
begin_gives r (Before headed given h e) =
    subst (λ r. IfOk (begin r) IsBegun) (sym e) (unless IsBegun (is_over (settings_of given)) fault.Product _ (λ small. record { begun = refl; form = alone headed given h small; used = All-nil (IsUsing [] start.files); current = tt }))
begin_gives r (Begun h) = unless IsBegun (not r.begun && is_over (settings_of r.given)) fault.Product _ (λ small. record { begun = refl; form = h.form; used = h.used; current = open_still (IsOpen r) (IsOpen (record r { begun = true })) r.current (λ p o. record { next = o.next; used = o.used }) h.current })

-- there is a worker
some_worker : (r : Reading) → IsBegun r → 1 ≤ workers r
some_worker r h = h.form.settings.workers.0

setting_keeps : (r : Reading) (rest : List ℕ) (s : _) → IsRead r → IfOk (outside (kind.Setting s) r rest) IsRead
unfolding outside
setting_keeps r rest s (Before headed given h e) =
    subst (λ r. IfOk (outside (kind.Setting s) r rest) IsRead) (sym e) (then_ok (λ after. AreSized (settings_of after)) IsRead (setting_line s given (tokens rest)) _ (setting_line_keeps s given (tokens rest) h) (λ after k. Before headed after k refl))
setting_keeps r rest s (Begun h) =
    then_ok (λ after. ⊥) IsRead (fault_if r.begun fault.Late (setting_line s r.given (tokens rest))) _ (unless (λ after. ⊥) r.begun fault.Late _ (λ not_begun. absurd (both_ways r.begun not_begun h.begun))) (λ after none. absurd none)

still_using : {n : ℕ} (old new : List Lane) (files : FilesForm) (placed : Placed) → HasNextLane n old new → IsUsing old files placed → IsUsing new files placed
still_using old new files placed l u = subst (λ lanes. IsUsing lanes files placed) (sym l.added) (lanes_keep_using old l.lane files placed u)

lane_keeps : (r : Reading) (rest : List ℕ) → IsRead r → IfOk (outside kind.Interlink r rest) IsRead
unfolding outside
lane_keeps r rest h =
    then_ok IsBegun IsRead (begin r) _ (begin_gives r h) (λ b k. then_ok (HasNextLane (workers b) b.lanes) IsRead (lane_line (workers b) b.lanes (tokens rest)) _ (lane_line_keeps (workers b) b.lanes (tokens rest) (some_worker b k) k.form.lanes) (λ lanes l. Begun (record {
      begun = k.begun;
      used = each_still (IsUsing b.lanes b.files) (IsUsing lanes b.files) b.placed (λ p u. still_using b.lanes lanes b.files p l u) k.used;
      form = record { settings = k.form.settings; lanes = l.keep; stops = k.form.stops; captures = k.form.captures; outputs = k.form.outputs; uses = k.form.uses; placed = k.form.placed };
      current = open_still (IsOpen b) (IsOpen (record b { lanes = lanes })) b.current (λ p o. record { next = o.next; used = still_using b.lanes lanes b.files p l o.used }) k.current;
    })))

stop_keeps : (r : Reading) (rest : List ℕ) → IsRead r → IfOk (outside kind.Stop r rest) IsRead
unfolding outside
stop_keeps r rest h =
    then_ok IsBegun IsRead (begin r) _ (begin_gives r h) (λ b k. then_ok (AreStops (workers b)) IsRead (stop_line (workers b) b.stops (tokens rest)) _ (stop_line_keeps (workers b) b.stops (tokens rest) (some_worker b k) k.form.stops) (λ stops s. Begun (record {
      begun = k.begun;
      form = record { settings = k.form.settings; lanes = k.form.lanes; stops = s; captures = k.form.captures; outputs = k.form.outputs; uses = k.form.uses; placed = k.form.placed };
      used = k.used;
      current = open_still (IsOpen b) (IsOpen (record b { stops = stops })) b.current (λ p o. record { next = o.next; used = o.used }) k.current;
    })))

config_keeps : (r : Reading) (rest : List ℕ) → IsRead r → IfOk (outside kind.Config r rest) IsRead
unfolding outside
config_keeps r rest h =
    then_ok IsBegun IsRead (begin r) _ (begin_gives r h) (λ b k. then_ok (IsNew (workers b) b.placed) IsRead (config_line (workers b) b.placed (tokens rest)) _ (config_line_gives (workers b) b.placed (tokens rest) (some_worker b k)) (λ placed n. Begun (record { begun = k.begun; form = k.form; used = k.used; current = record { next = n.next; used = none_using b.lanes b.files placed n.empty } })))

outside_keeps : (what : Kind) (r : Reading) (rest : List ℕ) → IsRead r → IfOk (outside what r rest) IsRead
unfolding outside
outside_keeps (kind.Setting s) r rest h = setting_keeps r rest s h
outside_keeps kind.Interlink r rest h = lane_keeps r rest h
outside_keeps kind.Config r rest h = config_keeps r rest h
outside_keeps kind.Stop r rest h = stop_keeps r rest h
outside_keeps kind.App r rest h = tt
outside_keeps kind.Link r rest h = tt
outside_keeps kind.End r rest h = tt

-- what an app's line leaves: its configuration's worker and round, and the use of the files
record IsTaken (journal : Option (List ℕ)) (lanes : List Lane) (before : FilesForm) (placed : Placed) (after : Placed × FilesForm) : Type 0 where
  pub worker : after.0.worker ≡ placed.worker
  pub round : after.0.round ≡ placed.round
  pub files : AreUsed journal after.1
  pub more : AreMore before after.1
  pub used : IsUsing lanes after.1 after.0

record HaveRoom (journal : Option (List ℕ)) (lanes : List Lane) (files : FilesForm) (placed : Placed) (class : Class) (arg : Arg) : Type 0 where
  pub ends : end_fault lanes placed.worker placed.config.apps class arg ≡ false
  pub fit : file_fault journal placed.worker placed.config.apps files class arg ≡ false
  pub few : files_full files class arg ≡ false

end_and_file_gives : (journal : Option (List ℕ)) (lanes : List Lane) (files : FilesForm) (placed : Placed) (class : Class) (arg : Arg) → IfOk (end_and_file journal lanes files placed class arg) (λ done. HaveRoom journal lanes files placed class arg)
unfolding end_and_file
end_and_file_gives journal lanes files placed class arg =
    let P : Unit {0} → Type 0 = λ done. HaveRoom journal lanes files placed class arg in
    unless P (end_fault lanes placed.worker placed.config.apps class arg) fault.End _ (λ ends. unless P (file_fault journal placed.worker placed.config.apps files class arg) fault.FileUse _ (λ fit. unless P (files_full files class arg) fault.TooMany _ (λ few. record { ends = ends; fit = fit; few = few })))

app_added_gives : (config : ConfigForm) (name : List ℕ) (class : Class) (arg : Arg) → IfOk (app_added config name class arg) (λ after. after.apps ≡ insert_entry name_cmp config.apps name (record { class = class; arg = arg }))
unfolding app_added
app_added_gives config name class arg = unless (λ after. after.apps ≡ insert_entry name_cmp config.apps name (record { class = class; arg = arg })) (nat_le 256 (length config.apps)) fault.TooMany _ (λ room. refl)

app_taken_keeps : (journal : Option (List ℕ)) (lanes : List Lane) (files : FilesForm) (placed : Placed) (name : List ℕ) (class : Class) (arg : Arg) → AreUsed journal files → IsUsing lanes files placed → IfOk (app_taken journal lanes files placed name class arg) (IsTaken journal lanes files placed)
unfolding app_taken
app_taken_keeps journal lanes files placed name class arg h u =
    let P = IsTaken journal lanes files placed in
    let spec : AppSpec = record { class = class; arg = arg } in
    then_ok (λ done. HaveRoom journal lanes files placed class arg) P (end_and_file journal lanes files placed class arg) _ (end_and_file_gives journal lanes files placed class arg) (λ done room. then_ok (λ (config : ConfigForm). config.apps ≡ insert_entry name_cmp placed.config.apps name spec) P (app_added placed.config name class arg) _ (app_added_gives placed.config name class arg) (λ config added. record {
      worker = refl;
      round = refl;
      files = with_file_keeps journal placed.worker placed.config.apps files class arg h room.fit room.few;
      more = files_more journal placed.worker placed.config.apps files class arg room.fit;
      used = app_keeps_using journal lanes files placed (record placed { config = config }) name class arg refl added room.ends room.fit u;
    }))

app_line_keeps : (journal : Option (List ℕ)) (lanes : List Lane) (files : FilesForm) (placed : Placed) (words : List (List ℕ)) → AreUsed journal files → IsUsing lanes files placed → IfOk (app_line journal lanes files placed words) (IsTaken journal lanes files placed)
unfolding app_line
app_line_keeps journal lanes files placed words h u =
    let P = IsTaken journal lanes files placed in
    any_ok P (app_tokens words) _ (λ token. any_ok P (named token.name) _ (λ name. any_ok P (fault_if (has_app placed.config name) fault.Twice (needed fault.Class (class_of token.class))) _ (λ class. any_ok P (needed fault.Arg (arg_of class token.arg)) _ (λ arg. app_taken_keeps journal lanes files placed name class arg h u))))

-- a configuration of the same worker and round
next_again : (workers : ℕ) (placed : List Placed) (next after : Placed) → after.worker ≡ next.worker → after.round ≡ next.round → IsNext workers placed next → IsNext workers placed after
next_again workers placed next after w r h = record {
  place = record { worker = subst (λ n. n < workers) (sym w) h.place.worker; round = subst (λ n. n ≤ 100000) (sym r) h.place.round };
  later = ap (λ n. has_later n after.round placed) w ∙ ap (λ n. has_later next.worker n placed) r ∙ h.later;
  room = ap (λ n. nat_le 64 (count_by (of_worker n) placed)) w ∙ h.room;
}

app_keeps : (placed : Placed) (r : Reading) (rest : List ℕ) → IsBegun r → IsOpen r placed → IfOk (inside kind.App placed r rest) IsRead
unfolding inside
app_keeps placed r rest h n =
    then_ok (IsTaken r.given.journal r.lanes r.files placed) IsRead (app_line r.given.journal r.lanes r.files placed (tokens rest)) _ (app_line_keeps r.given.journal r.lanes r.files placed (tokens rest) (record { captures = h.form.captures; outputs = h.form.outputs; uses = h.form.uses }) n.used) (λ after t. Begun (record {
      begun = h.begun;
      form = record { settings = h.form.settings; lanes = h.form.lanes; stops = h.form.stops; captures = t.files.captures; outputs = t.files.outputs; uses = t.files.uses; placed = h.form.placed };
      used = each_still (IsUsing r.lanes r.files) (IsUsing r.lanes after.1) r.placed (λ p u. files_keep_using r.lanes r.files after.1 p t.more u) h.used;
      current = record { next = next_again (workers r) r.placed placed after.0 t.worker t.round n.next; used = t.used };
    }))

-- a link's line leaves the apps
link_line_gives : (config : ConfigForm) (rest : List ℕ) → IfOk (link_line config rest) (λ after. after.apps ≡ config.apps)
unfolding link_line
link_line_gives config rest =
    any_ok (λ after. after.apps ≡ config.apps) (needed fault.Link (link_of rest)) _ (λ link. by (link_fault config link) (with_link config link) refl)
  where
    by : (o : Option ConfigFault) (after : ConfigForm) → after.apps ≡ config.apps → IfOk (unless_refused o after) (λ after. after.apps ≡ config.apps)
    by None after e = e
    by (Some refusal) after e = tt

same_apps : (lanes : List Lane) (files : FilesForm) (placed : Placed) (config : ConfigForm) → config.apps ≡ placed.config.apps → IsUsing lanes files placed → IsUsing lanes files (record placed { config = config })
same_apps lanes files placed config e u =
    let P : List (List ℕ × AppSpec) → Type 0 = λ apps. IsUsing lanes files (record placed { config = record { apps = apps; links = config.links } }) in
    subst P (sym e) (record { reads = u.reads; writes = u.writes; receives = u.receives; transmits = u.transmits; written_once = u.written_once; received_once = u.received_once; transmitted_once = u.transmitted_once })

inside_keeps : (what : Kind) (placed : Placed) (r : Reading) (rest : List ℕ) → IsBegun r → IsOpen r placed → IfOk (inside what placed r rest) IsRead
unfolding inside
inside_keeps kind.App placed r rest h n = app_keeps placed r rest h n
inside_keeps kind.Link placed r rest h n =
    then_ok (λ (after : ConfigForm). after.apps ≡ placed.config.apps) IsRead (link_line placed.config rest) _ (link_line_gives placed.config rest) (λ config e. Begun (record {
      begun = h.begun;
      form = h.form;
      used = h.used;
      current = record { next = record { place = record { worker = n.next.place.worker; round = n.next.place.round }; later = n.next.later; room = n.next.room }; used = same_apps r.lanes r.files placed config e n.used };
    }))
inside_keeps kind.End placed r rest h n =
    any_ok IsRead (no_token (tokens rest)) _ (λ done. Begun (record {
      begun = h.begun;
      form = record { settings = h.form.settings; lanes = h.form.lanes; stops = h.form.stops; captures = h.form.captures; outputs = h.form.outputs; uses = h.form.uses; placed = placed_keep (workers r) r.placed placed h.form.placed n.next };
      used = All-push (IsUsing r.lanes r.files) r.placed placed h.used n.used;
      current = tt;
    }))
inside_keeps (kind.Setting s) placed r rest h n = tt
inside_keeps kind.Interlink placed r rest h n = tt
inside_keeps kind.Config placed r rest h n = tt
inside_keeps kind.Stop placed r rest h n = tt

by_place_keeps : (current : Option Placed) (what : Kind) (r : Reading) (rest : List ℕ) → r.current ≡ current → IsRead r → IfOk (by_place current what r rest) IsRead
by_place_keeps None what r rest e h = outside_keeps what r rest h
by_place_keeps (Some placed) what r rest e (Before headed given h same) = let none : r.current ≡ None = ap (λ r. r.current) same in absurd cc
by_place_keeps (Some placed) what r rest e (Begun h) = inside_keeps what placed r rest h (subst (λ current. IfSome current (IsOpen r)) e h.current)

later_keeps : (r : Reading) (word rest : List ℕ) → IsRead r → IfOk (later r word rest) IsRead
unfolding later
later_keeps r word rest h = any_ok IsRead (needed fault.Word (kind_of word)) _ (λ what. by_place_keeps r.current what r rest refl h)

headed_keeps : (r : Reading) → IsRead r → IsRead (record r { headed = true })
headed_keeps r (Before headed given h e) = Before true given h (ap (λ (r : Reading). record r { headed = true }) e)
headed_keeps r (Begun h) = Begun (record { begun = h.begun; form = h.form; used = h.used; current = open_still (IsOpen r) (IsOpen (record r { headed = true })) r.current (λ p o. record { next = o.next; used = o.used }) h.current })

header_keeps : (r : Reading) (word rest : List ℕ) → IsRead r → IfOk (header r word rest) IsRead
unfolding header
header_keeps r word rest h = unless IsRead (not (is_header word rest)) fault.Header _ (λ is. headed_keeps r h)

either : (b : Bool) (x y : Result Reading Why) → IfOk x IsRead → IfOk y IsRead → IfOk (cond b x y) IsRead
either true x y p q = p
either false x y p q = q

line_keeps : (r : Reading) (line : List ℕ) → IsRead r → IfOk (line_gives r line) IsRead
unfolding line_gives significant
line_keeps r line h =
    either (is_remark (first_token line)) (Ok r) _ h (unless IsRead (nat_lt 1024 (length line)) fault.Long _ (λ short. unless IsRead (not (list_all is_line_byte line)) fault.Byte _ (λ plain. either r.headed _ _ (later_keeps r (first_token line) (behind_token line) h) (header_keeps r (first_token line) (behind_token line) h))))

-- what was read is a scenario
whole : (r : Reading) → IsBegun r → HasBounds (form_of r)
whole r h = record {
  settings = h.form.settings;
  lanes = h.form.lanes;
  stops = h.form.stops;
  captures = h.form.captures;
  outputs = h.form.outputs;
  uses = h.form.uses;
  placed = h.form.placed;
  served = record { each = each_still (IsUsing r.lanes r.files) (IsServed r.lanes r.files.captures (keys_of r.files.outputs)) r.placed (λ p u. served r.lanes r.files p u) h.used };
  writers = one_writer r.lanes r.files r.placed h.used;
}

finish_gives : (r : Reading) → IsRead r → IfOk (finish r) HasBounds
unfolding finish
finish_gives r h = unless HasBounds (not r.headed) fault.Header _ (λ headed. unless HasBounds (is_some r.current) fault.NoEnd _ (λ ended. then_ok IsBegun HasBounds (begin r) _ (begin_gives r h) (λ b k. whole b k)))

at_line_keeps : (number : ℕ) (read : Result ScenarioForm Why) → IfOk read HasBounds → IfOk (at_line number read) HasBounds
at_line_keeps number (Ok form) h = h
at_line_keeps number (Err why) h = tt

read_on_keeps : (number : ℕ) (read : Result Reading Why) (more : Reading → Result ScenarioForm ScenarioFault) → IfOk read IsRead → ((r : Reading) → IsRead r → IfOk (more r) HasBounds) → IfOk (read_on number read more) HasBounds
read_on_keeps number (Ok r) more h k = k r h
read_on_keeps number (Err why) more h k = tt

lines_keep : (number : ℕ) (lines : List (List ℕ)) (r : Reading) → IsRead r → IfOk (lines_from number lines r) HasBounds
unfolding lines_from
lines_keep number [] r h = at_line_keeps number (finish r) (finish_gives r h)
lines_keep number (line ∷ lines) r h = read_on_keeps number (line_gives r (without_return line)) (lines_from (number + 1) lines) (line_keeps r (without_return line) h) (lines_keep (number + 1) lines)

-- what a text spells is a scenario within its bounds
scenario_bounded : (text : List ℕ) → IfOk (scenario_of text) HasBounds
scenario_bounded text = lines_keep 1 (lines_of text) start (Before false start.given sized refl)
  where
    sized : AreSized (settings_of start.given)
    sized = record { pool = (omega arith, omega arith); workers = (omega arith, omega arith); breaths = (omega arith, omega arith); rounds = (omega arith, omega arith); restarts = omega arith }

from_line : (number : ℕ) (read : Result ScenarioForm Why) → IfOk (at_line number read) HasBounds → IfOk read IsBounded
unfolding IsBounded
from_line number (Ok form) h = h
from_line number (Err why) h = tt

-- so is what is left at the end of a text
pub end_bounded : (number : ℕ) (r : Reading) (text : List ℕ) → scenario_of text ≡ at_line number (finish r) → IfOk (finish r) IsBounded
end_bounded number r text e = from_line number (finish r) (subst (λ read. IfOk read HasBounds) e (scenario_bounded text))
