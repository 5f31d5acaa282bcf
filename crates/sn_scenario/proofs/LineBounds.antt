-- What comes of a line's checks is within its bounds.
use Rattle.std.proofs.Common.{All, Bool, Err, IfOk, List, Ok, Option, Result, Some, None, [], arith, cond, count_by, false, get_or, length, length-append, nat_le, refl, subst, suc, sym, true, zero, ℕ, ◌&&◌, ◌+◌, ◌++◌, ◌-◌, ◌<◌, ◌==◌, ◌∷◌, ◌≡◌, ◌≢◌, ◌≤◌}
use Rattle.std.proofs.lemmas.Bool.{both_ways, eq-eqb, eqb-false, eqb-true, leb-false, or_parts}
use Rattle.std.proofs.lemmas.List.Elements.{All-push}
use Rattle.std.proofs.lemmas.List.Quantifiers.{all_pairs_push}
use Rattle.std.proofs.lemmas.List.Sums.{sum_by-append}
use Rattle.std.proofs.lemmas.Slice.Eq.{bytes_eq-Decides}
use Rattle.std.specs.List.{list_any}
use Rattle.std.specs.Str.{bytes_eq}
use Rattle.sn_scenario.proofs.TokenReadings.{number_came}
use Rattle.sn_scenario.specs.ConfigLines.{config_line, has_later, of_worker}
use Rattle.sn_scenario.specs.LaneLines.{has_lane, lane_line}
use Rattle.sn_scenario.specs.Leaves.{named, number_in, numbered, worker_in}
use Rattle.sn_scenario.specs.Results.{fault_if, needed, one_token, three_tokens, two_tokens, ◌>>=◌}
use Rattle.sn_scenario.specs.Scenarios.{AreLanes, ArePlaced, AreStops, IsLane, IsPlaced, IsStop, IsWithin}
use Rattle.sn_scenario.specs.SettingLines.{journal_line, number_line, setting_line, settings_of}
use Rattle.sn_scenario.specs.StopLines.{has_stop, same_stop, stop_line, with_stop}
use Rattle.sn_scenario.specs.declared.kind.Setting.{Setting}
use Rattle.sn_scenario.specs.declared.kind.Setting.TheVariants as setting
use Rattle.sn_scenario.specs.declared.lane.Lane.{Lane}
use Rattle.sn_scenario.specs.declared.placed.Placed.{Placed}
use Rattle.sn_scenario.specs.declared.settings.Given.{Given}
use Rattle.sn_scenario.specs.declared.settings.Settings.{Settings}
use Rattle.sn_scenario.specs.declared.stop.StopLine.{StopLine}
use Rattle.sn_scenario.specs.declared.why.Why.{Why}
use Rattle.sn_scenario.specs.declared.why.Why.TheVariants as fault

-- what holds of the value of one step, and then of the value of the next
pub then_ok : {A B : Type 0} (Q : A → Type 0) (P : B → Type 0) (read : Result A Why) (f : A → Result B Why) → IfOk read Q → ((x : A) → Q x → IfOk (f x) P) → IfOk (read >>= f) P
then_ok Q P (Ok x) f q h = h x q
then_ok Q P (Err why) f q h = tt

-- the same, where nothing is known of the value of the first
pub any_ok : {A B : Type 0} (P : B → Type 0) (read : Result A Why) (f : A → Result B Why) → ((x : A) → IfOk (f x) P) → IfOk (read >>= f) P
any_ok P (Ok x) f h = h x
any_ok P (Err why) f h = tt

-- what a check that doesn't fail lets through
pub unless : {A : Type 0} (P : A → Type 0) (b : Bool) (why : Why) (next : Result A Why) → (b ≡ false → IfOk next P) → IfOk (fault_if b why next) P
unless P true why next h = tt
unless P false why next h = h refl

pub if_there : {A : Type 0} (P : A → Type 0) (why : Why) (o : Option A) → ((x : A) → o ≡ Some x → P x) → IfOk (needed why o) P
if_there P why None h = tt
if_there P why (Some x) h = h x refl

-- numbers and workers
numbered_within : (low high : ℕ) (token : List ℕ) → IfOk (numbered low high token) (IsWithin low high)
numbered_within low high token =
    if_there (IsWithin low high) fault.Number (number_in low high token) (λ n e. let came = number_came low high n token e in (came.enough, came.decimal.within))

worker_below : (workers : ℕ) (token : List ℕ) → 1 ≤ workers → IfOk (worker_in workers token) (λ n. n < workers)
worker_below workers token some =
    if_there (λ n. n < workers) fault.Worker (number_in 0 (workers - 1) token) (λ n e. let within = (number_came 0 (workers - 1) n token e).decimal.within in omega arith)

-- settings
number_line_within : (low high : ℕ) (before : Option ℕ) (tokens : List (List ℕ)) → IfOk (number_line low high before tokens) (IsWithin low high)
unfolding number_line
number_line_within low high before tokens =
    any_ok (IsWithin low high) (one_token tokens) _ (λ token. then_ok (IsWithin low high) (IsWithin low high) (numbered low high token) _ (numbered_within low high token) (λ n w. unless (IsWithin low high) _ fault.Twice (Ok n) (λ new. w)))

-- the settings but for the product
pub record AreSized (settings : Settings) : Type 0 where
  pub pool : IsWithin 1 16384 settings.pool
  pub workers : IsWithin 1 16 settings.workers
  pub breaths : IsWithin 1 1000 settings.breaths
  pub rounds : IsWithin 1 100000 settings.rounds
  pub restarts : settings.restarts ≤ 1000

pub setting_line_keeps : (s : Setting) (given : Given) (tokens : List (List ℕ)) → AreSized (settings_of given) → IfOk (setting_line s given tokens) (λ after. AreSized (settings_of after))
unfolding setting_line
setting_line_keeps setting.Pool given tokens h =
    then_ok (IsWithin 1 16384) (λ after. AreSized (settings_of after)) (number_line 1 16384 given.pool tokens) _ (number_line_within 1 16384 given.pool tokens) (λ n w. record { pool = w; workers = h.workers; breaths = h.breaths; rounds = h.rounds; restarts = h.restarts })
setting_line_keeps setting.Workers given tokens h =
    then_ok (IsWithin 1 16) (λ after. AreSized (settings_of after)) (number_line 1 16 given.workers tokens) _ (number_line_within 1 16 given.workers tokens) (λ n w. record { pool = h.pool; workers = w; breaths = h.breaths; rounds = h.rounds; restarts = h.restarts })
setting_line_keeps setting.Breaths given tokens h =
    then_ok (IsWithin 1 1000) (λ after. AreSized (settings_of after)) (number_line 1 1000 given.breaths tokens) _ (number_line_within 1 1000 given.breaths tokens) (λ n w. record { pool = h.pool; workers = h.workers; breaths = w; rounds = h.rounds; restarts = h.restarts })
setting_line_keeps setting.Rounds given tokens h =
    then_ok (IsWithin 1 100000) (λ after. AreSized (settings_of after)) (number_line 1 100000 given.rounds tokens) _ (number_line_within 1 100000 given.rounds tokens) (λ n w. record { pool = h.pool; workers = h.workers; breaths = h.breaths; rounds = w; restarts = h.restarts })
setting_line_keeps setting.Restarts given tokens h =
    then_ok (IsWithin 0 1000) (λ after. AreSized (settings_of after)) (number_line 0 1000 given.restarts tokens) _ (number_line_within 0 1000 given.restarts tokens) (λ n w. record { pool = h.pool; workers = h.workers; breaths = h.breaths; rounds = h.rounds; restarts = w.1 })
setting_line_keeps setting.Journal given tokens h =
    any_ok (λ after. AreSized (settings_of after)) (journal_line given.journal tokens) _ (λ file. record { pool = h.pool; workers = h.workers; breaths = h.breaths; rounds = h.rounds; restarts = h.restarts })

-- what no element of a list passes
none_passes : {A : Type 0} (p : A → Bool) (xs : List A) → list_any p xs ≡ false → All (λ x. p x ≡ false) xs
none_passes p [] h k d within = absurd (omega arith)
none_passes p (x ∷ xs) h zero d within = (or_parts (p x) (list_any p xs) h).0
none_passes p (x ∷ xs) h (suc k) d within = none_passes p xs (or_parts (p x) (list_any p xs) h).1 k d (omega arith)

-- interlinks
lanes_keep : (workers : ℕ) (lanes : List Lane) (lane : Lane) → AreLanes workers lanes → IsLane workers lane → has_lane lane.name lanes ≡ false → nat_le 16 (length lanes) ≡ false → AreLanes workers (lanes ++ lane ∷ [])
lanes_keep workers lanes lane h one new room =
    let few : length lanes < 16 = leb-false 16 (length lanes) room in
    let others = none_passes (λ other. bytes_eq other.name lane.name) lanes new in
    record {
      few = omega (arith, length-append lanes (lane ∷ []));
      each = All-push (IsLane workers) lanes lane h.each one;
      once = all_pairs_push (λ a b. a.name ≢ b.name) lanes lane h.once (λ k d within e. both_ways (bytes_eq (get_or lanes k d).name lane.name) (others k d within) ((bytes_eq-Decides (get_or lanes k d).name lane.name).1 e));
    }

-- the interlinks with the one of a line
pub record HasNextLane (workers : ℕ) (old new : List Lane) : Type 0 where
  pub lane : Lane
  pub added : new ≡ old ++ lane ∷ []
  pub keep : AreLanes workers new

pub lane_line_keeps : (workers : ℕ) (lanes : List Lane) (tokens : List (List ℕ)) → 1 ≤ workers → AreLanes workers lanes → IfOk (lane_line workers lanes tokens) (HasNextLane workers lanes)
unfolding lane_line
lane_line_keeps workers lanes tokens some h =
    let P = HasNextLane workers lanes in
    any_ok P (three_tokens tokens) _ (λ token. any_ok P (named token.0) _ (λ name. then_ok (λ n. n < workers) P (worker_in workers token.1) _ (worker_below workers token.1 some) (λ tx t. then_ok (λ n. n < workers) P (worker_in workers token.2) _ (worker_below workers token.2 some) (λ rx r.
    unless P (tx == rx) fault.Worker _ (λ differ. unless P (has_lane name lanes) fault.Twice _ (λ new. unless P (nat_le 16 (length lanes)) fault.TooMany _ (λ room.
    record { lane = record { name = name; tx = tx; rx = rx }; added = refl; keep = lanes_keep workers lanes (record { name = name; tx = tx; rx = rx }) h (record { tx = t; rx = r; apart = eqb-false tx rx differ }) new room })))))))

-- stops
same_as_itself : (stop : StopLine) → same_stop stop stop ≡ true
same_as_itself stop = all_three (stop.worker == stop.worker) (stop.entries == stop.entries) (stop.gates == stop.gates) (eq-eqb stop.worker stop.worker refl) (eq-eqb stop.entries stop.entries refl) (eq-eqb stop.gates stop.gates refl)
  where
    all_three : (a b c : Bool) → a ≡ true → b ≡ true → c ≡ true → (a && b && c) ≡ true
    all_three true true true x y z = refl
    all_three true true false x y z = z
    all_three true false c x y z = cc
    all_three false b c x y z = cc

stops_keep : (workers : ℕ) (stops : List StopLine) (stop : StopLine) → AreStops workers stops → IsStop workers stop → IfOk (with_stop stops stop) (AreStops workers)
stops_keep workers stops stop h one =
    unless (AreStops workers) (has_stop stop stops) fault.Twice _ (λ new. unless (AreStops workers) (nat_le 1000 (length stops)) fault.TooMany _ (λ room.
    let few : length stops < 1000 = leb-false 1000 (length stops) room in
    let others = none_passes (λ other. same_stop other stop) stops new in
    record {
      few = omega (arith, length-append stops (stop ∷ []));
      each = All-push (IsStop workers) stops stop h.each one;
      once = all_pairs_push (λ a b. a ≢ b) stops stop h.once (λ k d within e. both_ways (same_stop (get_or stops k d) stop) (others k d within) (subst (λ s. same_stop s stop ≡ true) (sym e) (same_as_itself stop)));
    }))

pub stop_line_keeps : (workers : ℕ) (stops : List StopLine) (tokens : List (List ℕ)) → 1 ≤ workers → AreStops workers stops → IfOk (stop_line workers stops tokens) (AreStops workers)
unfolding stop_line
stop_line_keeps workers stops tokens some h =
    any_ok (AreStops workers) (three_tokens tokens) _ (λ token. then_ok (λ n. n < workers) (AreStops workers) (worker_in workers token.0) _ (worker_below workers token.0 some) (λ worker w. then_ok (IsWithin 0 1000000000) (AreStops workers) (numbered 0 1000000000 token.1) _ (numbered_within 0 1000000000 token.1) (λ entries e. then_ok (IsWithin 0 1000000) (AreStops workers) (numbered 0 1000000 token.2) _ (numbered_within 0 1000000 token.2) (λ gates g.
    stops_keep workers stops (record { worker = worker; entries = entries; gates = gates }) h (record { worker = w; entries = e.1; gates = g.1 })))))

-- configurations: what holds of one that isn't ended
pub record IsNext (workers : ℕ) (placed : List Placed) (next : Placed) : Type 0 where
  pub place : IsPlaced workers next
  pub later : has_later next.worker next.round placed ≡ false
  pub room : nat_le 64 (count_by (of_worker next.worker) placed) ≡ false

pub record IsNew (workers : ℕ) (placed : List Placed) (new : Placed) : Type 0 where
  pub next : IsNext workers placed new
  pub empty : new.config.apps ≡ []

pub config_line_gives : (workers : ℕ) (placed : List Placed) (tokens : List (List ℕ)) → 1 ≤ workers → IfOk (config_line workers placed tokens) (IsNew workers placed)
unfolding config_line
config_line_gives workers placed tokens some =
    any_ok (IsNew workers placed) (two_tokens tokens) _ (λ token. then_ok (λ n. n < workers) (IsNew workers placed) (worker_in workers token.0) _ (worker_below workers token.0 some) (λ worker w. then_ok (IsWithin 0 100000) (IsNew workers placed) (numbered 0 100000 token.1) _ (numbered_within 0 100000 token.1) (λ round r.
    unless (IsNew workers placed) (has_later worker round placed) fault.Order _ (λ later. unless (IsNew workers placed) (nat_le 64 (count_by (of_worker worker) placed)) fault.TooMany _ (λ room.
    record { next = record { place = record { worker = w; round = r.1 }; later = later; room = room }; empty = refl })))))

-- a worker's round that isn't this one or a later one is an earlier one
earlier : (a b : Placed) → (a.worker == b.worker && nat_le b.round a.round) ≡ false → a.worker ≡ b.worker → a.round < b.round
earlier a b h same = leb-false b.round a.round (second (a.worker == b.worker) (nat_le b.round a.round) (eq-eqb a.worker b.worker same) h)
  where
    second : (x y : Bool) → x ≡ true → (x && y) ≡ false → y ≡ false
    second true y e h = h
    second false y e h = absurd cc

-- one more configuration, of the worker or of another
count_by_one : (placed : List Placed) (next : Placed) (worker : ℕ) → count_by (of_worker worker) placed ≤ 64 → count_by (of_worker next.worker) placed < 64 → (b : Bool) → of_worker worker next ≡ b → count_by (of_worker worker) placed + (0 + cond b 1 0) ≤ 64
count_by_one placed next worker few room true e =
    let one : count_by (of_worker worker) placed < 64 = subst (λ w. count_by (of_worker w) placed < 64) (eqb-true next.worker worker e) room in omega arith
count_by_one placed next worker few room false e = omega arith

count_keeps : (placed : List Placed) (next : Placed) (worker : ℕ) → count_by (of_worker worker) placed ≤ 64 → count_by (of_worker next.worker) placed < 64 → count_by (of_worker worker) (placed ++ next ∷ []) ≤ 64
count_keeps placed next worker few room =
    subst (λ n. n ≤ 64) (sym (sum_by-append (λ other. cond (of_worker worker other) 1 0) placed (next ∷ []))) (count_by_one placed next worker few room (of_worker worker next) refl)

pub placed_keep : (workers : ℕ) (placed : List Placed) (next : Placed) → ArePlaced workers placed → IsNext workers placed next → ArePlaced workers (placed ++ next ∷ [])
placed_keep workers placed next h one = record {
  each = All-push (IsPlaced workers) placed next h.each one.place;
  rising = all_pairs_push (λ a b. a.worker ≡ b.worker → a.round < b.round) placed next h.rising (λ k d within same. earlier (get_or placed k d) next (none_passes (λ other. other.worker == next.worker && nat_le next.round other.round) placed one.later k d within) same);
  few = λ worker. count_keeps placed next worker (h.few worker) (leb-false 64 (count_by (of_worker next.worker) placed) one.room);
}
