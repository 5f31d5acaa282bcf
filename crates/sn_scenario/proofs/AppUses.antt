-- What apps use stays the scenario's as lines are read, and what is used once stays so.
use Rattle.std.proofs.Common.{All, Bool, List, None, Option, Some, [], ap, arith, cond, count_by, false, not, refl, subst, suc, sym, true, ℕ, ◌&&◌, ◌+◌, ◌++◌, ◌==◌, ◌∙◌, ◌∷◌, ◌≡◌, ◌≤◌, ◌||◌}
use Rattle.std.proofs.lemmas.Bool.{eqb-true, or_parts}
use Rattle.std.proofs.lemmas.Cmp.{tied_itself}
use Rattle.std.proofs.lemmas.List.Elements.{All-contains, All-nil}
use Rattle.std.proofs.lemmas.List.Folds.{list_any-append}
use Rattle.std.proofs.lemmas.List.Sums.{sum_by-cons}
use Rattle.std.proofs.lemmas.Map.Views.{All-values-insert_entry}
use Rattle.std.proofs.lemmas.Slice.Eq.{bytes_eq-Decides}
use Rattle.std.specs.BTreeMap.{insert_entry, is_at}
use Rattle.std.specs.List.{list_any}
use Rattle.std.specs.Map.{keys_of, lookup, values_of}
use Rattle.std.specs.Ordering.{match_ordering}
use Rattle.std.specs.Str.{bytes_eq}
use Rattle.std.specs.declared.cmp.Ordering.{Ordering}
use Rattle.std.specs.declared.cmp.Ordering.TheVariants.{Equal, Greater, Less}
use Rattle.sn_config.specs.declared.app_spec.AppSpec.{AppSpec}
use Rattle.sn_names.specs.LinkOrder.{exact_names, name_cmp, name_cmp_total}
use Rattle.sn_names.specs.declared.arg.Arg.{Arg}
use Rattle.sn_names.specs.declared.arg.Arg.TheVariants as args
use Rattle.sn_names.specs.declared.class.Class.{Class}
use Rattle.sn_names.specs.declared.class.Class.TheVariants as class
use Rattle.sn_scenario.proofs.KeySets.{equal_eq, has_key, key_added, key_itself, key_stays, key_there}
use Rattle.sn_scenario.specs.AppUses.{EachUsed, UsedOnce, reads_file, receives_lane, transmits_lane, writes_file}
use Rattle.sn_scenario.specs.FileUses.{FilesForm, file_fault, has_writer, is_capture, is_named, is_others, output_of, with_file}
use Rattle.sn_scenario.specs.LaneEnds.{end_fault, has_receiver, has_transmitter, leads_from, leads_to}
use Rattle.sn_scenario.specs.Scenarios.{HaveOneWriter, IsServed}
use Rattle.sn_scenario.specs.declared.lane.Lane.{Lane}
use Rattle.sn_scenario.specs.declared.placed.Placed.{Placed}

-- what holds of a configuration while its scenario is read: the files have the worker of each output
pub record IsUsing (lanes : List Lane) (files : FilesForm) (placed : Placed) : Type 0 where
  pub reads : EachUsed reads_file (λ file. is_capture files file ≡ true) placed.config
  pub writes : EachUsed writes_file (λ file. output_of files file ≡ Some placed.worker) placed.config
  pub receives : EachUsed receives_lane (λ lane. leads_to lanes placed.worker lane ≡ true) placed.config
  pub transmits : EachUsed transmits_lane (λ lane. leads_from lanes placed.worker lane ≡ true) placed.config
  pub written_once : UsedOnce writes_file placed.config
  pub received_once : UsedOnce receives_lane placed.config
  pub transmitted_once : UsedOnce transmits_lane placed.config

abbrev pub has_name : List (List ℕ) → List ℕ → Bool
has_name names name = has_key name_cmp names name

self_name : (q : List ℕ) → is_at (name_cmp q) q ≡ true
self_name q = key_itself name_cmp name_cmp_total q

-- outputs with one more
abbrev at_name : List ℕ → List (List ℕ × ℕ) → Option ℕ
at_name q es = lookup (is_at (name_cmp q)) es

put_by : (o : Ordering) (k q : List ℕ) (v : ℕ) (e : List ℕ × ℕ) (es : List (List ℕ × ℕ)) → name_cmp k e.0 ≡ o → at_name q (insert_entry name_cmp es k v) ≡ cond (is_at (name_cmp q) k) (Some v) (at_name q es) → at_name q (match_ordering o ((k, v) ∷ e ∷ es) ((e.0, v) ∷ es) (e ∷ insert_entry name_cmp es k v)) ≡ cond (is_at (name_cmp q) k) (Some v) (at_name q (e ∷ es))
put_by Less k q v e es t more = refl
put_by Equal k q v e es t more =
    let same : k ≡ e.0 = exact_names k e.0 t in
    again (is_at (name_cmp q) e.0) (is_at (name_cmp q) k) (ap (is_at (name_cmp q)) (sym same))
  where
    again : (b c : Bool) → b ≡ c → cond b (Some v) (at_name q es) ≡ cond c (Some v) (cond b (Some e.1) (at_name q es))
    again true true f = refl
    again true false f = cc
    again false true f = cc
    again false false f = refl
put_by Greater k q v e es t more =
    ap (λ o. cond (is_at (name_cmp q) e.0) (Some e.1) o) more ∙ swap (is_at (name_cmp q) e.0) (is_at (name_cmp q) k) (λ a b. exact_names k e.0 (ap (λ x. name_cmp x e.0) (sym (exact_names q k (equal_eq (name_cmp q k) b))) ∙ equal_eq (name_cmp q e.0) a))
  where
    swap : (b c : Bool) → (b ≡ true → c ≡ true → k ≡ e.0) → cond b (Some e.1) (cond c (Some v) (at_name q es)) ≡ cond c (Some v) (cond b (Some e.1) (at_name q es))
    swap true true f = let same : name_cmp k e.0 ≡ Equal = ap (name_cmp k) (sym (f refl refl)) ∙ tied_itself name_cmp_total k in cc
    swap true false f = refl
    swap false true f = refl
    swap false false f = refl

output_put : (es : List (List ℕ × ℕ)) (k q : List ℕ) (v : ℕ) → at_name q (insert_entry name_cmp es k v) ≡ cond (is_at (name_cmp q) k) (Some v) (at_name q es)
output_put [] k q v = refl
output_put (e ∷ es) k q v = put_by (name_cmp k e.0) k q v e es refl (output_put es k q v)

not_others : (o : Option ℕ) (w worker : ℕ) → o ≡ Some w → is_others o worker ≡ false → w ≡ worker
not_others None w worker e h = cc
not_others (Some other) w worker e h = let same : other ≡ w = cc in sym same ∙ eqb-true other worker (unnot (other == worker) h)
  where
    unnot : (b : Bool) → not b ≡ false → b ≡ true
    unnot true h = refl
    unnot false h = cc

output_stays : (es : List (List ℕ × ℕ)) (k q : List ℕ) (worker w : ℕ) → is_others (at_name k es) worker ≡ false → at_name q es ≡ Some w → at_name q (insert_entry name_cmp es k worker) ≡ Some w
output_stays es k q worker w own h = output_put es k q worker ∙ by (is_at (name_cmp q) k) refl
  where
    by : (b : Bool) → is_at (name_cmp q) k ≡ b → cond b (Some worker) (at_name q es) ≡ Some w
    by true t = ap Some (sym (not_others (at_name k es) w worker (ap (λ n. at_name n es) (sym (exact_names q k (equal_eq (name_cmp q k) t))) ∙ h) own))
    by false t = h

output_added : (es : List (List ℕ × ℕ)) (k : List ℕ) (worker : ℕ) → at_name k (insert_entry name_cmp es k worker) ≡ Some worker
output_added es k worker = output_put es k k worker ∙ ap (λ b. cond b (Some worker) (at_name k es)) (self_name k)

some_output : (es : List (List ℕ × ℕ)) (q : List ℕ) (w : ℕ) → at_name q es ≡ Some w → has_name (keys_of es) q ≡ true
some_output [] q w h = cc
some_output (e ∷ es) q w h = by (is_at (name_cmp q) e.0) h (some_output es q w)
  where
    by : (b : Bool) → cond b (Some e.1) (at_name q es) ≡ Some w → (at_name q es ≡ Some w → has_name (keys_of es) q ≡ true) → (b || has_name (keys_of es) q) ≡ true
    by true t more = refl
    by false t more = more t

-- files after an app's line have all that those before had
pub record AreMore (files after : FilesForm) : Type 0 where
  pub captures : (file : List ℕ) → is_capture files file ≡ true → is_capture after file ≡ true
  pub outputs : (file : List ℕ) (worker : ℕ) → output_of files file ≡ Some worker → output_of after file ≡ Some worker

no_more : (files : FilesForm) → AreMore files files
no_more files = record { captures = λ f t. t; outputs = λ f w t. t }

pub files_more : (journal : Option (List ℕ)) (worker : ℕ) (apps : List (List ℕ × AppSpec)) (files : FilesForm) (class : Class) (arg : Arg) → file_fault journal worker apps files class arg ≡ false → AreMore files (with_file files worker class arg)
files_more journal worker apps files class.PcapReader (args.File name) h = record { captures = λ f t. key_stays name_cmp files.captures name f t; outputs = λ f w t. t }
files_more journal worker apps files class.PcapWriter (args.File name) h =
    let p = or_parts (is_named journal name || is_capture files name || is_others (output_of files name) worker) (has_writer apps name) h in
    let q = or_parts (is_named journal name || is_capture files name) (is_others (output_of files name) worker) p.0 in
    record { captures = λ f t. t; outputs = λ f w t. output_stays files.outputs name f worker w q.1 t }
files_more journal worker apps files _ arg h = no_more files

-- what holds of a configuration still holds with more files and interlinks
pub files_keep_using : (lanes : List Lane) (files after : FilesForm) (placed : Placed) → AreMore files after → IsUsing lanes files placed → IsUsing lanes after placed
files_keep_using lanes files after placed more h = record {
  reads = λ k d within f t. more.captures f (h.reads k d within f t);
  writes = λ k d within f t. more.outputs f placed.worker (h.writes k d within f t);
  receives = h.receives;
  transmits = h.transmits;
  written_once = h.written_once;
  received_once = h.received_once;
  transmitted_once = h.transmitted_once;
}

led_still : (p : Lane → Bool) (lanes : List Lane) (lane : Lane) → list_any p lanes ≡ true → list_any p (lanes ++ lane ∷ []) ≡ true
led_still p lanes lane h = list_any-append p lanes (lane ∷ []) ∙ ap (λ b. b || list_any p (lane ∷ [])) h

pub lanes_keep_using : (lanes : List Lane) (lane : Lane) (files : FilesForm) (placed : Placed) → IsUsing lanes files placed → IsUsing (lanes ++ lane ∷ []) files placed
lanes_keep_using lanes lane files placed h = record {
  reads = h.reads;
  writes = h.writes;
  receives = λ k d within n t. led_still (λ l. bytes_eq l.name n && l.rx == placed.worker) lanes lane (h.receives k d within n t);
  transmits = λ k d within n t. led_still (λ l. bytes_eq l.name n && l.tx == placed.worker) lanes lane (h.transmits k d within n t);
  written_once = h.written_once;
  received_once = h.received_once;
  transmitted_once = h.transmitted_once;
}

-- one app more
abbrev one_if : Bool → ℕ
one_if b = cond b 1 0

count-cons : (p : AppSpec → Bool) (x : AppSpec) (xs : List AppSpec) → count_by p (x ∷ xs) ≡ one_if (p x) + count_by p xs
count-cons p x xs = sum_by-cons (λ x. one_if (p x)) x xs

count_added : (p : AppSpec → Bool) (apps : List (List ℕ × AppSpec)) (name : List ℕ) (spec : AppSpec) → count_by p (values_of (insert_entry name_cmp apps name spec)) ≤ count_by p (values_of apps) + one_if (p spec)
count_added p [] name spec = omega (arith, count-cons p spec [])
count_added p (e ∷ apps) name spec = by (name_cmp name e.0) (count_added p apps name spec)
  where
    by : (o : Ordering) → count_by p (values_of (insert_entry name_cmp apps name spec)) ≤ count_by p (values_of apps) + one_if (p spec) → count_by p (values_of (match_ordering o ((name, spec) ∷ e ∷ apps) ((e.0, spec) ∷ apps) (e ∷ insert_entry name_cmp apps name spec))) ≤ count_by p (values_of (e ∷ apps)) + one_if (p spec)
    by Less more = omega (arith, count-cons p spec (values_of (e ∷ apps)))
    by Equal more = omega (arith, count-cons p spec (values_of apps), count-cons p e.1 (values_of apps))
    by Greater more = omega (arith, count-cons p e.1 (values_of (insert_entry name_cmp apps name spec)), count-cons p e.1 (values_of apps))

count_none : (p : AppSpec → Bool) (apps : List (List ℕ × AppSpec)) → list_any (λ app. p app.1) apps ≡ false → count_by p (values_of apps) ≡ 0
count_none p [] h = omega arith
count_none p (e ∷ apps) h =
    let q = or_parts (p e.1) (list_any (λ app. p app.1) apps) h in
    let none : one_if (p e.1) ≡ 0 = ap one_if q.0 in
    omega (arith, count-cons p e.1 (values_of apps), count_none p apps q.1)

once_by : (b : Bool) (new old : ℕ) → new ≤ old + one_if b → old ≤ 1 → (b ≡ true → old ≡ 0) → new ≤ 1
once_by true new old h few none = let e : old ≡ 0 = none refl in omega arith
once_by false new old h few none = omega arith

once_added : (uses : AppSpec → List ℕ → Bool) (apps : List (List ℕ × AppSpec)) (name : List ℕ) (spec : AppSpec) → ((what : List ℕ) → count_by (λ s. uses s what) (values_of apps) ≤ 1) → ((what : List ℕ) → uses spec what ≡ true → list_any (λ app. uses app.1 what) apps ≡ false) → (what : List ℕ) → count_by (λ s. uses s what) (values_of (insert_entry name_cmp apps name spec)) ≤ 1
once_added uses apps name spec few other what =
    once_by (uses spec what) _ (count_by (λ s. uses s what) (values_of apps)) (count_added (λ s. uses s what) apps name spec) (few what) (λ t. count_none (λ s. uses s what) apps (other what t))

each_added : (uses : AppSpec → List ℕ → Bool) (P : List ℕ → Type 0) (apps : List (List ℕ × AppSpec)) (name : List ℕ) (spec : AppSpec) → All (λ s. (what : List ℕ) → uses s what ≡ true → P what) (values_of apps) → ((what : List ℕ) → uses spec what ≡ true → P what) → All (λ s. (what : List ℕ) → uses s what ≡ true → P what) (values_of (insert_entry name_cmp apps name spec))
each_added uses P apps name spec h one = All-values-insert_entry name_cmp name spec (λ s. (what : List ℕ) → uses s what ≡ true → P what) apps h one

-- what the checks of an app's line say of what it uses
same_bytes : (a b : List ℕ) → bytes_eq a b ≡ true → a ≡ b
same_bytes a b t = (bytes_eq-Decides a b).0 t

unnot_led : (b c : Bool) → (not b || c) ≡ false → (b ≡ true) × (c ≡ false)
unnot_led true c h = (refl, h)
unnot_led false c h = cc

receiver_fits : (lanes : List Lane) (worker : ℕ) (apps : List (List ℕ × AppSpec)) (class : Class) (arg : Arg) (what : List ℕ) → end_fault lanes worker apps class arg ≡ false → receives_lane (record { class = class; arg = arg }) what ≡ true → (leads_to lanes worker what ≡ true) × (has_receiver apps what ≡ false)
receiver_fits lanes worker apps class.Receiver (args.Lane name) what h t =
    subst (λ n. (leads_to lanes worker n ≡ true) × (has_receiver apps n ≡ false)) (same_bytes name what t) (unnot_led (leads_to lanes worker name) (has_receiver apps name) h)
receiver_fits lanes worker apps _ _ what h t = cc

transmitter_fits : (lanes : List Lane) (worker : ℕ) (apps : List (List ℕ × AppSpec)) (class : Class) (arg : Arg) (what : List ℕ) → end_fault lanes worker apps class arg ≡ false → transmits_lane (record { class = class; arg = arg }) what ≡ true → (leads_from lanes worker what ≡ true) × (has_transmitter apps what ≡ false)
transmitter_fits lanes worker apps class.Transmitter (args.Lane name) what h t =
    subst (λ n. (leads_from lanes worker n ≡ true) × (has_transmitter apps n ≡ false)) (same_bytes name what t) (unnot_led (leads_from lanes worker name) (has_transmitter apps name) h)
transmitter_fits lanes worker apps _ _ what h t = cc

reader_fits : (files : FilesForm) (worker : ℕ) (class : Class) (arg : Arg) (what : List ℕ) → reads_file (record { class = class; arg = arg }) what ≡ true → is_capture (with_file files worker class arg) what ≡ true
reader_fits files worker class.PcapReader (args.File name) what t = subst (λ n. is_capture (with_file files worker class.PcapReader (args.File name)) n ≡ true) (same_bytes name what t) (key_added name_cmp name_cmp_total files.captures name)
reader_fits files worker _ _ what t = cc

writer_fits : (journal : Option (List ℕ)) (files : FilesForm) (worker : ℕ) (apps : List (List ℕ × AppSpec)) (class : Class) (arg : Arg) (what : List ℕ) → file_fault journal worker apps files class arg ≡ false → writes_file (record { class = class; arg = arg }) what ≡ true → (output_of (with_file files worker class arg) what ≡ Some worker) × (has_writer apps what ≡ false)
writer_fits journal files worker apps class.PcapWriter (args.File name) what h t =
    subst (λ n. (output_of (with_file files worker class.PcapWriter (args.File name)) n ≡ Some worker) × (has_writer apps n ≡ false)) (same_bytes name what t) (output_added files.outputs name worker, (or_parts (is_named journal name || is_capture files name || is_others (output_of files name) worker) (has_writer apps name) h).1)
writer_fits journal files worker apps _ _ what h t = cc

-- a configuration with the app of a line, and the files with the app's
pub app_keeps_using : (journal : Option (List ℕ)) (lanes : List Lane) (files : FilesForm) (placed after : Placed) (name : List ℕ) (class : Class) (arg : Arg) → after.worker ≡ placed.worker → after.config.apps ≡ insert_entry name_cmp placed.config.apps name (record { class = class; arg = arg }) → end_fault lanes placed.worker placed.config.apps class arg ≡ false → file_fault journal placed.worker placed.config.apps files class arg ≡ false → IsUsing lanes files placed → IsUsing lanes (with_file files placed.worker class arg) after
app_keeps_using journal lanes files placed after name class arg same added ends fit old =
    let h = files_keep_using lanes files (with_file files placed.worker class arg) placed (files_more journal placed.worker placed.config.apps files class arg fit) old in
    let spec : AppSpec = record { class = class; arg = arg } in
    let apps = placed.config.apps in
    let more : FilesForm = with_file files placed.worker class arg in
    let each : (uses : AppSpec → List ℕ → Bool) (P : ℕ → List ℕ → Type 0) → EachUsed uses (P placed.worker) placed.config → ((what : List ℕ) → uses spec what ≡ true → P placed.worker what) → EachUsed uses (P after.worker) after.config = λ uses P e one. subst (λ w. EachUsed uses (P w) after.config) (sym same) (subst (λ es. All (λ s. (what : List ℕ) → uses s what ≡ true → P placed.worker what) (values_of es)) (sym added) (each_added uses (P placed.worker) apps name spec e one)) in
    let once : (uses : AppSpec → List ℕ → Bool) → UsedOnce uses placed.config → ((what : List ℕ) → uses spec what ≡ true → list_any (λ app. uses app.1 what) apps ≡ false) → UsedOnce uses after.config = λ uses few other. subst (λ es. (what : List ℕ) → count_by (λ s. uses s what) (values_of es) ≤ 1) (sym added) (once_added uses apps name spec few other) in
    record {
      reads = each reads_file (λ w file. is_capture more file ≡ true) h.reads (λ what t. reader_fits files placed.worker class arg what t);
      writes = each writes_file (λ w file. output_of more file ≡ Some w) h.writes (λ what t. (writer_fits journal files placed.worker apps class arg what fit t).0);
      receives = each receives_lane (λ w lane. leads_to lanes w lane ≡ true) h.receives (λ what t. (receiver_fits lanes placed.worker apps class arg what ends t).0);
      transmits = each transmits_lane (λ w lane. leads_from lanes w lane ≡ true) h.transmits (λ what t. (transmitter_fits lanes placed.worker apps class arg what ends t).0);
      written_once = once writes_file h.written_once (λ what t. (writer_fits journal files placed.worker apps class arg what fit t).1);
      received_once = once receives_lane h.received_once (λ what t. (receiver_fits lanes placed.worker apps class arg what ends t).1);
      transmitted_once = once transmits_lane h.transmitted_once (λ what t. (transmitter_fits lanes placed.worker apps class arg what ends t).1);
    }

-- the empty configuration
pub none_using : (lanes : List Lane) (files : FilesForm) (placed : Placed) → placed.config.apps ≡ [] → IsUsing lanes files placed
none_using lanes files placed none =
    let each : (uses : AppSpec → List ℕ → Bool) (P : List ℕ → Type 0) → EachUsed uses P placed.config = λ uses P. subst (λ es. All (λ s. (what : List ℕ) → uses s what ≡ true → P what) (values_of es)) (sym none) (All-nil (λ s. (what : List ℕ) → uses s what ≡ true → P what)) in
    let once : (uses : AppSpec → List ℕ → Bool) → UsedOnce uses placed.config = λ uses. subst (λ es. (what : List ℕ) → count_by (λ s. uses s what) (values_of es) ≤ 1) (sym none) (λ what. omega arith) in
    record {
      reads = each reads_file (λ file. is_capture files file ≡ true);
      writes = each writes_file (λ file. output_of files file ≡ Some placed.worker);
      receives = each receives_lane (λ lane. leads_to lanes placed.worker lane ≡ true);
      transmits = each transmits_lane (λ lane. leads_from lanes placed.worker lane ≡ true);
      written_once = once writes_file;
      received_once = once receives_lane;
      transmitted_once = once transmits_lane;
    }

-- what this says of a whole scenario
pub served : (lanes : List Lane) (files : FilesForm) (placed : Placed) → IsUsing lanes files placed → IsServed lanes files.captures (keys_of files.outputs) placed
served lanes files placed h = record {
  reads = λ k d within f t. key_there name_cmp name_cmp_total exact_names files.captures f (h.reads k d within f t);
  writes = λ k d within f t. key_there name_cmp name_cmp_total exact_names (keys_of files.outputs) f (some_output files.outputs f placed.worker (h.writes k d within f t));
  receives = h.receives;
  transmits = h.transmits;
  written_once = h.written_once;
  received_once = h.received_once;
  transmitted_once = h.transmitted_once;
}

writer_owns : (files : FilesForm) (worker : ℕ) (apps : List (List ℕ × AppSpec)) (file : List ℕ) → All (λ s. (what : List ℕ) → writes_file s what ≡ true → output_of files what ≡ Some worker) (values_of apps) → has_writer apps file ≡ true → output_of files file ≡ Some worker
writer_owns files worker [] file h t = cc
writer_owns files worker (e ∷ apps) file h t = by (writes_file e.1 file) refl t (writer_owns files worker apps file (λ k d within. h (suc k) d (omega arith)))
  where
    by : (b : Bool) → writes_file e.1 file ≡ b → (b || has_writer apps file) ≡ true → (has_writer apps file ≡ true → output_of files file ≡ Some worker) → output_of files file ≡ Some worker
    by true e1 u more = h 0 e.1 (omega arith) file e1
    by false e1 u more = more u

pub one_writer : (lanes : List Lane) (files : FilesForm) (placed : List Placed) → All (IsUsing lanes files) placed → HaveOneWriter placed
one_writer lanes files placed h file a b at_a at_b wa wb =
    let x : output_of files file ≡ Some a.worker = writer_owns files a.worker a.config.apps file (All-contains (IsUsing lanes files) placed a h at_a).writes wa in
    let y : output_of files file ≡ Some b.worker = writer_owns files b.worker b.config.apps file (All-contains (IsUsing lanes files) placed b h at_b).writes wb in
    cc
