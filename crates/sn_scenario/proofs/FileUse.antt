-- The captures and the outputs stay in order, few and apart when the file of an app is added.
use Rattle.std.proofs.Common.{All, Bool, Contains, IfSome, List, None, Option, Some, [], ap, arith, cond, false, is_some, length, nat_le, not, refl, subst, sym, true, ℕ, ◌&&◌, ◌+◌, ◌<◌, ◌||◌, ◌∙◌, ◌∷◌, ◌≡◌, ◌≤◌}
use Rattle.std.proofs.lemmas.Bool.{both_ways, leb-false, or_parts}
use Rattle.std.proofs.lemmas.Cmp.{eq_by_cmp_equiv}
use Rattle.std.proofs.lemmas.List.Elements.{All-contains, All-contains_itself, All-from_recursion, All-weaker, recursion_from_All}
use Rattle.std.proofs.lemmas.List.Folds.{list_any_none}
use Rattle.std.proofs.lemmas.Map.Entries.{length-keys_of}
use Rattle.std.proofs.lemmas.Map.Keys.{sorted_head, sorted_tail}
use Rattle.std.proofs.lemmas.Map.Views.{All-insert_key, list_any-from_Contains}
use Rattle.std.proofs.lemmas.Slice.Eq.{bytes_eq-Decides}
use Rattle.std.specs.BTreeMap.{insert_entry, is_at}
use Rattle.std.specs.BTreeSet.{insert_key}
use Rattle.std.specs.List.{AllByRecursion, list_any}
use Rattle.std.specs.List.Sorted.{IsStrictlySortedBy}
use Rattle.std.specs.Map.{keys_of, lookup}
use Rattle.std.specs.Ordering.{is_eq, match_ordering, ordering_reverse}
use Rattle.std.specs.Str.{bytes_eq}
use Rattle.std.specs.declared.cmp.Ordering.{Ordering}
use Rattle.std.specs.declared.cmp.Ordering.TheVariants.{Equal, Greater, Less}
use Rattle.sn_config.specs.declared.app_spec.AppSpec.{AppSpec}
use Rattle.sn_names.specs.LinkOrder.{name_cmp, name_cmp_total}
use Rattle.sn_names.specs.declared.arg.Arg.{Arg}
use Rattle.sn_names.specs.declared.class.Class.{Class}
use Rattle.sn_names.specs.declared.class.Class.TheVariants as class
use Rattle.sn_scenario.specs.FileUses.{FilesForm, captures_full, file_fault, file_named, files_full, has_writer, is_capture, is_named, is_others, output_of, outputs_full, reader_fault, with_capture, with_file, with_output, writer_fault}
use Rattle.sn_scenario.specs.Scenarios.{AreFiles, HaveOneUse}

-- a name is among the names
abbrev has_name : List (List ℕ) → List ℕ → Bool
has_name names name = list_any (is_at (name_cmp name)) names

-- the first name is below those after it
above_by : (k x : List ℕ) (xs : List (List ℕ)) → name_cmp k x ≡ Less → All (λ y. name_cmp x y ≡ Less) xs → All (λ y. name_cmp k y ≡ Less) xs
above_by k x xs e h = All-weaker (λ y. name_cmp x y ≡ Less) (λ y. name_cmp k y ≡ Less) (λ y l. name_cmp_total.trans k x y e l) xs h

sorted_by : (o : Ordering) (k x : List ℕ) (xs : List (List ℕ)) → name_cmp k x ≡ o → AllByRecursion (λ y. name_cmp x y ≡ Less) xs → IsStrictlySortedBy name_cmp xs → IsStrictlySortedBy name_cmp (insert_key name_cmp xs k) → IsStrictlySortedBy name_cmp (match_ordering o (k ∷ x ∷ xs) (x ∷ xs) (x ∷ insert_key name_cmp xs k))
unfolding IsStrictlySortedBy
sorted_by Less k x xs e first rest more = ((e, recursion_from_All (λ y. name_cmp k y ≡ Less) xs (above_by k x xs e (All-from_recursion (λ y. name_cmp x y ≡ Less) xs first))), (first, rest))
sorted_by Equal k x xs e first rest more = (first, rest)
sorted_by Greater k x xs e first rest more =
    let below : name_cmp x k ≡ Less = name_cmp_total.antisymm x k ∙ ap ordering_reverse e in
    (recursion_from_All (λ y. name_cmp x y ≡ Less) (insert_key name_cmp xs k) (All-insert_key name_cmp k (λ y. name_cmp x y ≡ Less) xs (All-from_recursion (λ y. name_cmp x y ≡ Less) xs first) below), more)

sorted_one : (name : List ℕ) → IsStrictlySortedBy name_cmp (name ∷ [])
unfolding IsStrictlySortedBy
sorted_one name = (tt, tt)

sorted_insert : (names : List (List ℕ)) (name : List ℕ) → IsStrictlySortedBy name_cmp names → IsStrictlySortedBy name_cmp (insert_key name_cmp names name)
sorted_insert [] name h = sorted_one name
sorted_insert (x ∷ xs) name h =
    sorted_by (name_cmp name x) name x xs refl (sorted_head name_cmp x xs h) (sorted_tail name_cmp x xs h) (sorted_insert xs name (sorted_tail name_cmp x xs h))

-- at most one more, and none where the name is there
length_by : (o : Ordering) (k x : List ℕ) (xs : List (List ℕ)) (n : ℕ) → length (insert_key name_cmp xs k) ≤ length xs + 1 → length (match_ordering o (k ∷ x ∷ xs) (x ∷ xs) (x ∷ insert_key name_cmp xs k)) ≤ length (x ∷ xs) + 1
length_by Less k x xs n h = omega arith
length_by Equal k x xs n h = omega arith
length_by Greater k x xs n h = omega arith

length_insert : (names : List (List ℕ)) (name : List ℕ) → length (insert_key name_cmp names name) ≤ length names + 1
length_insert [] name = omega arith
length_insert (x ∷ xs) name = length_by (name_cmp name x) name x xs 0 (length_insert xs name)

none_below : (k : List ℕ) (xs : List (List ℕ)) → All (λ y. name_cmp k y ≡ Less) xs → has_name xs k ≡ false
none_below k xs h = list_any_none (is_at (name_cmp k)) xs (All-weaker (λ y. name_cmp k y ≡ Less) (λ y. is_eq (name_cmp k y) ≡ false) (λ y l. ap is_eq l) xs h)

same_by : (o : Ordering) (k x : List ℕ) (xs : List (List ℕ)) → name_cmp k x ≡ o → IsStrictlySortedBy name_cmp (x ∷ xs) → (is_eq o || has_name xs k) ≡ true → (has_name xs k ≡ true → insert_key name_cmp xs k ≡ xs) → match_ordering o (k ∷ x ∷ xs) (x ∷ xs) (x ∷ insert_key name_cmp xs k) ≡ x ∷ xs
same_by Less k x xs e h there more =
    let none = none_below k xs (above_by k x xs e (All-from_recursion (λ y. name_cmp x y ≡ Less) xs (sorted_head name_cmp x xs h))) in absurd (both_ways (has_name xs k) none there)
same_by Equal k x xs e h there more = refl
same_by Greater k x xs e h there more = ap (λ ys. x ∷ ys) (more there)

same_insert : (names : List (List ℕ)) (name : List ℕ) → IsStrictlySortedBy name_cmp names → has_name names name ≡ true → insert_key name_cmp names name ≡ names
same_insert [] name h there = cc
same_insert (x ∷ xs) name h there = same_by (name_cmp name x) name x xs refl h there (same_insert xs name (sorted_tail name_cmp x xs h))

few_by : (b : Bool) (names : List (List ℕ)) (name : List ℕ) → has_name names name ≡ b → AreFiles names → (not b && nat_le 16 (length names)) ≡ false → length (insert_key name_cmp names name) ≤ 16
few_by true names name e h full =
    let few = h.few in subst (λ ns. length ns ≤ 16) (sym (same_insert names name h.rising e)) few
few_by false names name e h full =
    let few : length names < 16 = leb-false 16 (length names) full in omega (arith, length_insert names name)

-- the names with one that is there or for which there is room
files_keep : (names : List (List ℕ)) (name : List ℕ) → AreFiles names → (not (has_name names name) && nat_le 16 (length names)) ≡ false → AreFiles (insert_key name_cmp names name)
files_keep names name h full = record { few = few_by (has_name names name) names name refl h full; rising = sorted_insert names name h.rising }

-- what holds of each name holds with one more
among : (P : List ℕ → Type 0) (names : List (List ℕ)) (name : List ℕ) → ((file : List ℕ) → Contains names file → P file) → P name → (file : List ℕ) → Contains (insert_key name_cmp names name) file → P file
among P names name h one file there =
    All-contains P (insert_key name_cmp names name) file (All-insert_key name_cmp name P names (All-weaker (Contains names) P h names (All-contains_itself names)) one) there

-- a name that isn't found isn't there
absent : (names : List (List ℕ)) (name : List ℕ) → has_name names name ≡ false → Contains names name → ⊥
absent names name h there = both_ways (has_name names name) h (list_any-from_Contains (eq_by_cmp_equiv name_cmp_total) name names there)

-- the journal isn't among the names, and isn't the one more
journal_keeps : (journal : Option (List ℕ)) (names : List (List ℕ)) (name : List ℕ) → is_named journal name ≡ false → IfSome journal (λ file. Contains names file → ⊥) → IfSome journal (λ file. Contains (insert_key name_cmp names name) file → ⊥)
journal_keeps None names name other h = tt
journal_keeps (Some file) names name other h =
    λ there. among (λ q. q ≡ file → ⊥) names name (λ q c e. h (subst (Contains names) e c)) (λ e. both_ways (bytes_eq file name) other ((bytes_eq-Decides file name).1 (sym e))) file there refl

-- the keys of a map with one entry more
keys_by : (o : Ordering) (k : List ℕ) (v : ℕ) (e : List ℕ × ℕ) (es : List (List ℕ × ℕ)) → keys_of (insert_entry name_cmp es k v) ≡ insert_key name_cmp (keys_of es) k → keys_of (match_ordering o ((k, v) ∷ e ∷ es) ((e.0, v) ∷ es) (e ∷ insert_entry name_cmp es k v)) ≡ match_ordering o (k ∷ e.0 ∷ keys_of es) (e.0 ∷ keys_of es) (e.0 ∷ insert_key name_cmp (keys_of es) k)
keys_by Less k v e es h = refl
keys_by Equal k v e es h = refl
keys_by Greater k v e es h = ap (λ ks. e.0 ∷ ks) h

keys_insert : (es : List (List ℕ × ℕ)) (k : List ℕ) (v : ℕ) → keys_of (insert_entry name_cmp es k v) ≡ insert_key name_cmp (keys_of es) k
keys_insert [] k v = refl
keys_insert (e ∷ es) k v = keys_by (name_cmp k e.0) k v e es (keys_insert es k v)

-- an output is found exactly where its name is among the keys
found_by : (b : Bool) (v : ℕ) (o : Option ℕ) (c : Bool) → is_some o ≡ c → is_some (cond b (Some v) o) ≡ (b || c)
found_by true v o c h = refl
found_by false v o c h = h

found_keys : (es : List (List ℕ × ℕ)) (name : List ℕ) → is_some (lookup (is_at (name_cmp name)) es) ≡ has_name (keys_of es) name
found_keys [] name = refl
found_keys (e ∷ es) name = found_by (is_at (name_cmp name) e.0) e.1 (lookup (is_at (name_cmp name)) es) (has_name (keys_of es) name) (found_keys es name)

-- what holds of the files
pub record AreUsed (journal : Option (List ℕ)) (files : FilesForm) : Type 0 where
  pub captures : AreFiles files.captures
  pub outputs : AreFiles (keys_of files.outputs)
  pub uses : HaveOneUse journal files.captures (keys_of files.outputs)

capture_keeps : (journal : Option (List ℕ)) (files : FilesForm) (name : Option (List ℕ)) → AreUsed journal files → reader_fault journal files name ≡ false → captures_full files name ≡ false → AreUsed journal (with_capture files name)
capture_keeps journal files None h fault full = h
capture_keeps journal files (Some name) h fault full =
    let p = or_parts (is_named journal name) (is_some (output_of files name)) fault in
    let none : has_name (keys_of files.outputs) name ≡ false = sym (found_keys files.outputs name) ∙ p.1 in
    record {
      captures = files_keep files.captures name h.captures full;
      outputs = h.outputs;
      uses = record {
        not_read = journal_keeps journal files.captures name p.0 h.uses.not_read;
        not_written = h.uses.not_written;
        apart = among (λ q. Contains (keys_of files.outputs) q → ⊥) files.captures name h.uses.apart (absent (keys_of files.outputs) name none);
      };
    }

output_keeps : (journal : Option (List ℕ)) (worker : ℕ) (apps : List (List ℕ × AppSpec)) (files : FilesForm) (name : Option (List ℕ)) → AreUsed journal files → writer_fault journal worker apps files name ≡ false → outputs_full files name ≡ false → AreUsed journal (with_output files worker name)
output_keeps journal worker apps files None h fault full = h
output_keeps journal worker apps files (Some name) h fault full =
    let p = or_parts (is_named journal name || is_capture files name || is_others (output_of files name) worker) (has_writer apps name) fault in
    let q = or_parts (is_named journal name || is_capture files name) (is_others (output_of files name) worker) p.0 in
    let r = or_parts (is_named journal name) (is_capture files name) q.0 in
    let room : (not (has_name (keys_of files.outputs) name) && nat_le 16 (length (keys_of files.outputs))) ≡ false =
    ap (λ b. not b && nat_le 16 (length (keys_of files.outputs))) (sym (found_keys files.outputs name)) ∙ ap (λ n. not (is_some (output_of files name)) && nat_le 16 n) (length-keys_of files.outputs) ∙ full
    in
    let keys = sym (keys_insert files.outputs name worker) in
    record {
      captures = h.captures;
      outputs = subst AreFiles keys (files_keep (keys_of files.outputs) name h.outputs room);
      uses = subst (HaveOneUse journal files.captures) keys (record {
        not_read = h.uses.not_read;
        not_written = journal_keeps journal (keys_of files.outputs) name r.0 h.uses.not_written;
        apart = λ file read written. among (λ q. Contains files.captures q → ⊥) (keys_of files.outputs) name (λ q c d. h.uses.apart q d c) (absent files.captures name r.1) file written read;
      });
    }

-- the files with the one of an app
pub with_file_keeps : (journal : Option (List ℕ)) (worker : ℕ) (apps : List (List ℕ × AppSpec)) (files : FilesForm) (class : Class) (arg : Arg) → AreUsed journal files → file_fault journal worker apps files class arg ≡ false → files_full files class arg ≡ false → AreUsed journal (with_file files worker class arg)
with_file_keeps journal worker apps files class.PcapReader arg h fault full = capture_keeps journal files (file_named arg) h fault full
with_file_keeps journal worker apps files class.PcapWriter arg h fault full = output_keeps journal worker apps files (file_named arg) h fault full
with_file_keeps journal worker apps files _ arg h fault full = h
