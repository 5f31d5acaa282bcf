-- What is looked for by an app and a port is what is found at their key.
use Rattle.std.specs.FinMap as finmap
use Rattle.std.proofs.Common.{Bool, List, None, Option, Some, [], ap, cond, false, map, not, refl, sym, true, ℕ, ◌&&◌, ◌∙◌, ◌∷◌, ◌≡◌, ◌||◌}
use Rattle.std.specs.BTreeMap.{is_at}
use Rattle.std.specs.List.{list_any}
use Rattle.std.specs.List.Sorted.{IsStrictlySortedBy}
use Rattle.std.specs.Map.{keys_of, lookup}
use Rattle.std.specs.Ordering.{eq_by_cmp, is_eq, ordering_then}
use Rattle.std.specs.declared.cmp.Ordering.{Ordering}
use Rattle.std.specs.declared.cmp.Ordering.TheVariants.{Equal, Greater, Less}
use Rattle.sn_actions.proofs.MapEntries.{entries_same}
use Rattle.sn_actions.proofs.FiniteMaps.{get_entries}
use Rattle.sn_actions.proofs.Uniqueness.{same_named}
use Rattle.sn_actions.specs.Plains.{is_at_some}
use Rattle.sn_config.specs.Configs.{same_name}
use Rattle.sn_names.specs.LinkOrder.{link_cmp, name_cmp, name_cmp_total, port_cmp, port_cmp_total}
use Rattle.sn_names.specs.declared.link.LinkSpec.{LinkSpec}
use Rattle.std.specs.Cmp.{eq_by_cmp_equiv}

abbrev pub Key : Type 0
Key = List ℕ × List ℕ

then_eq : (a b : Ordering) → is_eq (ordering_then a b) ≡ (is_eq a && is_eq b)
then_eq Less b = refl
then_eq Equal b = refl
then_eq Greater b = refl

-- the code's test of a key
abbrev pub is_port : Key → List ℕ → List ℕ → Bool
is_port key app port = same_name key.0 app && same_name key.1 port

turned_name : (a b : List ℕ) → same_name a b ≡ is_at (name_cmp b) a
turned_name a b = same_named a b ∙ (eq_by_cmp_equiv name_cmp_total).symm a b

pub port_is_key : (key : Key) (app port : List ℕ) → is_port key app port ≡ is_at (port_cmp (app, port)) key
port_is_key key app port =
    ap (λ b. b && same_name key.1 port) (turned_name key.0 app)
    ∙ ap (λ b. is_at (name_cmp app) key.0 && b) (turned_name key.1 port)
    ∙ sym (then_eq (name_cmp app key.0) (name_cmp port key.1))

abbrev at_key : Key → List (Key × LinkSpec) → Option LinkSpec
at_key key es = lookup (is_at (port_cmp key)) es

-- an entry that the test passes is the one at the key
pub found_here : (all here more : List (Key × LinkSpec)) (key : Key) (link : LinkSpec) (app port : List ℕ) → here ≡ (key, link) ∷ more → at_key (app, port) here ≡ at_key (app, port) all → is_port key app port ≡ true → Some link ≡ finmap.get (finmap.from_entries {R = port_cmp} all) (app, port)
found_here all here more key link app port e kept passes =
    let yes : is_at (port_cmp (app, port)) key ≡ true = sym (port_is_key key app port) ∙ passes in
    sym (get_entries port_cmp_total all (app, port) ∙ sym kept ∙ ap (at_key (app, port)) e ∙ ap (λ b. cond b (Some link) (at_key (app, port) more)) yes)

-- and one that it doesn't pass is passed over
pub found_later : (all here more : List (Key × LinkSpec)) (key : Key) (link : LinkSpec) (app port : List ℕ) → here ≡ (key, link) ∷ more → at_key (app, port) here ≡ at_key (app, port) all → is_port key app port ≡ false → at_key (app, port) more ≡ at_key (app, port) all
found_later all here more key link app port e kept passes =
    let no : is_at (port_cmp (app, port)) key ≡ false = sym (port_is_key key app port) ∙ passes in
    sym (ap (λ b. cond b (Some link) (at_key (app, port) more)) no) ∙ sym (ap (at_key (app, port)) e) ∙ kept

pub found_none : (all here : List (Key × LinkSpec)) (app port : List ℕ) → here ≡ [] → at_key (app, port) here ≡ at_key (app, port) all → None ≡ finmap.get (finmap.from_entries {R = port_cmp} all) (app, port)
found_none all here app port e kept = sym (get_entries port_cmp_total all (app, port) ∙ sym kept ∙ ap (at_key (app, port)) e)

pub ruleset finding = (found_here, found_later, found_none)

any_value : (p : LinkSpec → Bool) (es : List (Key × LinkSpec)) → list_any (λ e. p e.1) es ≡ list_any p (map (λ e. e.1) es)
any_value p [] = refl
any_value p (e ∷ es) = ap (λ b. p e.1 || b) (any_value p es)

-- a link among the entries is at some port of the map
pub some_port : (es : List (Key × LinkSpec)) (link : LinkSpec) → IsStrictlySortedBy port_cmp (keys_of es) → list_any (λ e. eq_by_cmp link_cmp e.1 link) es ≡ is_at_some (finmap.from_entries {R = port_cmp} es) link
some_port es link sorted =
    any_value (λ m. eq_by_cmp link_cmp m link) es
    ∙ ap (λ (entries : List (Key × LinkSpec)). list_any (λ m. eq_by_cmp link_cmp m link) (map (λ e. e.1) entries)) (sym (entries_same port_cmp_total es sorted))

pub turned_cond : {A : Type 0} (b : Bool) (x : Option A) → cond (not b) x None ≡ cond b None x
turned_cond true x = refl
turned_cond false x = refl
