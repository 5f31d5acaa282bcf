-- The ports of an app, as they are made from one entry of a map after another.
use Rattle.std.specs.FinMap as finmap
use Rattle.std.proofs.Common.{Bool, IsSome, List, None, Option, Some, [], ap, arith, false, get_or, length, subst, suc, sym, true}
use Rattle.std.proofs.Common.{zero, ℕ, ◌++◌, ◌<◌, ◌∙◌, ◌∷◌, ◌≡◌, append_assoc, append-nil, bytes_eq, if◌then◌else◌}
use Rattle.std.proofs.lemmas.List.{map_push}
use Rattle.std.specs.List.Sorted.{IsStrictlySortedBy}
use Rattle.std.specs.Map.{keys_of}
use Rattle.std.specs.Prelude.{filter_map}
use Rattle.sn_actions.proofs.MapEntries.{entries_same, found_entry}
use Rattle.sn_app.specs.Calls.{HasLink, row_of_link}
use Rattle.sn_app.specs.Ports.{HasLinks, Port, key_at, line_at, rows_of}
use Rattle.sn_app.specs.World.{rows_in}
use Rattle.sn_link.specs.Link.{Line}
use Rattle.sn_names.specs.LinkOrder.{port_cmp, port_cmp_total}
use Rattle.sn_names.specs.declared.link.LinkSpec.{LinkSpec}
use Rattle.sn_wiring.specs.Links.{slot_at}
use Rattle.sn_wiring.specs.Wired.{AreThere, PortEntry, PortMap, Wired, port_of}

-- the link of each of these entries is named by the roster and stands in the slab
pub EachThere : List (Option Line) → List LinkSpec → List PortEntry → Type 0
EachThere slots roster [] = Unit {0}
EachThere slots roster (entry ∷ more) =
    HasLink roster entry.1 × (rows_in (row_of_link roster entry.1) slots ≡ 1) × EachThere slots roster more

-- an entry of no name, which no map has
abbrev no_entry : PortEntry
no_entry = (([], []), record { from = []; out = []; to = []; input = [] })

module _ (slots : List (Option Line)) (roster : List LinkSpec) where
  each_from : (entries : List PortEntry) (d : PortEntry)
      → ((i : ℕ) → i < length entries → HasLink roster (get_or entries i d).1 × (rows_in (row_of_link roster
      (get_or entries i d).1) slots ≡ 1))
      → EachThere slots roster entries
  unfolding EachThere
  each_from [] d there = tt
  each_from (entry ∷ more) d there =
      let here = there 0 (omega arith) in
      (here.0, here.1, each_from more d (λ i k. there (suc i) (omega (arith, k))))

  -- of the entries that a map in memory has
  pub each_there : (entries : List PortEntry) → IsStrictlySortedBy port_cmp (keys_of entries)
      → AreThere slots roster (finmap.from_entries entries) → EachThere slots roster entries
  each_there entries sorted there =
      let all : PortMap = finmap.from_entries entries in
      let same : finmap.entries all ≡ entries = entries_same port_cmp_total entries sorted in
      subst (λ (es : List PortEntry). EachThere slots roster es) same
      (each_from (finmap.entries all) no_entry (λ i k. (
        there.named (get_or (finmap.entries all) i no_entry).0 (get_or (finmap.entries all) i no_entry).1
            (found_entry port_cmp_total all i no_entry k),
        there.stands (get_or (finmap.entries all) i no_entry).0 (get_or (finmap.entries all) i no_entry).1
            (found_entry port_cmp_total all i no_entry k),
      )))

  pub first_there : (left : List PortEntry) (entry : PortEntry) (more : List PortEntry) → left ≡ entry ∷ more
      → EachThere slots roster left
      → HasLink roster entry.1 × (rows_in (row_of_link roster entry.1) slots ≡ 1)
  unfolding EachThere
  first_there left entry more is there =
      let all : EachThere slots roster (entry ∷ more) = subst (λ (es : List PortEntry). EachThere slots roster es) is there in
      (all.0, all.1)

  pub more_there : (left : List PortEntry) (entry : PortEntry) (more : List PortEntry) → left ≡ entry ∷ more
      → EachThere slots roster left
      → EachThere slots roster more
  unfolding EachThere
  more_there left entry more is there =
      let all : EachThere slots roster (entry ∷ more) = subst (λ (es : List PortEntry). EachThere slots roster es) is there in
      all.2

abbrev with_first : Option Port → List Port → List Port
with_first None ports = ports
with_first (Some port) ports = port ∷ ports

-- each of the ports leads to a link, and one more does
linked_more : (slots : List (Option Line)) (ports : List (List ℕ × ℕ)) (port : List ℕ × ℕ) → HasLinks slots ports
    → IsSome (slot_at slots port.1) → HasLinks slots (ports ++ port ∷ [])
linked_more slots ports port h held = record {
  held = λ i k. by ports i k h.held;
}
  where
    by : (ports : List (List ℕ × ℕ)) (i : ℕ) → i < length (ports ++ port ∷ [])
        → ((j : ℕ) → j < length ports → IsSome (slot_at slots (key_at ports j))) → IsSome (slot_at slots (key_at
        (ports ++ port ∷ []) i))
    by [] zero k all = held
    by [] (suc i) k all = absurd (omega (arith, k))
    by (first ∷ more) zero k all = all 0 (omega arith)
    by (first ∷ more) (suc i) k all = by more i (omega (arith, k)) (λ j l. all (suc j) (omega (arith, l)))

-- the ports made so far lead to links that are there, and with those of the entries left they are all
pub record Makes (slots : List (Option Line)) (roster : List LinkSpec) (name : List ℕ) (ports : List (List ℕ × ℕ))
    (left all : List PortEntry) : Type 0 where
  pub linked : HasLinks slots ports
  pub rows : rows_of slots ports ++ filter_map (port_of roster name) left ≡ filter_map (port_of roster name) all
  pub there : EachThere slots roster left

module _ (slots : List (Option Line)) (roster : List LinkSpec) (name : List ℕ) (ports : List (List ℕ × ℕ))
    (all : List PortEntry) where
  pub makes_start : EachThere slots roster all → ports ≡ [] → Makes slots roster name ports all all
  unfolding rows_of
  makes_start there none = record {
    linked = record { held = λ i k. absurd (omega (arith, k, ap length none)) };
    rows = ap (λ (made : List (List ℕ × ℕ)). rows_of slots made ++ filter_map (port_of roster name) all) none;
    there = there;
  }

  module _ (left more : List PortEntry) (entry : PortEntry) (is : left ≡ entry ∷ more)
      (h : Makes slots roster name ports left all) where
    -- a key of another app is passed over
    pub makes_past : bytes_eq entry.0.0 name ≡ false → Makes slots roster name ports more all
    makes_past other = record {
      linked = h.linked;
      rows =
          ap (λ (b : Bool). rows_of slots ports ++ with_first (if b then Some (entry.0.1, row_of_link roster entry.1) else None)
          (filter_map (port_of roster name) more)) (sym other)
          ∙ (ap (λ (es : List PortEntry). rows_of slots ports ++ filter_map (port_of roster name) es) (sym is) ∙ h.rows);
      there = more_there slots roster left entry more is h.there;
    }

    -- one of this app gives a port
    pub makes_port : (port : List ℕ × ℕ) → bytes_eq entry.0.0 name ≡ true → port.0 ≡ entry.0.1 → IsSome (slot_at slots port.1)
        → (line_at slots port.1).row ≡ row_of_link roster entry.1 → Makes slots roster name (ports ++ port ∷ []) more all
    unfolding rows_of
    makes_port port own named held row = record {
      linked = linked_more slots ports port h.linked held;
      rows =
          ap (λ made. made ++ filter_map (port_of roster name) more)
          (map_push (λ (p : List ℕ × ℕ). (p.0, (line_at slots p.1).row)) ports port)
          ∙ (append_assoc (rows_of slots ports) ((port.0, (line_at slots port.1).row) ∷ []) (filter_map
          (port_of roster name) more)
          ∙ (ap (λ (r : ℕ). rows_of slots ports ++ (port.0, r) ∷ filter_map (port_of roster name) more) row
          ∙ (ap (λ (n : List ℕ). rows_of slots ports ++ (n, row_of_link roster entry.1) ∷ filter_map
          (port_of roster name) more) named
          ∙ (ap (λ (b : Bool). rows_of slots ports ++ with_first (if b then Some
          (entry.0.1, row_of_link roster entry.1) else None)
          (filter_map (port_of roster name) more)) (sym own)
          ∙ (ap (λ (es : List PortEntry). rows_of slots ports ++ filter_map (port_of roster name) es) (sym is) ∙ h.rows)))));
      there = more_there slots roster left entry more is h.there;
    }

-- all entries are made
pub makes_all : (slots : List (Option Line)) (roster : List LinkSpec) (name : List ℕ) (ports : List (List ℕ × ℕ))
    (left all : List PortEntry)
    → left ≡ [] → IsStrictlySortedBy port_cmp (keys_of all) → Makes slots roster name ports left all
    → Wired slots roster (finmap.from_entries all) name ports
makes_all slots roster name ports left all none sorted h = record {
  linked = h.linked;
  rows =
      sym (append-nil (rows_of slots ports))
      ∙ (ap (λ (es : List PortEntry). rows_of slots ports ++ filter_map (port_of roster name) es) (sym none)
      ∙ (h.rows ∙ ap (λ (es : List PortEntry). filter_map (port_of roster name) es) (sym
      (entries_same port_cmp_total all sorted))));
}
