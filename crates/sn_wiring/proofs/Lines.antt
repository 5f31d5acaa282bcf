-- Which links of a roster stand in the slab, by their rows.
use Rattle.std.specs.FinSet as finset
use Rattle.std.proofs.Common.{Bool, List, Option, [], ap, false, get_or, not, refl, subst, sym, true, ℕ, ◌&&◌, ◌∙◌, ◌≡◌, ◌≢◌}
use Rattle.std.proofs.Common.{◌||◌, bytes_eq, inl, inr}
use Rattle.std.proofs.lemmas.Bool.{and_parts}
use Rattle.std.proofs.lemmas.Bool.Decides.{eqb_tells}
use Rattle.std.proofs.lemmas.List.Sums.{passes_at_first}
use Rattle.std.proofs.lemmas.Slice.Eq.{bytes_eq-Decides}
use Rattle.std.specs.Cmp.{eq_by_cmp_equiv}
use Rattle.std.specs.Ordering.{eq_by_cmp}
use Rattle.sn_actions.proofs.FiniteMaps.{equal_from}
use Rattle.sn_app.specs.Calls.{HasLink, row_of_link, same_link}
use Rattle.sn_app.specs.World.{rows_in}
use Rattle.sn_link.specs.Link.{Line}
use Rattle.sn_names.specs.LinkOrder.{exact_links, link_cmp, link_cmp_total}
use Rattle.sn_names.specs.declared.link.LinkSpec.{LinkSpec}
use Rattle.sn_wiring.proofs.Rows.{no_rows}
use Rattle.sn_wiring.specs.Links.{HasLines, one_if}

-- links of the same four names are the same
pub names_same : (a b : LinkSpec) → same_link a b ≡ true → a ≡ b
names_same a b h =
    let from = and_parts (bytes_eq a.from b.from) (bytes_eq a.out b.out && (bytes_eq a.to b.to && bytes_eq a.input b.input)) h in
    let out = and_parts (bytes_eq a.out b.out) (bytes_eq a.to b.to && bytes_eq a.input b.input) from.1 in
    let to = and_parts (bytes_eq a.to b.to) (bytes_eq a.input b.input) out.1 in
    λ i. record {
      from = (bytes_eq-Decides a.from b.from).0 from.0 i;
      out = (bytes_eq-Decides a.out b.out).0 out.0 i;
      to = (bytes_eq-Decides a.to b.to).0 to.0 i;
      input = (bytes_eq-Decides a.input b.input).0 to.1 i;
    }

-- two links of a roster that have one row are the same
pub link_at_row : (roster : List LinkSpec) (link d : LinkSpec) → HasLink roster link
    → get_or roster (row_of_link roster link) d ≡ link
link_at_row roster link d has = sym (names_same link (get_or roster (row_of_link roster link) d) (passes_at_first
    (same_link link) roster d has))

pub same_row : (roster : List LinkSpec) (a b : LinkSpec) → HasLink roster a → HasLink roster b
    → row_of_link roster a ≡ row_of_link roster b → a ≡ b
same_row roster a b first second same =
    sym (link_at_row roster a a first) ∙ (ap (λ row. get_or roster row a) same ∙ link_at_row roster b a second)

-- no link stands in an empty slab
pub no_lines : (roster : List LinkSpec) → HasLines roster [] finset.empty
no_lines roster = record {
  lines = λ link has. no_rows (row_of_link roster link) ∙ ap one_if (sym (finset.contains-empty link_cmp link));
}

tied : (a b : LinkSpec) → eq_by_cmp link_cmp a b ≡ true → a ≡ b
tied a b h = exact_links a b (equal_from (link_cmp a b) h)

tied_self : (a b : LinkSpec) → a ≡ b → eq_by_cmp link_cmp a b ≡ true
tied_self a b e = subst (λ x. eq_by_cmp link_cmp a x ≡ true) e ((eq_by_cmp_equiv link_cmp_total).refl a)

not_tied : (a b : LinkSpec) → a ≢ b → eq_by_cmp link_cmp a b ≡ false
not_tied a b apart = by (eq_by_cmp link_cmp a b) refl
  where
    by : (t : Bool) → eq_by_cmp link_cmp a b ≡ t → eq_by_cmp link_cmp a b ≡ false
    by true e = absurd (apart (tied a b e))
    by false e = e

module _ (roster : List LinkSpec) (old new : List (Option Line)) (link : LinkSpec) (some : finset.FinSet link_cmp)
    (has : HasLink roster link)
    (others : (row : ℕ) → row ≢ row_of_link roster link → rows_in row new ≡ rows_in row old) (h : HasLines roster old some) where
  -- a link comes
  pub lines_come : rows_in (row_of_link roster link) new ≡ 1 → HasLines roster new (finset.insert some link)
  lines_come here = record {
    lines = λ other there. elim (eqb_tells (row_of_link roster other) (row_of_link roster link)) [
      | inl same ↦
          let is : other ≡ link = same_row roster other link there has same.1 in
          ap (λ row. rows_in row new) same.1 ∙ (here ∙ sym (ap one_if (finset.contains-insert link_cmp_total some link other
          ∙ ap (λ b. b || finset.contains some other) (tied_self other link is))))
      | inr apart ↦
          let is : other ≢ link = λ e. apart.1 (ap (row_of_link roster) e) in
          others (row_of_link roster other) apart.1
          ∙ (h.lines other there ∙ sym (ap one_if (finset.contains-insert link_cmp_total some link other
          ∙ ap (λ b. b || finset.contains some other) (not_tied other link is))))
    ];
  }

  -- a link goes
  pub lines_go : rows_in (row_of_link roster link) new ≡ 0 → HasLines roster new (finset.remove some link)
  lines_go gone = record {
    lines = λ other there. elim (eqb_tells (row_of_link roster other) (row_of_link roster link)) [
      | inl same ↦
          let is : other ≡ link = same_row roster other link there has same.1 in
          ap (λ row. rows_in row new) same.1 ∙ (gone ∙ sym (ap one_if (finset.contains-remove link_cmp_total some link other
          ∙ ap (λ b. not b && finset.contains some other) (tied_self other link is))))
      | inr apart ↦
          let is : other ≢ link = λ e. apart.1 (ap (row_of_link roster) e) in
          others (row_of_link roster other) apart.1
          ∙ (h.lines other there ∙ sym (ap one_if (finset.contains-remove link_cmp_total some link other
          ∙ ap (λ b. not b && finset.contains some other) (not_tied other link is))))
    ];
  }
