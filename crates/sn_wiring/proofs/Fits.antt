-- Which rows the links of a slab have, as links come and go, and where their rows stay.
use Rattle.std.proofs.Common.{IsSome, List, None, Option, Some, [], ap, arith, cond, get_or, inl, inr, length, refl, subst, sym}
use Rattle.std.proofs.Common.{ℕ, ◌<◌, ◌∙◌, ◌==◌, ◌≡◌, ◌≢◌, ◌≤◌}
use Rattle.std.proofs.lemmas.Bool.{cases_lt, true≢false}
use Rattle.std.proofs.lemmas.Bool.Decides.{eqb_tells}
use Rattle.std.specs.FinSet as finset
use Rattle.std.specs.Prelude.{unwrap_or}
use Rattle.sn_app.specs.Calls.{HasLink, row_of_link}
use Rattle.sn_app.specs.Ports.{KeepsRows}
use Rattle.sn_app.specs.World.{has_row, rows_in}
use Rattle.sn_link.specs.Link.{Line, new_line}
use Rattle.sn_names.specs.LinkOrder.{link_cmp}
use Rattle.sn_names.specs.declared.link.LinkSpec.{LinkSpec}
use Rattle.sn_wiring.proofs.Opened.{same_sum}
use Rattle.sn_wiring.proofs.Rows.{no_rows, row_within}
use Rattle.sn_wiring.specs.Links.{FitsRoster, HasLines, SameRows, row_there, slot_at}

-- a link's row is one of the roster
pub named_row : (roster : List LinkSpec) (slots : List (Option Line)) (key : ℕ) (line : Line) → FitsRoster roster slots
    → get_or slots key None ≡ Some line → line.row < length roster
named_row roster slots key line fits there = elim (cases_lt line.row (length roster)) [
  | inl within ↦ within
  | inr past ↦ absurd (let none = fits.named line.row past in omega (arith, none, row_within slots key line there))
]

-- no link at all
pub none_fits : (roster : List LinkSpec) → FitsRoster roster []
none_fits roster = record { named = λ row past. no_rows row; once = λ row. omega (arith, no_rows row) }

module _ (roster : List LinkSpec) (old new : List (Option Line)) (link : LinkSpec) (has : HasLink roster link)
    (others : (row : ℕ) → row ≢ row_of_link roster link → rows_in row new ≡ rows_in row old) (fits : FitsRoster roster old) where
  named_past : (row : ℕ) → length roster ≤ row → rows_in row new ≡ 0
  named_past row past = others row (λ e. omega (arith, e, has, past)) ∙ fits.named row past

  once_with : rows_in (row_of_link roster link) new ≤ 1 → (row : ℕ) → rows_in row new ≤ 1
  once_with here row = elim (eqb_tells row (row_of_link roster link)) [
    | inl same ↦ subst (λ r. rows_in r new ≤ 1) (sym same.1) here
    | inr apart ↦ omega (arith, others row apart.1, fits.once row)
  ]

  -- a link comes, and one goes
  pub fits_come : rows_in (row_of_link roster link) new ≡ 1 → FitsRoster roster new
  fits_come here = record { named = named_past; once = once_with (omega (arith, here)) }

  pub fits_go : rows_in (row_of_link roster link) new ≡ 0 → FitsRoster roster new
  fits_go gone = record { named = named_past; once = once_with (omega (arith, gone)) }

-- WHERE ROWS STAY

abbrev counts_row : ℕ → Option ℕ → ℕ
counts_row row None = 0
counts_row row (Some there) = cond (there == row) 1 0

row_counted : (row : ℕ) (slot : Option Line) → has_row row slot ≡ counts_row row (row_there slot)
unfolding has_row
row_counted row None = refl
row_counted row (Some line) = refl

pub rows_same : (old new : List (Option Line)) → SameRows old new → (row : ℕ) → rows_in row new ≡ rows_in row old
unfolding rows_in has_row
rows_same old new same row = same_sum (has_row row) refl old new (λ key.
    row_counted row (get_or new key None) ∙ (ap (counts_row row) (same.rows key) ∙ sym (row_counted row (get_or old key None))))

pub lines_stay : (roster : List LinkSpec) (old new : List (Option Line)) (some : finset.FinSet link_cmp) → SameRows old new
    → HasLines roster old some → HasLines roster new some
lines_stay roster old new some same h = record {
  lines = λ link has. rows_same old new same (row_of_link roster link) ∙ h.lines link has;
}

pub fits_stays : (roster : List LinkSpec) (old new : List (Option Line)) → SameRows old new → FitsRoster roster old
    → FitsRoster roster new
fits_stays roster old new same h = record {
  named = λ row past. rows_same old new same row ∙ h.named row past;
  once = λ row. omega (arith, rows_same old new same row, h.once row);
}

abbrev row_or_none : Option ℕ → ℕ
row_or_none None = 0
row_or_none (Some row) = row

row_seen : (slot : Option Line) → (unwrap_or slot (new_line 0)).row ≡ row_or_none (row_there slot)
row_seen None = refl
row_seen (Some line) = refl

there_too : (a b : Option Line) → row_there b ≡ row_there a → IsSome a → IsSome b
there_too None b e some = absurd (true≢false (sym some))
there_too (Some x) None e some = absurd cc
there_too (Some x) (Some y) e some = refl

none_too : (a b : Option Line) → row_there b ≡ row_there a → a ≡ None → b ≡ None
none_too None None e gone = refl
none_too None (Some y) e gone = absurd cc
none_too (Some x) b e gone = absurd cc

-- as an app's call says it
pub same_keeps : (old new : List (Option Line)) → SameRows old new → KeepsRows old new
same_keeps old new same = record {
  rows = λ key. row_seen (slot_at new key) ∙ (ap row_or_none (same.rows key) ∙ sym (row_seen (slot_at old key)));
  held = λ key some. there_too (slot_at old key) (slot_at new key) (same.rows key) some;
  none = λ key gone. none_too (slot_at old key) (slot_at new key) (same.rows key) gone;
}

by_both : (a b : Option Line) → (unwrap_or b (new_line 0)).row ≡ (unwrap_or a (new_line 0)).row → (IsSome a → IsSome b)
    → (a ≡ None → b ≡ None) → row_there b ≡ row_there a
by_both None None rows held none = refl
by_both None (Some y) rows held none = ap row_there (none refl)
by_both (Some x) None rows held none = absurd (true≢false (sym (held refl)))
by_both (Some x) (Some y) rows held none = ap Some rows

pub keeps_same : (old new : List (Option Line)) → KeepsRows old new → SameRows old new
keeps_same old new keeps = record {
  rows = λ key. by_both (slot_at old key) (slot_at new key) (keeps.rows key) (keeps.held key) (keeps.none key);
}
