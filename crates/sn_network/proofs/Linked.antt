-- The links of a plain form that took an action, and those of the slab.
use Rattle.std.specs.FinSet as finset
use Rattle.std.proofs.Common.{◌≡◌, Bool, true, false, not, ◌&&◌, ◌||◌, List, ℕ, Option, Result, Ok, refl, sym, ap, subst, ◌∙◌}
use Rattle.sn_actions.specs.PlainForms.{PlainForm}
use Rattle.sn_actions.specs.Plains.{apply}
use Rattle.sn_actions.specs.declared.action.Action.{Action}
use Rattle.sn_actions.specs.declared.action.Action.TheVariants.{FreeLink, NewLink}
use Rattle.std.specs.Ordering.{eq_by_cmp}
use Rattle.sn_app.specs.Calls.{HasLink, row_of_link}
use Rattle.sn_app.specs.Desk.{Tray, roster_of}
use Rattle.sn_app.specs.Reader.{Meaning}
use Rattle.sn_app.specs.Runs.{Runs}
use Rattle.sn_app.specs.World.{Used, desk_of, rows_in, world}
use Rattle.sn_app.specs.declared.halt.Halt.{Halt}
use Rattle.sn_app.proofs.Running.{runs_look}
use Rattle.sn_link.specs.Link.{Line}
use Rattle.sn_names.specs.LinkOrder.{exact_links, link_cmp, link_cmp_total}
use Rattle.sn_names.specs.declared.link.LinkSpec.{LinkSpec}
use Rattle.sn_actions.proofs.FiniteMaps.{equal_from}
use Rattle.sn_wiring.specs.Links.{FitsRoster, HasLines, closes, one_if, opens}
use Rattle.sn_network.specs.Acting.{freeing, opening}
use Rattle.sn_network.specs.Standing.{HasPlainLinks}
use Rattle.sn_network.proofs.Taken.{taken_free, taken_new}

-- the roster stays
pub roster_kept : {R : Type 0} {m : Meaning R} {r : Result R Halt} {before after : ℕ → ℕ} (t s : Tray) (u v : Used)
    (slots later : List (Option Line))
    → Runs m (world t u slots) (world s v later) before after r → (roster_of s).links ≡ (roster_of t).links
unfolding desk_of
roster_kept t s u v slots later run = ap (λ constants. constants.roster.links) run.answers.stays.constants

module _ (slots : List (Option Line)) (roster : List LinkSpec) (link : LinkSpec) (plain after : PlainForm) (action : Action)
    (taken : apply action plain ≡ Ok after) (has : HasPlainLinks slots plain.links roster) where
  module _ (is : action ≡ FreeLink link) where
    there : finset.contains plain.links link ≡ true
    there = (taken_free link plain after (ap (λ a. apply a plain) (sym is) ∙ taken)).passed

    pub free_listed : HasLink roster link
    free_listed = has.listed link there

    pub free_stands : rows_in (row_of_link roster link) slots ≡ 1
    free_stands = has.lines.lines link free_listed ∙ ap one_if there

    pub free_links : (later : List (Option Line))
        → ((some : finset.FinSet link_cmp) → HasLines roster slots some → HasLines roster later (finset.remove some link))
        → (FitsRoster roster slots → FitsRoster roster later) → HasPlainLinks later after.links roster
    free_links later lines fits =
        subst (λ (p : PlainForm). HasPlainLinks later p.links roster)
        (sym (taken_free link plain after (ap (λ a. apply a plain) (sym is) ∙ taken)).is)
        (record {
          lines = lines plain.links has.lines;
          fits = fits has.fits;
          listed = λ other stays. has.listed other
              (was other (sym (finset.contains-remove link_cmp_total plain.links link other) ∙ stays));
        })
      where
        was : (other : LinkSpec) → (not (eq_by_cmp link_cmp other link) && finset.contains plain.links other) ≡ true
            → finset.contains plain.links other ≡ true
        was other e = by (not (eq_by_cmp link_cmp other link)) e
          where
            by : (b : Bool) → (b && finset.contains plain.links other) ≡ true → finset.contains plain.links other ≡ true
            by true h = h
            by false h = absurd cc

  module _ (is : action ≡ NewLink link) (named : HasLink roster link) where
    new_absent : finset.contains plain.links link ≡ false
    new_absent = (taken_new link plain after (ap (λ a. apply a plain) (sym is) ∙ taken)).failed

    pub new_free : rows_in (row_of_link roster link) slots ≡ 0
    new_free = has.lines.lines link named ∙ ap one_if new_absent

    pub new_links : (later : List (Option Line))
        → ((some : finset.FinSet link_cmp) → HasLines roster slots some → HasLines roster later (finset.insert some link))
        → (FitsRoster roster slots → FitsRoster roster later) → HasPlainLinks later after.links roster
    new_links later lines fits =
        subst (λ (p : PlainForm). HasPlainLinks later p.links roster)
        (sym (taken_new link plain after (ap (λ a. apply a plain) (sym is) ∙ taken)).is)
        (record {
          lines = lines plain.links has.lines;
          fits = fits has.fits;
          listed = λ other stays. one_of other (eq_by_cmp link_cmp other link) refl
              (sym (finset.contains-insert link_cmp_total plain.links link other) ∙ stays);
        })
      where
        one_of : (other : LinkSpec) (b : Bool) → eq_by_cmp link_cmp other link ≡ b
            → (b || finset.contains plain.links other) ≡ true
            → HasLink roster other
        one_of other true e h = subst (λ l. HasLink roster l) (sym (exact_links other link (equal_from (link_cmp other link) e)))
            named
        one_of other false e h = has.listed other h

-- the rows' runs, at the link's row
pub runs_freeing : (link : LinkSpec) (t s : Tray) (u v : Used) (slots later : List (Option Line)) (before after : ℕ → ℕ)
    (r : Result Unit Halt)
    → Runs (closes (row_of_link (roster_of t).links link)) (world t u slots) (world s v later) before after r
    → Runs (freeing link) (world t u slots) (world s v later) before after r
unfolding freeing desk_of
runs_freeing link t s u v slots later before after r run = runs_look _ run

pub runs_opening : (link : LinkSpec) (t s : Tray) (u v : Used) (slots later : List (Option Line)) (before after : ℕ → ℕ)
    (r : Result Unit Halt)
    → Runs (opens (row_of_link (roster_of t).links link)) (world t u slots) (world s v later) before after r
    → Runs (opening link) (world t u slots) (world s v later) before after r
unfolding opening desk_of
runs_opening link t s u v slots later before after r run = runs_look _ run

-- the same of an equal roster
pub links_of_roster : {slots : List (Option Line)} {links : finset.FinSet link_cmp} {roster other : List LinkSpec}
    → other ≡ roster
    → HasPlainLinks slots links roster → HasPlainLinks slots links other
links_of_roster {slots} {links} same h = subst (λ r. HasPlainLinks slots links r) (sym same) h
