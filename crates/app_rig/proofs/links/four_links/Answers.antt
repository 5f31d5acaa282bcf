-- answers of src/links.rt, four_links
use Rattle.std.proofs.Common.{[], ap, arith, subst, sym, ℕ, ◌∙◌, ◌≡◌}
use Rattle.sn_app.specs.World.{IsSound, nowhere, rows_in, world}
use Rattle.app_rig.proofs.Opening.{no_rows, none_sound}
use Rattle.app_rig.proofs.links.four_links.Goals as goal

pub add_link-requires : goal.add_link-requires
add_link-requires c = ap (rows_in 0) c.new-links.ensures.empty ∙ no_rows 0

pub add_link-requires-2 : goal.add_link-requires-2
add_link-requires-2 c =
    c.in_ok-first.ensures.rows 1 (λ e. omega (arith, e)) ∙ ap (rows_in 1) c.new-links.ensures.empty ∙ no_rows 1

pub add_link-requires-3 : goal.add_link-requires-3
add_link-requires-3 c =
    c.in_ok-second.ensures.rows 2 (λ e. omega (arith, e)) ∙ c.in_ok-first.ensures.rows 2 (λ e. omega (arith, e))
    ∙ ap (rows_in 2) c.new-links.ensures.empty ∙ no_rows 2

pub add_link-requires-4 : goal.add_link-requires-4
add_link-requires-4 c =
    c.in_ok-third.ensures.rows 3 (λ e. omega (arith, e)) ∙ c.in_ok-second.ensures.rows 3 (λ e. omega (arith, e))
    ∙ c.in_ok-first.ensures.rows 3 (λ e. omega (arith, e)) ∙ ap (rows_in 3) c.new-links.ensures.empty ∙ no_rows 3

pub returns-clause-sound : goal.returns-clause-sound
returns-clause-sound c = λ t u.
    c.in_ok-fourth.ensures.sound t u nowhere (c.in_ok-third.ensures.sound t u nowhere (c.in_ok-second.ensures.sound t u nowhere
    (c.in_ok-first.ensures.sound t u nowhere (subst (λ slots. IsSound (world t u slots) nowhere) (sym c.new-links.ensures.empty) (none_sound t u)))))
