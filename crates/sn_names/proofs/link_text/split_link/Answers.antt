use Rattle.std.proofs.Common.{arith, length, ◌<◌, ◌∙◌, ◌∷◌, []}
use Rattle.std.proofs.lemmas.Bool.Decides.{nat_tests}
use Rattle.std.proofs.lemmas.Result.{err_from_is_err_and}
use Rattle.sn_names.specs.Parts.Part.{Spaces}
use Rattle.sn_names.specs.Parts.{arrow_parts, port_parts}
use Rattle.sn_names.proofs.Reading.{left-nothing}
use Rattle.sn_names.proofs.link_text.split_link.Goals as goal

pub returns-in_err-to-clause-fault : goal.returns-in_err-to-clause-fault
returns-in_err-to-clause-fault c =
    let p = err_from_is_err_and c.from_residual-in_err-to.result c.from_residual-in_err-to.ensures.1 in
    rw (p.1, p.2)
    (c.after_spaces.ensures.goes_on (port_parts (arrow_parts (port_parts (Spaces ∷ []))))
    ∙ c.in_ok-from.ensures.goes_on (arrow_parts (port_parts (Spaces ∷ [])))
    ∙ c.in_ok-after_arrow.ensures.goes_on (port_parts (Spaces ∷ []))
    ∙ c.in_err-to.ensures.fault (Spaces ∷ []))

pub returns-then-not-is_empty-clause-fault : goal.returns-then-not-is_empty-clause-fault
returns-then-not-is_empty-clause-fault c =
    let some : 0 < length c.after_spaces-rest.result.now = grind (arith, nat_tests) in
    c.after_spaces.ensures.goes_on (port_parts (arrow_parts (port_parts (Spaces ∷ []))))
    ∙ c.in_ok-from.ensures.goes_on (arrow_parts (port_parts (Spaces ∷ [])))
    ∙ c.in_ok-after_arrow.ensures.goes_on (port_parts (Spaces ∷ []))
    ∙ c.in_ok-to.ensures.goes_on (Spaces ∷ [])
    ∙ c.after_spaces-rest.ensures.goes_on []
    ∙ left-nothing c.after_spaces-rest.result.now some
