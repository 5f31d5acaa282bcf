use Rattle.std.proofs.Common.{Some, ap, arith, length, subst, sym, ◌-◌, ◌∙◌, ◌≡◌}
use Rattle.sn_names.proofs.Links.{left_within, link_first_fault, link_goes, one_link}
use Rattle.sn_names.specs.FirstFault.{IsFirstFault}
use Rattle.sn_names.specs.LinkText.{IsLinkText, IsSomeLinkText}
use Rattle.sn_names.proofs.link.LinkSpec.parse.Goals as goal

pub overflow_sub-result : goal.overflow_sub-result
overflow_sub-result c = left_within c.args.text.now c.in-Err.rest c.in-Err.ensures.fault

pub returns-in-Err-clause-fault : goal.returns-in-Err-clause-fault
returns-in-Err-clause-fault c n e =
    let same : length c.args.text.now - c.in-Err.rest ≡ n = cc in
    subst (IsFirstFault IsSomeLinkText c.args.text.now) same (link_first_fault c.args.text.now c.in-Err.rest c.in-Err.ensures.fault)

pub returns-in-Err-clause-rest : goal.returns-in-Err-clause-rest
returns-in-Err-clause-rest c n e =
    let within = left_within c.args.text.now c.in-Err.rest c.in-Err.ensures.fault in
    let at : length c.args.text.now - c.in-Err.rest ≡ n = cc in
    c.in-Err.ensures.fault ∙ ap Some (omega arith)

pub returns-clause-whole : goal.returns-clause-whole
returns-clause-whole c = link_goes c.args.text.now (_, c.in-Ok.ensures.link)

pub returns-in_err-between-clause-memory : goal.returns-in_err-between-clause-memory
returns-in_err-between-clause-memory c _ = (_, c.in-Ok.ensures.link)

pub returns-in_err-between-clause-starved : goal.returns-in_err-between-clause-starved
returns-in_err-between-clause-starved c _ = link_goes c.args.text.now (_, c.in-Ok.ensures.link)

pub returns-clause-read : goal.returns-clause-read
returns-clause-read c = subst (IsLinkText c.args.text.now) (sym c.in_ok-between.ensures) c.in-Ok.ensures.link

pub returns-clause-only : goal.returns-clause-only
returns-clause-only c other h =
    one_link c.args.text.now other _ h (subst (IsLinkText c.args.text.now) (sym c.in_ok-between.ensures) c.in-Ok.ensures.link)
