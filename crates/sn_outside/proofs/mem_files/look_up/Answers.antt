-- The file at the loop's place is the one asked for, or is passed over.
use Rattle.std.proofs.Common.{◌≡◌, ap, sym, ◌∙◌, refl, Some, true, false}
use Rattle.sn_outside.proofs.Entries.{get_here, get_later, get_nowhere}
use Rattle.sn_outside.proofs.mem_files.look_up.Goals as goal

pub returns-then-is_named : goal.returns-then-is_named
returns-then-is_named c =
    ap Some c.deref.ensures.value
    ∙ sym (get_here (λ f. (f.0, f.1.items)) _ _ _ _ c.loop-held-test.true c.loop-held-item.is (sym ((c.if-is_named.ensures).0 refl)))
    ∙ c.loop-held.invariant

pub loop-held-preserved : goal.loop-held-preserved
loop-held-preserved c =
    get_later (λ f. (f.0, f.1.items)) _ _ _ _ c.loop-held-test.true c.loop-held-item.is (λ same. let no_name : false ≡ true = (c.if-is_named.ensures).1 (sym same) in cc)
    ∙ c.loop-held.invariant

pub returns : goal.returns
returns c = sym (get_nowhere (λ f. (f.0, f.1.items)) _ _ _ c.loop-held-test.false) ∙ c.loop-held.invariant
