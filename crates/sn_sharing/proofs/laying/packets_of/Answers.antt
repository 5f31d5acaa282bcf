use Rattle.std.proofs.Common.{map, sym, ap, ap₂, ◌∙◌, ◌++◌, ◌∷◌, []}
use Rattle.std.proofs.lemmas.List.{map_push}
use Rattle.sn_group.specs.Cells.{named}
use Rattle.sn_sharing.proofs.PoolTurns.{pool_more}
use Rattle.sn_sharing.proofs.laying.packets_of.Goals as goal

pub loop-number-preserved : goal.loop-number-preserved
loop-number-preserved c =
    ap (map named) c.in_ok-push.ensures.items
    ∙ (map_push named c.loop-number.packets.items c.in_ok-new.field-0
    ∙ (ap₂ (λ l x. l ++ x ∷ []) c.loop-number.invariant (ap named c.in_ok-new.ensures) ∙ sym (pool_more c.loop-number.number)))
