use Rattle.std.proofs.Common.{refl}
use Rattle.sn_sharing.proofs.LaidTurns.{end_more, end_same}
use Rattle.sn_sharing.proofs.laying.add_rx.Goals as goal

pub returns-clause-rx : goal.returns-clause-rx
returns-clause-rx c =
    end_more (λ ends. ends.rx.items) c.args.all.now.items c.args.worker c.index_mut.result.now _ (c.args.number, c.args.end)
    c.requires c.index_mut.ensures.value c.in_ok-push.ensures.items

pub returns-clause-tx : goal.returns-clause-tx
returns-clause-tx c =
    end_same (λ ends. ends.tx.items) c.args.all.now.items c.args.worker c.index_mut.result.now _ c.index_mut.ensures.value refl
