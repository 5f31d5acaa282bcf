use Rattle.sn_manager.specs.Managers.{due_in, speakers_in}
use Rattle.sn_manager.proofs.SaidTo.{SaidTo}
use Rattle.sn_manager.proofs.manager.Manager.round.Given as goal

-- the numbers of the workers before this one were said
abbrev pub invariant-loop-worker : goal.invariant-loop-worker
invariant-loop-worker l = record {
  to :
      SaidTo (due_in l.fn.scenario l.fn.round) l.fn.shared.channels.items l.worker (speakers_in l.fn.self) (speakers_in l.self);
}
