use Rattle.std.proofs.Common.{◌≤◌, All, subst, sym}
use Rattle.sn_channel.specs.Ends.{IsRising, IsSaid, last_said}
use Rattle.sn_seat.proofs.ledger.Ledger.meet.Goals as goal

pub returns-clause-among : goal.returns-clause-among
returns-clause-among c =
    subst (All (IsSaid c.args.speaker.now.said)) (sym c.args.self.now.told.listened) c.meet.ensures.among

pub returns-clause-most : goal.returns-clause-most
returns-clause-most c =
    subst (All (λ n. n ≤ last_said c.args.speaker.now.said)) (sym c.args.self.now.told.listened) c.meet.ensures.most

pub returns-clause-rises : goal.returns-clause-rises
returns-clause-rises c = subst IsRising (sym c.args.self.now.told.listened) c.meet.ensures.rises
