use Rattle.sn_core.proofs.Queues.{next_of_emptied, rest_of_emptied, more_of_emptied, unreleased_of_emptied, first_of_emptied}
use Rattle.sn_core.proofs.laws.emptied_queues.Goals as goal

pub returns : goal.returns
returns c =
    record {
      count = unreleased_of_emptied;
      first = first_of_emptied;
      next = next_of_emptied;
      rest = rest_of_emptied;
      more = more_of_emptied;
    }
