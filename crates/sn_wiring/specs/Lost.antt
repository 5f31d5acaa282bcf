-- What the links of a lost network leave.
use Rattle.std.specs.Prelude.{List, None, Option, Some, [], suc, ℕ, ◌∷◌}
use Rattle.sn_app.specs.Counts.{with_added}
use Rattle.sn_app.specs.Desk.{Desk, Queue}
use Rattle.sn_link.specs.declared.counts.LinkCounts.{LinkCounts}

-- counts with those of a queue added, if there is one
abbrev pub with_counts_of : Option Queue → LinkCounts → LinkCounts
with_counts_of None counts = counts
with_counts_of (Some queue) counts = with_added queue.counts counts

-- the counts of the rows from this one on, each with those of its queue added
abbrev pub with_all_counts : (ℕ → Option Queue) → ℕ → List LinkCounts → List LinkCounts
with_all_counts queues row [] = []
with_all_counts queues row (counts ∷ more) = with_counts_of (queues row) counts ∷ with_all_counts queues (suc row) more

-- the counts of all links are kept, and no queue stands any more
abbrev pub lost : Desk → Desk
lost d =
    record {
      tray = record d.tray { counters = record d.tray.counters { links = with_all_counts d.queues 0 d.tray.counters.links } };
      queues = λ row. None;
    }
