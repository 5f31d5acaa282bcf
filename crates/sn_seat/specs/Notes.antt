-- Entries that tell of no shared object, and of no packet that comes or goes.
use Rattle.std.specs.Prelude.{◌≡◌, [], None}
use Rattle.sn_journal.specs.HandOvers.{received_packet, released_packet}
use Rattle.sn_journal.specs.declared.entry.Entry.{Entry}
use Rattle.sn_seat.specs.Told.{group_part, heard_part, lane_part}

pub record IsPlain (entry : Entry) : Type 0 where
  pub lane : lane_part entry ≡ None
  pub group : group_part entry ≡ []
  pub heard : heard_part entry ≡ []
  pub received : received_packet entry ≡ None
  pub released : released_packet entry ≡ None
