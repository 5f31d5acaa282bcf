-- An entry of the worker's own tells of no shared object and of no packet.
use Rattle.std.proofs.Common.{◌≡◌, true, refl}
use Rattle.sn_journal.specs.declared.entry.Entry.{Entry}
use Rattle.sn_journal.specs.declared.entry.Entry.TheVariants.{Attach, Breath, Close, Detach, Drain, Dry, Full, Gave, Got, Hear}
use Rattle.sn_journal.specs.declared.entry.Entry.TheVariants.{Put, Reclaimed, Reset, Restart, Room, Round, Seen, Spent, Stop}
use Rattle.sn_journal.specs.declared.entry.Entry.TheVariants.{Take, Unattached, Worn}
use Rattle.sn_seat.specs.Notes.{IsPlain}
use Rattle.sn_worker.specs.Own.{is_own}

pub own_plain : (entry : Entry) → is_own entry ≡ true → IsPlain entry
own_plain (Round number) own = record { lane = refl; group = refl; heard = refl; received = refl; released = refl }
own_plain (Hear due) own = absurd cc
own_plain Breath own = record { lane = refl; group = refl; heard = refl; received = refl; released = refl }
own_plain (Attach lane found) own = absurd cc
own_plain (Unattached lane loaded found) own = absurd cc
own_plain (Detach lane old) own = absurd cc
own_plain (Reset lane) own = absurd cc
own_plain (Seen lane n) own = absurd cc
own_plain (Room lane n) own = absurd cc
own_plain (Put lane at packet turn bytes) own = absurd cc
own_plain (Take lane at packet turn bytes) own = absurd cc
own_plain (Drain lane at packet turn) own = absurd cc
own_plain (Got packet turn) own = absurd cc
own_plain Dry own = absurd cc
own_plain (Gave packet turn) own = absurd cc
own_plain (Full packet turn) own = absurd cc
own_plain (Worn packet turn) own = absurd cc
own_plain Spent own = record { lane = refl; group = refl; heard = refl; received = refl; released = refl }
own_plain Stop own = absurd cc
own_plain Close own = absurd cc
own_plain Reclaimed own = absurd cc
own_plain Restart own = absurd cc
