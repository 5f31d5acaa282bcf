-- How many records of its capture an app hasn't passed.
use Rattle.std.specs.Prelude.{ℕ, ◌≡◌, List, length}
use Rattle.std.proofs.Common.{refl}
use Rattle.sn_pcap.specs.Places.{IsPlace}
use Rattle.sn_app.specs.Apps.{AppState, pcap_reader}
use Rattle.sn_app.specs.Desk.{Tray}
use Rattle.sn_app.specs.World.{Used}
use Rattle.sn_edge.specs.Unread.{bytes_in, unread_at}
use Rattle.sn_kind.specs.Kinds.{kind_can_run, kind_state}
use Rattle.sn_kind.specs.declared.kind.AppKind.{AppKind}
use Rattle.sn_kind.specs.declared.kind.AppKind.TheVariants.{ByteFilter, Join, PcapReader, PcapWriter, Receiver, Repeater, Sample}
use Rattle.sn_kind.specs.declared.kind.AppKind.TheVariants.{Sink, Source, Split, Tee, Transmitter, Truncate}

-- a reader stands at a record of its capture among these, or at its end
abbrev pub CanCount : AppKind → List (List ℕ) → Type 0
CanCount (PcapReader a) captures = IsPlace (bytes_in a.capture captures) a.at
CanCount kind captures = Unit {0}

-- how many records of its capture among these a reader hasn't passed, and 0 of all other classes
abbrev pub kind_unread : AppKind → List (List ℕ) → ℕ
kind_unread (PcapReader a) captures = unread_at a.capture a.at captures
kind_unread kind captures = 0

-- the same of an app as a desk sees it
abbrev pub unread_of : AppState → ℕ
unread_of (pcap_reader app rest) = length rest
unread_of s = 0

-- an app that can run can count over the captures of its context
pub can_count : (kind : AppKind) (t : Tray) → kind_can_run kind t → CanCount kind t.log.constants.captures
can_count (Source a) t h = tt
can_count (Sink a) t h = tt
can_count (Tee a) t h = tt
can_count (Join a) t h = tt
can_count (Split a) t h = tt
can_count (Repeater a) t h = tt
can_count (Truncate a) t h = tt
can_count (Sample a) t h = tt
can_count (ByteFilter a) t h = tt
can_count (PcapReader a) t h = h.place
can_count (PcapWriter a) t h = tt
can_count (Receiver a) t h = tt
can_count (Transmitter a) t h = tt

-- and what it counts there is what its state hasn't passed
pub unread_shown : (kind : AppKind) (used : Used) (t : Tray)
    → kind_unread kind t.log.constants.captures ≡ unread_of (kind_state kind used t)
unread_shown (Source a) used t = refl
unread_shown (Sink a) used t = refl
unread_shown (Tee a) used t = refl
unread_shown (Join a) used t = refl
unread_shown (Split a) used t = refl
unread_shown (Repeater a) used t = refl
unread_shown (Truncate a) used t = refl
unread_shown (Sample a) used t = refl
unread_shown (ByteFilter a) used t = refl
unread_shown (PcapReader a) used t = refl
unread_shown (PcapWriter a) used t = refl
unread_shown (Receiver a) used t = refl
unread_shown (Transmitter a) used t = refl
