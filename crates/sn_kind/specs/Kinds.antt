-- What an app of any class is: its class, what it needs of its context, the places that it keeps, and its state.
use Rattle.std.specs.Prelude.{ℕ, ◌<◌, ◌≡◌}
use Rattle.std.proofs.Common.{refl}
use Rattle.sn_core.specs.declared.events.Side.TheVariants.{Rx, Tx}
use Rattle.sn_names.specs.declared.class.Class.{Class}
use Rattle.sn_names.specs.declared.class.Class.TheVariants as class
use Rattle.sn_packet.specs.Hold.{among}
use Rattle.sn_app.specs.Answers.{Stays}
use Rattle.sn_app.specs.Apps as app
use Rattle.sn_app.specs.Apps.{AppState}
use Rattle.sn_app.specs.Desk.{Tray}
use Rattle.sn_app.specs.Hands.{packets_at}
use Rattle.sn_app.specs.World.{Used, nowhere}
use Rattle.sn_basic.specs.Counts.{HasRow, HasRow-stays}
use Rattle.sn_basic.specs.Kept.{repeater_stays}
use Rattle.sn_edge.specs.Needs.{CanRead, CanRead-stays, CanWrite, CanWrite-stays, HasEnd, HasEnd-stays}
use Rattle.sn_edge.specs.Needs.{reader_at, reader_at-stays}
use Rattle.sn_kind.specs.declared.kind.AppKind.{AppKind}
use Rattle.sn_kind.specs.declared.kind.AppKind.TheVariants.{ByteFilter, Join, PcapReader, PcapWriter, Receiver, Repeater, Sample}
use Rattle.sn_kind.specs.declared.kind.AppKind.TheVariants.{Sink, Source, Split, Tee, Transmitter, Truncate}

-- the class of an app
abbrev pub kind_class : AppKind → Class
kind_class (Source a) = class.Source
kind_class (Sink a) = class.Sink
kind_class (Tee a) = class.Tee
kind_class (Join a) = class.Join
kind_class (Split a) = class.Split
kind_class (Repeater a) = class.Repeater
kind_class (Truncate a) = class.Truncate
kind_class (Sample a) = class.Sample
kind_class (ByteFilter a) = class.ByteFilter
kind_class (PcapReader a) = class.PcapReader
kind_class (PcapWriter a) = class.PcapWriter
kind_class (Receiver a) = class.Receiver
kind_class (Transmitter a) = class.Transmitter

-- What an app needs of its context: its row is there, and so is what its argument named.
abbrev pub kind_can_run : AppKind → Tray → Type 0
kind_can_run (Source a) t = HasRow a.row t
kind_can_run (Sink a) t = HasRow a.row t
kind_can_run (Tee a) t = HasRow a.row t
kind_can_run (Join a) t = HasRow a.row t
kind_can_run (Split a) t = HasRow a.row t
kind_can_run (Repeater a) t = HasRow a.row t
kind_can_run (Truncate a) t = HasRow a.row t
kind_can_run (Sample a) t = HasRow a.row t
kind_can_run (ByteFilter a) t = HasRow a.row t
kind_can_run (PcapReader a) t = CanRead a.row a.capture a.at t
kind_can_run (PcapWriter a) t = CanWrite a.row a.file t
kind_can_run (Receiver a) t = HasEnd a.row a.lane Rx t
kind_can_run (Transmitter a) t = HasEnd a.row a.lane Tx t

-- how often a place is among those that an app keeps: a repeater alone keeps any
abbrev pub kind_places : AppKind → ℕ → ℕ
kind_places (Source a) = nowhere
kind_places (Sink a) = nowhere
kind_places (Tee a) = nowhere
kind_places (Join a) = nowhere
kind_places (Split a) = nowhere
kind_places (Repeater a) = among a.kept.items
kind_places (Truncate a) = nowhere
kind_places (Sample a) = nowhere
kind_places (ByteFilter a) = nowhere
kind_places (PcapReader a) = nowhere
kind_places (PcapWriter a) = nowhere
kind_places (Receiver a) = nowhere
kind_places (Transmitter a) = nowhere

-- an app as a desk sees it
abbrev pub kind_state : AppKind → Used → Tray → AppState
kind_state (Source a) used t = app.source a.row a.size
kind_state (Sink a) used t = app.sink a.row
kind_state (Tee a) used t = app.tee a.row
kind_state (Join a) used t = app.join a.row
kind_state (Split a) used t = app.split a.row
kind_state (Repeater a) used t = app.repeater a.row (packets_at used a.kept.items) a.next
kind_state (Truncate a) used t = app.truncate a.row a.most
kind_state (Sample a) used t = app.sample a.row a.n a.seen
kind_state (ByteFilter a) used t = app.byte_filter a.row a.offset a.value
kind_state (PcapReader a) used t = reader_at a.row a.capture a.at t
kind_state (PcapWriter a) used t = app.pcap_writer a.row a.file
kind_state (Receiver a) used t = app.receiver a.row a.lane
kind_state (Transmitter a) used t = app.transmitter a.row a.lane

-- others' calls leave what an app needs
pub kind_stays : (kind : AppKind) (t s : Tray) → Stays t s → kind_can_run kind t → kind_can_run kind s
kind_stays (Source a) t s stays h = HasRow-stays a.row t s stays h
kind_stays (Sink a) t s stays h = HasRow-stays a.row t s stays h
kind_stays (Tee a) t s stays h = HasRow-stays a.row t s stays h
kind_stays (Join a) t s stays h = HasRow-stays a.row t s stays h
kind_stays (Split a) t s stays h = HasRow-stays a.row t s stays h
kind_stays (Repeater a) t s stays h = HasRow-stays a.row t s stays h
kind_stays (Truncate a) t s stays h = HasRow-stays a.row t s stays h
kind_stays (Sample a) t s stays h = HasRow-stays a.row t s stays h
kind_stays (ByteFilter a) t s stays h = HasRow-stays a.row t s stays h
kind_stays (PcapReader a) t s stays h = CanRead-stays a.row a.capture a.at t s stays h
kind_stays (PcapWriter a) t s stays h = CanWrite-stays a.row a.file t s stays h
kind_stays (Receiver a) t s stays h = HasEnd-stays a.row a.lane Rx t s stays h
kind_stays (Transmitter a) t s stays h = HasEnd-stays a.row a.lane Tx t s stays h

-- and, where the packets at its places stay, its state
pub kind_keeps : (kind : AppKind) (u v : Used) (t s : Tray) → Stays t s
    → ((place : ℕ) → 0 < kind_places kind place → v place ≡ u place) → kind_state kind v s ≡ kind_state kind u t
kind_keeps (Source a) u v t s stays same = refl
kind_keeps (Sink a) u v t s stays same = refl
kind_keeps (Tee a) u v t s stays same = refl
kind_keeps (Join a) u v t s stays same = refl
kind_keeps (Split a) u v t s stays same = refl
kind_keeps (Repeater a) u v t s stays same = repeater_stays a.row a.next a.kept.items u v same
kind_keeps (Truncate a) u v t s stays same = refl
kind_keeps (Sample a) u v t s stays same = refl
kind_keeps (ByteFilter a) u v t s stays same = refl
kind_keeps (PcapReader a) u v t s stays same = reader_at-stays a.row a.capture a.at t s stays
kind_keeps (PcapWriter a) u v t s stays same = refl
kind_keeps (Receiver a) u v t s stays same = refl
kind_keeps (Transmitter a) u v t s stays same = refl
