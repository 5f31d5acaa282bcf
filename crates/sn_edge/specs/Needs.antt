-- What each class needs of its context, and that others' calls leave it so.
use Rattle.std.specs.Prelude.{ℕ, ◌<◌, ◌≡◌, IsTrue, length}
use Rattle.std.proofs.Common.{ap, sym, subst}
use Rattle.sn_core.specs.declared.events.Side.{Side}
use Rattle.sn_pcap.specs.Places.{IsPlace, payloads_at}
use Rattle.sn_app.specs.Answers.{Stays}
use Rattle.sn_app.specs.Apps.{AppState, pcap_reader}
use Rattle.sn_app.specs.Desk.{Tray, capture_at, is_started, roster_of}

-- the row is one of the roster's apps
abbrev pub HasRow : ℕ → Tray → Type 0
HasRow row t = row < length (roster_of t).apps

row_stays : (row : ℕ) (t s : Tray) → Stays t s → HasRow row t → HasRow row s
row_stays row t s stays h = subst (λ constants. row < length constants.roster.apps) (sym stays.constants) h

-- a writer's row is there, and its file is started
pub record CanWrite (row file : ℕ) (t : Tray) : Type 0 where
  pub counts : HasRow row t
  pub started : IsTrue (is_started file t)

pub CanWrite-stays : (row file : ℕ) (t s : Tray) → Stays t s → CanWrite row file t → CanWrite row file s
CanWrite-stays row file t s stays h = record {
  counts = row_stays row t s stays h.counts;
  started = stays.started file h.started;
}

-- a capture stays where what never changes does
pub capture_kept : (capture : ℕ) (t s : Tray) → s.log.constants ≡ t.log.constants
    → capture_at capture s ≡ capture_at capture t
capture_kept capture t s same =
    ap (λ constants. capture_at capture (record t { log = record t.log { constants = constants } })) same

-- a reader's row and its capture are there, and it stands at a record or at the end
pub record CanRead (row capture at : ℕ) (t : Tray) : Type 0 where
  pub counts : HasRow row t
  pub there : capture < length (roster_of t).captures
  pub place : IsPlace (capture_at capture t) at

pub CanRead-stays : (row capture at : ℕ) (t s : Tray) → Stays t s → CanRead row capture at t
    → CanRead row capture at s
CanRead-stays row capture at t s stays h = record {
  counts = row_stays row t s stays h.counts;
  there = subst (λ constants. capture < length constants.roster.captures) (sym stays.constants) h.there;
  place = subst (λ bytes. IsPlace bytes at) (sym (capture_kept capture t s stays.constants)) h.place;
}

-- a reader as a desk has it
abbrev pub reader_at : ℕ → ℕ → ℕ → Tray → AppState
reader_at row capture at t = pcap_reader row (payloads_at (capture_at capture t) at)

pub reader_at-stays : (row capture at : ℕ) (t s : Tray) → Stays t s
    → reader_at row capture at s ≡ reader_at row capture at t
reader_at-stays row capture at t s stays =
    ap (λ bytes. pcap_reader row (payloads_at bytes at)) (capture_kept capture t s stays.constants)

-- a receiver's or a transmitter's row is there, and so is its end
pub record HasEnd (row lane : ℕ) (side : Side) (t : Tray) : Type 0 where
  pub counts : HasRow row t
  pub there : IsTrue (t.log.constants.has_end lane side)

pub HasEnd-stays : (row lane : ℕ) (side : Side) (t s : Tray) → Stays t s → HasEnd row lane side t → HasEnd row lane side s
HasEnd-stays row lane side t s stays h = record {
  counts = row_stays row t s stays h.counts;
  there = subst (λ constants. IsTrue (constants.has_end lane side)) (sym stays.constants) h.there;
}
