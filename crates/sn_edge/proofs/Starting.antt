-- What an app does when it starts or takes a new argument, as its code does it.
use Rattle.std.proofs.Common.{◌≡◌, ℕ, List, Option, Ok, Err, sym, ap, subst, ◌∙◌}
use Rattle.sn_link.specs.Link.{Line}
use Rattle.sn_pcap.specs.Places.{payloads_of}
use Rattle.sn_app.specs.Answers.{OnTray}
use Rattle.sn_app.specs.Apps.{AppState, pcap_reader, pcap_writer, reads_from, receiver, receives_from, transmitter, transmits_to, writes_to}
use Rattle.sn_app.specs.Calls.{row_of}
use Rattle.sn_app.specs.Desk.{Desk, Tray, capture_at, roster_of}
use Rattle.sn_app.specs.Reader.{pure, look}
use Rattle.sn_app.specs.Rows.{◌>>◌, row_file_start}
use Rattle.sn_app.specs.Runs.{Runs}
use Rattle.sn_app.specs.World.{Used, World, desk_of, world}
use Rattle.sn_app.specs.declared.halt.Halt.{Halt}
use Rattle.sn_app.proofs.Leaving.{runs_kept}
use Rattle.sn_app.proofs.Running.{runs_bind, runs_fail, runs_look, runs_pure}
use Rattle.sn_edge.specs.Needs.{reader_at}

-- a state by what stands on the desk
shows : {w : World} (f : Desk → AppState) (s : AppState) (mine : ℕ → ℕ) → s ≡ f (desk_of w)
    → Runs (look (λ d. pure (f d))) w w mine mine (Ok s)
shows {w} f s mine is =
    runs_look (λ d. pure (f d)) (subst (λ x. Runs (pure (f (desk_of w))) w w mine mine (Ok x)) (sym is)
    (runs_pure (f (desk_of w)) w mine))

-- a reader begins its capture
pub runs_reads_from : {t : Tray} (u : Used) (slots : List (Option Line)) (mine : ℕ → ℕ) (app capture at : ℕ)
    (name : List ℕ)
    → capture ≡ row_of (roster_of t).captures name → at ≡ 24
    → Runs (reads_from app name) (world t u slots) (world t u slots) mine mine (Ok (reader_at app capture at t))
unfolding reads_from desk_of
runs_reads_from {t} u slots mine app capture at name is first =
    let row : ℕ = row_of (roster_of t).captures name in
    shows {w = world t u slots}
    (λ d. pcap_reader app (payloads_of (capture_at (row_of (roster_of d.tray).captures name) d.tray)))
    (reader_at app capture at t) mine (ap (λ n. reader_at app n at t) is ∙ ap (λ n. reader_at app row n t) first)

-- a writer starts its file
module _ {t s : Tray} (u v : Used) (slots : List (Option Line)) (mine after : ℕ → ℕ) (app file : ℕ) (name : List ℕ)
    (is : file ≡ row_of (roster_of t).files name) where
  pub runs_writes_to : OnTray (row_file_start file) t s (Ok tt) → v ≡ u
      → Runs (writes_to app name) (world t u slots) (world s v slots) mine mine (Ok (pcap_writer app file))
  unfolding writes_to desk_of
  runs_writes_to call used =
      let the_file : ℕ = row_of (roster_of t).files name in
      subst (λ n. Runs (writes_to app name) (world t u slots) (world s v slots) mine mine (Ok (pcap_writer app n))) (sym is)
      (runs_look (λ d. row_file_start (row_of (roster_of d.tray).files name)
      >> pure (pcap_writer app (row_of (roster_of d.tray).files name)))
      (runs_bind (λ done. pure (pcap_writer app the_file))
      (runs_kept u v slots mine (subst (λ n. OnTray (row_file_start n) t s (Ok tt)) is call) used)
      (runs_pure (pcap_writer app the_file) (world s v slots) mine)))

  pub runs_writes_to_halt : {h : Halt} → OnTray (row_file_start file) t s (Err h) → v ≡ u
      → Runs (writes_to app name) (world t u slots) (world s v slots) mine after (Err h)
  unfolding writes_to desk_of
  runs_writes_to_halt {h} call used =
      runs_look (λ d. row_file_start (row_of (roster_of d.tray).files name)
      >> pure (pcap_writer app (row_of (roster_of d.tray).files name)))
      (runs_fail (λ done. pure (pcap_writer app (row_of (roster_of t).files name))) after
      (runs_kept u v slots mine (subst (λ n. OnTray (row_file_start n) t s (Err h)) is call) used))

-- a receiver and a transmitter have their interlink
pub runs_receives_from : {t : Tray} (u : Used) (slots : List (Option Line)) (mine : ℕ → ℕ) (app lane : ℕ)
    (name : List ℕ)
    → lane ≡ row_of (roster_of t).lanes name
    → Runs (receives_from app name) (world t u slots) (world t u slots) mine mine (Ok (receiver app lane))
unfolding receives_from desk_of
runs_receives_from {t} u slots mine app lane name is =
    shows {w = world t u slots} (λ d. receiver app (row_of (roster_of d.tray).lanes name)) (receiver app lane) mine
    (ap (receiver app) is)

pub runs_transmits_to : {t : Tray} (u : Used) (slots : List (Option Line)) (mine : ℕ → ℕ) (app lane : ℕ)
    (name : List ℕ)
    → lane ≡ row_of (roster_of t).lanes name
    → Runs (transmits_to app name) (world t u slots) (world t u slots) mine mine (Ok (transmitter app lane))
unfolding transmits_to desk_of
runs_transmits_to {t} u slots mine app lane name is =
    shows {w = world t u slots} (λ d. transmitter app (row_of (roster_of d.tray).lanes name)) (transmitter app lane) mine
    (ap (transmitter app) is)
