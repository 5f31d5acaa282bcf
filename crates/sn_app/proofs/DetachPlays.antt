-- That a bench's detach plays its row.
use Rattle.std.proofs.Common.{◌≡◌, ℕ, ◌+◌, ◌++◌, ◌∷◌, ◌∙◌, Bool, true, false, IsTrue, List, [], length, map, Option, Some, None, Result, Ok, Err, refl, sym, ap}
use Rattle.std.proofs.lemmas.Bool.{and_from}
use Rattle.std.proofs.lemmas.List.{map_push}
use Rattle.sn_core.specs.declared.events.Side.{Side}
use Rattle.sn_journal.specs.declared.entry.Entry.{Entry}
use Rattle.sn_packet.specs.Hold.{Held, frees_of}
use Rattle.sn_packet.specs.Packet.{PacketState}
use Rattle.sn_app.specs.Bench.{Advanced, BenchState, LaneEnds, Played, PlaysOn, TapeState, ends_of, first_of, tray_of}
use Rattle.sn_app.specs.Calls.{LeavesOtherEnds}
use Rattle.sn_app.specs.Desk.{Queue, Tray, closing_end, name_of, out_end, set_end}
use Rattle.sn_app.specs.Gates.{working}
use Rattle.sn_app.specs.Reader.{Meaning, done, refused, repeated}
use Rattle.sn_app.specs.Rows.{a_detach, a_far, close_lane, drain_one, drain_or_reset_of, row_detach}
use Rattle.sn_app.specs.declared.end_state.EndState.TheVariants.{Out}
use Rattle.sn_app.specs.declared.halt.Halt.{Halt}
use Rattle.sn_app.specs.declared.halt.Halt.TheVariants.{Stopped}
use Rattle.sn_app.proofs.DetachReadings.{close_reads, close_refuses, detach_closes, detach_leaves, detach_out, detach_refuses, drain_ends, drain_refuses, drain_takes}
use Rattle.sn_app.proofs.LanePlays.{becomes, changed, next_is, reads, refuses, same_tray, stays, tells, tray_with}
use Rattle.sn_app.proofs.OtherEnds.{set_end_kept, set_end_twice}
use Rattle.sn_app.proofs.Playing.{desk, may_read, played_none}
use Rattle.sn_app.proofs.Repeating.{played_after, played_again}

-- one call after another leaves the other ends and the rest of the bench
pub leaves_then : (lane : ℕ) (side : Side) (t s u : Tray) → LeavesOtherEnds lane side t s → LeavesOtherEnds lane side s u
    → LeavesOtherEnds lane side t u
leaves_then lane side t s u x y = record {
  constants = y.constants ∙ x.constants;
  files = y.files ∙ x.files;
  others = y.others
      ∙ (ap (set_end lane side (u.ends lane side)) x.others
      ∙ set_end_twice lane side (u.ends lane side) (s.ends lane side) t.ends);
}

pub leaves_same : (lane : ℕ) (side : Side) (t : Tray) → LeavesOtherEnds lane side t t
leaves_same lane side t = record { constants = refl; files = refl; others = sym (set_end_kept lane side t.ends) }

-- the hold, the entries and the ends alone changed
abbrev pub OnlyLanes : BenchState → BenchState → Type 0
OnlyLanes old new = new ≡ record old { held = new.held; past = new.past; script = new.script; lanes = new.lanes }

pub only_then : (a b c : BenchState) → OnlyLanes a b → OnlyLanes b c → OnlyLanes a c
only_then a b c first second =
    second ∙ ap (λ (x : BenchState). record x { held = c.held; past = c.past; script = c.script; lanes = c.lanes }) first

-- it goes on from the start, and after one more turn
pub plays_first : {R : Type 0} (m : Meaning R) (t : Tray) (script : List Entry) → PlaysOn m t t script script
plays_first m t script = record { ends = λ u left result f. f }

pub plays_more : (m : Meaning Bool) (start t middle : Tray) (first script more : List Entry)
    → PlaysOn (repeated m) start t first script
    → Played m t middle script more (Ok true) → length middle.log.past ≡ length t.log.past + 1 → length more + 1 ≡ length script
    → PlaysOn (repeated m) start middle first more
plays_more m start t middle first script more so_far turn one_past one = record {
  ends = λ u left result f. so_far.ends u left result (played_again m t middle script more turn one_past one u left result f);
}

module _ (bench : BenchState) where
  -- the end is out already
  pub detach_none : (lane : ℕ) (side : Side) → (ends_of bench.lanes lane side).state ≡ Out
      → Played (row_detach working lane side) (tray_of bench) (tray_of bench) bench.script bench.script (Ok tt)
  detach_none lane side out =
      played_none (row_detach working lane side) (tray_of bench) (tray_of bench) bench.script tt
      (record { constants = refl; started = λ file e. e }) refl (λ queues rest. detach_out bench queues lane side rest out)

  module _ (reserved : TapeState) (same_past : reserved.past ≡ bench.past) (same_script : reserved.script ≡ bench.script) where
    pub drain_stopped : (lane : ℕ) (side : Side) (held : Held) → frees_of held ≡ frees_of bench.held
        → None ≡ first_of (drain_or_reset_of lane) reserved.script
        → Played (drain_one working lane side) (tray_of bench) (tray_of (changed bench held reserved bench.lanes)) bench.script
        reserved.script (Err Stopped)
    drain_stopped lane side held frees told =
        let kept : tray_of bench ≡ tray_with bench bench.past (map name_of (frees_of held)) (ends_of bench.lanes) =
        same_tray bench refl (ap (map name_of) (sym frees)) refl in
        refuses bench reserved same_past same_script (drain_one working lane side) held bench.lanes
        (λ queues. drain_refuses bench queues lane side [] refl ∙ ap (λ u. refused (desk u queues) []) kept)
        (λ queues. drain_refuses bench queues lane side bench.script
        (next_is bench reserved same_past same_script (first_of (drain_or_reset_of lane)) None told)
        ∙ ap (λ u. refused (desk u queues) bench.script) kept)

    pub close_stopped : (lane : ℕ) (side : Side) → None ≡ first_of (a_far lane side) reserved.script
        → Played (close_lane working lane side) (tray_of bench) (tray_of (changed bench bench.held reserved bench.lanes))
        bench.script
        reserved.script (Err Stopped)
    close_stopped lane side told =
        refuses bench reserved same_past same_script (close_lane working lane side) bench.held bench.lanes
        (λ queues. close_refuses bench queues lane side [] refl)
        (λ queues. close_refuses bench queues lane side bench.script
        (next_is bench reserved same_past same_script (first_of (a_far lane side)) None told))

    pub detach_stopped : (lane : ℕ) (side : Side) → ((ends_of bench.lanes lane side).state ≡ Out → ⊥)
        → None ≡ first_of (a_detach lane side) reserved.script
        → Played (row_detach working lane side) (tray_of bench) (tray_of (changed bench bench.held reserved bench.lanes))
        bench.script
        reserved.script (Err Stopped)
    detach_stopped lane side held told =
        refuses bench reserved same_past same_script (row_detach working lane side) bench.held bench.lanes
        (λ queues. detach_refuses bench queues lane side [] held refl)
        (λ queues. detach_refuses bench queues lane side bench.script held
        (next_is bench reserved same_past same_script (first_of (a_detach lane side)) None told))

    module _ (held : Held) (after : TapeState) (lanes : List LaneEnds) (empty : IsTrue bench.bare → length bench.script ≡ 0)
        (read : Advanced reserved after) where
      -- a packet is drained, and becomes free
      pub drain_one_done : (lane : ℕ) (side : Side) (packet : PacketState)
          → Some (Some (name_of packet)) ≡ first_of (drain_or_reset_of lane) reserved.script
          → frees_of held ≡ frees_of bench.held ++ packet ∷ [] → ends_of bench.lanes lane side ≡ closing_end 0
          → ends_of lanes ≡ ends_of bench.lanes
          → Played (drain_one working lane side) (tray_of bench) (tray_of (changed bench held after lanes)) bench.script
          after.script
          (Ok true)
      drain_one_done lane side packet told frees closing ends =
          let names : map name_of (frees_of bench.held) ++ name_of packet ∷ [] ≡ map name_of (frees_of held) =
          sym (ap (map name_of) frees ∙ map_push name_of (frees_of bench.held) packet) in
          let same : set_end lane side (closing_end 0) (set_end lane side (closing_end 1) (ends_of bench.lanes)) ≡ ends_of lanes =
          set_end_twice lane side (closing_end 0) (closing_end 1) (ends_of bench.lanes)
          ∙ (ap (λ e. set_end lane side e (ends_of bench.lanes)) (sym closing)
          ∙ (set_end_kept lane side (ends_of bench.lanes) ∙ sym ends)) in
          reads bench reserved same_past same_script held after lanes empty read (drain_one working lane side) true
          (λ queues rest. drain_takes bench queues lane side (name_of packet) read.entry rest
          (tells bench reserved same_past same_script held after lanes empty read (first_of (drain_or_reset_of lane))
          (Some (Some (name_of packet))) told)
          ∙ ap (λ u. done true (desk u queues) rest) (same_tray bench refl names same))

      -- nothing is left, and the end is out
      pub drain_last_done : (lane : ℕ) (side : Side) → Some None ≡ first_of (drain_or_reset_of lane) reserved.script
          → frees_of held ≡ frees_of bench.held → ends_of lanes ≡ set_end lane side out_end (ends_of bench.lanes)
          → Played (drain_one working lane side) (tray_of bench) (tray_of (changed bench held after lanes)) bench.script
          after.script
          (Ok false)
      drain_last_done lane side told frees ends =
          reads bench reserved same_past same_script held after lanes empty read (drain_one working lane side) false
          (λ queues rest. drain_ends bench queues lane side read.entry rest
          (tells bench reserved same_past same_script held after lanes empty read (first_of (drain_or_reset_of lane)) (Some None)
          told)
          ∙ ap (λ u. done false (desk u queues) rest)
          (becomes bench reserved same_past same_script held after lanes empty read frees ends))

      -- the end is out, and the other one isn't
      pub detach_done : (lane : ℕ) (side : Side) → ((ends_of bench.lanes lane side).state ≡ Out → ⊥)
          → Some false ≡ first_of (a_detach lane side) reserved.script → frees_of held ≡ frees_of bench.held
          → ends_of lanes ≡ set_end lane side out_end (ends_of bench.lanes)
          → Played (row_detach working lane side) (tray_of bench) (tray_of (changed bench held after lanes)) bench.script
          after.script
          (Ok tt)
      detach_done lane side up told frees ends =
          reads bench reserved same_past same_script held after lanes empty read (row_detach working lane side) tt
          (λ queues rest. detach_leaves bench queues lane side read.entry rest up
          (tells bench reserved same_past same_script held after lanes empty read (first_of (a_detach lane side)) (Some false)
          told)
          ∙ ap (λ u. done tt (desk u queues) rest)
          (becomes bench reserved same_past same_script held after lanes empty read frees ends))

      -- an entry is read, and the row goes on
      goes_on : (m k : Meaning Unit) (u : Tray) (left : List Entry) (r : Result Unit Halt)
          → ((queues : ℕ → Option Queue) (rest : List Entry) → m (desk (tray_of bench) queues) (read.entry ∷ rest)
          ≡ k (desk (tray_with bench (bench.past ++ read.entry ∷ []) (map name_of (frees_of held)) (ends_of lanes)) queues)
          rest)
          → Played k (tray_of (changed bench held after lanes)) u after.script left r
          → Played m (tray_of bench) u bench.script left r
      goes_on m k u left r row f =
          let past : after.past ≡ bench.past ++ read.entry ∷ [] = read.joins ∙ ap (λ l. l ++ read.entry ∷ []) same_past in
          let was : bench.script ≡ read.entry ∷ after.script = sym same_script ∙ read.was in
          let may = may_read bench.bare bench.script after.script read.entry empty was in
          played_after m k (tray_of bench) (tray_of (changed bench held after lanes)) u bench.script after.script left read.entry
          r
          (stays bench held after lanes) past
          (and_from ((tray_of bench).log.constants.may read.entry) true may refl) was
          (λ queues rest. row queues rest ∙ ap (λ now. k (desk now queues) rest) (same_tray bench (sym past) refl refl)) f

      -- a closer loaded the far position, and drains
      pub close_goes : (lane n : ℕ) (side : Side) (u : Tray) (left : List Entry) (r : Result Unit Halt)
          → Some n ≡ first_of (a_far lane side) reserved.script → frees_of held ≡ frees_of bench.held
          → ends_of lanes ≡ ends_of bench.lanes
          → Played (repeated (drain_one working lane side)) (tray_of (changed bench held after lanes)) u after.script left r
          → Played (close_lane working lane side) (tray_of bench) u bench.script left r
      close_goes lane n side u left r told frees ends f =
          goes_on (close_lane working lane side) (repeated (drain_one working lane side)) u left r
          (λ queues rest. close_reads bench queues lane n side read.entry rest
          (tells bench reserved same_past same_script held after lanes empty read (first_of (a_far lane side)) (Some n) told)
          ∙ ap (λ now. repeated (drain_one working lane side) (desk now queues) rest)
          (becomes bench reserved same_past same_script held after lanes empty read frees ends)) f

      -- an end detached as the last of both, and closes
      pub detach_goes_on : (lane : ℕ) (side : Side) (u : Tray) (left : List Entry) (r : Result Unit Halt)
          → ((ends_of bench.lanes lane side).state ≡ Out → ⊥) → Some true ≡ first_of (a_detach lane side) reserved.script
          → frees_of held ≡ frees_of bench.held → ends_of lanes ≡ set_end lane side (closing_end 0) (ends_of bench.lanes)
          → Played (close_lane working lane side) (tray_of (changed bench held after lanes)) u after.script left r
          → Played (row_detach working lane side) (tray_of bench) u bench.script left r
      detach_goes_on lane side u left r up told frees ends f =
          goes_on (row_detach working lane side) (close_lane working lane side) u left r
          (λ queues rest. detach_closes bench queues lane side read.entry rest up
          (tells bench reserved same_past same_script held after lanes empty read (first_of (a_detach lane side)) (Some true)
          told)
          ∙ ap (λ now. close_lane working lane side (desk now queues) rest)
          (becomes bench reserved same_past same_script held after lanes empty read frees ends)) f
