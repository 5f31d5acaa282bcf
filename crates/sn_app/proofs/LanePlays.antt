-- That the calls of a bench at the ends of its interlinks play their rows.
use Rattle.std.proofs.Common.{◌≡◌, ℕ, ◌++◌, ◌∷◌, ◌∙◌, true, false, IsTrue, List, [], length, map, Option, Some, None, Result, Ok, Err, refl, sym, ap, subst}
use Rattle.sn_core.specs.declared.events.Side.{Side}
use Rattle.sn_core.specs.declared.events.Side.TheVariants.{Tx, Rx}
use Rattle.sn_journal.specs.declared.entry.Entry.{Entry}
use Rattle.sn_journal.specs.HandOvers.{PacketName}
use Rattle.sn_packet.specs.Hold.{Held, frees_of}
use Rattle.sn_packet.specs.Packet.{PacketState}
use Rattle.sn_app.specs.Answers.{Stays}
use Rattle.sn_app.specs.Bench.{Advanced, BenchState, LaneEnds, Played, TapeState, constants_of, ends_of, first_is, first_of, tray_of}
use Rattle.sn_app.specs.Calls.{LeavesOtherEnds}
use Rattle.sn_app.specs.Desk.{End, Queue, Tray, after_entry, all_published, all_released, change_end, name_of, set_end, unsynced_end, up_end, with_end, with_known, with_laid, with_taken}
use Rattle.sn_app.specs.Reader.{Meaning, done, refused}
use Rattle.sn_app.specs.Rows.{a_put, a_room, a_seen, a_take, attach_or_not, is_down_entry, row_attach, row_look, row_put, row_room, row_take}
use Rattle.sn_app.specs.declared.end_state.EndState.{EndState}
use Rattle.sn_app.specs.declared.end_state.EndState.TheVariants.{Up}
use Rattle.sn_app.specs.declared.halt.Halt.{Halt}
use Rattle.sn_app.specs.declared.halt.Halt.TheVariants.{Stopped, OutOfMemory}
use Rattle.sn_app.proofs.OtherEnds.{change_twice, no_end, only_end, set_end_at, set_end_twice}
use Rattle.sn_app.proofs.Playing.{desk, may_read, played_lost, played_none, played_one, stopped_at_once}
use Rattle.sn_app.proofs.RowReadings.{attach_tries, attach_up, came, look_reads, look_refuses, put_reads, put_refuses, room_reads, room_refuses, take_reads, take_refuses, tried_came, tried_changed, tried_down, tried_refuses}

-- the bench after calls at interlinks, and its tray
abbrev pub changed : BenchState → Held → TapeState → List LaneEnds → BenchState
changed bench held tape lanes = record bench { held = held; past = tape.past; script = tape.script; lanes = lanes }

abbrev pub tray_with : BenchState → List Entry → List PacketName → (ℕ → Side → End) → Tray
tray_with bench past free ends = record (tray_of bench) {
  log = record { past = past; constants = constants_of bench.bare bench.roster bench.captures };
  free = free;
  ends = ends;
}

-- an end that came up, and synced
came_up_only : (lane : ℕ) (side : Side) (t : Tray) → came lane side t ≡ with_end lane side up_end t
came_up_only lane Tx t = refl
came_up_only lane Rx t =
    ap (λ (ends : ℕ → Side → End). record t { ends = ends }) (set_end_twice lane Rx up_end unsynced_end t.ends)

module _ (bench : BenchState) where
  pub same_tray : {past past' : List Entry} {free free' : List PacketName} {ends ends' : ℕ → Side → End}
      → past ≡ past' → free ≡ free' → ends ≡ ends' → tray_with bench past free ends ≡ tray_with bench past' free' ends'
  same_tray {past} {past'} {free} {free'} {ends} {ends'} p f e =
      ap (λ l. tray_with bench l free ends) p
      ∙ (ap (λ l. tray_with bench past' l ends) f ∙ ap (λ l. tray_with bench past' free' l) e)

  pub stays : (held : Held) (tape : TapeState) (lanes : List LaneEnds)
      → Stays (tray_of bench) (tray_of (changed bench held tape lanes))
  stays held tape lanes = record { constants = refl; started = λ file e. e }

  -- memory was refused
  pub lost : {R : Type 0} (m : Meaning R) (result : Result R Halt) (held : Held) (tape : TapeState) (lanes : List LaneEnds)
      → result ≡ Err OutOfMemory
      → Played m (tray_of bench) (tray_of (changed bench held tape lanes)) bench.script tape.script result
  lost m result held tape lanes is =
      subst (Played m (tray_of bench) (tray_of (changed bench held tape lanes)) bench.script tape.script) (sym is)
      (played_lost m (tray_of bench) (tray_of (changed bench held tape lanes)) bench.script tape.script (stays held tape lanes))

  -- the end is up already
  pub attach_on : (lane : ℕ) (side : Side) → (ends_of bench.lanes lane side).state ≡ Up
      → Played (row_attach lane side) (tray_of bench) (tray_of bench) bench.script bench.script (Ok true)
  attach_on lane side up =
      played_none (row_attach lane side) (tray_of bench) (tray_of bench) bench.script true
      (record { constants = refl; started = λ file e. e }) refl (λ queues rest. attach_up bench queues lane side rest up)

  -- how an end stands, and doesn't, where it was looked at
  pub state_seen : (lane : ℕ) (side : Side) {seen : List LaneEnds} {state : EndState} → seen ≡ bench.lanes
      → state ≡ (ends_of seen lane side).state → (ends_of bench.lanes lane side).state ≡ state
  state_seen lane side same told = ap (λ (l : List LaneEnds). (ends_of l lane side).state) (sym same) ∙ sym told

  pub state_unseen : (lane : ℕ) (side : Side) (other : EndState) {seen : List LaneEnds} {state : EndState} → seen ≡ bench.lanes
      → state ≡ (ends_of seen lane side).state → (state ≡ other → ⊥) → (ends_of bench.lanes lane side).state ≡ other → ⊥
  state_unseen lane side other same told differs is = differs (sym (state_seen lane side same told) ∙ is)

  -- one end alone changed, or none did
  pub leaves_end : (lane : ℕ) (side : Side) (held : Held) (tape : TapeState) (lanes : List LaneEnds) (end : End)
      → ends_of lanes ≡ set_end lane side end (ends_of bench.lanes)
      → LeavesOtherEnds lane side (tray_of bench) (tray_of (changed bench held tape lanes))
  leaves_end lane side held tape lanes end ends = record {
    constants = refl;
    files = refl;
    others = only_end lane side end (ends_of bench.lanes) (ends_of lanes) ends;
  }

  pub leaves_ends : (lane : ℕ) (side : Side) (held : Held) (tape : TapeState) (lanes : List LaneEnds)
      → ends_of lanes ≡ ends_of bench.lanes
      → LeavesOtherEnds lane side (tray_of bench) (tray_of (changed bench held tape lanes))
  leaves_ends lane side held tape lanes ends = record {
    constants = refl;
    files = refl;
    others = no_end lane side (ends_of bench.lanes) (ends_of lanes) ends;
  }

  -- what an end is after it changed
  pub end_now : (lane : ℕ) (side : Side) (lanes : List LaneEnds) (end : End)
      → ends_of lanes ≡ set_end lane side end (ends_of bench.lanes) → ends_of lanes lane side ≡ end
  end_now lane side lanes end ends = ap (λ f. f lane side) ends ∙ set_end_at lane side end (ends_of bench.lanes)

  module _ (reserved : TapeState) (same_past : reserved.past ≡ bench.past) (same_script : reserved.script ≡ bench.script) where
    -- what a test says of the next entry
    pub next_is : {S : Type 0} (f : List Entry → S) (o : S) → o ≡ f reserved.script → f bench.script ≡ o
    next_is f o told = ap f (sym same_script) ∙ sym told

    -- nothing is read, since the next entry can't be
    pub refuses : {R : Type 0} (m : Meaning R) (held : Held) (lanes : List LaneEnds)
        → ((queues : ℕ → Option Queue) → m (desk (tray_of bench) queues) []
        ≡ refused (desk (tray_with bench bench.past (map name_of (frees_of held)) (ends_of lanes)) queues) [])
        → ((queues : ℕ → Option Queue) → m (desk (tray_of bench) queues) bench.script
        ≡ refused (desk (tray_with bench bench.past (map name_of (frees_of held)) (ends_of lanes)) queues) bench.script)
        → Played m (tray_of bench) (tray_of (changed bench held reserved lanes)) bench.script reserved.script (Err Stopped)
    refuses m held lanes at_end here =
        let now : Tray = tray_of (changed bench held reserved lanes) in
        let kept : tray_with bench bench.past (map name_of (frees_of held)) (ends_of lanes) ≡ now =
        same_tray (sym same_past) refl refl in
        subst (λ l. Played m (tray_of bench) now bench.script l (Err Stopped)) (sym same_script)
        (stopped_at_once m (tray_of bench) now bench.script (stays held reserved lanes) same_past refl
        (λ queues. at_end queues ∙ ap (λ u. refused (desk u queues) []) kept)
        (λ queues. here queues ∙ ap (λ u. refused (desk u queues) bench.script) kept))

    pub look_stopped : (lane : ℕ) → None ≡ first_of (a_seen lane) reserved.script
        → Played (row_look lane) (tray_of bench) (tray_of (changed bench bench.held reserved bench.lanes)) bench.script
        reserved.script
        (Err Stopped)
    look_stopped lane told =
        refuses (row_look lane) bench.held bench.lanes
        (λ queues. look_refuses bench queues lane [] refl)
        (λ queues. look_refuses bench queues lane bench.script (next_is (first_of (a_seen lane)) None told))

    pub room_stopped : (lane : ℕ) → None ≡ first_of (a_room lane) reserved.script
        → Played (row_room lane) (tray_of bench) (tray_of (changed bench bench.held reserved bench.lanes)) bench.script
        reserved.script
        (Err Stopped)
    room_stopped lane told =
        refuses (row_room lane) bench.held bench.lanes
        (λ queues. room_refuses bench queues lane [] refl)
        (λ queues. room_refuses bench queues lane bench.script (next_is (first_of (a_room lane)) None told))

    pub take_stopped : (lane : ℕ) (held : Held) → frees_of held ≡ frees_of bench.held
        → None ≡ first_of (a_take lane) reserved.script
        → Played (row_take lane) (tray_of bench) (tray_of (changed bench held reserved bench.lanes)) bench.script reserved.script
        (Err Stopped)
    take_stopped lane held frees told =
        let kept : tray_of bench ≡ tray_with bench bench.past (map name_of (frees_of held)) (ends_of bench.lanes) =
        same_tray refl (ap (map name_of) (sym frees)) refl in
        refuses (row_take lane) held bench.lanes
        (λ queues. take_refuses bench queues lane [] refl ∙ ap (λ u. refused (desk u queues) []) kept)
        (λ queues. take_refuses bench queues lane bench.script (next_is (first_of (a_take lane)) None told)
        ∙ ap (λ u. refused (desk u queues) bench.script) kept)

    pub put_stopped : (lane : ℕ) (packet : PacketState) (held : Held) (lanes : List LaneEnds)
        → frees_of held ≡ frees_of bench.held
        → ends_of lanes ≡ set_end lane Tx (with_laid packet (ends_of bench.lanes lane Tx)) (ends_of bench.lanes)
        → None ≡ first_of (a_put lane packet) reserved.script
        → Played (row_put lane packet) (tray_of bench) (tray_of (changed bench held reserved lanes)) bench.script reserved.script
        (Err Stopped)
    put_stopped lane packet held lanes frees ends told =
        let kept : change_end lane Tx (with_laid packet) (tray_of bench)
        ≡ tray_with bench bench.past (map name_of (frees_of held)) (ends_of lanes) =
        same_tray refl (ap (map name_of) (sym frees)) (sym ends) in
        refuses (row_put lane packet) held lanes
        (λ queues. put_refuses bench queues lane packet [] refl ∙ ap (λ u. refused (desk u queues) []) kept)
        (λ queues. put_refuses bench queues lane packet bench.script (next_is (first_of (a_put lane packet)) None told)
        ∙ ap (λ u. refused (desk u queues) bench.script) kept)

    pub attach_stopped : (lane : ℕ) (side : Side) → ((ends_of bench.lanes lane side).state ≡ Up → ⊥)
        → false ≡ first_is (is_down_entry lane) reserved.script → None ≡ first_of (attach_or_not lane side) reserved.script
        → Played (row_attach lane side) (tray_of bench) (tray_of (changed bench bench.held reserved bench.lanes)) bench.script
        reserved.script (Err Stopped)
    attach_stopped lane side out down told =
        refuses (row_attach lane side) bench.held bench.lanes
        (λ queues. attach_tries bench queues lane side [] out ∙ tried_refuses bench queues lane side [] refl refl)
        (λ queues. attach_tries bench queues lane side bench.script out
        ∙ tried_refuses bench queues lane side bench.script (next_is (first_is (is_down_entry lane)) false down)
        (next_is (first_of (attach_or_not lane side)) None told))

    module _ (held : Held) (after : TapeState) (lanes : List LaneEnds) (empty : IsTrue bench.bare → length bench.script ≡ 0)
        (read : Advanced reserved after) where
      -- what a test says of the entry that is read
      pub tells : {S : Type 0} (f : List Entry → S) (o : S) → o ≡ f reserved.script → f (read.entry ∷ after.script) ≡ o
      tells f o told = sym (told ∙ ap f read.was)

      -- one entry is read
      pub reads : {R : Type 0} (m : Meaning R) (x : R)
          → ((queues : ℕ → Option Queue) (rest : List Entry) → m (desk (tray_of bench) queues) (read.entry ∷ rest)
          ≡ done x (desk (tray_with bench (bench.past ++ read.entry ∷ []) (map name_of (frees_of held)) (ends_of lanes)) queues)
          rest)
          → Played m (tray_of bench) (tray_of (changed bench held after lanes)) bench.script after.script (Ok x)
      reads m x row =
          let past : after.past ≡ bench.past ++ read.entry ∷ [] = read.joins ∙ ap (λ l. l ++ read.entry ∷ []) same_past in
          let was : bench.script ≡ read.entry ∷ after.script = sym same_script ∙ read.was in
          played_one m (tray_of bench) (tray_of (changed bench held after lanes)) bench.script after.script read.entry x
          (stays held after lanes) past (may_read bench.bare bench.script after.script read.entry empty was) was
          (λ queues rest. row queues rest ∙ ap (λ u. done x (desk u queues) rest) (same_tray (sym past) refl refl))

      -- the tray afterwards
      pub becomes : {ends : ℕ → Side → End} → frees_of held ≡ frees_of bench.held → ends_of lanes ≡ ends
          → tray_with bench (bench.past ++ read.entry ∷ []) (map name_of (frees_of bench.held)) ends
          ≡ tray_with bench (bench.past ++ read.entry ∷ []) (map name_of (frees_of held)) (ends_of lanes)
      becomes frees ends = same_tray refl (ap (map name_of) (sym frees)) (sym ends)

      pub look_done : (lane n : ℕ) → Some n ≡ first_of (a_seen lane) reserved.script → frees_of held ≡ frees_of bench.held
          → ends_of lanes ≡ set_end lane Rx (with_known n (ends_of bench.lanes lane Rx)) (ends_of bench.lanes)
          → Played (row_look lane) (tray_of bench) (tray_of (changed bench held after lanes)) bench.script after.script (Ok n)
      look_done lane n told frees ends =
          reads (row_look lane) n
          (λ queues rest. look_reads bench queues lane n read.entry rest (tells (first_of (a_seen lane)) (Some n) told)
          ∙ ap (λ u. done n (desk u queues) rest) (becomes frees ends))

      pub room_done : (lane n : ℕ) → Some n ≡ first_of (a_room lane) reserved.script → frees_of held ≡ frees_of bench.held
          → ends_of lanes ≡ set_end lane Tx (with_known n (ends_of bench.lanes lane Tx)) (ends_of bench.lanes)
          → Played (row_room lane) (tray_of bench) (tray_of (changed bench held after lanes)) bench.script after.script (Ok n)
      room_done lane n told frees ends =
          reads (row_room lane) n
          (λ queues rest. room_reads bench queues lane n read.entry rest (tells (first_of (a_room lane)) (Some n) told)
          ∙ ap (λ u. done n (desk u queues) rest) (becomes frees ends))

      pub take_done : (lane : ℕ) (packet : PacketState) → Some packet ≡ first_of (a_take lane) reserved.script
          → frees_of held ≡ frees_of bench.held
          → ends_of lanes ≡ set_end lane Rx (all_released (with_taken (ends_of bench.lanes lane Rx))) (ends_of bench.lanes)
          → Played (row_take lane) (tray_of bench) (tray_of (changed bench held after lanes)) bench.script after.script
          (Ok packet)
      take_done lane packet told frees ends =
          reads (row_take lane) packet
          (λ queues rest. take_reads bench queues lane packet read.entry rest (tells (first_of (a_take lane)) (Some packet) told)
          ∙ ap (λ u. done packet (desk u queues) rest)
          (becomes frees (ends ∙ sym (change_twice lane Rx with_taken all_released (ends_of bench.lanes)))))

      pub put_done : (lane : ℕ) (packet : PacketState) → Some tt ≡ first_of (a_put lane packet) reserved.script
          → frees_of held ≡ frees_of bench.held
          → ends_of lanes ≡ set_end lane Tx (all_published (with_laid packet (ends_of bench.lanes lane Tx))) (ends_of bench.lanes)
          → Played (row_put lane packet) (tray_of bench) (tray_of (changed bench held after lanes)) bench.script after.script
          (Ok tt)
      put_done lane packet told frees ends =
          reads (row_put lane packet) tt
          (λ queues rest. put_reads bench queues lane packet read.entry rest (tells (first_of (a_put lane packet)) (Some tt) told)
          ∙ ap (λ u. done tt (desk u queues) rest)
          (becomes frees (ends ∙ sym (change_twice lane Tx (with_laid packet) all_published (ends_of bench.lanes)))))

      pub attach_down : (lane : ℕ) (side : Side) → ((ends_of bench.lanes lane side).state ≡ Up → ⊥)
          → true ≡ first_is (is_down_entry lane) reserved.script → frees_of held ≡ frees_of bench.held
          → ends_of lanes ≡ ends_of bench.lanes
          → Played (row_attach lane side) (tray_of bench) (tray_of (changed bench held after lanes)) bench.script after.script
          (Ok false)
      attach_down lane side out down frees ends =
          reads (row_attach lane side) false
          (λ queues rest. attach_tries bench queues lane side (read.entry ∷ rest) out
          ∙ (tried_down bench queues lane side read.entry rest (tells (first_is (is_down_entry lane)) true down)
          ∙ ap (λ u. done false (desk u queues) rest) (becomes frees ends)))

      pub attach_changed : (lane : ℕ) (side : Side) → ((ends_of bench.lanes lane side).state ≡ Up → ⊥)
          → false ≡ first_is (is_down_entry lane) reserved.script
          → Some false ≡ first_of (attach_or_not lane side) reserved.script
          → frees_of held ≡ frees_of bench.held → ends_of lanes ≡ ends_of bench.lanes
          → Played (row_attach lane side) (tray_of bench) (tray_of (changed bench held after lanes)) bench.script after.script
          (Ok false)
      attach_changed lane side out down told frees ends =
          reads (row_attach lane side) false
          (λ queues rest. attach_tries bench queues lane side (read.entry ∷ rest) out
          ∙ (tried_changed bench queues lane side read.entry rest (tells (first_is (is_down_entry lane)) false down)
          (tells (first_of (attach_or_not lane side)) (Some false) told)
          ∙ ap (λ u. done false (desk u queues) rest) (becomes frees ends)))

      pub attach_came : (lane : ℕ) (side : Side) → ((ends_of bench.lanes lane side).state ≡ Up → ⊥)
          → false ≡ first_is (is_down_entry lane) reserved.script → Some true ≡ first_of (attach_or_not lane side) reserved.script
          → frees_of held ≡ frees_of bench.held → ends_of lanes ≡ set_end lane side up_end (ends_of bench.lanes)
          → Played (row_attach lane side) (tray_of bench) (tray_of (changed bench held after lanes)) bench.script after.script
          (Ok true)
      attach_came lane side out down told frees ends =
          reads (row_attach lane side) true
          (λ queues rest. attach_tries bench queues lane side (read.entry ∷ rest) out
          ∙ (tried_came bench queues lane side read.entry rest (tells (first_is (is_down_entry lane)) false down)
          (tells (first_of (attach_or_not lane side)) (Some true) told)
          ∙ ap (λ u. done true (desk u queues) rest)
          (came_up_only lane side (after_entry read.entry (tray_of bench)) ∙ becomes frees ends)))
