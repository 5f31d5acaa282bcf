-- The settling of ends in a reclamation, over a seat's trays.
use Rattle.std.proofs.Common.{◌≡◌, ◌≢◌, ℕ, suc, ◌+◌, ◌-◌, ◌<◌, ◌≤◌, ◌==◌, ◌&&◌, ◌||◌, ◌∙◌, Bool, true, false, cond, List, [], ◌∷◌}
use Rattle.std.proofs.Common.{length, None, Result, Ok, Err, refl, sym, ap, subst, arith, inl, inr}
use Rattle.std.proofs.lemmas.Bool.Decides.{eqb_tells}
use Rattle.std.specs.List.{position}
use Rattle.sn_channel.specs.Ends.{ChannelId}
use Rattle.sn_core.specs.declared.events.Side.{Side}
use Rattle.sn_core.specs.declared.events.Side.TheVariants.{Tx, Rx}
use Rattle.sn_group.specs.Seats.{GroupState}
use Rattle.sn_interlink.specs.Ends.{LaneId}
use Rattle.sn_app.specs.Answers.{OnTray}
use Rattle.sn_app.specs.Calls.{LeavesOtherEnds}
use Rattle.sn_app.specs.Desk.{End, Tray, roster_of, set_end}
use Rattle.sn_app.specs.Gates.{reclaiming}
use Rattle.sn_app.specs.Rows.{close_lane, row_detach}
use Rattle.sn_app.specs.declared.end_state.EndState.{EndState}
use Rattle.sn_app.specs.declared.end_state.EndState.TheVariants.{Out, Up, Closing}
use Rattle.sn_app.specs.declared.halt.Halt.{Halt}
use Rattle.sn_app.proofs.OnTrays.{Leads, leads_start, tray_bind, tray_fail, tray_pure}
use Rattle.sn_app.proofs.Readings.{answers_look}
use Rattle.sn_seat.specs.Fitting.{Belongs, Bond}
use Rattle.sn_seat.specs.SeatEnds.{Numbered, desk_end, end_in, ends_in, has_wire, is_at, wires}
use Rattle.sn_seat.specs.Settling.{LeavesFiles, LeavesOtherLanes, settle_from, settles_end, settles_from, settles_lane}
use Rattle.sn_seat.specs.Settling.{settles_lanes}
use Rattle.sn_seat.proofs.EndLists.{not_lost}
use Rattle.sn_seat.proofs.Links.{link_within}

-- WHICH ENDS THERE ARE

abbrev pub is_out : EndState → Bool
is_out Out = true
is_out Up = false
is_out Closing = false

-- an end that isn't out is there
there_by : (ends : List Numbered) (number : ℕ) (side : Side) → is_out (ends_in ends number side).state ≡ false
    → has_wire (wires ends) number side ≡ true
there_by [] number side off = absurd cc
there_by (x ∷ ends) number side off = by (is_at number side x) off (there_by ends number side)
  where
    by : (b : Bool) → is_out (cond b (desk_end (end_in x.1)) (ends_in ends number side)).state ≡ false
        → (is_out (ends_in ends number side).state ≡ false → has_wire (wires ends) number side ≡ true)
        → (b || has_wire (wires ends) number side) ≡ true
    by true now more = refl
    by false now more = more now

pub there_where : (ends : List Numbered) (number : ℕ) (side : Side) (state : EndState) → (ends_in ends number side).state ≡ state
    → is_out state ≡ false → has_wire (wires ends) number side ≡ true
there_where ends number side state is off = there_by ends number side (ap is_out is ∙ off)

out_unless : (state : EndState) → (is_out state ≡ false → ⊥) → state ≡ Out
out_unless Out off = refl
out_unless Up off = absurd (off refl)
out_unless Closing off = absurd (off refl)

-- an end that isn't there is out
pub none_out : (ends : List Numbered) (number : ℕ) (side : Side) → position (is_at number side) ends ≡ None
    → (ends_in ends number side).state ≡ Out
none_out ends number side none =
    out_unless (ends_in ends number side).state (λ off. not_lost number side ends (there_by ends number side off) none)

-- where the ends of the interlinks that a worker knows are out, all are
pub all_out : {bond : Bond} {lanes : List LaneId} {group : GroupState} {channels : List ChannelId} {captures : ℕ}
    → Belongs bond lanes group channels captures → (ends : List Numbered) → bond.wiring.ends ≡ wires ends → (count : ℕ)
    → bond.lanes ≡ count → ((lane : ℕ) (side : Side) → lane < count → (ends_in ends lane side).state ≡ Out)
    → (lane : ℕ) (side : Side) → (ends_in ends lane side).state ≡ Out
all_out {bond} fits ends same count counted within lane side =
    out_unless (ends_in ends lane side).state not_there
  where
    not_there : is_out (ends_in ends lane side).state ≡ false → ⊥
    not_there off =
        let has = subst (λ ws. has_wire ws lane side ≡ true) (sym same) (there_by ends lane side off) in
        let lt = link_within fits lane side has in
        let out = within lane side (let known = fits.lanes_known in omega (arith, lt, known, counted)) in
        let e : true ≡ false = ap is_out (sym out) ∙ off in cc

-- ONE END

settle_row : {t v : Tray} {r : Result Unit Halt} (lane : ℕ) (side : Side) (state : EndState) → (t.ends lane side).state ≡ state
    → OnTray (settle_from lane side state) t v r → OnTray (settles_end lane side) t v r
unfolding settles_end
settle_row {t} {v} {r} lane side state is f = record {
  at = λ queues. answers_look (λ d. settle_from lane side (d.tray.ends lane side).state)
      ((subst (λ s. OnTray (settle_from lane side s) t v r) (sym is) f).at queues);
}

pub settle_out : (t : Tray) (lane : ℕ) (side : Side) → (t.ends lane side).state ≡ Out → OnTray (settles_end lane side) t t (Ok tt)
unfolding settle_from
settle_out t lane side is = settle_row lane side Out is (tray_pure tt t)

pub settle_up : {t v : Tray} {r : Result Unit Halt} (lane : ℕ) (side : Side) → (t.ends lane side).state ≡ Up
    → OnTray (row_detach reclaiming lane side) t v r → OnTray (settles_end lane side) t v r
unfolding settle_from
settle_up lane side is f = settle_row lane side Up is f

pub settle_closing : {t v : Tray} {r : Result Unit Halt} (lane : ℕ) (side : Side) → (t.ends lane side).state ≡ Closing
    → OnTray (close_lane reclaiming lane side) t v r → OnTray (settles_end lane side) t v r
unfolding settle_from
settle_closing lane side is f = settle_row lane side Closing is f

-- BOTH ENDS OF AN INTERLINK

pub lane_reads : {t u v : Tray} {r : Result Unit Halt} (lane : ℕ) → OnTray (settles_end lane Tx) t u (Ok tt)
    → OnTray (settles_end lane Rx) u v r → OnTray (settles_lane lane) t v r
unfolding settles_lane
lane_reads lane f g = tray_bind (λ x. settles_end lane Rx) f g

pub lane_fails : {t u : Tray} {h : Halt} (lane : ℕ) → OnTray (settles_end lane Tx) t u (Err h)
    → OnTray (settles_lane lane) t u (Err h)
unfolding settles_lane
lane_fails lane f = tray_fail (λ x. settles_end lane Rx) f

-- another interlink's end, and the transmitter where the receiver changed
other_lane : (lane : ℕ) (side : Side) (end : End) (ends : ℕ → Side → End) (other : ℕ) (that : Side) → other ≢ lane
    → set_end lane side end ends other that ≡ ends other that
other_lane lane side end ends other that differs =
    elim (eqb_tells other lane) [
      | inl same ↦ absurd (differs same.1)
      | inr apart ↦ rw apart.0 refl
    ]

other_side : (b : Bool) (x y : End) → cond (b && false) x y ≡ y
other_side true x y = refl
other_side false x y = refl

pub both_out : {u v : Tray} (lane : ℕ) → LeavesOtherEnds lane Rx u v → (u.ends lane Tx).state ≡ Out → (v.ends lane Rx).state ≡ Out
    → (side : Side) → (v.ends lane side).state ≡ Out
both_out {u} {v} lane leaves first next Tx =
    ap (λ ends. (ends lane Tx).state) leaves.others
    ∙ (ap (λ (e : End). e.state) (other_side (lane == lane) (v.ends lane Rx) (u.ends lane Tx)) ∙ first)
both_out lane leaves first next Rx = next

pub leaves_lane_end : {t u : Tray} (lane : ℕ) (side : Side) → LeavesOtherEnds lane side t u → LeavesOtherLanes lane t u
leaves_lane_end {t} {u} lane side a = record {
  constants = a.constants;
  files = a.files;
  others = λ other that differs. ap (λ ends. ends other that) a.others
      ∙ other_lane lane side (u.ends lane side) t.ends other that differs;
}

pub leaves_lane : {t u v : Tray} (lane : ℕ) → LeavesOtherLanes lane t u → LeavesOtherLanes lane u v → LeavesOtherLanes lane t v
leaves_lane lane a b = record {
  constants = b.constants ∙ a.constants;
  files = b.files ∙ a.files;
  others = λ other side differs. b.others other side differs ∙ a.others other side differs;
}

-- EACH INTERLINK

module _ (most turn : ℕ) {start now : Tray} (l : Leads (settles_from (most - turn) turn) (settles_from most 0) start now) where
  one_more : turn < most → Leads (settles_from (suc (most - (turn + 1))) turn) (settles_from most 0) start now
  one_more within =
      let more : most - turn ≡ suc (most - (turn + 1)) = omega (arith, within) in
      subst (λ n. Leads (settles_from n turn) (settles_from most 0) start now) more l

  pub settles_next : {next : Tray} → turn < most → OnTray (settles_lane turn) now next (Ok tt)
      → Leads (settles_from (most - (turn + 1)) (turn + 1)) (settles_from most 0) start next
  unfolding settles_from
  settles_next within call = record {
    ends = λ later result rest. (one_more within).ends later result
        (tray_bind (λ x. settles_from (most - (turn + 1)) (turn + 1)) call rest);
  }

  pub settles_fail : {later : Tray} (h : Halt) → turn < most → OnTray (settles_lane turn) now later (Err h)
      → OnTray (settles_from most 0) start later (Err h)
  unfolding settles_from
  settles_fail {later} h within call =
      (one_more within).ends later (Err h) (tray_fail (λ x. settles_from (most - (turn + 1)) (turn + 1)) call)

  pub settles_done : most ≤ turn → OnTray (settles_from most 0) start now (Ok tt)
  unfolding settles_from
  settles_done past =
      let none : most - turn ≡ 0 = omega (arith, past) in
      (subst (λ n. Leads (settles_from n turn) (settles_from most 0) start now) none l).ends now (Ok tt) (tray_pure tt now)

pub settles_start : (count : ℕ) (t : Tray) → Leads (settles_from (count - 0) 0) (settles_from count 0) t t
settles_start count t =
    let same : count - 0 ≡ count = omega arith in
    subst (λ n. Leads (settles_from n 0) (settles_from count 0) t t) (sym same) (leads_start (settles_from count 0) t)

pub settled_more : {before after : ℕ → Side → End} (lane : ℕ)
    → ((other : ℕ) (side : Side) → other < lane → (before other side).state ≡ Out)
    → ((side : Side) → (after lane side).state ≡ Out)
    → ((other : ℕ) (side : Side) → other ≢ lane → after other side ≡ before other side)
    → (other : ℕ) (side : Side) → other < lane + 1 → (after other side).state ≡ Out
settled_more {before} {after} lane were now others other side lt =
    elim (eqb_tells other lane) [
      | inl same ↦ ap (λ n. (after n side).state) same.1 ∙ now side
      | inr apart ↦ ap (λ (e : End). e.state) (others other side apart.1)
          ∙ were other side (let differs = apart.1 in omega (arith, lt, differs))
    ]

pub lanes_read : {t v : Tray} {r : Result Unit Halt} (count : ℕ) → length (roster_of t).lanes ≡ count
    → OnTray (settles_from count 0) t v r → OnTray settles_lanes t v r
unfolding settles_lanes
lanes_read {t} {v} {r} count is f = record {
  at = λ queues. answers_look (λ d. settles_from (length (roster_of d.tray).lanes) 0)
      ((subst (λ n. OnTray (settles_from n 0) t v r) (sym is) f).at queues);
}

-- WHAT STAYS

pub files_stay : {t u v : Tray} {lane : ℕ} → LeavesFiles t u → LeavesOtherLanes lane u v → LeavesFiles t v
files_stay a b = record { constants = b.constants ∙ a.constants; files = b.files ∙ a.files }
