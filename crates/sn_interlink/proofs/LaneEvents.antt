-- Each step of the machine is an event on the core's lane.
use Rattle.std.proofs.Common.{◌≡◌, ◌≤◌, ℕ, zero, suc, ◌+◌, Bool, true, false, not, ◌&&◌, ◌||◌, List, [], ◌∷◌, length, drop, Some, None, is_some, refl, sym, ap, ap₂, ◌∙◌, subst, arith, slice_get}
use Rattle.std.specs.Prelude.{option_and_then, nat_lt}
use Rattle.std.proofs.lemmas.Bool.{or_parts}
use Rattle.sn_core.specs.declared.events.Side.{Side}
use Rattle.sn_core.specs.declared.events.Side.TheVariants.{Tx, Rx}
use Rattle.sn_core.specs.Lane.{LaneState, is_absent, emptied_by, unreleased, first_filled, can_attach, attached, can_detach, detached, closed_by, can_reset, was_reset, has_next, can_take, taken, can_release, released, can_drain, can_drain_release, can_lay, with_laid, has_laid, published, taken_back}
use Rattle.sn_core.specs.Lane as lanes
use Rattle.sn_core.specs.Core.{Core, with_lane, lane_step, when}
use Rattle.sn_packet.specs.Packet.{PacketState}
use Rattle.sn_interlink.specs.Course.{Status, absent, up, gone, closing, Course, other, mine, with_status, is_up, is_closing, is_shut, leaves, ok_pair, Sane}
use Rattle.sn_interlink.specs.Reading.{tag}
use Rattle.sn_interlink.proofs.ReadOff.{field_as, closer_as, filled, core_at, core_of}

-- an event that changes one lane
pub record IsEvent (can : LaneState → Bool) (change : LaneState → LaneState) (old new : LaneState) : Type 0 where
  pub enabled : can old ≡ true
  pub becomes : change old ≡ new

-- the core does it
pub lifted : (can : LaneState → Bool) (change : LaneState → LaneState) (old new : LaneState) (core : Core) (l : ℕ) → IsEvent can change old new → slice_get core.lanes l ≡ Some old
    → lane_step core l can change ≡ Some (with_lane core l new)
lifted can change old new core l e at =
    ap (λ o. option_and_then (λ lane. when (can lane) (with_lane core l (change lane))) o) at
    ∙ ap₂ (λ b x. when b (with_lane core l x)) e.enabled e.becomes

-- ATTACH

attach_tests : (a b : Status) → ok_pair a b ≡ true → (is_closing a || is_closing b) ≡ false
    → (not (lanes.is_up (field_as a)) && not (lanes.is_up (field_as b)) && not (is_absent (field_as a) && is_absent (field_as b))) ≡ false
attach_tests absent absent p o = refl
attach_tests absent up p o = refl
attach_tests absent gone p o = cc
attach_tests absent closing p o = cc
attach_tests up absent p o = refl
attach_tests up up p o = refl
attach_tests up gone p o = refl
attach_tests up closing p o = cc
attach_tests gone absent p o = cc
attach_tests gone up p o = refl
attach_tests gone gone p o = cc
attach_tests gone closing p o = cc
attach_tests closing b p o = cc

away_test : (a : Status) → is_up a ≡ false → lanes.is_up (field_as a) ≡ false
away_test absent e = refl
away_test up e = cc
away_test gone e = refl
away_test closing e = refl

both_not : (a b : Bool) → a ≡ false → b ≡ false → (not a && not b) ≡ true
both_not true b e f = cc
both_not false true e f = cc
both_not false false e f = refl

no_closer : (a b : Status) → (is_closing a || is_closing b) ≡ false → closer_as a b ≡ None
no_closer absent absent o = refl
no_closer absent up o = refl
no_closer absent gone o = refl
no_closer absent closing o = cc
no_closer up absent o = refl
no_closer up up o = refl
no_closer up gone o = refl
no_closer up closing o = cc
no_closer gone absent o = refl
no_closer gone up o = refl
no_closer gone gone o = refl
no_closer gone closing o = cc
no_closer closing b o = cc

closer_up_tx : (a b : Status) → (is_closing a || is_closing b) ≡ false → closer_as a b ≡ closer_as up b
closer_up_tx a b o = no_closer a b o ∙ sym (no_closer up b (or_parts (is_closing a) (is_closing b) o).1)

closer_up_rx : (a b : Status) → (is_closing a || is_closing b) ≡ false → closer_as a b ≡ closer_as a up
closer_up_rx absent b o = no_closer absent b o
closer_up_rx up b o = no_closer up b o
closer_up_rx gone b o = no_closer gone b o
closer_up_rx closing b o = cc

pub attach_event : (side : Side) (t r : ℕ) (c : Course) (ps : List PacketState) (n : ℕ) → Sane c → is_up (mine side c) ≡ false → is_shut c ≡ false
    → IsEvent (can_attach side) (attached side) (core_of t r c ps n) (core_of t r (with_status side up c) ps n)
attach_event Tx t r c ps n s away open_yet = record {
  enabled = both_not (lanes.is_up (field_as c.tx)) (lanes.is_down (core_of t r c ps n)) (away_test c.tx away) (attach_tests c.tx c.rx s.pair open_yet);
  becomes = ap (λ x. record (core_at t r up c.rx c.puts c.read ps n) { closes = x }) (closer_up_tx c.tx c.rx open_yet);
}
attach_event Rx t r c ps n s away open_yet = record {
  enabled = both_not (lanes.is_up (field_as c.rx)) (lanes.is_down (core_of t r c ps n)) (away_test c.rx away) (attach_tests c.tx c.rx s.pair open_yet);
  becomes = ap (λ x. record (core_at t r c.tx up c.puts c.read ps n) { closes = x }) (closer_up_rx c.tx c.rx open_yet);
}

-- DETACH

detach_tx : (t r : ℕ) (b : Status) (puts : List PacketState) (read n : ℕ) → ok_pair up b ≡ true → detached Tx (core_at t r up b puts read [] n) ≡ core_at t r (leaves (is_up b)) b puts read [] n
detach_tx t r absent puts read n p = refl
detach_tx t r up puts read n p = refl
detach_tx t r gone puts read n p = refl
detach_tx t r closing puts read n p = cc

detach_rx : (t r : ℕ) (a : Status) (puts : List PacketState) (read : ℕ) (ps : List PacketState) → ok_pair a up ≡ true → detached Rx (core_at t r a up puts read ps 0) ≡ core_at t r a (leaves (is_up a)) puts read ps 0
detach_rx t r absent puts read ps p = refl
detach_rx t r up puts read ps p = refl
detach_rx t r gone puts read ps p = refl
detach_rx t r closing puts read ps p = cc

pub all_filled : (ps : List PacketState) → unreleased (filled ps) ≡ 0
all_filled [] = refl
all_filled (p ∷ ps) = refl

pub detach_event : (side : Side) (t r : ℕ) (c : Course) (ps : List PacketState) (n : ℕ) → Sane c → mine side c ≡ up → (side ≡ Tx → ps ≡ []) → (side ≡ Rx → n ≡ 0)
    → IsEvent (can_detach side) (detached side) (core_of t r c ps n) (core_of t r (with_status side (leaves (is_up (mine (other side) c))) c) ps n)
detach_event Tx t r c ps n s is_there nothing no_take =
    let e : ps ≡ [] = nothing refl in
    subst (λ (x : Status × List PacketState). IsEvent (can_detach Tx) (detached Tx) (core_at t r x.0 c.rx c.puts c.read x.1 n) (core_at t r (leaves (is_up c.rx)) c.rx c.puts c.read x.1 n)) (λ i. (sym is_there i, sym e i))
    (record { enabled = refl; becomes = detach_tx t r c.rx c.puts c.read n (subst (λ a. ok_pair a c.rx ≡ true) is_there s.pair) })
detach_event Rx t r c ps n s is_there nothing no_take =
    let e : n ≡ 0 = no_take refl in
    subst (λ (x : Status × ℕ). IsEvent (can_detach Rx) (detached Rx) (core_at t r c.tx x.0 c.puts c.read ps x.1) (core_at t r c.tx (leaves (is_up c.tx)) c.puts c.read ps x.1)) (λ i. (sym is_there i, sym e i))
    (record { enabled = ap (λ k. true && not (nat_lt 0 k)) (all_filled (drop c.read c.puts)); becomes = detach_rx t r c.tx c.puts c.read ps (subst (λ a. ok_pair c.tx a ≡ true) is_there s.pair) })

-- RESET

closer_mine : (side : Side) (a b : Status) → ok_pair a b ≡ true → (side ≡ Tx → a ≡ closing) → (side ≡ Rx → b ≡ closing) → closer_as a b ≡ Some side
closer_mine Tx a b p tx rx = ap (λ x. closer_as x b) (tx refl)
closer_mine Rx a b p tx rx = ap (closer_as a) (rx refl) ∙ by a (subst (λ x. ok_pair a x ≡ true) (rx refl) p)
  where
    by : (a : Status) → ok_pair a closing ≡ true → closer_as a closing ≡ Some Rx
    by absent e = refl
    by up e = refl
    by gone e = refl
    by closing e = cc

pub nothing_behind : (puts : List PacketState) (read : ℕ) → length puts ≤ read → drop read puts ≡ []
nothing_behind [] zero le = refl
nothing_behind [] (suc n) le = refl
nothing_behind (x ∷ xs) zero le = absurd (omega (arith, le))
nothing_behind (x ∷ xs) (suc n) le = nothing_behind xs n (omega (arith, le))

side_is : (side : Side) → lanes.is_side side (Some side) ≡ true
side_is Tx = refl
side_is Rx = refl

pub closes_now : (side : Side) (c : Course) → Sane c → mine side c ≡ closing → closer_as c.tx c.rx ≡ Some side
closes_now Tx c s e = closer_mine Tx c.tx c.rx s.pair (λ x. e) (λ x. absurd (let b : true ≡ false = ap is_tx_side x in cc))
  where
    is_tx_side : Side → Bool
    is_tx_side Tx = true
    is_tx_side Rx = false
closes_now Rx c s e = closer_mine Rx c.tx c.rx s.pair (λ x. absurd (let b : false ≡ true = ap is_tx_side x in cc)) (λ x. e)
  where
    is_tx_side : Side → Bool
    is_tx_side Tx = true
    is_tx_side Rx = false

pub reset_event : (side : Side) (t r : ℕ) (c : Course) → Sane c → mine side c ≡ closing → c.read ≡ length c.puts
    → IsEvent (can_reset side) was_reset (core_of t r c [] 0) (core_of t r (record { tx = absent; rx = absent; puts = c.puts; read = c.read }) [] 0)
reset_event side t r c s closes empty = record {
  enabled = ap₂ (λ x q. lanes.is_side side x && lanes.is_empty (filled q) && true) (closes_now side c s closes) (nothing_behind c.puts c.read (omega (arith, empty))) ∙ ap (λ b. b && true && true) (side_is side);
  becomes = refl;
}

-- TAKE AND RELEASE

pub taken_first : (puts : List PacketState) (read : ℕ) (p : PacketState) (rest : List PacketState) → drop read puts ≡ p ∷ rest → first_filled (filled (drop read puts)) ≡ Some (tag p)
taken_first puts read p rest e = ap (λ q. first_filled (filled q)) e

pub next_there : (puts : List PacketState) (read : ℕ) (p : PacketState) (rest : List PacketState) → drop read puts ≡ p ∷ rest
    → (nat_lt (unreleased (filled (drop read puts))) 1 && is_some (first_filled (filled (drop read puts)))) ≡ true
next_there puts read p rest e = ap (λ q. nat_lt (unreleased (filled q)) 1 && is_some (first_filled (filled q))) e

pub taken_lane : (t r : ℕ) (c : Course) (ps : List PacketState) (p : PacketState) (rest : List PacketState) → drop c.read c.puts ≡ p ∷ rest → lanes.taken (core_of t r c ps 0) ≡ core_of t r c ps 1
taken_lane t r c ps p rest e = ap (λ q. record (core_of t r c ps 0) { queue = q }) (ap (λ q. lanes.next_emptied (filled q)) e ∙ ap (λ q. emptied_by 1 (filled q)) (sym e))

pub release_event : (can : LaneState → Bool) (t r : ℕ) (c : Course) (ps : List PacketState) (p : PacketState) → drop c.read c.puts ≡ p ∷ drop (c.read + 1) c.puts → can (core_of t r c ps 1) ≡ true
    → IsEvent can released (core_of t r c ps 1) (core_of t r (record { tx = c.tx; rx = c.rx; puts = c.puts; read = c.read + 1 }) ps 0)
release_event can t r c ps p e yes' = record {
  enabled = yes';
  becomes = ap₂ (λ q n. record (core_of t r c ps 0) { queue = q; read = c.read + n })
      (ap (λ q. drop (unreleased (emptied_by 1 (filled q))) (emptied_by 1 (filled q))) e ∙ ap (λ n. drop n (filled (drop (c.read + 1) c.puts))) (all_filled (drop (c.read + 1) c.puts)))
      (ap (λ q. unreleased (emptied_by 1 (filled q))) e ∙ ap suc (all_filled (drop (c.read + 1) c.puts)));
}

pub one_unreleased : (c : Course) (p : PacketState) → drop c.read c.puts ≡ p ∷ drop (c.read + 1) c.puts → nat_lt 0 (unreleased (emptied_by 1 (filled (drop c.read c.puts)))) ≡ true
one_unreleased c p e = ap (λ q. nat_lt 0 (unreleased (emptied_by 1 (filled q)))) e ∙ ap (λ n. nat_lt 0 (suc n)) (all_filled (drop (c.read + 1) c.puts))
