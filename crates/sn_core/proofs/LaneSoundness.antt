-- Each event on a lane keeps what is sound of it.
use Rattle.std.proofs.Common.{◌≡◌, ℕ, ◌+◌, ◌-◌, ◌^◌, ◌<◌, ◌≤◌, Bool, true, false, not, ◌&&◌, ◌||◌, Option, List, [], ◌∷◌, ◌++◌, length, take, drop, map, Some, None, is_some, IsTrue, refl, sym, ap, ◌∙◌, subst, arith, nat_lt}
use Rattle.std.specs.List.{All}
use Rattle.std.proofs.lemmas.Bool.{and_parts, ltb-true, ltb-false, not-true, false≢true}
use Rattle.std.proofs.lemmas.List.{length_push, length-take}
use Rattle.std.proofs.lemmas.List.Elements.{All-nil}
use Rattle.sn_core.specs.declared.events.Side.{Side}
use Rattle.sn_core.specs.declared.events.Side.TheVariants.{Tx, Rx}
use Rattle.sn_core.specs.declared.parts.Field.{Field}
use Rattle.sn_core.specs.declared.parts.Field.TheVariants.{Absent, Up, Gone}
use Rattle.sn_core.specs.declared.parts.Packet.{Packet}
use Rattle.sn_core.specs.Lane.{LaneState, free_lane, is_up, is_absent, is_down, is_side, is_empty, unreleased, first_filled, next_emptied, most_laid, most_queued, most_unreleased, closed_by, has_next, can_attach, attached, can_detach, detached, can_reset, was_reset, can_take, taken, released, can_drain, can_lay, with_laid, has_laid, published_some, published, taken_back}
use Rattle.sn_core.specs.Sound.{QueueIsWhole, LaneIsSound}
use Rattle.sn_core.proofs.Queues.{Filled, length_dropped, length_next, length_more, unreleased_next, filled_next, unreleased_dropped, unreleased_more, filled_more}

-- tests on the fields
down : Field → Field → Bool
down tx rx = not (is_up tx) && not (is_up rx) && not (is_absent tx && is_absent rx)

not_down_rx : (tx : Field) → (not (is_up tx) && not (is_up Up) && not (is_absent tx && is_absent Up)) ≡ false
not_down_rx Absent = refl
not_down_rx Up = refl
not_down_rx Gone = refl

down_if_up : (tx rx : Field) → is_up tx ≡ true → (not (is_up tx) && not (is_up rx) && not (is_absent tx && is_absent rx)) ≡ false
down_if_up Absent rx e = cc
down_if_up Up rx e = refl
down_if_up Gone rx e = cc

down_if_up_rx : (tx rx : Field) → is_up rx ≡ true → (not (is_up tx) && not (is_up rx) && not (is_absent tx && is_absent rx)) ≡ false
down_if_up_rx tx Absent e = cc
down_if_up_rx tx Up e = not_down_rx tx
down_if_up_rx tx Gone e = cc

not_free_if_up : (tx rx : Field) → is_up tx ≡ true → (is_absent tx && is_absent rx) ≡ true → ⊥
not_free_if_up Absent rx e f = cc
not_free_if_up Up rx e f = cc
not_free_if_up Gone rx e f = cc

some_closer : (side : Side) (closes : Option Side) → is_side side closes ≡ true → is_some closes ≡ true
some_closer Tx None e = cc
some_closer Rx None e = cc
some_closer side (Some other) e = refl

is_up_up : (field : Field) → is_up field ≡ true → field ≡ Up
is_up_up Absent e = cc
is_up_up Up e = refl
is_up_up Gone e = cc

pub nothing_in : {A : Type 0} (xs : List A) → is_empty xs ≡ true → xs ≡ []
nothing_in [] e = refl
nothing_in (x ∷ xs) e = cc

pub something_in : {A : Type 0} (xs : List A) → is_empty xs ≡ false → 0 < length xs
something_in [] e = cc
something_in (x ∷ xs) e = omega arith

-- a lane where only the other fields differ keeps a whole queue
same_queue : (lane new : LaneState) → new.put ≡ lane.put → new.read ≡ lane.read → new.queue ≡ lane.queue → new.laid ≡ lane.laid →
    (0 < unreleased lane.queue → IsTrue (is_up new.rx || is_some new.closes)) → QueueIsWhole lane → QueueIsWhole new
same_queue lane new put_is read_is queue_is laid_is emptied whole =
    record {
      positions = rw (put_is, read_is, queue_is) whole.positions;
      room = rw (laid_is, queue_is) whole.room;
      few = rw queue_is whole.few;
      filled = subst (λ q. All Filled (drop (unreleased q) q)) (sym queue_is) whole.filled;
      emptied = λ some. emptied (subst (λ q. 0 < unreleased q) queue_is some);
    }

closed_or_up : (up closed : Bool) → closed ≡ true → (up || closed) ≡ true
closed_or_up true closed e = refl
closed_or_up false closed e = e

up_or_closed : (up closed : Bool) → up ≡ true → (up || closed) ≡ true
up_or_closed up closed e = rw e refl

-- a lane that nobody has used
pub free_sound : (tx_seat rx_seat : ℕ) → LaneIsSound (free_lane tx_seat rx_seat)
free_sound tx_seat rx_seat =
    record {
      laid = record { few = omega arith; up = λ some. absurd (omega (arith, some)) };
      queue = record { positions = refl; room = omega arith; few = omega arith; filled = All-nil Filled; emptied = λ some. absurd (omega (arith, some)) };
      closes = record { closer = refl; queue = λ e. refl; laid = λ e. refl };
      put = omega arith;
    }

-- an end comes up
pub attached_sound : (side : Side) (lane : LaneState) → can_attach side lane ≡ true → LaneIsSound lane → LaneIsSound (attached side lane)
attached_sound Tx lane can sound =
    let not_down : is_down lane ≡ false = not-true (is_down lane) (and_parts (not (is_up lane.tx)) (not (is_down lane)) can).1 in
    record {
      laid = record { few = sound.laid.few; up = λ some. refl };
      queue = same_queue lane (attached Tx lane) refl refl refl refl sound.queue.emptied sound.queue;
      closes = record { closer = sound.closes.closer ∙ not_down; queue = λ e. absurd (not_free_if_up Up lane.rx refl e); laid = λ e. absurd (not_free_if_up Up lane.rx refl e) };
      put = sound.put;
    }
attached_sound Rx lane can sound =
    let not_down : is_down lane ≡ false = not-true (is_down lane) (and_parts (not (is_up lane.rx)) (not (is_down lane)) can).1 in
    record {
      laid = record { few = sound.laid.few; up = sound.laid.up };
      queue = same_queue lane (attached Rx lane) refl refl refl refl (λ e. refl) sound.queue;
      closes = record {
        closer = sound.closes.closer ∙ not_down ∙ sym (not_down_rx lane.tx);
        queue = λ e. absurd (false≢true (and_parts (is_absent lane.tx) false e).1);
        laid = λ e. absurd (false≢true (and_parts (is_absent lane.tx) false e).1);
      };
      put = sound.put;
    }

-- an end goes
detached_tx : (lane : LaneState) (is : Bool) → is ≡ is_down (record lane { tx = Gone }) → is_up lane.tx ≡ true → lane.laid ≡ [] → LaneIsSound lane → LaneIsSound (closed_by Tx is (record lane { tx = Gone }))
detached_tx lane true is up nothing sound =
    record {
      laid = record { few = sound.laid.few; up = λ some. absurd (let none : length lane.laid ≡ 0 = ap (λ l. length l) nothing in omega (arith, none, some)) };
      queue = same_queue lane (record lane { tx = Gone; closes = Some Tx }) refl refl refl refl (λ e. closed_or_up (is_up lane.rx) true refl) sound.queue;
      closes = record { closer = is; queue = λ e. cc; laid = λ e. cc };
      put = sound.put;
    }
detached_tx lane false is up nothing sound =
    record {
      laid = record { few = sound.laid.few; up = λ some. absurd (let none : length lane.laid ≡ 0 = ap (λ l. length l) nothing in omega (arith, none, some)) };
      queue = same_queue lane (record lane { tx = Gone }) refl refl refl refl sound.queue.emptied sound.queue;
      closes = record { closer = sound.closes.closer ∙ down_if_up lane.tx lane.rx up ∙ is; queue = λ e. cc; laid = λ e. cc };
      put = sound.put;
    }

detached_rx : (lane : LaneState) (is : Bool) → is ≡ is_down (record lane { rx = Gone }) → is_up lane.rx ≡ true → nat_lt 0 (unreleased lane.queue) ≡ false → LaneIsSound lane → LaneIsSound (closed_by Rx is (record lane { rx = Gone }))
detached_rx lane true is up done sound =
    record {
      laid = record { few = sound.laid.few; up = sound.laid.up };
      queue = same_queue lane (record lane { rx = Gone; closes = Some Rx }) refl refl refl refl (λ e. refl) sound.queue;
      closes = record {
        closer = is;
        queue = λ e. absurd (false≢true (and_parts (is_absent lane.tx) false e).1);
        laid = λ e. absurd (false≢true (and_parts (is_absent lane.tx) false e).1);
      };
      put = sound.put;
    }
detached_rx lane false is up done sound =
    record {
      laid = record { few = sound.laid.few; up = sound.laid.up };
      queue = same_queue lane (record lane { rx = Gone }) refl refl refl refl (λ some. absurd (let none : unreleased lane.queue ≤ 0 = ltb-false 0 (unreleased lane.queue) done in omega (arith, none, some))) sound.queue;
      closes = record {
        closer = sound.closes.closer ∙ down_if_up_rx lane.tx lane.rx up ∙ is;
        queue = λ e. absurd (false≢true (and_parts (is_absent lane.tx) false e).1);
        laid = λ e. absurd (false≢true (and_parts (is_absent lane.tx) false e).1);
      };
      put = sound.put;
    }

not_not : (b : Bool) → not (not b) ≡ true → b ≡ true
not_not true e = refl
not_not false e = e

pub detached_sound : (side : Side) (lane : LaneState) → can_detach side lane ≡ true → LaneIsSound lane → LaneIsSound (detached side lane)
detached_sound Tx lane can sound =
    let parts = and_parts (is_up lane.tx) (not (not (is_empty lane.laid))) can in
    detached_tx lane (is_down (record lane { tx = Gone })) refl parts.0 (nothing_in lane.laid (not_not (is_empty lane.laid) parts.1)) sound
detached_sound Rx lane can sound =
    let parts = and_parts (is_up lane.rx) (not (nat_lt 0 (unreleased lane.queue))) can in
    detached_rx lane (is_down (record lane { rx = Gone })) refl parts.0 (not-true (nat_lt 0 (unreleased lane.queue)) parts.1) sound

-- the lane is free again
pub reset_sound : (side : Side) (lane : LaneState) → can_reset side lane ≡ true → LaneIsSound lane → LaneIsSound (was_reset lane)
reset_sound side lane can sound =
    let parts = and_parts (is_side side lane.closes && is_empty lane.queue) (is_empty lane.laid) can in
    let queue_is : lane.queue ≡ [] = nothing_in lane.queue (and_parts (is_side side lane.closes) (is_empty lane.queue) parts.0).1 in
    let laid_is : lane.laid ≡ [] = nothing_in lane.laid parts.1 in
    let none : length lane.laid ≡ 0 = ap (λ l. length l) laid_is in
    let released_all : unreleased lane.queue ≡ 0 = ap (λ q. unreleased q) queue_is in
    record {
      laid = record { few = sound.laid.few; up = λ some. absurd (omega (arith, none, some)) };
      queue = same_queue lane (was_reset lane) refl refl refl refl (λ some. absurd (omega (arith, released_all, some))) sound.queue;
      closes = record { closer = refl; queue = λ e. queue_is; laid = λ e. laid_is };
      put = sound.put;
    }

-- the first packet leaves, to a receiver that is up or an end that closes
taken_by : (most : ℕ) (lane : LaneState) → most ≤ most_unreleased → (is_up lane.rx || is_some lane.closes) ≡ true → has_next most lane ≡ true → LaneIsSound lane → LaneIsSound (taken lane)
taken_by most lane bound may next sound =
    let parts = and_parts (nat_lt (unreleased lane.queue) most) (is_some (first_filled lane.queue)) next in
    let room : unreleased lane.queue < most = ltb-true (unreleased lane.queue) most parts.0 in
    record {
      laid = record { few = sound.laid.few; up = sound.laid.up };
      queue = record {
        positions = omega (arith, sound.queue.positions, length_next lane.queue);
        room = omega (arith, sound.queue.room, length_next lane.queue);
        few = omega (arith, room, bound, unreleased_next lane.queue parts.1 sound.queue.filled);
        filled = filled_next lane.queue sound.queue.filled;
        emptied = λ some. may;
      };
      closes = record {
        closer = sound.closes.closer;
        queue = λ e. ap next_emptied (sound.closes.queue e);
        laid = sound.closes.laid;
      };
      put = sound.put;
    }

pub taken_sound : (lane : LaneState) → can_take lane ≡ true → LaneIsSound lane → LaneIsSound (taken lane)
taken_sound lane can sound =
    let parts = and_parts (is_up lane.rx) (has_next most_unreleased lane) can in
    taken_by most_unreleased lane (omega arith) (up_or_closed (is_up lane.rx) (is_some lane.closes) parts.0) parts.1 sound

pub drained_sound : (side : Side) (lane : LaneState) → can_drain side lane ≡ true → LaneIsSound lane → LaneIsSound (taken lane)
drained_sound side lane can sound =
    let parts = and_parts (is_side side lane.closes) (has_next 1 lane) can in
    taken_by 1 lane (omega arith) (closed_or_up (is_up lane.rx) (is_some lane.closes) (some_closer side lane.closes parts.0)) parts.1 sound

-- the emptied places are given back
pub released_sound : (lane : LaneState) → LaneIsSound lane → LaneIsSound (released lane)
released_sound lane sound =
    let none : unreleased (drop (unreleased lane.queue) lane.queue) ≡ 0 = unreleased_dropped lane.queue sound.queue.filled in
    record {
      laid = record { few = sound.laid.few; up = sound.laid.up };
      queue = record {
        positions = omega (arith, sound.queue.positions, length_dropped lane.queue);
        room = omega (arith, sound.queue.room, length_dropped lane.queue);
        few = omega (arith, none);
        filled = subst (λ n. All Filled (drop n (drop (unreleased lane.queue) lane.queue))) (sym none) sound.queue.filled;
        emptied = λ some. absurd (omega (arith, none, some));
      };
      closes = record {
        closer = sound.closes.closer;
        queue = λ e. ap (λ q. drop (unreleased q) q) (sound.closes.queue e);
        laid = sound.closes.laid;
      };
      put = sound.put;
    }

-- a packet is laid, or taken back
pub laid_sound : (number : ℕ) (lane : LaneState) → can_lay lane ≡ true → LaneIsSound lane → LaneIsSound (with_laid number lane)
laid_sound number lane can sound =
    let parts = and_parts (is_up lane.tx && nat_lt (length lane.laid) most_laid) (nat_lt (lane.put + length lane.laid - lane.read) most_queued) can in
    let first = and_parts (is_up lane.tx) (nat_lt (length lane.laid) most_laid) parts.0 in
    let few : length lane.laid < most_laid = ltb-true (length lane.laid) most_laid first.1 in
    let room : lane.put + length lane.laid - lane.read < most_queued = ltb-true (lane.put + length lane.laid - lane.read) most_queued parts.1 in
    let longer : length (lane.laid ++ number ∷ []) ≡ length lane.laid + 1 = length_push lane.laid number in
    record {
      laid = record { few = omega (arith, few, longer); up = λ some. is_up_up lane.tx first.0 };
      queue = record {
        positions = sound.queue.positions;
        room = omega (arith, sound.queue.positions, room, longer);
        few = sound.queue.few;
        filled = sound.queue.filled;
        emptied = sound.queue.emptied;
      };
      closes = record {
        closer = sound.closes.closer;
        queue = sound.closes.queue;
        laid = λ e. absurd (not_free_if_up lane.tx lane.rx first.0 e);
      };
      put = sound.put;
    }

pub taken_back_sound : (lane : LaneState) → LaneIsSound lane → LaneIsSound (taken_back lane)
taken_back_sound lane sound =
    let shorter : length (take (length lane.laid - 1) lane.laid) ≤ length lane.laid = omega (arith, length-take (length lane.laid - 1) lane.laid) in
    record {
      laid = record { few = omega (arith, sound.laid.few, shorter); up = λ some. sound.laid.up (omega (arith, shorter, some)) };
      queue = record {
        positions = sound.queue.positions;
        room = omega (arith, sound.queue.room, shorter);
        few = sound.queue.few;
        filled = sound.queue.filled;
        emptied = sound.queue.emptied;
      };
      closes = record {
        closer = sound.closes.closer;
        queue = sound.closes.queue;
        laid = λ e. ap (λ l. take (length l - 1) l) (sound.closes.laid e);
      };
      put = sound.put;
    }

-- packets that were laid join the queue, and the rest stays laid
pub published_some_sound : (packets : List Packet) (rest : List ℕ) (lane : LaneState) → 0 < length lane.laid → length packets + length rest ≡ length lane.laid → lane.put + length packets ≤ 2 ^ 62 → LaneIsSound lane → LaneIsSound (published_some packets rest lane)
published_some_sound packets rest lane some count bound sound =
    let longer = length_more lane.queue packets in
    let same : unreleased (lane.queue ++ map Some packets) ≡ unreleased lane.queue = unreleased_more lane.queue packets in
    let up : is_up lane.tx ≡ true = rw (sound.laid.up some) refl in
    record {
      laid = record { few = omega (arith, sound.laid.few, count); up = λ e. sound.laid.up some };
      queue = record {
        positions = omega (arith, sound.queue.positions, longer);
        room = omega (arith, sound.queue.room, count, longer);
        few = omega (arith, sound.queue.few, same);
        filled = filled_more lane.queue packets sound.queue.filled;
        emptied = λ e. sound.queue.emptied (omega (arith, same, e));
      };
      closes = record {
        closer = sound.closes.closer;
        queue = λ e. absurd (not_free_if_up lane.tx lane.rx up e);
        laid = λ e. absurd (not_free_if_up lane.tx lane.rx up e);
      };
      put = bound;
    }

pub published_sound : (packets : List Packet) (lane : LaneState) → has_laid lane ≡ true → length packets ≡ length lane.laid → lane.put + length packets ≤ 2 ^ 62 → LaneIsSound lane → LaneIsSound (published packets lane)
published_sound packets lane has count bound sound =
    published_some_sound packets [] lane (something_in lane.laid (not-true (is_empty lane.laid) has)) (omega (arith, count)) bound sound
