-- Wherever a legal history leads, the machine is sane, and its word says which ends are up.
use Rattle.std.proofs.Common.{◌≡◌, ◌<◌, ◌≤◌, ◌⊎◌, inl, inr, ℕ, zero, suc, ◌+◌, ◌*◌, ◌%◌, ◌^◌, Bool, true, false, ◌||◌, eqb, List, [], ◌∷◌, ◌++◌, length, drop, Some, refl, sym, ap, ◌∙◌, subst, arith, slice_get}
use Rattle.std.proofs.lemmas.List.{length-append}
use native.Mathlib.Decide.{dec_lt}
use Rattle.sn_core.specs.declared.events.Side.{Side}
use Rattle.sn_core.specs.declared.events.Side.TheVariants.{Tx, Rx}
use Rattle.sn_packet.specs.Packet.{PacketState}
use Rattle.sn_interlink.specs.Course.{Status, absent, up, gone, closing, Course, other, mine, with_status, is_up, is_closing, is_on, is_shut, field, word_of, field_in, unit, came_word, is_down, leaves, Deed, looks, attaches, misses, detaches, resets, sees, rooms, puts, takes, drains, after, Enabled, History, course, Legal, ok_pair, Sane}

pub up_not_absent : up ≡ absent → ⊥
up_not_absent e = let b : true ≡ false = ap is_up e in cc

pub left_not_absent : (b : Bool) → leaves b ≡ absent → ⊥
left_not_absent true e = let b : false ≡ true = ap (λ s. gone_as s) e in cc
  where
    gone_as : Status → Bool
    gone_as absent = true
    gone_as up = false
    gone_as gone = false
    gone_as closing = false
left_not_absent false e = let b : true ≡ false = ap is_closing e in cc

-- pairs of statuses
pub pair_up_tx : (a b : Status) → ok_pair a b ≡ true → (is_closing a || is_closing b) ≡ false → ok_pair up b ≡ true
pair_up_tx a absent p o = refl
pair_up_tx a up p o = refl
pair_up_tx a gone p o = refl
pair_up_tx absent closing p o = cc
pair_up_tx up closing p o = cc
pair_up_tx gone closing p o = cc
pair_up_tx closing closing p o = cc

pub pair_up_rx : (a b : Status) → ok_pair a b ≡ true → (is_closing a || is_closing b) ≡ false → ok_pair a up ≡ true
pair_up_rx absent b p o = refl
pair_up_rx up b p o = refl
pair_up_rx gone b p o = refl
pair_up_rx closing b p o = cc

pub pair_left_tx : (b : Status) → ok_pair up b ≡ true → ok_pair (leaves (is_up b)) b ≡ true
pair_left_tx absent p = refl
pair_left_tx up p = refl
pair_left_tx gone p = refl
pair_left_tx closing p = cc

pub pair_left_rx : (a : Status) → ok_pair a up ≡ true → ok_pair a (leaves (is_up a)) ≡ true
pair_left_rx absent p = refl
pair_left_rx up p = refl
pair_left_rx gone p = refl
pair_left_rx closing p = cc

-- while an end closes the other one isn't on
pub tx_closes : (a b : Status) → ok_pair a b ≡ true → is_closing a ≡ true → is_on b ≡ true → ⊥
tx_closes absent b p c o = cc
tx_closes up b p c o = cc
tx_closes gone b p c o = cc
tx_closes closing absent p c o = cc
tx_closes closing up p c o = cc
tx_closes closing gone p c o = cc
tx_closes closing closing p c o = cc

pub rx_closes : (a b : Status) → ok_pair a b ≡ true → is_closing b ≡ true → is_on a ≡ true → ⊥
rx_closes a absent p c o = cc
rx_closes a up p c o = cc
rx_closes a gone p c o = cc
rx_closes absent closing p c o = cc
rx_closes up closing p c o = cc
rx_closes gone closing p c o = cc
rx_closes closing closing p c o = cc

pub on_if_closing : (s : Status) → is_closing s ≡ true → is_on s ≡ true
on_if_closing absent e = cc
on_if_closing up e = refl
on_if_closing gone e = cc
on_if_closing closing e = refl

-- each step keeps the machine sane
sane_rise : (c : Course) (packets : List PacketState) → Sane c → c.read + length packets ≤ length c.puts
    → Sane (record { tx = c.tx; rx = c.rx; puts = c.puts; read = c.read + length packets })
sane_rise c packets s most = record {
  pair = s.pair;
  order = most;
  most = omega (arith, s.most);
  below = s.below;
  free = λ e. omega (arith, s.free e, most);
}

pub sane_after : (side : Side) (d : Deed) (c : Course) → Sane c → Enabled side d c → Sane (after side d c)
sane_after side looks c s en = s
sane_after Tx (attaches word) c s en = record { pair = pair_up_tx c.tx c.rx s.pair en.open_yet; order = s.order; most = s.most; below = s.below; free = λ e. absurd (up_not_absent e) }
sane_after Rx (attaches word) c s en = record { pair = pair_up_rx c.tx c.rx s.pair en.open_yet; order = s.order; most = s.most; below = s.below; free = s.free }
sane_after side (misses seen found) c s en = s
sane_after Tx (detaches word) c s en = record {
  pair = pair_left_tx c.rx (subst (λ t. ok_pair t c.rx ≡ true) en.is_there s.pair);
  order = s.order;
  most = s.most;
  below = s.below;
  free = λ e. absurd (left_not_absent (is_up c.rx) e);
}
sane_after Rx (detaches word) c s en = record {
  pair = pair_left_rx c.tx (subst (λ t. ok_pair c.tx t ≡ true) en.is_there s.pair);
  order = s.order;
  most = s.most;
  below = s.below;
  free = s.free;
}
sane_after side resets c s en = record { pair = refl; order = s.order; most = s.most; below = s.below; free = λ e. en.empty }
sane_after side (sees n) c s en = s
sane_after side (rooms n) c s en = s
sane_after side (puts place packets) c s en = record {
  pair = s.pair;
  order = omega (arith, s.order, length-append c.puts packets);
  most = omega (arith, en.room, length-append c.puts packets);
  below = omega (arith, en.below, length-append c.puts packets);
  free = λ e. absurd (up_not_absent (sym en.is_there ∙ e));
}
sane_after side (takes place packets) c s en = sane_rise c packets s en.what.most
sane_after side (drains place packets) c s en = sane_rise c packets s en.what.most

pub sane : (hist : History) → Legal hist → Sane (course hist)
sane [] legal = record { pair = refl; order = omega arith; most = omega arith; below = omega arith; free = λ e. refl }
sane (e ∷ es) legal = sane_after e.0 e.1 (course es) (sane es legal.1) legal.0

-- what the state word says
pub field_small : (s : Status) → field s ≤ 2
field_small absent = omega arith
field_small up = omega arith
field_small gone = omega arith
field_small closing = omega arith

pub field_left : (b : Bool) → field (leaves b) ≡ 2
field_left true = refl
field_left false = refl

pub field_of_side : (side : Side) (c : Course) → field_in side (word_of c) ≡ field (mine side c)
field_of_side Tx c = omega (arith, field_small c.rx)
field_of_side Rx c = omega (arith, field_small c.rx)

pub is_one : (s : Status) → eqb (field s) 1 ≡ is_up s
is_one absent = refl
is_one up = refl
is_one gone = refl
is_one closing = refl

pub other_up : (side : Side) (c : Course) → eqb (field_in (other side) (word_of c)) 1 ≡ is_up (mine (other side) c)
other_up side c = ap (λ n. eqb n 1) (field_of_side (other side) c) ∙ is_one (mine (other side) c)

pub came_is : (side : Side) (c : Course) → came_word side (word_of c) ≡ word_of (with_status side up c)
came_is Tx c = omega (arith, field_small c.rx)
came_is Rx c = omega (arith, field_small c.rx)

pub gone_is : (side : Side) (b : Bool) (c : Course) → mine side c ≡ up → (word_of c + unit side) % 2 ^ 64 ≡ word_of (with_status side (leaves b) c)
gone_is Tx b c e = let f : field c.tx ≡ 1 = ap field e in omega (arith, f, field_left b, field_small c.rx)
gone_is Rx b c e = let f : field c.rx ≡ 1 = ap field e in omega (arith, f, field_left b, field_small c.tx)

pub word_small : (c : Course) → word_of c ≤ 10
word_small c = omega (arith, field_small c.tx, field_small c.rx)

down_pair : (a b : Status) → ok_pair a b ≡ true → is_down (field b + 4 * field a) ≡ (is_closing a || is_closing b)
down_pair absent absent p = refl
down_pair absent up p = refl
down_pair absent gone p = cc
down_pair absent closing p = refl
down_pair up absent p = refl
down_pair up up p = refl
down_pair up gone p = refl
down_pair up closing p = cc
down_pair gone absent p = cc
down_pair gone up p = refl
down_pair gone gone p = cc
down_pair gone closing p = refl
down_pair closing absent p = refl
down_pair closing up p = cc
down_pair closing gone p = refl
down_pair closing closing p = cc

pub down_is : (c : Course) → Sane c → is_down (word_of c) ≡ is_shut c
down_is c s = down_pair c.tx c.rx s.pair

shut_pair : (a b : Status) → ok_pair a b ≡ true → (is_closing a || is_closing b) ≡ true → (is_up a ≡ false) × (is_up b ≡ false)
shut_pair absent absent p o = (refl, refl)
shut_pair absent up p o = cc
shut_pair absent gone p o = (refl, refl)
shut_pair absent closing p o = (refl, refl)
shut_pair up absent p o = cc
shut_pair up up p o = cc
shut_pair up gone p o = cc
shut_pair up closing p o = cc
shut_pair gone absent p o = (refl, refl)
shut_pair gone up p o = cc
shut_pair gone gone p o = (refl, refl)
shut_pair gone closing p o = (refl, refl)
shut_pair closing absent p o = (refl, refl)
shut_pair closing up p o = cc
shut_pair closing gone p o = (refl, refl)
shut_pair closing closing p o = (refl, refl)

-- where the interlink is down no end is up
pub shut_away : (side : Side) (c : Course) → Sane c → is_shut c ≡ true → is_up (mine side c) ≡ false
shut_away Tx c s o = (shut_pair c.tx c.rx s.pair o).0
shut_away Rx c s o = (shut_pair c.tx c.rx s.pair o).1

-- a list and what is behind it
pub slice_get-front : {A : Type 0} (xs ys : List A) (i : ℕ) → i < length xs → slice_get (xs ++ ys) i ≡ slice_get xs i
slice_get-front [] ys i lt = absurd (omega arith)
slice_get-front (x ∷ xs) ys zero lt = refl
slice_get-front (x ∷ xs) ys (suc i) lt = slice_get-front xs ys i (omega arith)

pub slice_get-last : {A : Type 0} (xs : List A) (y : A) (i : ℕ) → i ≡ length xs → slice_get (xs ++ y ∷ []) i ≡ Some y
slice_get-last [] y zero e = refl
slice_get-last [] y (suc i) e = absurd (omega arith)
slice_get-last (x ∷ xs) y zero e = absurd (omega arith)
slice_get-last (x ∷ xs) y (suc i) e = slice_get-last xs y i (omega arith)

-- the packet at a position begins what is left from there on
pub drop_first : {A : Type 0} (xs : List A) (i : ℕ) (x : A) → slice_get xs i ≡ Some x → drop i xs ≡ (x ∷ []) ++ drop (suc i) xs
drop_first [] i x e = cc
drop_first (y ∷ ys) zero x e = let f : y ≡ x = some_same y x e in ap (λ z. z ∷ ys) f
  where
    some_same : {A : Type 0} (y x : A) → Some y ≡ Some x → y ≡ x
    some_same y x e = cc
drop_first (y ∷ ys) (suc i) x e = drop_first ys i x e

pub lt_or_le : (a b : ℕ) → (a < b) ⊎ (b ≤ a)
lt_or_le a b = by (dec_lt a b)
  where
    by : Dec (a < b) → (a < b) ⊎ (b ≤ a)
    by (yes lt) = inl lt
    by (no ge) = inr (omega (arith, ge))
