-- What an end knows stays true while the other one steps, and two ends never have one slot out.
use Rattle.std.proofs.Common.{◌≡◌, ◌<◌, ◌≤◌, ℕ, ◌+◌, Bool, true, false, Option, ◌∷◌, length, Some, None, refl, sym, ap, ◌∙◌, subst, arith, slice_get}
use Rattle.std.proofs.lemmas.Bool.{or_parts}
use Rattle.std.proofs.lemmas.List.{append-nil, length-append}
use Rattle.std.proofs.lemmas.Option.{slice_get_past}
use Rattle.sn_core.specs.declared.events.Side.{Side}
use Rattle.sn_core.specs.declared.events.Side.TheVariants.{Tx, Rx}
use Rattle.sn_packet.specs.Packet.{PacketState}
use Rattle.sn_interlink.specs.declared.view.EndState.TheVariants.{Out}
use Rattle.sn_interlink.specs.declared.view.Hand.{Hand}
use Rattle.sn_interlink.specs.declared.view.Hand.TheVariants.{Nothing, Writing, Reading}
use Rattle.sn_interlink.specs.declared.view.Known.{Known}
use Rattle.sn_interlink.specs.Course.{Status, absent, up, gone, closing, Course, mine, is_closing, is_on, state_of, Deed, looks, attaches, misses, detaches, resets, sees, rooms, puts, takes, drains, after, Enabled, History, course, log_of, Sane}
use Rattle.sn_interlink.specs.Rule.{lies_in, Lends, reads_as, MayWrite, MayRead, HandOk, ReadsAt, PlaceOk, Fits}
use Rattle.sn_interlink.proofs.Machine.{tx_closes, rx_closes, on_if_closing, slice_get-front}

pub side_differs : Tx ≡ Rx → ⊥
side_differs e = let b : true ≡ false = ap is_tx e in cc
  where
    is_tx : Side → Bool
    is_tx Tx = true
    is_tx Rx = false

pub on_up : (s : Status) → s ≡ up → is_on s ≡ true
on_up s e = ap is_on e

pub closes : (s : Status) → s ≡ closing → is_closing s ≡ true
closes s e = ap is_closing e

-- a closing transmitter and a receiver that is up or closes don't go together, and the other way round
pub tx_alone : (c : Course) → Sane c → is_closing c.tx ≡ true → is_on c.rx ≡ true → ⊥
tx_alone c s = tx_closes c.tx c.rx s.pair

pub rx_alone : (c : Course) → Sane c → is_closing c.rx ≡ true → is_on c.tx ≡ true → ⊥
rx_alone c s = rx_closes c.tx c.rx s.pair

-- what a hand is worth where what it speaks of stays
keep_writing : (c c' : Course) (a b : ℕ) → c'.tx ≡ c.tx → c'.puts ≡ c.puts → c.read ≤ c'.read → MayWrite c Tx a b → MayWrite c' Tx a b
keep_writing c c' a b tx_is puts_is read_is ok = record {
  whose = refl;
  is_there = tx_is ∙ ok.is_there;
  next = ok.next ∙ ap length (sym puts_is);
  room = omega (arith, ok.room);
  below = ok.below;
}

keep_reading : (c c' : Course) (side : Side) (a b : ℕ) (y : Option PacketState) → mine side c' ≡ mine side c → c'.puts ≡ c.puts → c'.read ≡ c.read → MayRead c side a b y → MayRead c' side a b y
keep_reading c c' side a b y mine_is puts_is read_is ok = record {
  reads = ap (reads_as side) mine_is ∙ ok.reads;
  next = ok.next ∙ sym read_is;
  most = subst (λ ps. b ≤ length ps) (sym puts_is) ok.most;
  what = λ lt. ok.what lt ∙ ap (λ ps. slice_get ps a) (sym puts_is);
  ended = λ e. ok.ended (sym mine_is ∙ e) ∙ ap length (sym puts_is);
}

-- the transmitter's hand, while the receiver steps
writing_stays : (d : Deed) (c : Course) (a b : ℕ) → Sane c → Enabled Rx d c → MayWrite c Tx a b → MayWrite (after Rx d c) Tx a b
writing_stays looks c a b s en ok = ok
writing_stays (attaches word) c a b s en ok = keep_writing c (after Rx (attaches word) c) a b refl refl (omega arith) ok
writing_stays (misses seen found) c a b s en ok = ok
writing_stays (detaches word) c a b s en ok = keep_writing c (after Rx (detaches word) c) a b refl refl (omega arith) ok
writing_stays resets c a b s en ok = absurd (rx_alone c s (closes c.rx en.closes) (on_up c.tx ok.is_there))
writing_stays (sees n) c a b s en ok = ok
writing_stays (rooms n) c a b s en ok = ok
writing_stays (puts place packets) c a b s en ok = absurd (side_differs (sym en.whose))
writing_stays (takes place packets) c a b s en ok = keep_writing c (after Rx (takes place packets) c) a b refl refl (omega arith) ok
writing_stays (drains place packets) c a b s en ok = absurd (rx_alone c s (closes c.rx en.closes) (on_up c.tx ok.is_there))

reading_stays_tx : (d : Deed) (c : Course) (a b : ℕ) (y : Option PacketState) → Sane c → Enabled Rx d c → MayRead c Tx a b y → MayRead (after Rx d c) Tx a b y
reading_stays_tx looks c a b y s en ok = ok
reading_stays_tx (attaches word) c a b y s en ok = let o = (or_parts (is_closing c.tx) (is_closing c.rx) en.open_yet).0 in let r : is_closing c.tx ≡ true = ok.reads in cc
reading_stays_tx (misses seen found) c a b y s en ok = ok
reading_stays_tx (detaches word) c a b y s en ok = absurd (tx_alone c s ok.reads (on_up c.rx en.is_there))
reading_stays_tx resets c a b y s en ok = absurd (tx_alone c s ok.reads (on_if_closing c.rx (closes c.rx en.closes)))
reading_stays_tx (sees n) c a b y s en ok = ok
reading_stays_tx (rooms n) c a b y s en ok = ok
reading_stays_tx (puts place packets) c a b y s en ok = absurd (side_differs (sym en.whose))
reading_stays_tx (takes place packets) c a b y s en ok = absurd (tx_alone c s ok.reads (on_up c.rx en.is_there))
reading_stays_tx (drains place packets) c a b y s en ok = absurd (tx_alone c s ok.reads (on_if_closing c.rx (closes c.rx en.closes)))

-- the receiver's hand, while the transmitter steps
reading_stays : (d : Deed) (c : Course) (a b : ℕ) (y : Option PacketState) → Sane c → Enabled Tx d c → MayRead c Rx a b y → MayRead (after Tx d c) Rx a b y
reading_stays looks c a b y s en ok = ok
reading_stays (attaches word) c a b y s en ok = keep_reading c (after Tx (attaches word) c) Rx a b y refl refl refl ok
reading_stays (misses seen found) c a b y s en ok = ok
reading_stays (detaches word) c a b y s en ok = keep_reading c (after Tx (detaches word) c) Rx a b y refl refl refl ok
reading_stays resets c a b y s en ok = absurd (tx_alone c s (closes c.tx en.closes) ok.reads)
reading_stays (sees n) c a b y s en ok = ok
reading_stays (rooms n) c a b y s en ok = ok
reading_stays (puts place packets) c a b y s en ok = record {
  reads = ok.reads;
  next = ok.next;
  most = omega (arith, ok.most, length-append c.puts packets);
  what = λ lt. ok.what lt ∙ sym (slice_get-front c.puts packets a (omega (arith, ok.most)));
  ended = λ e. absurd (rx_alone c s (closes c.rx e) (on_up c.tx en.is_there));
}
reading_stays (takes place packets) c a b y s en ok = absurd (side_differs en.whose)
reading_stays (drains place packets) c a b y s en ok = absurd (tx_alone c s (closes c.tx en.closes) ok.reads)

tx_hand_stays : (d : Deed) (c : Course) (h : Hand) → Sane c → Enabled Rx d c → HandOk Tx h c → HandOk Tx h (after Rx d c)
tx_hand_stays d c Nothing s en ok = tt
tx_hand_stays d c (Writing a b) s en ok = writing_stays d c a b s en ok
tx_hand_stays d c (Reading a b y) s en ok = reading_stays_tx d c a b y s en ok

rx_hand_stays : (d : Deed) (c : Course) (h : Hand) → Sane c → Enabled Tx d c → HandOk Rx h c → HandOk Rx h (after Tx d c)
rx_hand_stays d c Nothing s en ok = tt
rx_hand_stays d c (Writing a b) s en ok = absurd (side_differs (sym ok.whose))
rx_hand_stays d c (Reading a b y) s en ok = reading_stays d c a b y s en ok

-- positions
tx_place_stays : (d : Deed) (c : Course) (place : Option ℕ) → Enabled Rx d c → PlaceOk Tx place c → PlaceOk Tx place (after Rx d c)
tx_place_stays looks c place en ok = ok
tx_place_stays (attaches word) c place en ok = ok
tx_place_stays (misses seen found) c place en ok = ok
tx_place_stays (detaches word) c place en ok = ok
tx_place_stays resets c place en ok = ok
tx_place_stays (sees n) c place en ok = ok
tx_place_stays (rooms n) c place en ok = ok
tx_place_stays (puts k packets) c place en ok = absurd (side_differs (sym en.whose))
tx_place_stays (takes k packets) c place en ok = ok
tx_place_stays (drains k packets) c place en ok = ok

reads_at_stays : (d : Deed) (c : Course) (a : ℕ) → Sane c → Enabled Tx d c → ReadsAt a c → ReadsAt a (after Tx d c)
reads_at_stays looks c a s en ok = ok
reads_at_stays (attaches word) c a s en ok = record { is_there = ok.is_there; here = ok.here }
reads_at_stays (misses seen found) c a s en ok = ok
reads_at_stays (detaches word) c a s en ok = record { is_there = ok.is_there; here = ok.here }
reads_at_stays resets c a s en ok = absurd (tx_alone c s (closes c.tx en.closes) ok.is_there)
reads_at_stays (sees n) c a s en ok = ok
reads_at_stays (rooms n) c a s en ok = ok
reads_at_stays (puts k packets) c a s en ok = record { is_there = ok.is_there; here = ok.here }
reads_at_stays (takes k packets) c a s en ok = absurd (side_differs en.whose)
reads_at_stays (drains k packets) c a s en ok = absurd (tx_alone c s (closes c.tx en.closes) ok.is_there)

rx_place_stays : (d : Deed) (c : Course) (place : Option ℕ) → Sane c → Enabled Tx d c → PlaceOk Rx place c → PlaceOk Rx place (after Tx d c)
rx_place_stays d c None s en ok = tt
rx_place_stays d c (Some a) s en ok = reads_at_stays d c a s en ok

-- states
out_after_reset : (s : Status) → is_on s ≡ false → state_of s ≡ Out
out_after_reset absent e = refl
out_after_reset up e = cc
out_after_reset gone e = refl
out_after_reset closing e = cc

off_beside : (c : Course) → Sane c → is_closing c.tx ≡ true → is_on c.rx ≡ false
off_beside c s closes = by (is_on c.rx) (tx_alone c s closes)
  where
    by : (b : Bool) → (b ≡ true → ⊥) → b ≡ false
    by true no_such = absurd (no_such refl)
    by false no_such = refl

off_beside_rx : (c : Course) → Sane c → is_closing c.rx ≡ true → is_on c.tx ≡ false
off_beside_rx c s closes = by (is_on c.tx) (rx_alone c s closes)
  where
    by : (b : Bool) → (b ≡ true → ⊥) → b ≡ false
    by true no_such = absurd (no_such refl)
    by false no_such = refl

pub tx_state_stays : (d : Deed) (c : Course) → Sane c → Enabled Rx d c → state_of (after Rx d c).tx ≡ state_of c.tx
tx_state_stays looks c s en = refl
tx_state_stays (attaches word) c s en = refl
tx_state_stays (misses seen found) c s en = refl
tx_state_stays (detaches word) c s en = refl
tx_state_stays resets c s en = sym (out_after_reset c.tx (off_beside_rx c s (closes c.rx en.closes)))
tx_state_stays (sees n) c s en = refl
tx_state_stays (rooms n) c s en = refl
tx_state_stays (puts k packets) c s en = refl
tx_state_stays (takes k packets) c s en = refl
tx_state_stays (drains k packets) c s en = refl

pub rx_state_stays : (d : Deed) (c : Course) → Sane c → Enabled Tx d c → state_of (after Tx d c).rx ≡ state_of c.rx
rx_state_stays looks c s en = refl
rx_state_stays (attaches word) c s en = refl
rx_state_stays (misses seen found) c s en = refl
rx_state_stays (detaches word) c s en = refl
rx_state_stays resets c s en = sym (out_after_reset c.rx (off_beside c s (closes c.tx en.closes)))
rx_state_stays (sees n) c s en = refl
rx_state_stays (rooms n) c s en = refl
rx_state_stays (puts k packets) c s en = refl
rx_state_stays (takes k packets) c s en = refl
rx_state_stays (drains k packets) c s en = refl

-- what an end knows stays true while the other one steps
pub tx_fits_on : (d : Deed) (hist : History) (v : Known) → Sane (course hist) → Enabled Rx d (course hist) → Fits Tx v hist → Fits Tx v ((Rx, d) ∷ hist)
tx_fits_on d hist v s en f = record {
  log = f.log ∙ sym (append-nil (log_of Tx hist));
  state = f.state ∙ sym (tx_state_stays d (course hist) s en);
  place = tx_place_stays d (course hist) v.place en f.place;
  hand = tx_hand_stays d (course hist) v.hand s en f.hand;
}

pub rx_fits_on : (d : Deed) (hist : History) (v : Known) → Sane (course hist) → Enabled Tx d (course hist) → Fits Rx v hist → Fits Rx v ((Tx, d) ∷ hist)
rx_fits_on d hist v s en f = record {
  log = f.log ∙ sym (append-nil (log_of Rx hist));
  state = f.state ∙ sym (rx_state_stays d (course hist) s en);
  place = rx_place_stays d (course hist) v.place s en f.place;
  hand = rx_hand_stays d (course hist) v.hand s en f.hand;
}

-- a place that is out lies in the window, and what lies there is known
pub record OutPlace (c : Course) (h : Hand) (place : ℕ) : Type 0 where
  pub from : c.read ≤ place
  pub below : place < c.read + 1024
  pub what : lies_in h ≡ slice_get c.puts place

pub out_place : (side : Side) (h : Hand) (c : Course) (place : ℕ) → Sane c → HandOk side h c → Lends h place → OutPlace c h place
out_place side Nothing c place s ok l = absurd (omega (arith, l.within))
out_place side (Writing a b) c place s ok l = record {
  from = omega (arith, l.here, l.within, ok.next, s.order);
  below = omega (arith, l.here, l.within, ok.next, ok.room);
  what = sym (slice_get_past c.puts place (omega (arith, l.here, ok.next)));
}
out_place side (Reading a b y) c place s ok l = record {
  from = omega (arith, l.here, ok.next);
  below = omega (arith, l.here, ok.next);
  what = ok.what l.within ∙ ap (slice_get c.puts) (sym l.here);
}

-- two ends never have one place out
pub alone : (g h : Hand) (c : Course) (place : ℕ) → Sane c → HandOk Tx g c → HandOk Rx h c → Lends g place → Lends h place → ⊥
alone Nothing h c place s ok also l m = omega (arith, l.within)
alone (Writing a b) Nothing c place s ok also l m = omega (arith, m.within)
alone (Writing a b) (Writing a' b') c place s ok also l m = side_differs (sym also.whose)
alone (Writing a b) (Reading a' b' y) c place s ok also l m = omega (arith, l.here, m.here, m.within, ok.next, also.most)
alone (Reading a b y) Nothing c place s ok also l m = omega (arith, m.within)
alone (Reading a b y) (Writing a' b') c place s ok also l m = side_differs (sym also.whose)
alone (Reading a b y) (Reading a' b' y') c place s ok also l m = tx_alone c s ok.reads also.reads
