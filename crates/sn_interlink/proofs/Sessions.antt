-- Sessions: in each what is taken stands before what is drained, and there are as many resets as beginnings.
use Rattle.std.proofs.Common.{◌≡◌, ◌<◌, ◌≤◌, ◌⊎◌, inl, inr, ⊎_elim, ℕ, zero, suc, ◌+◌, ◌-◌, ◌*◌, ◌/◌, Bool, true, false, ◌||◌, eqb, eq-eqb, ne_eqb, subst₂, List, [], ◌∷◌, ◌++◌, length, Some, None, refl, sym, ap, ap₂, ◌∙◌, subst, arith, slice_get}
use Rattle.std.specs.Prelude.{if◌then◌else◌}
use Rattle.std.proofs.lemmas.Bool.{cases_eq}
use Rattle.std.proofs.lemmas.List.{append-nil, length-append, append_assoc}
use Rattle.std.proofs.lemmas.Option.{slice_get_within}
use Rattle.sn_core.specs.declared.events.Side.{Side}
use Rattle.sn_core.specs.declared.events.Side.TheVariants.{Tx, Rx}
use Rattle.sn_packet.specs.Packet.{PacketState}
use Rattle.sn_interlink.specs.declared.entry.LaneEntry.{LaneEntry}
use Rattle.sn_interlink.specs.declared.entry.LaneEntry.TheVariants.{Attach, Unattached, Detach, Reset, Seen, Room, Put, Take, Drain}
use Rattle.sn_interlink.specs.Course.{Status, absent, up, gone, closing, Course, other, mine, is_up, is_closing, is_shut, field, leaves, with_status, Deed, looks, attaches, misses, detaches, resets, sees, rooms, puts, takes, drains, after, Enabled, History, course, Legal, Sane, entries_of, log_of}
use Rattle.sn_interlink.specs.Receipt.{taken_by, drained_by, Way, by_take, by_drain, is_take, is_drain, begins_from, Among, BeginsBetween, TakesComeFirst, begun_by, reset_by, total_by, Fifo}
use Rattle.sn_interlink.proofs.Machine.{sane, slice_get-front, slice_get-last, field_of_side, shut_away, up_not_absent}
use Rattle.sn_interlink.proofs.Hands.{side_differs, closes}
use Rattle.sn_interlink.proofs.FirstInFirstOut.{total_by-append, ways_by, new_ways, ways_of, length_ways, all_put, taken_step, drained_step, all_received}

-- BEGINNINGS AND RESETS

opened_as : Status → Status → ℕ
opened_as absent absent = 0
opened_as absent up = 1
opened_as absent gone = 1
opened_as absent closing = 1
opened_as up b = 1
opened_as gone b = 1
opened_as closing b = 1

-- 0 where the interlink is free, else 1
opened : Course → ℕ
opened c = opened_as c.tx c.rx

both_total : (f : LaneEntry → ℕ) (by : Side) (d : Deed) (es : History) → total_by f (log_of Tx ((by, d) ∷ es)) + total_by f (log_of Rx ((by, d) ∷ es)) ≡ (total_by f (log_of Tx es) + total_by f (log_of Rx es)) + total_by f (entries_of d)
both_total f Tx d es =
    let a = total_by-append f (log_of Tx es) (entries_of d) in
    let b : total_by f (log_of Rx es ++ []) ≡ total_by f (log_of Rx es) = ap (total_by f) (append-nil (log_of Rx es)) in
    omega (arith, a, b)
both_total f Rx d es =
    let a = total_by-append f (log_of Rx es) (entries_of d) in
    let b : total_by f (log_of Tx es ++ []) ≡ total_by f (log_of Tx es) = ap (total_by f) (append-nil (log_of Tx es)) in
    omega (arith, a, b)

begun_word : (a b : Status) → (if eqb (field b + 4 * field a) 0 then 1 else 0) + 0 + opened_as a b ≡ 1
unfolding opened_as
begun_word absent absent = refl
begun_word absent up = refl
begun_word absent gone = refl
begun_word absent closing = refl
begun_word up absent = refl
begun_word up up = refl
begun_word up gone = refl
begun_word up closing = refl
begun_word gone absent = refl
begun_word gone up = refl
begun_word gone gone = refl
begun_word gone closing = refl
begun_word closing absent = refl
begun_word closing up = refl
begun_word closing gone = refl
begun_word closing closing = refl

opened_up : (side : Side) (c : Course) → opened (with_status side up c) ≡ 1
unfolding opened_as opened
opened_up Tx c = refl
opened_up Rx c = by c.tx
  where
    by : (a : Status) → opened_as a up ≡ 1
    by absent = refl
    by up = refl
    by gone = refl
    by closing = refl

opened_left : (side : Side) (b : Bool) (c : Course) → opened (with_status side (leaves b) c) ≡ 1
unfolding opened_as opened
opened_left Tx true c = refl
opened_left Tx false c = refl
opened_left Rx b c = by c.tx b
  where
    by : (a : Status) (b : Bool) → opened_as a (leaves b) ≡ 1
    by absent true = refl
    by absent false = refl
    by up b = refl
    by gone b = refl
    by closing b = refl

opened_mine : (side : Side) (c : Course) (s : Status) → (s ≡ absent → ⊥) → mine side c ≡ s → opened c ≡ 1
unfolding opened_as opened
opened_mine Tx c s not_absent e = by c.tx c.rx (λ a. not_absent (sym e ∙ a))
  where
    by : (a b : Status) → (a ≡ absent → ⊥) → opened_as a b ≡ 1
    by absent b n = absurd (n refl)
    by up b n = refl
    by gone b n = refl
    by closing b n = refl
opened_mine Rx c s not_absent e = by c.tx c.rx (λ a. not_absent (sym e ∙ a))
  where
    by : (a b : Status) → (b ≡ absent → ⊥) → opened_as a b ≡ 1
    by absent absent n = absurd (n refl)
    by absent up n = refl
    by absent gone n = refl
    by absent closing n = refl
    by up b n = refl
    by gone b n = refl
    by closing b n = refl

closing_not_absent : closing ≡ absent → ⊥
closing_not_absent e = let b : true ≡ false = ap is_closing e in cc

begin_step : (by : Side) (d : Deed) (c : Course) → Enabled by d c → total_by begun_by (entries_of d) + opened c ≡ total_by reset_by (entries_of d) + opened (after by d c)
unfolding opened_as opened
begin_step by looks c en = refl
begin_step by (attaches word) c en =
    ap (λ w. (if eqb w 0 then 1 else 0) + 0 + opened c) en.found ∙ begun_word c.tx c.rx ∙ sym (ap (λ n. 0 + 0 + n) (opened_up by c))
begin_step by (misses seen found) c en = refl
begin_step by (detaches word) c en =
    let a = opened_mine by c up up_not_absent en.is_there in
    let b = opened_left by (is_up (mine (other by) c)) c in
    omega (arith, a, b)
begin_step by resets c en = let a = opened_mine by c closing closing_not_absent en.closes in omega (arith, a)
begin_step by (sees n) c en = refl
begin_step by (rooms n) c en = refl
begin_step by (puts place packets) c en = refl
begin_step by (takes place packets) c en = refl
begin_step by (drains place packets) c en = refl

begins : (hist : History) → Legal hist → total_by begun_by (log_of Tx hist) + total_by begun_by (log_of Rx hist) ≡ (total_by reset_by (log_of Tx hist) + total_by reset_by (log_of Rx hist)) + opened (course hist)
unfolding opened_as opened
begins [] legal = refl
begins ((by, d) ∷ es) legal =
    let a = both_total begun_by by d es in
    let b = both_total reset_by by d es in
    let c = begins es legal.1 in
    let e = begin_step by d (course es) legal.0 in
    omega (arith, a, b, c, e)

-- SESSIONS

put_len : LaneEntry → ℕ
put_len (Put place packets) = length packets
put_len (Attach word) = 0
put_len (Unattached seen found) = 0
put_len (Detach word) = 0
put_len Reset = 0
put_len (Seen n) = 0
put_len (Room n) = 0
put_len (Take place packets) = 0
put_len (Drain place packets) = 0

begins_from-append : (k : ℕ) (xs ys : List LaneEntry) → begins_from k (xs ++ ys) ≡ begins_from k xs ++ begins_from (k + total_by put_len xs) ys
unfolding put_len
begins_from-append k [] ys = ap (λ n. begins_from n ys) (omega arith)
begins_from-append k (Attach word ∷ xs) ys =
    ap (λ l. (if eqb (word / 4) 0 then k ∷ [] else []) ++ l) (begins_from-append k xs ys)
    ∙ sym (append_assoc (if eqb (word / 4) 0 then k ∷ [] else []) (begins_from k xs) (begins_from (k + total_by put_len xs) ys))
    ∙ ap (λ n. ((if eqb (word / 4) 0 then k ∷ [] else []) ++ begins_from k xs) ++ begins_from n ys) (omega arith)
begins_from-append k (Put place packets ∷ xs) ys = begins_from-append (k + length packets) xs ys ∙ ap (λ n. begins_from (k + length packets) xs ++ begins_from n ys) (omega arith)
begins_from-append k (Unattached seen found ∷ xs) ys = begins_from-append k xs ys ∙ ap (λ n. begins_from k xs ++ begins_from n ys) (omega arith)
begins_from-append k (Detach word ∷ xs) ys = begins_from-append k xs ys ∙ ap (λ n. begins_from k xs ++ begins_from n ys) (omega arith)
begins_from-append k (Reset ∷ xs) ys = begins_from-append k xs ys ∙ ap (λ n. begins_from k xs ++ begins_from n ys) (omega arith)
begins_from-append k (Seen n ∷ xs) ys = begins_from-append k xs ys ∙ ap (λ m. begins_from k xs ++ begins_from m ys) (omega arith)
begins_from-append k (Room n ∷ xs) ys = begins_from-append k xs ys ∙ ap (λ m. begins_from k xs ++ begins_from m ys) (omega arith)
begins_from-append k (Take place packets ∷ xs) ys = begins_from-append k xs ys ∙ ap (λ n. begins_from k xs ++ begins_from n ys) (omega arith)
begins_from-append k (Drain place packets ∷ xs) ys = begins_from-append k xs ys ∙ ap (λ n. begins_from k xs ++ begins_from n ys) (omega arith)

put_count_step : (d : Deed) (c : Course) → length c.puts + total_by put_len (entries_of d) ≡ length (after Tx d c).puts
unfolding put_len
put_count_step looks c = omega arith
put_count_step (attaches word) c = omega arith
put_count_step (misses seen found) c = omega arith
put_count_step (detaches word) c = omega arith
put_count_step resets c = omega arith
put_count_step (sees n) c = omega arith
put_count_step (rooms n) c = omega arith
put_count_step (puts place packets) c = let a = length-append c.puts packets in omega (arith, a)
put_count_step (takes place packets) c = omega arith
put_count_step (drains place packets) c = omega arith

same_count : (d : Deed) (c : Course) → Enabled Rx d c → length (after Rx d c).puts ≡ length c.puts
same_count looks c en = refl
same_count (attaches word) c en = refl
same_count (misses seen found) c en = refl
same_count (detaches word) c en = refl
same_count resets c en = refl
same_count (sees n) c en = refl
same_count (rooms n) c en = refl
same_count (puts place packets) c en = absurd (side_differs (sym en.whose))
same_count (takes place packets) c en = refl
same_count (drains place packets) c en = refl

put_count : (hist : History) → Legal hist → total_by put_len (log_of Tx hist) ≡ length (course hist).puts
put_count [] legal = refl
put_count ((Tx, d) ∷ es) legal = let a = total_by-append put_len (log_of Tx es) (entries_of d) in let b = put_count es legal.1 in let c = put_count_step d (course es) in omega (arith, a, b, c)
put_count ((Rx, d) ∷ es) legal = ap (total_by put_len) (append-nil (log_of Tx es)) ∙ put_count es legal.1 ∙ sym (same_count d (course es) legal.0)

-- the positions at which sessions begin
starts : History → List ℕ
starts hist = begins_from 0 (log_of Tx hist)

-- what a step of the transmitter adds to them
new_starts : Deed → ℕ → List ℕ
new_starts looks n = []
new_starts (attaches word) n = (if eqb (word / 4) 0 then n ∷ [] else []) ++ []
new_starts (misses seen found) n = []
new_starts (detaches word) n = []
new_starts resets n = []
new_starts (sees m) n = []
new_starts (rooms m) n = []
new_starts (puts place packets) n = []
new_starts (takes place packets) n = []
new_starts (drains place packets) n = []

new_begins : (d : Deed) (n : ℕ) → begins_from n (entries_of d) ≡ new_starts d n
unfolding new_starts
new_begins looks n = refl
new_begins (attaches word) n = refl
new_begins (misses seen found) n = refl
new_begins (detaches word) n = refl
new_begins resets n = refl
new_begins (sees m) n = refl
new_begins (rooms m) n = refl
new_begins (puts place packets) n = refl
new_begins (takes place packets) n = refl
new_begins (drains place packets) n = refl

starts_tx : (d : Deed) (es : History) → Legal es → starts ((Tx, d) ∷ es) ≡ starts es ++ new_starts d (length (course es).puts)
unfolding starts
starts_tx d es legal =
    begins_from-append 0 (log_of Tx es) (entries_of d)
    ∙ ap (λ n. begins_from 0 (log_of Tx es) ++ begins_from n (entries_of d)) (let a = put_count es legal in omega (arith, a))
    ∙ ap (λ l. begins_from 0 (log_of Tx es) ++ l) (new_begins d (length (course es).puts))

starts_rx : (d : Deed) (es : History) → starts ((Rx, d) ∷ es) ≡ starts es
unfolding starts
starts_rx d es = ap (begins_from 0) (append-nil (log_of Tx es))

-- a session begins after this position
pub record BeginsAfter (places : List ℕ) (i : ℕ) : Type 0 where
  pub place : ℕ
  pub there : Among places place
  pub after : i < place

-- a drained position is behind: the interlink is down, or the transmitter absent, or a session began after it
abbrev pub Behind : Course → List ℕ → ℕ → Type 0
Behind c places i = (is_shut c ≡ true) ⊎ (c.tx ≡ absent) ⊎ BeginsAfter places i

pub record Parted (c : Course) (places : List ℕ) (ways : List Way) : Type 0 where
  pub early : (a : ℕ) → Among places a → a ≤ c.read
  pub drained : (i : ℕ) (side : Side) → slice_get ways i ≡ Some (by_drain side) → Behind c places i
  pub first : TakesComeFirst places ways

-- more places
among_more : (xs ys : List ℕ) (a : ℕ) → Among xs a → Among (xs ++ ys) a
among_more xs ys a m = (m.0, slice_get-front xs ys m.0 (slice_get_within xs m.0 a m.1) ∙ m.1)

after_more : (xs ys : List ℕ) (i : ℕ) → BeginsAfter xs i → BeginsAfter (xs ++ ys) i
after_more xs ys i b = record { place = b.place; there = among_more xs ys b.place b.there; after = b.after }

between_more : (xs ys : List ℕ) (i j : ℕ) → BeginsBetween xs i j → BeginsBetween (xs ++ ys) i j
between_more xs ys i j b = record { place = b.place; there = among_more xs ys b.place b.there; after = b.after; before = b.before }

-- an element of a list and what is behind it
split_at : {A : Type 0} (xs ys : List A) (i : ℕ) (w : A) → slice_get (xs ++ ys) i ≡ Some w → (slice_get xs i ≡ Some w) ⊎ ((length xs ≤ i) × (slice_get ys (i - length xs) ≡ Some w))
split_at [] ys i w e = inr (omega arith, ap (slice_get ys) (omega arith) ∙ e)
split_at (x ∷ xs) ys zero w e = inl e
split_at (x ∷ xs) ys (suc i) w e = ⊎_elim (λ l. inl l) (λ r. let le = r.0 in inr (omega (arith, le), ap (slice_get ys) (omega (arith, le)) ∙ r.1)) (split_at xs ys i w e)

alike_at : (way : Way) (ps : List PacketState) (i : ℕ) (w : Way) → slice_get (ways_by way ps) i ≡ Some w → (way ≡ w) × (0 < length ps)
unfolding ways_by
alike_at way [] i w e = cc
alike_at way (p ∷ ps) zero w e = (some_same way w e, omega arith)
  where
    some_same : (a b : Way) → Some a ≡ Some b → a ≡ b
    some_same a b e = cc
alike_at way (p ∷ ps) (suc i) w e = ((alike_at way ps i w e).0, omega arith)

take_no_drain : (side : Side) → by_take ≡ by_drain side → ⊥
take_no_drain side e = let b : true ≡ false = ap is_take e in cc

-- what a step keeps, where places and ways stay
parted_still : (c c' : Course) (places : List ℕ) (ways : List Way) → c'.read ≡ c.read → ((i : ℕ) → Behind c places i → Behind c' places i) → Parted c places ways → Parted c' places ways
parted_still c c' places ways read_is keeps p = record {
  early = λ a m. omega (arith, p.early a m, read_is);
  drained = λ i side e. keeps i (p.drained i side e);
  first = p.first;
}

not_shut_up : (side : Side) (c : Course) → Sane c → mine side c ≡ up → is_shut c ≡ true → ⊥
not_shut_up side c s e shut = let a = shut_away side c s shut in let b : is_up (mine side c) ≡ true = ap is_up e in cc

one_at : (n i a : ℕ) → slice_get (n ∷ []) i ≡ Some a → n ≡ a
one_at n zero a e = cc
one_at n (suc i) a e = cc

-- the transmitter comes up
absent_if : (t : Status) → field t ≡ 0 → t ≡ absent
absent_if absent e = refl
absent_if up e = absurd (omega (arith, e))
absent_if gone e = absurd (omega (arith, e))
absent_if closing e = absurd (omega (arith, e))

begin_session : (c : Course) (places : List ℕ) (ways : List Way) → Sane c → c.tx ≡ absent → length ways ≡ c.read → Parted c places ways
    → Parted (after Tx (attaches 0) c) (places ++ length c.puts ∷ []) ways
begin_session c places ways s is_absent long p = record {
  early = λ a m. ⊎_elim (λ e. p.early a (m.0, e)) (λ r. let n = one_at (length c.puts) (m.0 - length places) a r.1 in omega (arith, n, all_read)) (split_at places (length c.puts ∷ []) m.0 a m.1);
  drained = λ i side d. inr (inr (record {
    place = length c.puts;
    there = (length places, slice_get-last places (length c.puts) (length places) refl);
    after = let w = slice_get_within ways i (by_drain side) d in omega (arith, w, long, all_read);
  }));
  first = λ i j side lt d t. between_more places (length c.puts ∷ []) i j (p.first i j side lt d t);
}
  where
    all_read : c.read ≡ length c.puts
    all_read = s.free is_absent

go_on : (c : Course) (places : List ℕ) (ways : List Way) → is_shut c ≡ false → (c.tx ≡ absent → ⊥) → Parted c places ways → Parted (after Tx (attaches 0) c) (places ++ []) ways
go_on c places ways open_yet there p = subst (λ l. Parted (after Tx (attaches 0) c) l ways) (sym (append-nil places))
    (parted_still c (after Tx (attaches 0) c) places ways refl
    (λ i b. ⊎_elim (λ shut. absurd (let f : true ≡ false = sym shut ∙ open_yet in cc)) (⊎_elim (λ a. absurd (there a)) (λ after. inr (inr after))) b) p)

come_tx : (c : Course) (places : List ℕ) (ways : List Way) (word : ℕ) → Sane c → Enabled Tx (attaches word) c → length ways ≡ c.read → Parted c places ways
    → Parted (after Tx (attaches word) c) (places ++ new_starts (attaches word) (length c.puts)) ways
unfolding new_starts
come_tx c places ways word s en long p = ⊎_elim
    (λ e. subst (λ b. Parted (after Tx (attaches 0) c) (places ++ ((if b then length c.puts ∷ [] else []) ++ [])) ways) (sym (eq-eqb (word / 4) 0 e))
    (begin_session c places ways s (absent_if c.tx (sym tx_field ∙ e)) long p))
    (λ ne. subst (λ b. Parted (after Tx (attaches 0) c) (places ++ ((if b then length c.puts ∷ [] else []) ++ [])) ways) (sym (ne_eqb (word / 4) 0 ne))
    (go_on c places ways en.open_yet (λ a. ne (tx_field ∙ ap field a)) p))
    (cases_eq (word / 4) 0)
  where
    tx_field : word / 4 ≡ field c.tx
    tx_field = ap (λ w. w / 4) en.found ∙ field_of_side Tx c

-- the other steps, where the status of an end changes
come_rx : (c : Course) (places : List ℕ) (ways : List Way) (word : ℕ) → Enabled Rx (attaches word) c → Parted c places ways → Parted (after Rx (attaches word) c) places ways
come_rx c places ways word en p =
    parted_still c (after Rx (attaches word) c) places ways refl
    (λ i b. ⊎_elim (λ shut. absurd (let f : true ≡ false = sym shut ∙ en.open_yet in cc)) (λ rest. inr rest) b) p

go_tx : (c : Course) (places : List ℕ) (ways : List Way) (word : ℕ) → Sane c → Enabled Tx (detaches word) c → Parted c places ways → Parted (after Tx (detaches word) c) places ways
go_tx c places ways word s en p =
    parted_still c (after Tx (detaches word) c) places ways refl
    (λ i b. ⊎_elim (λ shut. absurd (not_shut_up Tx c s en.is_there shut)) (⊎_elim (λ a. absurd (up_not_absent (sym en.is_there ∙ a))) (λ after. inr (inr after))) b) p

go_rx : (c : Course) (places : List ℕ) (ways : List Way) (word : ℕ) → Sane c → Enabled Rx (detaches word) c → Parted c places ways → Parted (after Rx (detaches word) c) places ways
go_rx c places ways word s en p =
    parted_still c (after Rx (detaches word) c) places ways refl
    (λ i b. ⊎_elim (λ shut. absurd (not_shut_up Rx c s en.is_there shut)) (λ rest. inr rest) b) p

free_all : (by : Side) (c : Course) (places : List ℕ) (ways : List Way) → Parted c places ways → Parted (after by resets c) places ways
free_all by c places ways p = parted_still c (after by resets c) places ways refl (λ i b. inr (inl refl)) p

-- packets are taken or drained
rise : (c : Course) (places : List ℕ) (ways : List Way) (way : Way) (packets : List PacketState) → length ways ≡ c.read → c.read + length packets ≤ length c.puts
    → ((side : Side) → way ≡ by_drain side → is_shut c ≡ true) → (way ≡ by_take → is_shut c ≡ false) → Sane c → Parted c places ways
    → Parted (record { tx = c.tx; rx = c.rx; puts = c.puts; read = c.read + length packets }) places (ways ++ ways_by way packets)
rise c places ways way packets long most shut_if open_if s p = record {
  early = λ a m. let e = p.early a m in omega (arith, e);
  drained = λ i side e. ⊎_elim (λ l. p.drained i side l) (λ r. inl (shut_if side (alike_at way packets (i - length ways) (by_drain side) r.1).0)) (split_at ways (ways_by way packets) i (by_drain side) e);
  first = λ i j side lt d t. ⊎_elim (λ old. first_old i j side lt (split_at ways (ways_by way packets) i (by_drain side) d) old) (λ new. first_new i j side lt (split_at ways (ways_by way packets) i (by_drain side) d) new) (split_at ways (ways_by way packets) j by_take t);
}
  where
    first_old : (i j : ℕ) (side : Side) → i < j → (slice_get ways i ≡ Some (by_drain side)) ⊎ ((length ways ≤ i) × (slice_get (ways_by way packets) (i - length ways) ≡ Some (by_drain side))) → slice_get ways j ≡ Some by_take → BeginsBetween places i j
    first_old i j side lt (inl d) t = p.first i j side lt d t
    first_old i j side lt (inr d) t = absurd (let le = d.0 in let w = slice_get_within ways j by_take t in omega (arith, le, w, lt))

    session : (i j : ℕ) → length ways ≤ j → 0 < length packets → is_shut c ≡ false → (is_shut c ≡ true) ⊎ (c.tx ≡ absent) ⊎ BeginsAfter places i → BeginsBetween places i j
    session i j le more open_now (inl shut) = absurd (let f : true ≡ false = sym shut ∙ open_now in cc)
    session i j le more open_now (inr (inl a)) = absurd (let r = s.free a in omega (arith, r, more, most))
    session i j le more open_now (inr (inr b)) = record { place = b.place; there = b.there; after = b.after; before = let e = p.early b.place b.there in omega (arith, e, le, long) }

    first_new : (i j : ℕ) (side : Side) → i < j → (slice_get ways i ≡ Some (by_drain side)) ⊎ ((length ways ≤ i) × (slice_get (ways_by way packets) (i - length ways) ≡ Some (by_drain side)))
        → (length ways ≤ j) × (slice_get (ways_by way packets) (j - length ways) ≡ Some by_take) → BeginsBetween places i j
    first_new i j side lt (inl d) t =
        let w = alike_at way packets (j - length ways) by_take t.1 in session i j t.0 w.1 (open_if w.0) (p.drained i side d)
    first_new i j side lt (inr d) t =
        absurd (take_no_drain side (sym (alike_at way packets (j - length ways) by_take t.1).0 ∙ (alike_at way packets (i - length ways) (by_drain side) d.1).0))

shut_mine : (side : Side) (c : Course) → mine side c ≡ closing → is_shut c ≡ true
shut_mine Tx c e = ap (λ t. is_closing t || is_closing c.rx) e
shut_mine Rx c e = by (is_closing c.tx) (is_closing c.rx) (closes c.rx e)
  where
    by : (a b : Bool) → b ≡ true → (a || b) ≡ true
    by true b e = refl
    by false b e = e

open_up : (side : Side) (c : Course) → Sane c → mine side c ≡ up → is_shut c ≡ false
open_up side c s e = by (is_shut c) (not_shut_up side c s e)
  where
    by : (b : Bool) → (b ≡ true → ⊥) → b ≡ false
    by true no_such = absurd (no_such refl)
    by false no_such = refl

-- a step of the transmitter, and of the receiver
parted_tx : (d : Deed) (c : Course) (places : List ℕ) (ways : List Way) → Sane c → Enabled Tx d c → length ways ≡ c.read → Parted c places ways
    → Parted (after Tx d c) (places ++ new_starts d (length c.puts)) (ways ++ new_ways Tx d)
unfolding new_starts new_ways
parted_tx looks c places ways s en long p = subst₂ (Parted c) (sym (append-nil places)) (sym (append-nil ways)) p
parted_tx (attaches word) c places ways s en long p = subst (Parted (after Tx (attaches word) c) (places ++ new_starts (attaches word) (length c.puts))) (sym (append-nil ways)) (come_tx c places ways word s en long p)
parted_tx (misses seen found) c places ways s en long p = subst₂ (Parted c) (sym (append-nil places)) (sym (append-nil ways)) p
parted_tx (detaches word) c places ways s en long p = subst₂ (Parted (after Tx (detaches word) c)) (sym (append-nil places)) (sym (append-nil ways)) (go_tx c places ways word s en p)
parted_tx resets c places ways s en long p = subst₂ (Parted (after Tx resets c)) (sym (append-nil places)) (sym (append-nil ways)) (free_all Tx c places ways p)
parted_tx (sees n) c places ways s en long p = subst₂ (Parted c) (sym (append-nil places)) (sym (append-nil ways)) p
parted_tx (rooms n) c places ways s en long p = subst₂ (Parted c) (sym (append-nil places)) (sym (append-nil ways)) p
parted_tx (puts place packets) c places ways s en long p = subst₂ (Parted (after Tx (puts place packets) c)) (sym (append-nil places)) (sym (append-nil ways)) (parted_still c (after Tx (puts place packets) c) places ways refl (λ i b. b) p)
parted_tx (takes place packets) c places ways s en long p = absurd (side_differs en.whose)
parted_tx (drains place packets) c places ways s en long p =
    subst (λ l. Parted (after Tx (drains place packets) c) l (ways ++ ways_by (by_drain Tx) packets)) (sym (append-nil places))
    (rise c places ways (by_drain Tx) packets long en.what.most (λ side e. shut_mine Tx c en.closes) (λ e. absurd (take_no_drain Tx (sym e))) s p)

parted_rx : (d : Deed) (c : Course) (places : List ℕ) (ways : List Way) → Sane c → Enabled Rx d c → length ways ≡ c.read → Parted c places ways
    → Parted (after Rx d c) places (ways ++ new_ways Rx d)
unfolding new_ways
parted_rx looks c places ways s en long p = subst (Parted c places) (sym (append-nil ways)) p
parted_rx (attaches word) c places ways s en long p = subst (Parted (after Rx (attaches word) c) places) (sym (append-nil ways)) (come_rx c places ways word en p)
parted_rx (misses seen found) c places ways s en long p = subst (Parted c places) (sym (append-nil ways)) p
parted_rx (detaches word) c places ways s en long p = subst (Parted (after Rx (detaches word) c) places) (sym (append-nil ways)) (go_rx c places ways word s en p)
parted_rx resets c places ways s en long p = subst (Parted (after Rx resets c) places) (sym (append-nil ways)) (free_all Rx c places ways p)
parted_rx (sees n) c places ways s en long p = subst (Parted c places) (sym (append-nil ways)) p
parted_rx (rooms n) c places ways s en long p = subst (Parted c places) (sym (append-nil ways)) p
parted_rx (puts place packets) c places ways s en long p = absurd (side_differs (sym en.whose))
parted_rx (takes place packets) c places ways s en long p =
    rise c places ways by_take packets long en.what.most (λ side e. absurd (take_no_drain side e)) (λ e. open_up Rx c s en.is_there) s p
parted_rx (drains place packets) c places ways s en long p =
    rise c places ways (by_drain Rx) packets long en.what.most (λ side e. shut_mine Rx c en.closes) (λ e. absurd (take_no_drain Rx (sym e))) s p

sessions : (hist : History) → Legal hist → Parted (course hist) (starts hist) (ways_of hist)
unfolding starts ways_of
sessions [] legal = record {
  early = λ a m. absurd (let e : None ≡ Some a = m.1 in cc);
  drained = λ i side e. absurd (let f : None ≡ Some (by_drain side) = e in cc);
  first = λ i j side lt d t. absurd (let f : None ≡ Some by_take = t in cc);
}
sessions ((Tx, d) ∷ es) legal =
    subst (λ l. Parted (course ((Tx, d) ∷ es)) l (ways_of es ++ new_ways Tx d)) (sym (starts_tx d es legal.1))
    (parted_tx d (course es) (starts es) (ways_of es) (sane es legal.1) legal.0 (length_ways es) (sessions es legal.1))
sessions ((Rx, d) ∷ es) legal =
    subst (λ l. Parted (course ((Rx, d) ∷ es)) l (ways_of es ++ new_ways Rx d)) (sym (starts_rx d es))
    (parted_rx d (course es) (starts es) (ways_of es) (sane es legal.1) legal.0 (length_ways es) (sessions es legal.1))

-- what the two logs of a closed interlink say
pub fifo : (hist : History) → Legal hist → (course hist).tx ≡ absent → (course hist).rx ≡ absent → (put taken : ℕ) → put ≡ length (course hist).puts → taken ≡ (course hist).read
    → Fifo (log_of Tx hist) (log_of Rx hist) put taken
unfolding opened_as opened starts
fifo hist legal tx rx put taken put_is taken_is =
    let clean = sane hist legal in
    let all_read : (course hist).read ≡ length (course hist).puts = clean.free tx in
    let long = length_ways hist in
    record {
      packets = (course hist).puts;
      ways = ways_of hist;
      puts = all_put hist legal;
      takes = all_received taken_by is_take Rx taken_step hist legal;
      drains_tx = all_received drained_by (is_drain Tx) Tx (drained_step Tx) hist legal;
      drains_rx = all_received drained_by (is_drain Rx) Rx (drained_step Rx) hist legal;
      all = long ∙ all_read;
      put_is = put_is;
      taken_is = taken_is ∙ all_read;
      sessions = (sessions hist legal).first;
      resets = let b = begins hist legal in let o : opened_as (course hist).tx (course hist).rx ≡ 0 = ap₂ opened_as tx rx in omega (arith, b, o);
    }
