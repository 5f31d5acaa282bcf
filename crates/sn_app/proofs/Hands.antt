-- Places in hand: how often one stands among them, what stays at them, and steps beside them.
use Rattle.std.proofs.Common.{◌≡◌, ◌≢◌, ℕ, zero, suc, ◌+◌, ◌<◌, ◌≤◌, ◌==◌, Bool, true, false, cond, if◌then◌else◌, List, [], ◌∷◌, ◌++◌, length, map, drop, get_or, Option, Some, None, Result, Ok, Err, unwrap_or, refl, sym, ap, subst, ◌∙◌, arith, add-one, drop-cons}
use Rattle.std.specs.Option.{option_map}
use Rattle.sn_journal.specs.declared.entry.Entry.{Entry}
use Rattle.sn_link.specs.declared.counts.LinkCounts.{LinkCounts}
use Rattle.std.proofs.lemmas.List.Sums.{sum_by-cons, sum_by_push}
use Rattle.sn_link.specs.Link.{Line}
use Rattle.sn_packet.specs.Hold.{among, put_at}
use Rattle.sn_packet.specs.Packet.{PacketState, no_packet}
use Rattle.sn_packet.proofs.Puts.{put_at_other}
use Rattle.sn_app.specs.Answers.{AnswersCase, Stays}
use Rattle.sn_app.specs.Apps.{frees_all, readable, readable_of}
use Rattle.sn_app.specs.Desk.{Tray, Desk, Queue, freed, front_of_list, front_rest, name_of}
use Rattle.sn_app.specs.Hands.{DidWith, Leads, frees_each, names_at, packets_at}
use Rattle.sn_app.specs.Loops.{Goes}
use Rattle.sn_app.specs.Reader.{Meaning, pure, ◌>>=◌, change, done, go_on, look, on_each}
use Rattle.sn_app.specs.Rows.{◌>>◌, frees, takes, taking_front}
use Rattle.sn_app.specs.Runs.{Runs}
use Rattle.sn_app.specs.Starts.{AreKept}
use Rattle.sn_app.specs.World.{IsSound, Used, World, at_answer, desk_of, nowhere, packet_at, world}
use Rattle.sn_app.specs.declared.halt.Halt.{Halt}
use Rattle.sn_app.specs.declared.halt.Halt.TheVariants.{OutOfMemory}
use Rattle.sn_app.specs.declared.ports.Ports.{Ports}
use Rattle.sn_app.proofs.Calling.{runs_free}
use Rattle.sn_app.proofs.Moving.{something, sound_as, sound_moved}
use Rattle.sn_app.proofs.Places.{among_first, among_within}
use Rattle.sn_app.proofs.Readings.{answers_lost, stays_same, stays_then}
use Rattle.sn_app.proofs.Running.{continues_as, continues_bind, continues_done, continues_start, runs_as, runs_beside, runs_bind, runs_look, runs_pure}

-- how often a place stands among others, with one more at the front or at the end
first_of : (place : ℕ) (places : List ℕ) (q : ℕ) → among (place ∷ places) q ≡ cond (place == q) 1 0 + among places q
first_of place places q = sum_by-cons (λ other. cond (other == q) 1 0) place places

pub among_cons : (place : ℕ) (places : List ℕ) (q : ℕ) → among (place ∷ places) q ≡ among (place ∷ []) q + among places q
among_cons place places q = omega (arith, first_of place places q, first_of place [] q)

pub among_push : (places : List ℕ) (place q : ℕ) → among (places ++ place ∷ []) q ≡ among places q + among (place ∷ []) q
among_push places place q = omega (arith, sum_by_push (λ other. cond (other == q) 1 0) places place, first_of place [] q)

pub among_here : (place : ℕ) (places : List ℕ) → among (place ∷ places) place ≡ 1 + among places place
among_here place places = among_first place places

-- the rest of a list from one element on, and past its end
pub drop_next : {A : Type 0} (xs : List A) (i : ℕ) (d : A) → i < length xs → drop i xs ≡ get_or xs i d ∷ drop (i + 1) xs
drop_next xs i d within = rw add-one (drop-cons xs i d within)

pub drop_past : {A : Type 0} (xs : List A) (i : ℕ) → length xs ≤ i → drop i xs ≡ []
drop_past [] zero past = refl
drop_past [] (suc i) past = refl
drop_past (x ∷ xs) zero past = absurd (omega (arith, past))
drop_past (x ∷ xs) (suc i) past = drop_past xs i (omega (arith, past))

-- what is read off the packets at places stays where those do
pub read_kept : {A : Type 0} (f : PacketState → A) (u v : Used) (places : List ℕ) → ((q : ℕ) → 0 < among places q → v q ≡ u q)
    → map (λ place. f (packet_at v place)) places ≡ map (λ place. f (packet_at u place)) places
read_kept f u v [] same = refl
read_kept f u v (place ∷ places) same =
    let here : packet_at v place ≡ packet_at u place =
    ap (λ (slot : Option PacketState). unwrap_or slot no_packet) (same place (omega (arith, among_first place places))) in
    let rest = read_kept f u v places (λ q k. same q (omega (arith, k, among_within place q places))) in
    ap (λ packet. f packet ∷ map (λ p. f (packet_at v p)) places) here ∙ ap (λ more. f (packet_at u place) ∷ more) rest

-- the world is sound with fewer places in hand
pub sound_less : {w : World} {mine : ℕ → ℕ} (fewer : ℕ → ℕ) → ((q : ℕ) → fewer q ≤ mine q) → IsSound w mine → IsSound w fewer
sound_less {w} fewer less h = record {
  once = λ q. omega (arith, h.once q, less q);
  in_use = λ q k. h.in_use q (omega (arith, k, less q));
  lengths = h.lengths;
  rows = h.rows;
}

-- what is in hand is kept
pub kept_in_hand : {w : World} {mine : ℕ → ℕ} → IsSound w mine → AreKept w.used mine
kept_in_hand h = record {
  once = λ q. omega (arith, h.once q);
  in_use = λ q k. h.in_use q (omega (arith, k));
}

-- a run beside places that it doesn't touch, and what stays there
pub runs_with : {R : Type 0} {m : Meaning R} {w v : World} {before after : ℕ → ℕ} {r : Result R Halt} (rest earlier later : ℕ → ℕ)
    → ((q : ℕ) → earlier q ≡ before q + rest q) → ((q : ℕ) → later q ≡ after q + rest q) → Runs m w v before after r
    → Runs m w v earlier later r
runs_with rest earlier later first last run = runs_as earlier later first last (runs_beside rest run)

pub kept_beside : {R : Type 0} {m : Meaning R} {w v : World} {before after : ℕ → ℕ} {x : R} (rest mine : ℕ → ℕ)
    → ((q : ℕ) → mine q ≡ before q + rest q) → IsSound w mine → Runs m w v before after (Ok x)
    → (q : ℕ) → 0 < rest q → v.used q ≡ w.used q
kept_beside {x = x} rest mine sum h run q k = (run.moves x refl).kept rest (sound_as (λ p. sym (sum p)) h) q k

pub sound_with : {R : Type 0} {m : Meaning R} {w v : World} {before after : ℕ → ℕ} {x : R} (rest earlier later : ℕ → ℕ)
    → ((q : ℕ) → earlier q ≡ before q + rest q) → ((q : ℕ) → later q ≡ after q + rest q) → IsSound w earlier
    → Runs m w v before after (Ok x) → IsSound v later
sound_with {x = x} rest earlier later first last h run =
    sound_moved ((runs_with rest earlier later first last run).moves x refl) h

-- memory was refused before anything was done
pub runs_lost : {R : Type 0} (m : Meaning R) (w : World) (before after : ℕ → ℕ) → Runs m w w before after (Err OutOfMemory)
unfolding desk_of
runs_lost m w before after = record { answers = answers_lost m (stays_same w.tray); moves = λ x e. absurd (cc) }

-- where a take gave nothing, the link had nothing
nothing_there : (queue : Option Queue) (row : ℕ) (d v : Desk) (entries rest : List Entry)
    → taking_front row (front_rest queue) d entries ≡ done None v rest → readable_of queue ≡ 0
unfolding taking_front pure ◌>>=◌ go_on change
nothing_there None row d v entries rest e = refl
nothing_there (Some queue) row d v entries rest e = by_packets queue.packets queue.counts e
  where
    by_packets : (packets : List PacketState) (counts : LinkCounts) → taking_front row (front_of_list packets counts) d entries
        ≡ done None v rest → length packets ≡ 0
    by_packets [] counts e = refl
    by_packets (packet ∷ more) counts e = absurd (cc)

pub nothing_taken : {w v : World} (row : ℕ) (used : Used) (result : Option ℕ) → result ≡ None
    → Runs (takes row) w v nowhere (at_answer result) (Ok (option_map (packet_at used) result)) → readable row (desk_of w) ≡ 0
unfolding takes look AnswersCase
nothing_taken {w} {v} row used result none run =
    let took = subst (λ r. Runs (takes row) w v nowhere (at_answer r) (Ok (option_map (packet_at used) r))) none run in
    let read = took.answers.by_case in
    nothing_there ((desk_of w).queues row) row (desk_of w) (desk_of v) (read.entries ++ []) [] (read.gives [])

-- LOOPS BY LEADS

pub leads_start : {R : Type 0} (m : Meaning R) (w : World) (mine : ℕ → ℕ) → IsSound w mine → Leads m m w w mine mine
leads_start m w mine h = record { stays = stays_same w.tray; sound = h; continues = continues_start m w mine }

pub leads_as : {R : Type 0} {left other whole : Meaning R} {start now : World} {before mine : ℕ → ℕ}
    → left ≡ other → Leads left whole start now before mine → Leads other whole start now before mine
leads_as e c = record { stays = c.stays; sound = c.sound; continues = continues_as e c.continues }

pub leads_bind : {R S : Type 0} {m : Meaning R}
    (k : R → Meaning S) {whole : Meaning S} {start now next : World} {before mine mid : ℕ → ℕ} {x : R}
    → Leads (m >>= k) whole start now before mine → Runs m now next mine mid (Ok x) → Leads (k x) whole start next before mid
unfolding desk_of
leads_bind k {x = x} c run = record {
  stays = stays_then c.stays run.answers.stays;
  sound = sound_moved (run.moves x refl) c.sound;
  continues = continues_bind k c.continues run;
}

pub leads_done : {R : Type 0} {left whole : Meaning R} {start now later : World} {before mine after : ℕ → ℕ} {r : Result R Halt}
    → Leads left whole start now before mine → Runs left now later mine after r → Runs whole start later before after r
leads_done c run = continues_done c.continues run

pub leads_end : {R : Type 0} {x : R} {whole : Meaning R} {start now : World} {before mine : ℕ → ℕ}
    → Leads (pure x) whole start now before mine → Runs whole start now before mine (Ok x)
leads_end {x = x} {now = now} {mine = mine} c = leads_done c (runs_pure x now mine)

-- where what is left looks at the desk
pub goes_look : {R : Type 0} (f : Desk → Meaning R) {whole : Meaning R} {start now : World} {before mine : ℕ → ℕ}
    {from to : Ports}
    → Goes (look f) whole start now before mine from to → Goes (f (desk_of now)) whole start now before mine from to
goes_look f c = record {
  same = c.same;
  rows = c.rows;
  stays = c.stays;
  sound = c.sound;
  continues = record { ends = λ later after result run. c.continues.ends later after result (runs_look f run) };
}

-- PACKETS ARE FREED IN ORDER

frees_more : List PacketState → Bool → Meaning Bool
frees_more packets on = if on then frees_each packets else pure false

frees_left : (packet : PacketState) (packets : List PacketState) → frees_each (packet ∷ packets)
    ≡ ((frees (name_of packet) >> pure true) >>= frees_more packets)
unfolding frees_each on_each frees_more
frees_left packet packets = refl

-- by names, as by packets
pub frees_all_is : (used : Used) (places : List ℕ) → frees_all (names_at used places) ≡ frees_each (packets_at used places)
unfolding frees_all frees_each on_each
frees_all_is used [] = refl
frees_all_is used (place ∷ places) =
    ap (λ (rest : Meaning Bool). (frees (name_of (packet_at used place)) >> pure true) >>=
    (λ on. if on then rest else pure false)) (frees_all_is used places)

module _ (place : ℕ) (rest : List ℕ) (start now after : Used) (same : (q : ℕ) → 0 < among (place ∷ rest) q → now q ≡ start q)
    (used : after ≡ put_at place None now) where
  pub freed_other : AreKept now (among (place ∷ rest)) → (q : ℕ) → 0 < among rest q → after q ≡ now q
  freed_other kept q k = ap (λ f. f q) used ∙ put_at_other place None now q differs
    where
      differs : q ≢ place
      differs e =
          let P : ℕ → Type 0 = λ p. 0 < among rest p in
          let here : 0 < among rest place = subst P e k in
          absurd (omega (arith, here, kept.once place, among_first place rest))

  pub freed_same : AreKept now (among (place ∷ rest)) → (q : ℕ) → 0 < among rest q → after q ≡ start q
  freed_same kept q k = freed_other kept q k ∙ same q (omega (arith, k, among_within place q rest))

  pub freed_kept : AreKept now (among (place ∷ rest)) → AreKept after (among rest)
  freed_kept kept = record {
    once = λ q. omega (arith, kept.once q, among_within place q rest);
    in_use = λ q k. something (now q) (after q) (kept.in_use q (omega (arith, k, among_within place q rest)))
        (sym (freed_other kept q k));
  }

  pub freed_next : {t s : Tray} → s ≡ freed (name_of (packet_at now place)) t
      → (slots : List (Option Line)) {whole : Meaning Bool} {begin : World} {before : ℕ → ℕ}
      → Leads (frees_each (packets_at start (place ∷ rest))) whole begin (world t now slots) before (among (place ∷ rest))
      → Leads (frees_each (packets_at start rest)) whole begin (world s after slots) before (among rest)
  unfolding frees_more
  freed_next {t} {s} tray slots c =
      let packet : packet_at now place ≡ packet_at start place =
      ap (λ (slot : Option PacketState). unwrap_or slot no_packet) (same place (omega (arith, among_first place rest))) in
      let sound : IsSound (world t now slots) (among (place ∷ [])) =
      sound_less (among (place ∷ [])) (λ q. omega (arith, among_cons place rest q)) c.sound in
      let gone = subst (λ p. Runs (frees (name_of p)) (world t now slots) (world s after slots) (among (place ∷ [])) nowhere
      (Ok tt)) packet (runs_free now after slots place sound tray used) in
      let step = runs_bind (λ done. pure true) gone (runs_pure true (world s after slots) nowhere) in
      leads_bind (frees_more (packets_at start rest)) (leads_as (frees_left (packet_at start place) (packets_at start rest)) c)
      (runs_with (among rest) (among (place ∷ rest)) (among rest) (λ q. among_cons place rest q) (λ q. omega arith) step)

pub freed_all : (start : Used) {whole : Meaning Bool} {begin now : World} {before : ℕ → ℕ}
    → Leads (frees_each (packets_at start [])) whole begin now before (among []) → Runs whole begin now before nowhere (Ok true)
unfolding frees_each on_each
freed_all start {before = before} c = runs_as before nowhere (λ q. refl) (λ q. refl) (leads_end c)

-- what a part of a call keeps of the context
pub with_stays : {R : Type 0} {before after : List ℕ} {m : Meaning R} {t s : Tray} {u v : Used} {from to : Ports}
    {r : Result R Halt}
    → DidWith before after m t s u v from to r → Stays t s
unfolding desk_of
with_stays d = d.runs.answers.stays
