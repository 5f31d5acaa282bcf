-- The row of an attach over a seat's trays.
use Rattle.std.proofs.Common.{◌≡◌, ℕ, ◌==◌, ◌&&◌, ◌∷◌, ◌++◌, ◌∙◌, Bool, true, false, not, cond, List, [], Option, Some, None}
use Rattle.std.proofs.Common.{Result, Ok, Err, refl, sym, ap, subst}
use Rattle.std.proofs.lemmas.Bool.{and_from, eq-eqb, ne_eqb}
use Rattle.sn_core.specs.declared.events.Side.{Side}
use Rattle.sn_core.specs.declared.events.Side.TheVariants.{Tx, Rx}
use Rattle.sn_interlink.specs.Answers.{found_in}
use Rattle.sn_interlink.specs.Course as course
use Rattle.sn_interlink.specs.declared.answers.Attached.{Attached}
use Rattle.sn_interlink.specs.declared.answers.Attached.TheVariants as attached
use Rattle.sn_journal.specs.declared.entry.Entry.{Entry}
use Rattle.sn_journal.specs.declared.entry.Entry.TheVariants.{Attach, Unattached, Stop}
use Rattle.sn_packet.specs.Packet.{PacketState}
use Rattle.sn_app.specs.Counts.{CounterRows}
use Rattle.sn_app.specs.Answers.{AnswersCase, Halts, OnTray, Reads}
use Rattle.sn_app.specs.Calls.{LeavesOtherEnds}
use Rattle.sn_app.specs.Desk.{Constants, Desk, End, Queue, Tray, after_entry, gate_passed, set_end, unsynced_end, up_end}
use Rattle.sn_app.specs.Desk.{with_end}
use Rattle.sn_app.specs.Gates.{gate_by, gate_in, stands}
use Rattle.sn_app.specs.Reader.{Meaning, Outcome, change_tray, done, go_on, pure, read, read_if, reading_if, refused, stopped}
use Rattle.sn_app.specs.Reader.{◌>>=◌}
use Rattle.sn_app.specs.Rows.{attach_from, attach_or_not, attached as attached_row, came_up, is_down_entry, not_down, row_attach}
use Rattle.sn_app.specs.Words.{is_down, is_open_to, is_up_in, is_word}
use Rattle.sn_app.specs.declared.end_state.EndState.{EndState}
use Rattle.sn_app.specs.declared.end_state.EndState.TheVariants.{Out, Up, Closing}
use Rattle.sn_app.specs.declared.halt.Halt.{Halt}
use Rattle.sn_app.specs.declared.halt.Halt.TheVariants.{Stopped, OutOfMemory}
use Rattle.sn_app.proofs.OnTrays.{tray_bind, tray_changed, tray_fail, tray_pure}
use Rattle.sn_app.proofs.OtherEnds.{no_end, only_end, set_end_at, set_end_twice}
use Rattle.sn_app.proofs.Playing.{desk}
use Rattle.sn_app.proofs.Readings.{answers_at, answers_look}
use Rattle.sn_seat.specs.AttachReads.{NotesOne, NotesOther, is_come, row_looked, row_try}
use Rattle.sn_seat.specs.GateSteps.{GateStep}
use Rattle.sn_seat.specs.LaneSteps.{Differs, FoundAs, attach_entry, attached_ends}
use Rattle.sn_seat.specs.Trays.{no_captures, tray_by}
use Rattle.sn_seat.specs.declared.seat.Seat.{Seat}
use Rattle.sn_seat.proofs.LaneRows.{after_step, tray_read, tray_skip}

-- a list goes on from another in one way
append_cancel : (xs ys zs : List Entry) → xs ++ ys ≡ xs ++ zs → ys ≡ zs
append_cancel [] ys zs e = e
append_cancel (x ∷ xs) ys zs e = append_cancel xs ys zs (ap rest e)
  where
    rest : List Entry → List Entry
    rest [] = []
    rest (w ∷ ws) = ws

-- WORDS

down_as : (zero rx tx : Bool) → (not zero && not rx && not tx) ≡ (not zero && (not tx && not rx))
down_as true true true = refl
down_as true true false = refl
down_as true false true = refl
down_as true false false = refl
down_as false true true = refl
down_as false true false = refl
down_as false false true = refl
down_as false false false = refl

-- a word is down here as it is there
pub down_same : (word : ℕ) → is_word word ≡ true → is_down word ≡ course.is_down word
down_same word is =
    ap (λ b. b && (not (word == 0) && (not (is_up_in Tx word) && not (is_up_in Rx word)))) is
    ∙ sym (down_as (word == 0) (is_up_in Rx word) (is_up_in Tx word))

pub open_word : (side : Side) (word : ℕ) → FoundAs side false word → course.is_down word ≡ false → is_open_to side word ≡ true
open_word side word found up =
    and_from (is_word word) (not (is_down word) && not (is_up_in side word)) found.word_is
    (and_from (not (is_down word)) (not (is_up_in side word)) (ap not (down_same word found.word_is ∙ up)) (ap not found.own))

-- TRYING

told_at : (lane : ℕ) (side : Side) (seen : ℕ) → is_open_to side seen ≡ true → attach_or_not lane side (Attach lane seen)
    ≡ Some true
told_at lane side seen open_yet =
    ap (λ b. cond b (Some true) None) (and_from (lane == lane) (is_open_to side seen) (eq-eqb lane lane refl) open_yet)

miss_told : (lane : ℕ) (side : Side) (seen found : ℕ) → is_open_to side seen ≡ true → is_word found ≡ true → (found ≡ seen → ⊥)
    → attach_or_not lane side (Unattached lane seen found) ≡ Some false
miss_told lane side seen found open_yet word differs =
    ap (λ b. cond b (Some false) None)
    (and_from (lane == lane) (is_open_to side seen && (is_word found && not (seen == found))) (eq-eqb lane lane refl)
    (and_from (is_open_to side seen) (is_word found && not (seen == found)) open_yet
    (and_from (is_word found) (not (seen == found)) word (ap not (ne_eqb seen found (λ e. differs (sym e)))))))

module _ {t u v : Tray} (gated : OnTray (gate_by true) t u (Ok tt)) (may : (entry : Entry) → u.log.constants.may entry ≡ true)
    (lane : ℕ) (side : Side) (seen : ℕ) (open_yet : is_open_to side seen ≡ true) where
  try_missed : (found : ℕ) → is_word found ≡ true → (found ≡ seen → ⊥) → v ≡ after_entry (Unattached lane seen found) u
      → OnTray (row_try lane side) t v (Ok false)
  unfolding gate_in stands attached_row
  try_missed found word differs now =
      subst (λ z. OnTray (row_try lane side) t z (Ok false)) (sym now)
      (tray_bind (attached_row lane side)
      (tray_bind (λ x. read (attach_or_not lane side)) gated
      (tray_read (attach_or_not lane side) u (Unattached lane seen found) false
      (miss_told lane side seen found open_yet word differs) (may (Unattached lane seen found))))
      (tray_pure false (after_entry (Unattached lane seen found) u)))

pub try_came : {t u v : Tray} → OnTray (gate_by true) t u (Ok tt) → ((entry : Entry) → u.log.constants.may entry ≡ true)
    → (lane : ℕ) (side : Side) (seen : ℕ) → is_open_to side seen ≡ true → v ≡ after_step lane side up_end (Attach lane seen) u
    → OnTray (row_try lane side) t v (Ok true)
unfolding gate_in stands attached_row came_up
try_came {t} {u} {v} gated may lane Tx seen open_yet now =
    subst (λ z. OnTray (row_try lane Tx) t z (Ok true)) (sym now)
    (tray_bind (attached_row lane Tx)
    (tray_bind (λ x. read (attach_or_not lane Tx)) gated
    (tray_read (attach_or_not lane Tx) u (Attach lane seen) true (told_at lane Tx seen open_yet) (may (Attach lane seen))))
    (tray_bind (λ x. pure true)
    (tray_changed (with_end lane Tx up_end) (after_entry (Attach lane seen) u) refl
    (record { constants = refl; started = λ file h. h }))
    (tray_pure true (after_step lane Tx up_end (Attach lane seen) u))))
try_came {t} {u} {v} gated may lane Rx seen open_yet now =
    let a : Tray = after_entry (Attach lane seen) u in
    let b : Tray = with_end lane Rx unsynced_end a in
    let e : Tray = with_end lane Rx up_end b in
    let same : e ≡ after_step lane Rx up_end (Attach lane seen) u =
    ap (λ es. record a { ends = es }) (set_end_twice lane Rx up_end unsynced_end u.ends) in
    subst (λ z. OnTray (row_try lane Rx) t z (Ok true)) (same ∙ sym now)
    (tray_bind (attached_row lane Rx)
    (tray_bind (λ x. read (attach_or_not lane Rx)) gated
    (tray_read (attach_or_not lane Rx) u (Attach lane seen) true (told_at lane Rx seen open_yet) (may (Attach lane seen))))
    (tray_bind (λ x. pure true)
    (tray_bind (λ x. change_tray (with_end lane Rx up_end))
    (tray_bind (λ x. gate_by false)
    (tray_changed (with_end lane Rx unsynced_end) a refl (record { constants = refl; started = λ file h. h })) (tray_skip b))
    (tray_changed (with_end lane Rx up_end) b refl (record { constants = refl; started = λ file h. h })))
    (tray_pure true e)))

pub try_fails : {t u : Tray} {halt : Halt} → OnTray (gate_by true) t u (Err halt) → (lane : ℕ) (side : Side)
    → OnTray (row_try lane side) t u (Err halt)
unfolding gate_in stands
try_fails gated lane side = tray_fail (attached_row lane side) (tray_fail (λ x. read (attach_or_not lane side)) gated)

-- whatever the answer is
abbrev pub tried : ℕ → Side → ℕ → Attached → Tray → Tray
tried lane side seen attached.Up u = after_step lane side up_end (Attach lane seen) u
tried lane side seen (attached.Again found) u = after_entry (Unattached lane seen found) u

pub try_reads : {t u v : Tray} → OnTray (gate_by true) t u (Ok tt) → ((entry : Entry) → u.log.constants.may entry ≡ true)
    → (lane : ℕ) (side : Side) (seen : ℕ) → is_open_to side seen ≡ true → (answer : Attached)
    → FoundAs side false (found_in seen answer) → Differs seen answer → v ≡ tried lane side seen answer u
    → OnTray (row_try lane side) t v (Ok (is_come answer))
try_reads gated may lane side seen open_yet attached.Up word differs now = try_came gated may lane side seen open_yet now
try_reads gated may lane side seen open_yet (attached.Again found) word differs now =
    try_missed gated may lane side seen open_yet found word.word_is differs now

-- an attaching never says that the interlink is down
pub other_entry : (lane seen : ℕ) (answer : Attached) → Differs seen answer → is_down_entry lane
    (attach_entry lane seen answer) ≡ false
other_entry lane seen attached.Up differs = refl
other_entry lane seen (attached.Again found) differs =
    rw (eq-eqb lane lane refl, ne_eqb seen found (λ e. differs (sym e))) refl

-- THE STATE WORD WAS LOADED

-- and is down
pub looked_down : (u v : Tray) (lane : ℕ) (side : Side) (word : ℕ) → is_down word ≡ true
    → u.log.constants.may (Unattached lane word word) ≡ true → v ≡ after_entry (Unattached lane word word) u
    → OnTray (row_looked lane side) u v (Ok false)
unfolding AnswersCase not_down pure ◌>>=◌ go_on read_if reading_if
looked_down u v lane side word down may now =
    subst (λ z. OnTray (row_looked lane side) u z (Ok false)) (sym now) (record {
      at = λ queues. record {
        stays = record { constants = refl; started = λ file h. h };
        by_case = record {
          entries = Unattached lane word word ∷ [];
          past = refl;
          only = and_from (u.log.constants.may (Unattached lane word word)) true may refl;
          gives = λ rest. ap (λ b. go_on (reading_if b (Unattached lane word word) (desk u queues) rest) (not_down lane side)) is;
        };
      };
    })
  where
    is : is_down_entry lane (Unattached lane word word) ≡ true
    is = rw (eq-eqb lane lane refl, eq-eqb word word refl, down) refl

-- or isn't, so that what follows is the rest
skipped : (lane : ℕ) (side : Side) (u : Tray) (queues : ℕ → Option Queue) (entry : Entry) (rest : List Entry)
    → is_down_entry lane entry ≡ false
    → row_looked lane side (desk u queues) (entry ∷ rest) ≡ row_try lane side (desk u queues) (entry ∷ rest)
unfolding not_down ◌>>=◌ go_on read_if reading_if
skipped lane side u queues entry rest other =
    ap (λ b. go_on (reading_if b entry (desk u queues) rest) (not_down lane side)) other

module _ (lane : ℕ) (side : Side) (u v : Tray) (queues : ℕ → Option Queue) (n : NotesOne lane u.log.past v.log.past) where
  one_entry : (entries : List Entry) → v.log.past ≡ u.log.past ++ entries → entries ≡ n.entry ∷ []
  one_entry entries past = append_cancel u.log.past entries (n.entry ∷ []) (sym past ∙ n.noted)

  as_looked : (entries rest : List Entry) → v.log.past ≡ u.log.past ++ entries
      → row_looked lane side (desk u queues) (entries ++ rest) ≡ row_try lane side (desk u queues) (entries ++ rest)
  as_looked entries rest past =
      let one : entries ≡ n.entry ∷ [] = one_entry entries past in
      ap (λ es. row_looked lane side (desk u queues) (es ++ rest)) one
      ∙ (skipped lane side u queues n.entry rest n.other ∙ ap (λ es. row_try lane side (desk u queues) (es ++ rest)) (sym one))

  read_on : (x : Bool) → Reads (row_try lane side) (desk u queues) (desk v queues) x
      → Reads (row_looked lane side) (desk u queues) (desk v queues) x
  read_on x f = record {
    entries = f.entries;
    past = f.past;
    only = f.only;
    gives = λ rest. as_looked f.entries rest f.past ∙ f.gives rest;
  }

  halt_on : Halts (row_try lane side) (desk u queues) (desk v queues) → Halts (row_looked lane side) (desk u queues)
      (desk v queues)
  halt_on f = record {
    entries = f.entries;
    past = f.past;
    only = f.only;
    gives = λ rest ended. as_looked f.entries rest f.past ∙ f.gives rest ended;
  }

case_on : (lane : ℕ) (side : Side) (u v : Tray) (queues : ℕ → Option Queue) (r : Result Bool Halt)
    → NotesOther lane u.log.past r v.log.past → AnswersCase (row_try lane side) (desk u queues) (desk v queues) r
    → AnswersCase (row_looked lane side) (desk u queues) (desk v queues) r
unfolding AnswersCase
case_on lane side u v queues (Ok x) n f = read_on lane side u v queues n x f
case_on lane side u v queues (Err Stopped) n f = halt_on lane side u v queues n f
case_on lane side u v queues (Err OutOfMemory) n f = tt

pub looked_on : (lane : ℕ) (side : Side) (u v : Tray) (r : Result Bool Halt) → NotesOther lane u.log.past r v.log.past
    → OnTray (row_try lane side) u v r → OnTray (row_looked lane side) u v r
looked_on lane side u v r n f = record {
  at = λ queues. record { stays = (f.at queues).stays; by_case = case_on lane side u v queues r n (f.at queues).by_case };
}

-- THE WHOLE ROW

bind_assoc : {S : Type 0} (m : Meaning Bool) (k : Bool → Meaning S) (o : Outcome Unit)
    → go_on (go_on o (λ x. m)) k ≡ go_on o (λ x. m >>= k)
unfolding ◌>>=◌ go_on
bind_assoc m k (done x d es) = refl
bind_assoc m k (stopped d es) = refl
bind_assoc m k (refused d es) = refl

pub assoc_at : {S : Type 0} (gate : Meaning Unit) (m : Meaning Bool) (k : Bool → Meaning S) (d : Desk) (es : List Entry)
    → ((gate >>= (λ x. m)) >>= k) d es ≡ (gate >>= (λ x. m >>= k)) d es
unfolding ◌>>=◌
assoc_at gate m k d es = bind_assoc m k (gate d es)

out_row : {t v : Tray} {r : Result Bool Halt} (lane : ℕ) (side : Side) (state : EndState) → state ≡ Out
    → OnTray (gate_by true >>= (λ x. row_looked lane side)) t v r → OnTray (attach_from lane side state) t v r
unfolding attach_from gate_in stands
out_row lane side Out is f = record {
  at = λ queues. answers_at (λ es. assoc_at (gate_by true) (read_if (is_down_entry lane)) (not_down lane side) _ es)
      (f.at queues);
}
out_row lane side Up is f = absurd (let e : 1 ≡ 0 = ap code is in cc)
  where
    code : EndState → ℕ
    code Out = 0
    code Up = 1
    code Closing = 2
out_row lane side Closing is f = absurd (let e : 2 ≡ 0 = ap code is in cc)
  where
    code : EndState → ℕ
    code Out = 0
    code Up = 1
    code Closing = 2

pub attach_reads : {t u v : Tray} {r : Result Bool Halt} (lane : ℕ) (side : Side) → (t.ends lane side).state ≡ Out
    → OnTray (gate_by true) t u (Ok tt) → OnTray (row_looked lane side) u v r → OnTray (row_attach lane side) t v r
unfolding row_attach
attach_reads {t} {u} {v} {r} lane side out gated looked = record {
  at = λ queues. answers_look (λ d. attach_from lane side (d.tray.ends lane side).state)
      ((out_row lane side (t.ends lane side).state out (tray_bind (λ x. row_looked lane side) gated looked)).at queues);
}

pub attach_fails : {t u : Tray} {halt : Halt} (lane : ℕ) (side : Side) → (t.ends lane side).state ≡ Out
    → OnTray (gate_by true) t u (Err halt) → OnTray (row_attach lane side) t u (Err halt)
unfolding row_attach
attach_fails {t} {u} {halt} lane side out gated = record {
  at = λ queues. answers_look (λ d. attach_from lane side (d.tray.ends lane side).state)
      ((out_row lane side (t.ends lane side).state out (tray_fail (λ x. row_looked lane side) gated)).at queues);
}

up_row : (t : Tray) (lane : ℕ) (side : Side) (state : EndState) → state ≡ Up → OnTray (attach_from lane side state) t t (Ok true)
unfolding attach_from
up_row t lane side Up is = tray_pure true t
up_row t lane side Out is = absurd (let e : 0 ≡ 1 = ap code is in cc)
  where
    code : EndState → ℕ
    code Out = 0
    code Up = 1
    code Closing = 2
up_row t lane side Closing is = absurd (let e : 2 ≡ 1 = ap code is in cc)
  where
    code : EndState → ℕ
    code Out = 0
    code Up = 1
    code Closing = 2

pub attach_up : (t : Tray) (lane : ℕ) (side : Side) → (t.ends lane side).state ≡ Up → OnTray (row_attach lane side) t t (Ok true)
unfolding row_attach
attach_up t lane side up = record {
  at = λ queues. answers_look (λ d. attach_from lane side (d.tray.ends lane side).state)
      ((up_row t lane side (t.ends lane side).state up).at queues);
}

-- A SEAT'S STEPS

-- a seat's tray after an attaching
pub tried_is : (constants : Constants) (past : List Entry) (gates : ℕ) (frees : List PacketState) (ends : ℕ → Side → End)
    (counters : CounterRows) (files : List (Option (List ℕ))) (lane : ℕ) (side : Side) (seen : ℕ) (answer : Attached)
    → tray_by constants (past ++ attach_entry lane seen answer ∷ []) 0 frees (attached_ends lane side answer ends) counters files
    ≡ tried lane side seen answer (tray_by constants past gates frees ends counters files)
tried_is constants past gates frees ends counters files lane side seen attached.Up = refl
tried_is constants past gates frees ends counters files lane side seen (attached.Again found) = refl

pub up_after : (lane : ℕ) (side : Side) (answer : Attached) (ends : ℕ → Side → End) → is_come answer ≡ true
    → (attached_ends lane side answer ends lane side).state ≡ Up
up_after lane side attached.Up ends come = ap (λ (e : End). e.state) (set_end_at lane side up_end ends)
up_after lane side (attached.Again found) ends come = absurd cc

pub leaves_tried : (lane : ℕ) (side : Side) (seen : ℕ) (answer : Attached) (t u v : Tray) → u ≡ gate_passed t
    → v ≡ tried lane side seen answer u → LeavesOtherEnds lane side t v
leaves_tried lane side seen attached.Up t u v first second = record {
  constants = ap (λ (z : Tray). z.log.constants) second ∙ ap (λ (z : Tray). z.log.constants) first;
  files = ap (λ (z : Tray). z.files) second ∙ ap (λ (z : Tray). z.files) first;
  others = only_end lane side up_end t.ends v.ends
      (ap (λ (z : Tray). z.ends) second ∙ ap (λ (z : Tray). set_end lane side up_end z.ends) first);
}
leaves_tried lane side seen (attached.Again found) t u v first second = record {
  constants = ap (λ (z : Tray). z.log.constants) second ∙ ap (λ (z : Tray). z.log.constants) first;
  files = ap (λ (z : Tray). z.files) second ∙ ap (λ (z : Tray). z.files) first;
  others = no_end lane side t.ends v.ends (ap (λ (z : Tray). z.ends) second ∙ ap (λ (z : Tray). z.ends) first);
}

pub leaves_noted : (lane : ℕ) (side : Side) (entry : Entry) (t v : Tray) → v ≡ after_entry entry t → LeavesOtherEnds lane side t v
leaves_noted lane side entry t v now = record {
  constants = ap (λ (z : Tray). z.log.constants) now;
  files = ap (λ (z : Tray). z.files) now;
  others = no_end lane side t.ends v.ends (ap (λ (z : Tray). z.ends) now);
}

-- a gate that isn't passed notes no more than Stop
pub notes_gated : (lane : ℕ) (old new : Seat) (halt : Halt) → GateStep old (Err halt) new
    → NotesOther lane old.ledger.journal.entries (Err halt) new.ledger.journal.entries
notes_gated lane old new Stopped step = record {
  entry = Stop;
  noted = ap (λ (z : Tray). z.log.past) (step.tray no_captures);
  other = refl;
}
notes_gated lane old new OutOfMemory step = tt
