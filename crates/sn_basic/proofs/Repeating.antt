-- What a repeater keeps, and how it sends copies of it in turn.
use Rattle.std.proofs.Common.{◌≡◌, ℕ, zero, suc, ◌-◌, ◌<◌, true, false, List, [], ◌∷◌, ◌++◌, length, get_or, Option, Some, None, IfSome, Result, Ok, Err, unwrap_or, min, refl, sym, ap, subst, ◌∙◌, arith}
use Rattle.std.proofs.lemmas.List.{get_or-map, length-map, map_push}
use Rattle.std.specs.Option.{option_map}
use Rattle.sn_link.specs.Link.{Line, most_queued}
use Rattle.sn_packet.specs.Hold.{among}
use Rattle.sn_packet.specs.Packet.{PacketState, no_packet}
use Rattle.sn_app.specs.Answers.{OnTray}
use Rattle.sn_app.specs.Apps.{AppState, keep_next, keep_one, keep_some, next_kept, readable, repeat_one, repeat_some, repeat_with, repeater, repeater_push, room_on, sends_counted}
use Rattle.sn_app.specs.Calls.{IsFresh, bytes_at, named, rewritten_at}
use Rattle.sn_app.specs.Desk.{Tray, counted_on}
use Rattle.sn_app.specs.Hands.{DidWith, packets_at}
use Rattle.sn_app.specs.Loops.{Did}
use Rattle.sn_app.specs.Ports.{KeepsRows, SamePorts, out_row, slots_of}
use Rattle.sn_app.specs.Reader.{Meaning, pure, ◌>>=◌, stepping}
use Rattle.sn_app.specs.Rows.{packet_of, row_allocate, sends, takes}
use Rattle.sn_app.specs.Runs.{Runs}
use Rattle.sn_app.specs.World.{IsSound, Used, World, at_answer, desk_of, nowhere, packet_at, world}
use Rattle.sn_app.specs.declared.counters.Counter.TheVariants.{Packets, Dry}
use Rattle.sn_app.specs.declared.halt.Halt.{Halt}
use Rattle.sn_app.specs.declared.ports.Ports.{Ports}
use Rattle.sn_app.proofs.Calling.{gave, halts, runs_allocate_err, runs_allocate_none, runs_allocate_some}
use Rattle.sn_app.proofs.Handling.{did_look, sound_without}
use Rattle.sn_app.proofs.Hands.{among_cons, among_here, among_push, kept_beside, read_kept, runs_with}
use Rattle.sn_app.proofs.Looping.{did_as, out_row_kept}
use Rattle.sn_app.proofs.Making.{made_runs, made_sent, made_sound, runs_runs_dry, runs_sends_counted}
use Rattle.sn_app.proofs.Moving.{sound_moved}
use Rattle.sn_app.proofs.Running.{runs_bind, runs_fail, runs_look, runs_pure}

-- KEEPING

-- a take, by the row of the start
pub taken_at : {t : Tray} (u : Used) (to later : Ports) {here input : ℕ} (result : Option ℕ) → here ≡ input
    → Runs (takes here) (world t u (slots_of to)) (world t u (slots_of later)) nowhere (at_answer result)
    (Ok (option_map (packet_at u) result))
    → Runs (takes input) (world t u (slots_of to)) (world t u (slots_of later)) nowhere (at_answer result)
    (Ok (option_map (packet_at u) result))
taken_at {t} u to later result is run =
    subst (λ row. Runs (takes row) (world t u (slots_of to)) (world t u (slots_of later)) nowhere (at_answer result)
    (Ok (option_map (packet_at u) result))) is run

module _ {t : Tray} (u : Used) (to later : Ports) (input : ℕ) (kept : List ℕ) (result : Option ℕ)
    (run : Runs (takes input) (world t u (slots_of to)) (world t u (slots_of later)) nowhere (at_answer result)
    (Ok (option_map (packet_at u) result))) where
  -- one more is kept
  pub kept_one : (place : ℕ) → result ≡ Some place
      → Runs (keep_one input (packets_at u kept)) (world t u (slots_of to)) (world t u (slots_of later)) (among kept)
      (among (kept ++ place ∷ [])) (Ok (true, packets_at u (kept ++ place ∷ [])))
  unfolding keep_one keep_next
  kept_one place some =
      let took = subst (λ r. Runs (takes input) (world t u (slots_of to)) (world t u (slots_of later)) nowhere (at_answer r)
      (Ok (option_map (packet_at u) r))) some run in
      let packets : packets_at u (kept ++ place ∷ []) ≡ packets_at u kept ++ packet_at u place ∷ [] =
      map_push (λ (p : ℕ). packet_at u p) kept place in
      subst (λ (more : List PacketState). Runs (keep_one input (packets_at u kept)) (world t u (slots_of to))
      (world t u (slots_of later))
      (among kept) (among (kept ++ place ∷ [])) (Ok (true, more))) (sym packets)
      (runs_bind (keep_next (packets_at u kept))
      (runs_with (among kept) (among kept) (among (kept ++ place ∷ [])) (λ q. omega arith)
      (λ q. omega (arith, among_push kept place q)) took)
      (runs_pure (true, packets_at u kept ++ packet_at u place ∷ []) (world t u (slots_of later)) (among (kept ++ place ∷ []))))

  -- there was none
  pub kept_none : result ≡ None
      → Runs (keep_one input (packets_at u kept)) (world t u (slots_of to)) (world t u (slots_of later)) (among kept) (among kept)
      (Ok (false, packets_at u kept))
  unfolding keep_one keep_next
  kept_none none =
      let took = subst (λ r. Runs (takes input) (world t u (slots_of to)) (world t u (slots_of later)) nowhere (at_answer r)
      (Ok (option_map (packet_at u) r))) none run in
      runs_bind (keep_next (packets_at u kept))
      (runs_with (among kept) (among kept) (among kept) (λ q. omega arith) (λ q. omega arith) took)
      (runs_pure (false, packets_at u kept) (world t u (slots_of later)) (among kept))

-- as many as are there and may still be kept
pub kept_some : {t : Tray} (u : Used) (from to : Ports) (input count : ℕ)
    (before after : List ℕ) {r : Result (List PacketState) Halt}
    → count ≡ min (readable input (desk_of (world t u (slots_of from)))) (most_queued - length before)
    → DidWith before after (stepping count (keep_one input) (packets_at u before)) t t u u from to r
    → DidWith before after (keep_some input (packets_at u before)) t t u u from to r
unfolding keep_some
kept_some {t} u from to input count before after {r} is d =
    let packets = packets_at u before in
    let count_is : count ≡ min (readable input (desk_of (world t u (slots_of from)))) (most_queued - length packets) =
    is ∙ ap (λ n. min (readable input (desk_of (world t u (slots_of from)))) (most_queued - n))
    (sym (length-map before (λ (p : ℕ). packet_at u p))) in
    record {
      runs = runs_look (λ d. stepping (min (readable input d) (most_queued - length packets)) (keep_one input) packets)
          (subst (λ n. Runs (stepping n (keep_one input) packets) (world t u (slots_of from)) (world t u (slots_of to))
          (among before) (among after) r) count_is d.runs);
      same = d.same;
      rows = d.rows;
    }

-- REPEATING

-- a place of the list stands in it
pub among_at : (places : List ℕ) (i d : ℕ) → i < length places → 0 < among places (get_or places i d)
among_at [] i d within = absurd (omega (arith, within))
among_at (place ∷ places) zero d within = omega (arith, among_here place places)
among_at (place ∷ places) (suc i) d within =
    omega (arith, among_at places i d (omega (arith, within)), among_cons place places (get_or places i d))

module _ {t s : Tray} (u v : Used) (slots : List (Option Line)) (app out next : ℕ) (kept : List ℕ) (within : next < length kept)
    (h : IsSound (world t u slots) (among kept)) where
  -- no free packet came
  pub repeat_dry : {z : Tray} {w : Used} (o : Option ℕ) → o ≡ None → OnTray row_allocate t s (named v (Ok o))
      → ((q : ℕ) → (gave o ≡ gave (Some q) → ⊥) → v q ≡ u q) → z ≡ counted_on app Dry 1 s → w ≡ v
      → Runs (repeat_one app out (packets_at u kept) next) (world t u slots) (world z w slots) nowhere nowhere (Ok (false, next))
  unfolding repeat_one repeat_with
  repeat_dry {z} {w} o none reads rest tray used =
      runs_bind (repeat_with app out (packets_at u kept) next)
      (runs_allocate_none u v slots nowhere (sound_without h) o none reads rest)
      (runs_bind (λ on. pure (on, next)) (runs_runs_dry v w slots nowhere app tray used)
      (runs_pure (false, next) (world z w slots) nowhere))

  -- the context halted
  pub repeat_halt : (halt : Halt) → OnTray row_allocate t s (named v (Err halt))
      → ((q : ℕ) → (halts halt ≡ gave (Some q) → ⊥) → v q ≡ u q)
      → Runs (repeat_one app out (packets_at u kept) next) (world t u slots) (world s v slots) nowhere nowhere (Err halt)
  unfolding repeat_one
  repeat_halt halt reads rest =
      runs_fail (repeat_with app out (packets_at u kept) next) nowhere
      (runs_allocate_err u v slots nowhere (sound_without h) halt nowhere reads rest)

  module _ {z : Tray} (w : Used) (o : Option ℕ) (place : ℕ) (some : o ≡ Some place)
      (reads : OnTray row_allocate t s (named v (Ok o)))
      (fresh : IfSome o (IsFresh u v)) (rest : (q : ℕ) → (gave o ≡ gave (Some q) → ⊥) → v q ≡ u q) (tray : z ≡ s)
      (used : w ≡ rewritten_at place (bytes_at v (get_or kept next 0)) v) where
    -- the copy is in hand
    pub repeat_sound : IsSound (world z w slots) (among (place ∷ []))
    repeat_sound = made_sound u v w slots (sound_without h) o place
        (bytes_at v (get_or kept next 0)) some reads fresh rest tray used

    -- with the bytes of the next one
    next_bytes : bytes_at v (get_or kept next 0) ≡ (get_or (packets_at u kept) next no_packet).bytes
    next_bytes =
        ap (λ (slot : Option PacketState). (unwrap_or slot no_packet).bytes)
        (kept_beside (among kept) (among kept) (λ q. omega arith) h
        (runs_allocate_some u v slots nowhere (sound_without h) o place some reads fresh rest)
        (get_or kept next 0) (among_at kept next 0 within))
        ∙ ap (λ (p : PacketState). p.bytes) (sym (get_or-map (λ (p : ℕ). packet_at u p) kept next 0 no_packet within))

    -- it is sent, and counted
    pub repeat_sent : {p x : Tray} (q y : Used) (after : List (Option Line)) (later : ℕ)
        → Runs (sends out (packet_at w place)) (world z w slots) (world p q after) (among (place ∷ [])) nowhere (Ok tt)
        → x ≡ counted_on app Packets 1 p → y ≡ q → later ≡ next_kept (length kept) next
        → Runs (repeat_one app out (packets_at u kept) next) (world t u slots) (world x y after) nowhere nowhere
        (Ok (true, later))
    unfolding repeat_one repeat_with
    repeat_sent {p} {x} q y after later run counted used_then is =
        let packets = packets_at u kept in
        let bytes = bytes_at v (get_or kept next 0) in
        let number = (packet_at v place).number in
        let turn = (packet_at v place).turn in
        let sent = made_sent u v w slots (sound_without h) o place bytes some reads fresh rest tray used out run in
        let counts = runs_sends_counted q y after app out (packet_of number turn bytes) sent counted used_then in
        let same = subst (λ b. Runs (sends_counted app out (packet_of number turn b)) (world z w slots) (world x y after)
        (among (place ∷ [])) nowhere (Ok true)) next_bytes counts in
        let behind : next_kept (length packets) next ≡ later =
        ap (λ n. next_kept n next) (length-map kept (λ (p : ℕ). packet_at u p)) ∙ sym is in
        subst (λ n. Runs (repeat_one app out packets next) (world t u slots) (world x y after) nowhere nowhere (Ok (true, n)))
        behind
        (runs_bind (repeat_with app out packets next)
        (made_runs u v w slots (sound_without h) o place bytes some reads fresh rest tray used)
        (runs_bind (λ on. pure (on, next_kept (length packets) next)) same
        (runs_pure (true, next_kept (length packets) next) (world x y after) nowhere)))

-- one repetition, by the ports and packets of the start
pub repeat_same : {from to : Ports} (app o next : ℕ) (kept : List ℕ) (u v : Used) → SamePorts from to
    → KeepsRows (slots_of from) (slots_of to)
    → ((q : ℕ) → 0 < among kept q → v q ≡ u q)
    → repeat_one app (out_row to o) (packets_at v kept) next ≡ repeat_one app (out_row from o) (packets_at u kept) next
repeat_same {from} {to} app o next kept u v ports rows same =
    ap (λ row. repeat_one app row (packets_at v kept) next) (out_row_kept ports rows o)
    ∙ ap (λ packets. repeat_one app (out_row from o) packets next) (read_kept (λ packet. packet) u v kept same)

-- as often as there is room, where something is kept
pub repeated_some : {t s : Tray} {u v : Used} (from to : Ports) (app out next room : ℕ)
    (packets : List PacketState) {r : Result ℕ Halt} → 0 < length packets
    → room_on out (desk_of (world t u (slots_of from))) ≡ room
    → Did (stepping room (repeat_one app out packets) next) t s u v from to r
    → Did (repeat_some app out packets next) t s u v from to r
unfolding repeat_some
repeated_some from to app out next room [] some is d = absurd (omega (arith, some))
repeated_some from to app out next room (packet ∷ packets) some is d =
    did_look (λ d. stepping (room_on out d) (repeat_one app out (packet ∷ packets)) next)
    (did_as (ap (λ n. stepping n (repeat_one app out (packet ∷ packets)) next) (sym is)) d)

-- and nothing where nothing is kept
pub repeated_none : (app out next : ℕ) (packets : List PacketState) {w : World} → length packets ≡ 0
    → Runs (repeat_some app out packets next) w w nowhere nowhere (Ok next)
unfolding repeat_some
repeated_none app out next [] {w} none = runs_pure next w nowhere
repeated_none app out next (packet ∷ packets) none = absurd (omega (arith, none))

-- THE WHOLE PUSH

-- one meaning runs as another that is the same
runs_at_once : {R : Type 0} {m n : Meaning R} {w v : World} {before after : ℕ → ℕ} {r : Result R Halt} → n ≡ m
    → Runs m w v before after r
    → Runs n w v before after r
runs_at_once {w = w} {v} {before} {after} {r} e run = subst (λ k. Runs k w v before after r) (sym e) run

-- what is done once more is kept, and with the next one then
repeats : ℕ → ℕ → ℕ → List PacketState → Meaning AppState
repeats row next out now = repeat_some row out now next >>= (λ later. pure (repeater row now later))

push_is : (row next input out : ℕ) (packets : List PacketState)
    → repeater_push row packets next input out ≡ (keep_some input packets >>= repeats row next out)
unfolding repeater_push repeats
push_is row next input out packets = refl

module _ {t : Tray} (u : Used) (from mid : Ports) (row next input out : ℕ) (before after : List ℕ) where
  pub push_unkept : {h : Halt} → DidWith before after (keep_some input (packets_at u before)) t t u u from mid (Err h)
      → Runs (repeater_push row (packets_at u before) next input out) (world t u (slots_of from)) (world t u (slots_of mid))
      (among before) (among after) (Err h)
  push_unkept kept = runs_at_once (push_is row next input out (packets_at u before))
      (runs_fail (repeats row next out) (among after) kept.runs)

  module _ (kept : DidWith before after (keep_some input (packets_at u before)) t t u u from mid (Ok (packets_at u after)))
      (h : IsSound (world t u (slots_of from)) (among before)) where
    pub push_sound : IsSound (world t u (slots_of mid)) (among after)
    push_sound = sound_moved (kept.runs.moves (packets_at u after) refl) h

    pub push_halts : {s : Tray} {v : Used} (to : Ports) {halt : Halt}
        → Did (repeat_some row out (packets_at u after) next) t s u v mid to (Err halt)
        → Runs (repeater_push row (packets_at u before) next input out) (world t u (slots_of from)) (world s v (slots_of to))
        (among before) (among after) (Err halt)
    unfolding repeats
    push_halts {s} {v} to {halt} did =
        let beside = runs_with (among after) (among after) (among after) (λ q. omega arith) (λ q. omega arith) did.runs in
        runs_at_once (push_is row next input out (packets_at u before))
        (runs_bind (repeats row next out) kept.runs
        (runs_fail (λ later. pure (repeater row (packets_at u after) later)) (among after) beside))

    pub push_done : {s : Tray} (v : Used) (to : Ports) (later : ℕ)
        → Did (repeat_some row out (packets_at u after) next) t s u v mid to (Ok later)
        → Runs (repeater_push row (packets_at u before) next input out) (world t u (slots_of from)) (world s v (slots_of to))
        (among before) (among after)
        (Ok (repeater row (packets_at v after) later))
    unfolding repeats
    push_done {s} v to later did =
        let beside = runs_with (among after) (among after) (among after) (λ q. omega arith) (λ q. omega arith) did.runs in
        let same = read_kept (λ (packet : PacketState). packet) u v after
        (kept_beside (among after) (among after) (λ q. omega arith) push_sound did.runs) in
        subst (λ (packets : List PacketState). Runs (repeater_push row (packets_at u before) next input out)
        (world t u (slots_of from)) (world s v (slots_of to))
        (among before) (among after) (Ok (repeater row packets later))) (sym same)
        (runs_at_once (push_is row next input out (packets_at u before))
        (runs_bind (repeats row next out) kept.runs (runs_bind (λ n. pure (repeater row (packets_at u after) n)) beside
        (runs_pure (repeater row (packets_at u after) later) (world s v (slots_of to)) (among after)))))
