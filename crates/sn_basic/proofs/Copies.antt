-- A tee's copies: free packets are gathered, one for each output but the last, and copies are sent in the order of the outputs.
use Rattle.std.proofs.Common.{◌≡◌, ℕ, zero, suc, ◌+◌, ◌-◌, ◌<◌, ◌≤◌, Bool, true, false, if◌then◌else◌, List, [], ◌∷◌, ◌++◌, length, drop, get_or, Option, Some, None, IfSome, Result, Ok, Err, unwrap_or, refl, sym, ap, subst, ◌∙◌, arith, add-one, drop-cons}
use Rattle.std.proofs.lemmas.List.{map_push}
use Rattle.std.specs.Option.{option_map}
use Rattle.sn_link.specs.Link.{Line}
use Rattle.sn_packet.specs.Hold.{among}
use Rattle.sn_packet.specs.Packet.{PacketState, no_packet, with_bytes}
use Rattle.sn_app.specs.Answers.{OnTray, Stays}
use Rattle.sn_app.specs.Apps.{frees_all, least_room, next_of, readable, runs_dry, tee_gather, tee_gathered, tee_input, tee_inputs, tee_one, tee_packet, tee_push, tee_sends, tee_where, with_next}
use Rattle.sn_app.specs.Calls.{IsFresh, bytes_at, named, rewritten_at}
use Rattle.sn_app.specs.Desk.{Tray, counted_on, name_of}
use Rattle.sn_app.specs.Hands.{DidWith, Leads, Names, frees_each, names_at, packets_at}
use Rattle.sn_app.specs.Loops.{Did, Goes}
use Rattle.sn_app.specs.Ports.{KeepsRows, Port, SamePorts, slots_of}
use Rattle.sn_app.specs.Reader.{Meaning, pure, ◌>>=◌}
use Rattle.sn_app.specs.Rows.{counts, packet_of, row_allocate, sends, takes}
use Rattle.sn_app.specs.Runs.{Runs}
use Rattle.sn_app.specs.World.{IsSound, Used, World, at_answer, desk_of, nowhere, packet_at, world}
use Rattle.sn_app.specs.declared.counters.Counter.TheVariants.{Packets, Dry}
use Rattle.sn_app.specs.declared.halt.Halt.{Halt}
use Rattle.sn_app.specs.declared.ports.Ports.{Ports}
use Rattle.sn_basic.specs.Copies.{Gathered, GatheredCase}
use Rattle.sn_app.proofs.Calling.{gave, halts, runs_allocate_err, runs_allocate_none, runs_allocate_some, runs_count}
use Rattle.sn_app.proofs.Hands.{among_cons, among_here, among_push, drop_past, frees_all_is, goes_look, kept_beside, leads_as, leads_bind, leads_done, read_kept, runs_with, sound_less}
use Rattle.sn_app.proofs.Handling.{did_look, sound_without}
use Rattle.sn_app.proofs.Looping.{did_as, ports_then, rows_then, goes_as, goes_bind, goes_done, goes_end, goes_fail}
use Rattle.sn_app.proofs.Making.{rewritten_packet, runs_rewritten, runs_runs_dry, sound_rewritten}
use Rattle.sn_app.proofs.Moving.{sound_moved}
use Rattle.sn_app.proofs.Readings.{stays_then}
use Rattle.sn_app.proofs.Running.{runs_bind, runs_fail, runs_pure}

-- GATHERING

-- what is done with one free packet more, where so many are still to come
gather_more : ℕ → ℕ → Names → (Names → Meaning Bool) → Option (ℕ × ℕ) → Meaning Bool
gather_more k app names next = tee_gathered app names (λ more. tee_gather k app more next)

gather_left : (outs turn app : ℕ) (names : Names) (next : Names → Meaning Bool) → turn < outs
    → tee_gather (outs - turn) app names next ≡ (row_allocate >>= gather_more (outs - (turn + 1)) app names next)
unfolding tee_gather gather_more
gather_left outs turn app names next within =
    let e : outs - turn ≡ suc (outs - (turn + 1)) = omega arith in
    ap (λ k. tee_gather k app names next) e

pub gather_over : (outs turn app : ℕ) (names : Names) (next : Names → Meaning Bool) → outs ≤ turn
    → tee_gather (outs - turn) app names next ≡ next names
unfolding tee_gather
gather_over outs turn app names next past = let e : outs - turn ≡ zero = omega arith in ap (λ k. tee_gather k app names next) e

module _ {t s : Tray} (u v : Used) (slots : List (Option Line)) (outs turn app : ℕ) (next : Names → Meaning Bool)
    (copies : List ℕ)
    {whole : Meaning Bool} {start : World} (within : turn < outs)
    (c : Leads (tee_gather (outs - turn) app (names_at u copies) next) whole start (world t u slots) nowhere (among copies)) where
  -- one came
  pub gather_came : (o : Option ℕ) (place : ℕ) → o ≡ Some place → OnTray row_allocate t s (named v (Ok o))
      → IfSome o (IsFresh u v)
      → ((q : ℕ) → (gave o ≡ gave (Some q) → ⊥) → v q ≡ u q)
      → Leads (tee_gather (outs - (turn + 1)) app (names_at v (copies ++ place ∷ [])) next) whole start
      (world s v slots) nowhere (among (copies ++ place ∷ []))
  unfolding gather_more tee_gathered
  gather_came o place some reads fresh rest =
      let alone = runs_allocate_some u v slots nowhere (sound_without c.sound) o place some reads fresh rest in
      let run = runs_with (among copies) (among copies) (among (copies ++ place ∷ [])) (λ q. omega arith)
      (λ q. omega (arith, among_push copies place q)) alone in
      let kept = kept_beside (among copies) (among copies) (λ q. omega arith) c.sound alone in
      let names : names_at v (copies ++ place ∷ []) ≡ names_at u copies ++ name_of (packet_at v place) ∷ [] =
      map_push (λ p. name_of (packet_at v p)) copies place
      ∙ ap (λ (more : Names). more ++ name_of (packet_at v place) ∷ []) (read_kept name_of u v copies kept) in
      leads_as (ap (λ more. tee_gather (outs - (turn + 1)) app more next) (sym names))
      (leads_bind (gather_more (outs - (turn + 1)) app (names_at u copies) next)
      (leads_as (gather_left outs turn app (names_at u copies) next within) c) run)

  -- none came: what is in hand stays
  pub gather_stays : (o : Option ℕ) → o ≡ None → OnTray row_allocate t s (named v (Ok o))
      → ((q : ℕ) → (gave o ≡ gave (Some q) → ⊥) → v q ≡ u q)
      → Stays start.tray s × IsSound (world s v slots) (among copies)
  unfolding desk_of
  gather_stays o none reads rest =
      let asked = runs_allocate_none u v slots (among copies) c.sound o none reads rest in
      (stays_then c.stays asked.answers.stays, sound_moved (asked.moves None refl) c.sound)

  -- none came: those that did are freed, and the call ends
  pub gather_dry : {z x : Tray} {w y : Used} (o : Option ℕ) → o ≡ None → OnTray row_allocate t s (named v (Ok o))
      → ((q : ℕ) → (gave o ≡ gave (Some q) → ⊥) → v q ≡ u q)
      → Runs (frees_each (packets_at v copies)) (world s v slots) (world z w slots) (among copies) nowhere (Ok true)
      → x ≡ counted_on app Dry 1 z → y ≡ w → Runs whole start (world x y slots) nowhere nowhere (Ok false)
  unfolding gather_more tee_gathered
  gather_dry {z} {w = w} {y} o none reads rest gone tray used =
      let asked = runs_allocate_none u v slots (among copies) c.sound o none reads rest in
      let same : (q : ℕ) → 0 < among copies q → v q ≡ u q = λ q k. rest q (λ e. not_some o q none e) in
      let names : frees_each (packets_at v copies) ≡ frees_all (names_at u copies) =
      sym (frees_all_is v copies) ∙ ap frees_all (read_kept name_of u v copies same) in
      let freed = subst (λ m. Runs m (world s v slots) (world z w slots) (among copies) nowhere (Ok true)) names gone in
      leads_done (leads_as (gather_left outs turn app (names_at u copies) next within) c)
      (runs_bind (gather_more (outs - (turn + 1)) app (names_at u copies) next) asked
      (runs_bind (λ done. runs_dry app) freed (runs_runs_dry w y slots nowhere app tray used)))
    where
      not_some : (o : Option ℕ) (q : ℕ) → o ≡ None → gave o ≡ gave (Some q) → ⊥
      not_some o q none e = cc

  -- the context halted
  pub gather_halt : (halt : Halt) → OnTray row_allocate t s (named v (Err halt))
      → ((q : ℕ) → (halts halt ≡ gave (Some q) → ⊥) → v q ≡ u q)
      → Runs whole start (world s v slots) nowhere nowhere (Err halt)
  gather_halt halt reads rest =
      leads_done (leads_as (gather_left outs turn app (names_at u copies) next within) c)
      (runs_fail (gather_more (outs - (turn + 1)) app (names_at u copies) next) nowhere
      (runs_allocate_err u v slots (among copies) c.sound halt nowhere reads rest))

-- what became of it
pub gathered_all : {n app : ℕ} {next : Names → Meaning Bool} {w v : World} {copies : List ℕ}
    → Leads (next (names_at v.used copies)) (tee_gather n app [] next) w v nowhere (among copies)
    → Gathered n app next w v copies (Ok true)
unfolding GatheredCase
gathered_all c = record { by_case = c }

pub gathered_none : {n app : ℕ} {next : Names → Meaning Bool} {w v : World} {copies : List ℕ}
    → Runs (tee_gather n app [] next) w v nowhere nowhere (Ok false) → Gathered n app next w v copies (Ok false)
unfolding GatheredCase
gathered_none run = record { by_case = run }

pub gathered_err : {n app : ℕ} {next : Names → Meaning Bool} {w v : World} {copies : List ℕ} {h : Halt}
    → Runs (tee_gather n app [] next) w v nowhere nowhere (Err h) → Gathered n app next w v copies (Err h)
unfolding GatheredCase
gathered_err run = record { by_case = run }

-- SENDING

-- a copy alone is in hand, and written
pub copy_sound : {t z : Tray} (u w : Used) (slots : List (Option Line)) (place copy : ℕ) (more : List ℕ)
    → IsSound (world t u slots) (among (place ∷ copy ∷ more))
    → z ≡ t → w ≡ rewritten_at copy (bytes_at u place) u → IsSound (world z w slots) (among (copy ∷ []))
copy_sound u w slots place copy more h tray used =
    sound_rewritten u w slots copy (bytes_at u place) tray used
    (sound_less (among (copy ∷ [])) (λ q. omega (arith, among_cons place (copy ∷ more) q, among_cons copy more q)) h)

module _ {t z s : Tray} (start u w v : Used) (to later : Ports) (place copy row : ℕ) (more : List ℕ) (port : Port)
    (ports : List Port)
    (h : IsSound (world t u (slots_of to)) (among (place ∷ copy ∷ more)))
    (same : (q : ℕ) → 0 < among (place ∷ copy ∷ more) q → u q ≡ start q)
    (tray : z ≡ t) (used : w ≡ rewritten_at copy (bytes_at u place) u)
    (run : Runs (sends row (packet_at w copy)) (world z w (slots_of to)) (world s v (slots_of later))
    (among (copy ∷ [])) nowhere (Ok tt)) where
  packet_there : (q : ℕ) → 0 < among (place ∷ copy ∷ more) q → packet_at u q ≡ packet_at start q
  packet_there q k = ap (λ (slot : Option PacketState). unwrap_or slot no_packet) (same q k)

  abbrev copied : PacketState
  copied = packet_of (packet_at start copy).number (packet_at start copy).turn (packet_at start place).bytes

  copied_is : packet_at w copy ≡ copied
  copied_is =
      rewritten_packet {t = t} {s = z} u w (slots_of to) copy (bytes_at u place) tray used
      ∙ (ap (λ (p : PacketState). with_bytes (bytes_at u place) p)
      (packet_there copy (omega (arith, among_cons place (copy ∷ more) copy, among_here copy more)))
      ∙ ap (λ (p : PacketState). with_bytes p.bytes (packet_at start copy))
      (packet_there place (omega (arith, among_here place (copy ∷ more)))))

  copy_alone : IsSound (world t u (slots_of to)) (among (copy ∷ []))
  copy_alone = sound_less (among (copy ∷ [])) (λ q. omega (arith, among_cons place (copy ∷ more) q, among_cons copy more q)) h

  copy_sent : Runs (sends row copied) (world t u (slots_of to)) (world s v (slots_of later)) (among (copy ∷ [])) nowhere (Ok tt)
  copy_sent =
      runs_rewritten u w (slots_of to) copy (bytes_at u place) tray used copy_alone
      (subst (λ p. Runs (sends row p) (world z w (slots_of to)) (world s v (slots_of later)) (among (copy ∷ [])) nowhere
      (Ok tt)) copied_is run)

  -- the others stay
  pub sent_same : (q : ℕ) → 0 < among (place ∷ more) q → v q ≡ start q
  sent_same q k =
      kept_beside (among (place ∷ more)) (among (place ∷ copy ∷ more))
      (λ p. omega (arith, among_cons place (copy ∷ more) p, among_cons copy more p, among_cons place more p)) h copy_sent q k
      ∙ same q (omega (arith, k, among_cons place (copy ∷ more) q, among_cons copy more q, among_cons place more q))

  -- a copy was sent on the next output
  pub sent_next : {whole : Meaning Bool} {from : Ports} {begin : World} {before : ℕ → ℕ} → row ≡ port.1 → SamePorts to later
      → KeepsRows (slots_of to) (slots_of later)
      → Goes (tee_sends (names_at start (copy ∷ more)) (packet_at start place) (port ∷ ports)) whole begin
      (world t u (slots_of to)) before (among (place ∷ copy ∷ more)) from to
      → Goes (tee_sends (names_at start more) (packet_at start place) ports) whole begin (world s v (slots_of later)) before
      (among (place ∷ more)) from later
  unfolding tee_sends
  sent_next at ports_stay rows_stay c =
      let sent = subst (λ r. Runs (sends r copied) (world t u (slots_of to)) (world s v (slots_of later))
      (among (copy ∷ [])) nowhere (Ok tt)) at copy_sent in
      let beside = runs_with (among (place ∷ more)) (among (place ∷ copy ∷ more)) (among (place ∷ more))
      (λ q. omega (arith, among_cons place (copy ∷ more) q, among_cons copy more q, among_cons place more q))
      (λ q. omega arith) sent in
      goes_bind (λ done. tee_sends (names_at start more) (packet_at start place) ports) c beside ports_stay rows_stay

-- the packet itself was sent on the last output
pub sent_last : {t s : Tray} (start u v : Used) {from : Ports} (to later : Ports) (place row : ℕ) (port : Port)
    (ports : List Port) {whole : Meaning Bool} {begin : World} {before : ℕ → ℕ}
    → packet_at u place ≡ packet_at start place → row ≡ port.1
    → Goes (tee_sends [] (packet_at start place) (port ∷ ports)) whole begin (world t u (slots_of to)) before
    (among (place ∷ [])) from to
    → Runs (sends row (packet_at u place)) (world t u (slots_of to)) (world s v (slots_of later)) (among (place ∷ [])) nowhere
    (Ok tt)
    → Runs whole begin (world s v (slots_of later)) before (among []) (Ok true)
unfolding tee_sends
sent_last {t} {s} start u v to later place row port ports packet at c run =
    let there = subst (λ p. Runs (sends row p) (world t u (slots_of to)) (world s v (slots_of later))
    (among (place ∷ [])) nowhere (Ok tt)) packet run in
    let sent = subst (λ r. Runs (sends r (packet_at start place)) (world t u (slots_of to)) (world s v (slots_of later))
    (among (place ∷ [])) nowhere (Ok tt)) at there in
    goes_done c (runs_bind (λ done. pure true) sent (runs_pure true (world s v (slots_of later)) (among [])))

-- ONE PACKET

-- it is taken, sent to all outputs, and counted
pub packet_copied : {t s z : Tray} (u v w : Used) (from mid to : Ports) (app input place : ℕ) (outs : List Port)
    (copies : List ℕ) (result : Option ℕ)
    → result ≡ Some place
    → Runs (takes input) (world t u (slots_of from)) (world t u (slots_of mid)) nowhere (at_answer result)
    (Ok (option_map (packet_at u) result))
    → DidWith (place ∷ copies) [] (tee_sends (names_at u copies) (packet_at u place) outs) t s u v mid to (Ok true)
    → z ≡ counted_on app Packets 1 s → w ≡ v
    → Runs (next_of input (tee_packet app outs (names_at u copies))) (world t u (slots_of from)) (world z w (slots_of to))
    (among copies) nowhere (Ok true)
unfolding next_of with_next tee_packet
packet_copied {t} {s} {z} u v w from mid to app input place outs copies result some taken sent tray used =
    let took = subst (λ r. Runs (takes input) (world t u (slots_of from)) (world t u (slots_of mid)) nowhere (at_answer r)
    (Ok (option_map (packet_at u) r))) some taken in
    runs_bind (λ packet. with_next packet (tee_packet app outs (names_at u copies)))
    (runs_with (among copies) (among copies) (among (place ∷ copies)) (λ q. omega arith) (λ q. among_cons place copies q) took)
    (runs_bind (λ done. pure true)
    (runs_bind (λ done. counts app Packets 1) sent.runs (runs_count app Packets 1 v w (slots_of to) nowhere tray used))
    (runs_pure true (world z w (slots_of to)) nowhere))

-- so the world is sound with the packet in hand
pub taken_sound : {t : Tray} (u : Used) (from mid : Ports) (input place : ℕ) (copies : List ℕ) (result : Option ℕ)
    → result ≡ Some place
    → Runs (takes input) (world t u (slots_of from)) (world t u (slots_of mid)) nowhere (at_answer result)
    (Ok (option_map (packet_at u) result))
    → IsSound (world t u (slots_of from)) (among copies) → IsSound (world t u (slots_of mid)) (among (place ∷ copies))
taken_sound {t} u from mid input place copies result some taken h =
    let took = subst (λ r. Runs (takes input) (world t u (slots_of from)) (world t u (slots_of mid)) nowhere (at_answer r)
    (Ok (option_map (packet_at u) r))) some taken in
    let run = runs_with (among copies) (among copies) (among (place ∷ copies)) (λ q. omega arith)
    (λ q. among_cons place copies q) took in
    sound_moved (run.moves (Some (packet_at u place)) refl) h

-- what is done with the names of the free packets
abbrev pub one_after : ℕ → ℕ → List Port → Names → Meaning Bool
one_after app input outs names = next_of input (tee_packet app outs names)

module _ (app input : ℕ) (outs : List Port) {w v : World} {copies : List ℕ} where
  pub one_halt : {h : Halt} → Gathered (length outs - 1) app (one_after app input outs) w v copies (Err h)
      → Runs (tee_one app input outs) w v nowhere nowhere (Err h)
  unfolding tee_one GatheredCase
  one_halt gathered = gathered.by_case

  pub one_dry : (all : Bool) → all ≡ false → Gathered (length outs - 1) app (one_after app input outs) w v copies (Ok all)
      → Runs (tee_one app input outs) w v nowhere nowhere (Ok false)
  unfolding tee_one GatheredCase
  one_dry all is gathered = (subst (λ b. Gathered (length outs - 1) app (one_after app input outs) w v copies (Ok b)) is
      gathered).by_case

  pub one_leads : (all : Bool) → all ≡ true → Gathered (length outs - 1) app (one_after app input outs) w v copies (Ok all)
      → Leads (next_of input (tee_packet app outs (names_at v.used copies))) (tee_one app input outs) w v nowhere (among copies)
  unfolding tee_one GatheredCase
  one_leads all is gathered = (subst (λ b. Gathered (length outs - 1) app (one_after app input outs) w v copies (Ok b)) is
      gathered).by_case

-- AN INPUT, AND ALL

-- how an input goes on after a packet
input_after : ℕ → List Port → ℕ → ℕ → Bool → Meaning (Bool × ℕ)
input_after app outs input room on = if on then tee_input app outs input room else pure (false, suc room)

where_some : (room : ℕ) (next : Meaning (Bool × ℕ)) (n : ℕ) → 0 < n → tee_where room next n ≡ next
unfolding tee_where
where_some room next zero some = absurd (omega (arith, some))
where_some room next (suc n) some = refl

where_none : (room : ℕ) (next : Meaning (Bool × ℕ)) (n : ℕ) → n ≡ 0 → tee_where room next n ≡ pure (true, room)
unfolding tee_where
where_none room next zero none = refl
where_none room next (suc n) none = absurd (omega (arith, none))

module _ (app input room turn : ℕ) (outs : List Port) {whole : Meaning (Bool × ℕ)} {begin : World} {before : ℕ → ℕ} {t : Tray}
    {u : Used} {from to : Ports}
    (within : turn < room) (c : Goes (tee_input app outs input (room - turn)) whole begin
    (world t u (slots_of to)) before nowhere from to) where
  input_looks : Goes (tee_where (suc (room - (turn + 1)))
      (tee_one app input outs >>= input_after app outs input (room - (turn + 1)))
      (readable input (desk_of (world t u (slots_of to))))) whole begin (world t u (slots_of to)) before nowhere from to
  unfolding tee_input input_after
  input_looks =
      let e : room - turn ≡ suc (room - (turn + 1)) = omega arith in
      goes_look (λ d. tee_where (suc (room - (turn + 1)))
      (tee_one app input outs >>= input_after app outs input (room - (turn + 1))) (readable input d))
      (goes_as (ap (λ k. tee_input app outs input k) e) c)

  -- it has no packet
  pub input_empty : readable input (desk_of (world t u (slots_of to))) ≡ 0
      → Runs whole begin (world t u (slots_of to)) before nowhere (Ok (true, room - turn))
  input_empty none =
      let e : suc (room - (turn + 1)) ≡ room - turn = omega arith in
      subst (λ k. Runs whole begin (world t u (slots_of to)) before nowhere (Ok (true, k))) e
      (goes_end (goes_as (where_none (suc (room - (turn + 1)))
      (tee_one app input outs >>= input_after app outs input (room - (turn + 1)))
      (readable input (desk_of (world t u (slots_of to)))) none) input_looks))

  module _ (some : 0 < readable input (desk_of (world t u (slots_of to)))) where
    input_goes : Goes (tee_one app input outs >>= input_after app outs input (room - (turn + 1))) whole begin
        (world t u (slots_of to)) before nowhere from to
    input_goes =
        goes_as (where_some (suc (room - (turn + 1))) (tee_one app input outs >>= input_after app outs input (room - (turn + 1)))
        (readable input (desk_of (world t u (slots_of to)))) some) input_looks

    pub input_next : {s : Tray} {v : Used} {later : Ports} → Did (tee_one app input outs) t s u v to later (Ok true)
        → Goes (tee_input app outs input (room - (turn + 1))) whole begin (world s v (slots_of later)) before nowhere from later
    unfolding input_after
    input_next d = goes_bind (input_after app outs input (room - (turn + 1))) input_goes d.runs d.same d.rows

    pub input_stop : {s : Tray} {v : Used} {later : Ports} → Did (tee_one app input outs) t s u v to later (Ok false)
        → Runs whole begin (world s v (slots_of later)) before nowhere (Ok (false, room - turn))
    unfolding input_after
    input_stop {s} {v} {later} d =
        let e : suc (room - (turn + 1)) ≡ room - turn = omega arith in
        subst (λ k. Runs whole begin (world s v (slots_of later)) before nowhere (Ok (false, k))) e
        (goes_end (goes_bind (input_after app outs input (room - (turn + 1))) input_goes d.runs d.same d.rows))

    pub input_halt : {s : Tray} {v : Used} {later : Ports} {h : Halt} → Did (tee_one app input outs) t s u v to later (Err h)
        → Runs whole begin (world s v (slots_of later)) before nowhere (Err h)
    input_halt d = goes_fail (input_after app outs input (room - (turn + 1))) nowhere input_goes d.runs

-- no room is left
pub input_full : (app input room turn : ℕ)
    (outs : List Port) {whole : Meaning (Bool × ℕ)} {begin now : World} {before : ℕ → ℕ} {from to : Ports}
    → room ≤ turn → Goes (tee_input app outs input (room - turn)) whole begin now before nowhere from to
    → Runs whole begin now before nowhere (Ok (true, 0))
unfolding tee_input
input_full app input room turn outs past c =
    let e : room - turn ≡ zero = omega arith in goes_end (goes_as (ap (λ k. tee_input app outs input k) e) c)

-- the inputs behind one
inputs_after : ℕ → List Port → List Port → Bool × ℕ → Meaning Bool
inputs_after app outs ports t = if t.0 then tee_inputs app outs ports t.1 else pure false

inputs_left : (app room i : ℕ) (outs ins : List Port) (d : Port) → i < length ins
    → tee_inputs app outs (drop i ins) room
    ≡ (tee_input app outs (get_or ins i d).1 room >>= inputs_after app outs (drop (i + 1) ins))
unfolding tee_inputs inputs_after
inputs_left app room i outs ins d within = rw add-one (ap (λ ports. tee_inputs app outs ports room) (drop-cons ins i d within))

module _ (app room i : ℕ) (outs ins : List Port) (d : Port)
    (within : i < length ins) {whole : Meaning Bool} {t s p : Tray} {u v w : Used} {from to later : Ports}
    (c : Goes (tee_inputs app outs (drop i ins) room) whole (world t u (slots_of from))
    (world s v (slots_of to)) nowhere nowhere from to) where
  pub inputs_next : (left : ℕ) → Did (tee_input app outs (get_or ins i d).1 room) s p v w to later (Ok (true, left))
      → Goes (tee_inputs app outs (drop (i + 1) ins) left) whole (world t u (slots_of from))
      (world p w (slots_of later)) nowhere nowhere from later
  unfolding inputs_after
  inputs_next left did = goes_bind (inputs_after app outs (drop (i + 1) ins))
      (goes_as (inputs_left app room i outs ins d within) c) did.runs did.same did.rows

  pub inputs_stop : (left : ℕ) → Did (tee_input app outs (get_or ins i d).1 room) s p v w to later (Ok (false, left))
      → Did whole t p u w from later (Ok false)
  unfolding inputs_after
  inputs_stop left did =
      let ended = goes_bind (inputs_after app outs (drop (i + 1) ins))
      (goes_as (inputs_left app room i outs ins d within) c) did.runs did.same did.rows in
      record { runs = goes_end ended; same = ended.same; rows = ended.rows }

  pub inputs_halt : {h : Halt} → Did (tee_input app outs (get_or ins i d).1 room) s p v w to later (Err h)
      → Did whole t p u w from later (Err h)
  inputs_halt did = record {
    runs = goes_fail (inputs_after app outs (drop (i + 1) ins)) nowhere
        (goes_as (inputs_left app room i outs ins d within) c) did.runs;
    same = ports_then c.same did.same;
    rows = rows_then c.rows did.rows;
  }

pub inputs_end : (app room i : ℕ) (outs ins : List Port) {whole : Meaning Bool} {t s : Tray} {u v : Used} {from to : Ports}
    → length ins ≤ i
    → Goes (tee_inputs app outs (drop i ins) room) whole (world t u (slots_of from))
    (world s v (slots_of to)) nowhere nowhere from to → Did whole t s u v from to (Ok true)
unfolding tee_inputs
inputs_end app room i outs ins past c = record {
  runs = goes_end (goes_as (ap (λ ports. tee_inputs app outs ports room) (drop_past ins i past)) c);
  same = c.same;
  rows = c.rows;
}

-- there is an output
pub push_some : (app room : ℕ) (ins outs : List Port) {t s : Tray} {u v : Used} {from to : Ports} {r : Result Bool Halt}
    → 0 < length outs
    → least_room outs (desk_of (world t u (slots_of from))) ≡ room
    → Did (tee_inputs app outs ins room) t s u v from to r → Did (tee_push app ins outs) t s u v from to r
unfolding tee_push
push_some app room ins [] some least d = absurd (omega (arith, some))
push_some app room ins (port ∷ outs) some least d =
    did_look (λ d. tee_inputs app (port ∷ outs) ins (least_room (port ∷ outs) d))
    (did_as (ap (λ n. tee_inputs app (port ∷ outs) ins n) (sym least)) d)

-- there is none
pub push_none : (app : ℕ) (ins outs : List Port) {w : World} → length outs ≡ 0
    → Runs (tee_push app ins outs) w w nowhere nowhere (Ok true)
unfolding tee_push
push_none app ins [] {w} none = runs_pure true w nowhere
push_none app ins (port ∷ outs) none = absurd (omega (arith, none))
