-- How a bench allocates: a claim reads the script's next entry, or adds that none came; then the packet freed last is taken.
use Rattle.std.proofs.Common.{◌≡◌, ℕ, suc, ◌+◌, ◌-◌, ◌<◌, ◌≤◌, ◌∙◌, Bool, true, false, cond, List, [], ◌∷◌, ◌++◌, length, map, Option, Some, None, IfNone, IfSome, Result, Ok, Err, refl, sym, ap, subst, arith, unwrap_or}
use Rattle.std.proofs.lemmas.Bool.{and_from}
use Rattle.std.proofs.lemmas.List.{length-map, map_push, nil_from_length}
use Rattle.sn_journal.specs.declared.entry.Entry.{Entry}
use Rattle.sn_journal.specs.declared.entry.Entry.TheVariants.{Got, Dry}
use Rattle.sn_journal.specs.HandOvers.{PacketName}
use Rattle.sn_app.specs.Answers.{OnTray, AnswersCase}
use Rattle.sn_packet.specs.Hold.{Held, at_of, frees_of, put_at, there, used_of}
use Rattle.sn_packet.specs.Packet.{no_packet}
use Rattle.sn_packet.proofs.Puts.{put_at_same}
use Rattle.sn_app.specs.Bench.{BenchState, claims_of, first_of, may_come, tray_of}
use Rattle.sn_app.specs.Calls.{LeavesEnds, named}
use Rattle.sn_app.specs.Claims.{ClaimsOne}
use Rattle.sn_app.specs.Desk.{Tray, after_entry, freed, name_of}
use Rattle.sn_app.specs.Gates.{gate_in, gate_by, gate_of, stands}
use Rattle.sn_app.specs.Reader.{change_tray, go_on, pure, read, reading, ◌>>=◌}
use Rattle.sn_app.specs.Rows.{but_last, but_last_from, claim_taken, got_or_dry, is_name, last_from, last_of, packet_of, refill, refill_one, refill_where, refill_needed, row_allocate, take_last}
use Rattle.sn_app.specs.World.{packet_at}
use Rattle.sn_app.specs.declared.halt.Halt.{Halt}
use Rattle.sn_app.proofs.Playing.{desk}
use Rattle.sn_app.proofs.OnTrays.{tray_bind, tray_changed, tray_fail, tray_pure}
use Rattle.sn_app.proofs.Readings.{answers_look}

-- THE LAST OF A LIST

last_from_push : (first : PacketName) (names : List PacketName) (name : PacketName) → last_from first (names ++ name ∷ []) ≡ name
last_from_push first [] name = refl
last_from_push first (next ∷ names) name = last_from_push next names name

pub last_of_push : (names : List PacketName) (name : PacketName) → last_of (names ++ name ∷ []) ≡ Some name
last_of_push [] name = refl
last_of_push (first ∷ names) name = ap Some (last_from_push first names name)

but_last_from_push : (first : PacketName) (names : List PacketName) (name : PacketName)
    → but_last_from first (names ++ name ∷ []) ≡ first ∷ names
but_last_from_push first [] name = refl
but_last_from_push first (next ∷ names) name = ap (λ ns. first ∷ ns) (but_last_from_push next names name)

pub but_last_push : (names : List PacketName) (name : PacketName) → but_last (names ++ name ∷ []) ≡ names
but_last_push [] name = refl
but_last_push (first ∷ names) name = but_last_from_push first names name

-- WHAT AN ENTRY SAYS OF A CLAIM

-- none did
pub dry_is : (entry : Entry) → got_or_dry entry ≡ Some None → entry ≡ Dry
dry_is Dry e = refl
dry_is (Got p t) e = by_name (is_name p t) e
  where
    by_name : (b : Bool) → cond {A = Option (Option PacketName)} b (Some (Some (p, t))) None ≡ Some None → Got p t ≡ Dry
    by_name true e = absurd cc
    by_name false e = absurd cc
dry_is _ e = absurd cc

-- as the first of a script says it
pub first_told : (script left : List Entry) (entry : Entry) (told : Option (Option PacketName)) → script ≡ entry ∷ left
    → first_of got_or_dry script ≡ told → got_or_dry entry ≡ told
first_told script left entry told was e = sym (ap (first_of got_or_dry) was) ∙ e

-- after so many claims of a refill: what all of them read and add, and what they leave
pub record Claiming (most turn : ℕ) (start now : BenchState) : Type 0 where
  pub past : start.past ++ (claims_of most start.script).0 ≡ now.past ++ (claims_of (most - turn) now.script).0
  pub script : (claims_of most start.script).1 ≡ (claims_of (most - turn) now.script).1

module _ (most turn : ℕ) {start now : BenchState} (c : Claiming most turn start now) where
  pub claiming_next : {next : BenchState} → turn < most → ClaimsOne now next true → Claiming most (turn + 1) start next
  claiming_next within one =
      let more : most - turn ≡ suc (most - (turn + 1)) = omega (arith, within) in
      record {
        past = c.past ∙ (ap (λ n. now.past ++ (claims_of n now.script).0) more ∙ one.past (most - (turn + 1)));
        script = c.script ∙ (ap (λ n. (claims_of n now.script).1) more ∙ one.script (most - (turn + 1)));
      }

-- ONE CLAIM

-- the packet that comes is free
pub claim_got : (b : BenchState) (entry : Entry) (name : PacketName)
    → got_or_dry entry ≡ Some (Some name) → may_come b.bare entry ≡ true
    → OnTray refill_one (tray_of b) (freed name (after_entry entry (tray_of b))) (Ok true)
unfolding AnswersCase refill_one claim_taken gate_in gate_by gate_of stands ◌>>=◌ go_on read reading change_tray pure
claim_got b entry name told may = record {
  at = λ queues. record {
    stays = record { constants = refl; started = λ file h. h };
    by_case = record {
      entries = entry ∷ [];
      past = refl;
      only = and_from (may_come b.bare entry) true may refl;
      gives = λ rest. ap (λ o. go_on (reading o entry (desk (tray_of b) queues) rest) claim_taken) told;
    };
  };
}

dry_may : (bare : Bool) → may_come bare Dry ≡ true
dry_may true = refl
dry_may false = refl

-- none came
pub claim_dry : (b : BenchState) → OnTray refill_one (tray_of b) (after_entry Dry (tray_of b)) (Ok false)
unfolding AnswersCase refill_one claim_taken gate_in gate_by gate_of stands ◌>>=◌ go_on read reading change_tray pure
claim_dry b = record {
  at = λ queues. record {
    stays = record { constants = refl; started = λ file h. h };
    by_case = record {
      entries = Dry ∷ [];
      past = refl;
      only = rw (dry_may b.bare) refl;
      gives = λ rest. refl;
    };
  };
}

-- A bench's tray after a claim: an entry came, and a packet maybe.
abbrev pub tray_with : BenchState → List Entry → List PacketName → Tray
tray_with b past free = record (tray_of b) { log = record (tray_of b).log { past = past }; free = free }

tray_same : (b : BenchState) (past0 past1 : List Entry) (free0 free1 : List PacketName) → past1 ≡ past0 → free1 ≡ free0
    → tray_with b past0 free0 ≡ tray_with b past1 free1
tray_same b past0 past1 free0 free1 f g =
    sym (ap (λ past. tray_with b past free1) f ∙ ap (λ free. tray_with b past0 free) g)

pub leaves_claimed : (b : BenchState) (past : List Entry) (free : List PacketName)
    → LeavesEnds (tray_of b) (tray_with b past free)
leaves_claimed b past free = record { constants = refl; files = refl; ends = refl }

names_gained : (old new : Held) (number turn : ℕ) → frees_of new ≡ frees_of old ++ packet_of number turn [] ∷ []
    → map name_of (frees_of new) ≡ map name_of (frees_of old) ++ (number, turn) ∷ []
names_gained old new number turn e = ap (map name_of) e ∙ map_push name_of (frees_of old) (packet_of number turn [])

pub reads_got : (b : BenchState) (held : Held) (past : List Entry) (entry : Entry) (number turn : ℕ)
    → got_or_dry entry ≡ Some (Some (number, turn)) → may_come b.bare entry ≡ true
    → past ≡ b.past ++ entry ∷ [] → frees_of held ≡ frees_of b.held ++ packet_of number turn [] ∷ []
    → OnTray refill_one (tray_of b) (tray_with b past (map name_of (frees_of held))) (Ok true)
reads_got b held past entry number turn told may joins frees =
    subst (λ t. OnTray refill_one (tray_of b) t (Ok true))
    (tray_same b (b.past ++ entry ∷ []) past (map name_of (frees_of b.held) ++ (number, turn) ∷ []) (map name_of (frees_of held))
    joins (names_gained b.held held number turn frees))
    (claim_got b entry (number, turn) told may)

pub reads_dry : (b : BenchState) (past : List Entry) → past ≡ b.past ++ Dry ∷ []
    → OnTray refill_one (tray_of b) (tray_with b past (map name_of (frees_of b.held))) (Ok false)
reads_dry b past joins =
    subst (λ t. OnTray refill_one (tray_of b) t (Ok false))
    (tray_same b (b.past ++ Dry ∷ []) past (map name_of (frees_of b.held)) (map name_of (frees_of b.held)) joins refl)
    (claim_dry b)

-- AN ALLOCATION

pub took_last : (t : Tray) → OnTray take_last t (record t { free = but_last t.free }) (Ok (last_of t.free))
unfolding take_last
took_last t = record {
  at = λ queues.
      answers_look (λ d. change_tray (λ z. record z { free = but_last z.free }) >>= (λ done. pure (last_of d.tray.free)))
      ((tray_bind (λ done. pure (last_of t.free))
      (tray_changed (λ z. record z { free = but_last z.free }) t refl (record { constants = refl; started = λ file h. h }))
      (tray_pure (last_of t.free) (record t { free = but_last t.free }))).at queues);
}

-- the last name of these, and those before it
took_as : (t : Tray) (names : List PacketName) (name : Option PacketName) → but_last t.free ≡ names → last_of t.free ≡ name
    → OnTray take_last t (record t { free = names }) (Ok name)
took_as t names name before last =
    subst (λ n. OnTray take_last t (record t { free = names }) (Ok n)) last
    (subst (λ ns. OnTray take_last t (record t { free = ns }) (Ok (last_of t.free))) before (took_last t))

pub took_reads : (b : BenchState) (new : Held) (result : Option ℕ)
    → IfNone result ((b.held.free ≡ []) × (new ≡ b.held))
    → IfSome result (λ place. frees_of b.held ≡ frees_of new ++ there b.held place ∷ [])
    → IfSome result (λ place. used_of new ≡ put_at place (at_of b.held place) (used_of b.held))
    → OnTray take_last (tray_of b) (record (tray_of b) { free = map name_of (frees_of new) }) (named (used_of new) (Ok result))
took_reads b new None none frees used =
    let empty : map name_of (frees_of b.held) ≡ [] = ap (λ free. map name_of (map (there b.held) free)) none.0 in
    let same : map name_of (frees_of new) ≡ [] = ap (λ hold. map name_of (frees_of hold)) none.1 ∙ empty in
    took_as (tray_of b) (map name_of (frees_of new)) None (ap but_last empty ∙ sym same) (ap last_of empty)
took_reads b new (Some place) none frees used =
    let names : map name_of (frees_of b.held) ≡ map name_of (frees_of new) ++ name_of (there b.held place) ∷ [] =
    ap (map name_of) frees ∙ map_push name_of (frees_of new) (there b.held place) in
    let there_now : used_of new place ≡ at_of b.held place =
    ap (λ f. f place) used ∙ put_at_same place (at_of b.held place) (used_of b.held) in
    took_as (tray_of b) (map name_of (frees_of new)) (Some (name_of (packet_at (used_of new) place)))
    (ap but_last names ∙ but_last_push (map name_of (frees_of new)) (name_of (there b.held place)))
    (ap last_of names ∙ (last_of_push (map name_of (frees_of new)) (name_of (there b.held place))
    ∙ ap (λ slot. Some (name_of (unwrap_or slot no_packet))) (sym there_now)))

pub allocated : {t mid later : Tray} {came : Bool} {name : Option PacketName} → OnTray (refill_where t.free) t mid (Ok came)
    → OnTray take_last mid later (Ok name) → OnTray row_allocate t later (Ok name)
unfolding row_allocate refill_needed
allocated filled taken =
    tray_bind (λ all. take_last) (record { at = λ queues. answers_look (λ d. refill_where d.tray.free) (filled.at queues) }) taken

pub allocated_not : {t u : Tray} {halt : Halt} → OnTray (refill_where t.free) t u (Err halt) → OnTray row_allocate t u (Err halt)
unfolding row_allocate refill_needed
allocated_not filled =
    tray_fail (λ all. take_last) (record { at = λ queues. answers_look (λ d. refill_where d.tray.free) (filled.at queues) })

-- a refill, where no packet is free, and none, where one is
names_some : (t : Tray) (names : List PacketName) → 0 < length names → OnTray (refill_where names) t t (Ok true)
unfolding refill_where
names_some t [] some = absurd (omega (arith, some))
names_some t (name ∷ names) some = tray_pure true t

pub refill_unneeded : (t : Tray) (hold : Held) → 0 < length hold.free
    → OnTray (refill_where (map name_of (frees_of hold))) t t (Ok true)
refill_unneeded t hold some =
    names_some t (map name_of (frees_of hold))
    (omega (arith, some, length-map (frees_of hold) name_of, length-map hold.free (there hold)))

pub refill_full : {t u : Tray} {result : Result Bool Halt} (hold : Held) → length hold.free ≤ 0 → OnTray refill t u result
    → OnTray (refill_where (map name_of (frees_of hold))) t u result
unfolding refill_where
refill_full {t} {u} {result} hold none call =
    let empty : hold.free ≡ [] = nil_from_length hold.free (omega (arith, none)) in
    subst (λ free. OnTray (refill_where (map name_of (map (there hold) free))) t u result) (sym empty) call
