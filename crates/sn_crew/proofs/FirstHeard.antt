-- The first number that a round hears is at least the one that was said before.
use Rattle.std.proofs.Common.{◌≡◌, ◌+◌, ◌∙◌, ◌≤◌, ◌++◌, ℕ, zero, suc, Bool, true, false, not, List, [], ◌∷◌, Option, Some}
use Rattle.std.proofs.Common.{None, refl, sym, ap, subst, nat_le, inl, inr, if◌then◌else◌, ◌⊎◌}
use Rattle.std.proofs.lemmas.Bool.{and_parts}
use Rattle.std.proofs.lemmas.Bool.Decides.{leb_tells}
use Rattle.sn_actions.specs.declared.action.Action.{Action}
use Rattle.sn_app.specs.Desk.{Desk, gate_passed, on_tray}
use Rattle.sn_app.specs.Gates.{Gate, Phase, gate_by, gate_in, gate_named, gate_of, hear, passed, stands, stop_at, stops_here, working}
use Rattle.sn_app.specs.Reader.{Meaning, Outcome, done, stopped, refused, go_on, ◌>>=◌, look, pure, read, reading, stepping}
use Rattle.sn_app.specs.Reader.{with_entry}
use Rattle.sn_app.specs.Rows.{a_hear, row_hear}
use Rattle.sn_journal.specs.declared.entry.Entry.{Entry}
use Rattle.sn_journal.specs.declared.entry.Entry.TheVariants.{Round, Hear, Breath, Attach, Unattached, Detach, Reset, Seen}
use Rattle.sn_journal.specs.declared.entry.Entry.TheVariants.{Room, Put, Take, Drain, Got, Dry, Gave, Full, Worn, Spent}
use Rattle.sn_journal.specs.declared.entry.Entry.TheVariants.{Stop, Close, Reclaimed, Restart}
use Rattle.sn_seat.specs.Told.{heard_part, of_channel}
use Rattle.sn_worker.specs.Lives.{Life}
use Rattle.sn_worker.specs.Own.{a_round, a_spent, is_full}
use Rattle.sn_worker.specs.Slots.{SlotLife, after_breath}
use Rattle.sn_worker.specs.SlotTurns.{acting, heard_where, hears, may_hear, one_slot_turn, refuse, rests, slot_last, slot_round}
use Rattle.sn_worker.specs.SlotTurns.{slot_turn, slot_turn_where, slot_work, until_spent}
use Rattle.sn_worker.specs.Turns.{last_turn}

-- the first of these numbers is at least this one
abbrev pub BeginsAt : ℕ → List ℕ → Type 0
BeginsAt floor [] = Unit {0}
BeginsAt floor (n ∷ numbers) = floor ≤ n

-- what was done first, where two meanings were done
record Begun {R S : Type 0} (o : Outcome R) (k : R → Meaning S) (ended : Outcome S) : Type 0 where
  x : R
  desk : Desk
  left : List Entry
  first : o ≡ done x desk left
  goes : k x desk left ≡ ended

begun : {R S : Type 0} (o : Outcome R) (k : R → Meaning S) (s : S) (d : Desk) (left : List Entry)
    → go_on o k ≡ done s d left → Begun o k (done s d left)
unfolding go_on
begun {R} {S} (done x desk before) k s d left ends =
    record { x = x; desk = desk; left = before; first = refl; goes = ends }
begun {R} {S} (stopped desk before) k s d left ends =
    let h : stopped desk before ≡ done s d left = ends in absurd cc
begun {R} {S} (refused desk before) k s d left ends =
    let h : refused desk before ≡ done s d left = ends in absurd cc

both : {R S : Type 0} (m : Meaning R) (k : R → Meaning S) (a : Desk) (entries : List Entry) (s : S) (d : Desk)
    (left : List Entry) → (m >>= k) a entries ≡ done s d left → Begun (m a entries) k (done s d left)
unfolding ◌>>=◌
both {R} {S} m k a entries s d left ends = begun (m a entries) k s d left ends

-- the entry that was read
record HasRead {R : Type 0} (f : Entry → Option R) (x : R) (entries left : List Entry) : Type 0 where
  entry : Entry
  stood : entries ≡ entry ∷ left
  told : f entry ≡ Some x

was_reading : {R : Type 0} (found : Option R) (entry : Entry) (a : Desk) (more : List Entry) (x : R) (d : Desk) (left : List Entry)
    → reading found entry a more ≡ done x d left → (found ≡ Some x) × (more ≡ left)
unfolding reading
was_reading {R} (Some y) entry a more x d left ends =
    let h : done y (with_entry entry a) more ≡ done x d left = ends in (cc, cc)
was_reading {R} None entry a more x d left ends =
    let h : refused a (entry ∷ more) ≡ done x d left = ends in absurd cc

was_read : {R : Type 0} (f : Entry → Option R) (a : Desk) (entries : List Entry) (x : R) (d : Desk) (left : List Entry)
    → read f a entries ≡ done x d left → HasRead f x entries left
unfolding read
was_read {R} f a [] x d left ends = let h : refused a [] ≡ done x d left = ends in absurd cc
was_read {R} f a (entry ∷ more) x d left ends =
    let h = was_reading (f entry) entry a more x d left ends in
    record { entry = entry; stood = ap (λ (l : List Entry). entry ∷ l) h.1; told = h.0 }

-- nothing was read
was_pure : {R : Type 0} (y : R) (a : Desk) (entries : List Entry) (x : R) (d : Desk) (left : List Entry)
    → pure y a entries ≡ done x d left → (y ≡ x) × (entries ≡ left)
unfolding pure
was_pure {R} y a entries x d left ends = let h : done y a entries ≡ done x d left = ends in (cc, cc)

-- an entry says what was heard, or nothing of it
hear_or_not : (entry : Entry) → (heard_part entry ≡ []) ⊎ ((n : ℕ) × (entry ≡ Hear n))
hear_or_not (Round number) = inl refl
hear_or_not (Hear n) = inr (n, refl)
hear_or_not Breath = inl refl
hear_or_not (Attach lane found) = inl refl
hear_or_not (Unattached lane loaded found) = inl refl
hear_or_not (Detach lane old) = inl refl
hear_or_not (Reset lane) = inl refl
hear_or_not (Seen lane n) = inl refl
hear_or_not (Room lane n) = inl refl
hear_or_not (Put lane at packet turn bytes) = inl refl
hear_or_not (Take lane at packet turn bytes) = inl refl
hear_or_not (Drain lane at packet turn) = inl refl
hear_or_not (Got packet turn) = inl refl
hear_or_not Dry = inl refl
hear_or_not (Gave packet turn) = inl refl
hear_or_not (Full packet turn) = inl refl
hear_or_not (Worn packet turn) = inl refl
hear_or_not Spent = inl refl
hear_or_not Stop = inl refl
hear_or_not Close = inl refl
hear_or_not Reclaimed = inl refl
hear_or_not Restart = inl refl

round_is_silent : (number : ℕ) (entry : Entry) (x : Unit) → a_round number entry ≡ Some x → heard_part entry ≡ []
round_is_silent number entry x told = elim (hear_or_not entry) [
  | inl silent ↦ silent
  | inr heard ↦ absurd (none_told (sym told ∙ ap (a_round number) heard.1))
]
  where
    none_told : Some x ≡ None → ⊥
    none_told e = absurd cc

spent_is_silent : (entry : Entry) (x : Unit) → a_spent entry ≡ Some x → heard_part entry ≡ []
spent_is_silent entry x told = elim (hear_or_not entry) [
  | inl silent ↦ silent
  | inr heard ↦ absurd (none_told (sym told ∙ ap a_spent heard.1))
]
  where
    none_told : Some x ≡ None → ⊥
    none_told e = absurd cc

same_number : (m n : ℕ) → Some m ≡ Some n → m ≡ n
same_number m n e = cc

none_heard : (n : ℕ) → None ≡ Some n → ⊥
none_heard n e = absurd cc

was_heard : (n : ℕ) (entry : Entry) → a_hear entry ≡ Some n → heard_part entry ≡ n ∷ []
was_heard n (Round number) told = absurd (none_heard n told)
was_heard n (Hear m) told = let h : Some m ≡ Some n = told in ap (λ k. k ∷ []) (same_number m n h)
was_heard n Breath told = absurd (none_heard n told)
was_heard n (Attach lane found) told = absurd (none_heard n told)
was_heard n (Unattached lane loaded found) told = absurd (none_heard n told)
was_heard n (Detach lane old) told = absurd (none_heard n told)
was_heard n (Reset lane) told = absurd (none_heard n told)
was_heard n (Seen lane m) told = absurd (none_heard n told)
was_heard n (Room lane m) told = absurd (none_heard n told)
was_heard n (Put lane at packet turn bytes) told = absurd (none_heard n told)
was_heard n (Take lane at packet turn bytes) told = absurd (none_heard n told)
was_heard n (Drain lane at packet turn) told = absurd (none_heard n told)
was_heard n (Got packet turn) told = absurd (none_heard n told)
was_heard n Dry told = absurd (none_heard n told)
was_heard n (Gave packet turn) told = absurd (none_heard n told)
was_heard n (Full packet turn) told = absurd (none_heard n told)
was_heard n (Worn packet turn) told = absurd (none_heard n told)
was_heard n Spent told = absurd (none_heard n told)
was_heard n Stop told = absurd (none_heard n told)
was_heard n Close told = absurd (none_heard n told)
was_heard n Reclaimed told = absurd (none_heard n told)
was_heard n Restart told = absurd (none_heard n told)

-- at a gate a Stop ends all, and nothing else may stand there where a stop line names it
stop_ends : (a : Desk) (entry : Entry) (more : List Entry)
    → (stop_at a (entry ∷ more) ≡ stopped (with_entry entry a) more) ⊎ (stop_at a (entry ∷ more) ≡ refused a (entry ∷ more))
unfolding stop_at
stop_ends a (Round number) more = inr refl
stop_ends a (Hear n) more = inr refl
stop_ends a Breath more = inr refl
stop_ends a (Attach lane found) more = inr refl
stop_ends a (Unattached lane loaded found) more = inr refl
stop_ends a (Detach lane old) more = inr refl
stop_ends a (Reset lane) more = inr refl
stop_ends a (Seen lane n) more = inr refl
stop_ends a (Room lane n) more = inr refl
stop_ends a (Put lane at packet turn bytes) more = inr refl
stop_ends a (Take lane at packet turn bytes) more = inr refl
stop_ends a (Drain lane at packet turn) more = inr refl
stop_ends a (Got packet turn) more = inr refl
stop_ends a Dry more = inr refl
stop_ends a (Gave packet turn) more = inr refl
stop_ends a (Full packet turn) more = inr refl
stop_ends a (Worn packet turn) more = inr refl
stop_ends a Spent more = inr refl
stop_ends a Stop more = inl refl
stop_ends a Close more = inr refl
stop_ends a Reclaimed more = inr refl
stop_ends a Restart more = inr refl

never_after : (a : Desk) (entry : Entry) (more : List Entry) (x : Unit) (d : Desk) (left : List Entry)
    → stop_at a (entry ∷ more) ≡ done x d left → ⊥
never_after a entry more x d left ends = elim (stop_ends a entry more) [
  | inl is ↦ let h : stopped (with_entry entry a) more ≡ done x d left = sym is ∙ ends in absurd cc
  | inr is ↦ let h : refused a (entry ∷ more) ≡ done x d left = sym is ∙ ends in absurd cc
]

never_stopped : (a : Desk) (entries : List Entry) (x : Unit) (d : Desk) (left : List Entry) → stop_at a entries ≡ done x d left
    → ⊥
unfolding stop_at
never_stopped a [] x d left ends = let h : refused a [] ≡ done x d left = ends in absurd cc
never_stopped a (entry ∷ more) x d left ends = never_after a entry more x d left ends

-- nothing is read at a gate that is passed
named_left : (stops : Bool) (a : Desk) (entries : List Entry) (x : Unit) (d : Desk) (left : List Entry)
    → gate_named stops a entries ≡ done x d left → entries ≡ left
unfolding gate_named passed
named_left true a entries x d left ends = absurd (never_stopped a entries x d left ends)
named_left false a entries x d left ends = let h : done tt (on_tray gate_passed a) entries ≡ done x d left = ends in cc

gate_of_left : (scripted : Bool) (a : Desk) (entries : List Entry) (x : Unit) (d : Desk) (left : List Entry)
    → gate_of scripted a entries ≡ done x d left → entries ≡ left
unfolding gate_of
gate_of_left true a entries x d left ends = let h : done tt a entries ≡ done x d left = ends in cc
gate_of_left false a entries x d left ends = named_left (stops_here a.tray) a entries x d left ends

gate_by_left : (there : Bool) (a : Desk) (entries : List Entry) (x : Unit) (d : Desk) (left : List Entry)
    → gate_by there a entries ≡ done x d left → entries ≡ left
unfolding gate_by
gate_by_left true a entries x d left ends = gate_of_left a.tray.log.constants.scripted a entries x d left ends
gate_by_left false a entries x d left ends = let h : done tt a entries ≡ done x d left = ends in cc

gate_left : (phase : Phase) (gate : Gate) (a : Desk) (entries : List Entry) (x : Unit) (d : Desk) (left : List Entry)
    → gate_in phase gate a entries ≡ done x d left → entries ≡ left
unfolding gate_in
gate_left phase gate a entries x d left ends = gate_by_left (stands phase gate) a entries x d left ends

-- what is heard is read
read_heard : (a : Desk) (entries : List Entry) (n : ℕ) (d : Desk) (left : List Entry)
    → row_hear a entries ≡ done n d left → HasRead a_hear n entries left
unfolding row_hear
read_heard a entries n d left ends =
    let b = both (gate_in working hear) (λ _. read a_hear) a entries n d left ends in
    let same = gate_left working hear a entries b.x b.desk b.left b.first in
    let r = was_read a_hear b.desk b.left n d left b.goes in
    record { entry = r.entry; stood = same ∙ r.stood; told = r.told }

where_left : (may : Bool) (n : ℕ) (a : Desk) (entries : List Entry) (x : ℕ) (d : Desk) (left : List Entry)
    → heard_where may n a entries ≡ done x d left → may ≡ true
unfolding heard_where refuse
where_left true n a entries x d left ends = refl
where_left false n a entries x d left ends = let h : refused a entries ≡ done x d left = ends in absurd cc

enough : (floor : ℕ) (d : Desk) (n : ℕ) → may_hear floor d n ≡ true → floor ≤ n
enough floor d n may = elim (leb_tells floor n) [
  | inl within ↦ within.1
  | inr below ↦ absurd (let h : nat_le floor n ≡ true = (and_parts (nat_le floor n) _ may).0 in cc)
]

-- so the numbers that stand there begin with one that is at least what was said before
hears_first : (floor : ℕ) (a : Desk) (entries : List Entry) (x : ℕ) (d : Desk) (left : List Entry)
    → hears floor a entries ≡ done x d left → BeginsAt floor (of_channel entries)
unfolding hears look
hears_first floor a entries x d left ends =
    let b = both row_hear (λ n. heard_where (may_hear floor a n) n) a entries x d left ends in
    let r = read_heard a entries b.x b.desk b.left b.first in
    let may = where_left (may_hear floor a b.x) b.x b.desk b.left x d left b.goes in
    let numbers : of_channel entries ≡ b.x ∷ of_channel b.left =
    ap of_channel r.stood ∙ ap (λ (l : List ℕ). l ++ of_channel b.left) (was_heard b.x r.entry r.told) in
    subst (BeginsAt floor) (sym numbers) (enough floor a b.x may)

work_first : (plan : List Action) (floor keep : ℕ) (s : SlotLife) (a : Desk) (entries : List Entry) (x : SlotLife) (d : Desk)
    (left : List Entry) → slot_work plan floor keep s a entries ≡ done x d left → BeginsAt floor (of_channel entries)
unfolding slot_work
work_first plan floor keep s a entries x d left ends =
    let turned = both (hears floor >>= acting plan s.life) (rests keep (after_breath s.breathed)) a entries x d left ends in
    let heard = both (hears floor) (acting plan s.life) a entries turned.x turned.desk turned.left turned.first in
    hears_first floor a entries heard.x heard.desk heard.left heard.first

-- in its last turn a worker hears nothing, and it is spent then
last_read : (life : Life) (a : Desk) (entries : List Entry) (x : Life) (d : Desk) (left : List Entry)
    → last_turn life a entries ≡ done x d left → (of_channel entries ≡ of_channel left) × (x.spent ≡ true)
unfolding last_turn
last_read life a entries x d left ends =
    let b = both (read a_spent) (λ _. pure (record life { spent = true })) a entries x d left ends in
    let r = was_read a_spent a entries b.x b.desk b.left b.first in
    let p = was_pure (record life { spent = true }) b.desk b.left x d left b.goes in (
      ap of_channel r.stood ∙ (ap (λ (l : List ℕ). l ++ of_channel b.left) (spent_is_silent r.entry b.x r.told) ∙ ap of_channel p.1),
      sym (ap (λ (l : Life). l.spent) p.0),
    )

-- no number is heard, and the worker is spent
abbrev IsLast : List Entry → List Entry → SlotLife → Type 0
IsLast entries left s = (of_channel entries ≡ of_channel left) × (s.life.spent ≡ true)

slot_last_read : (s : SlotLife) (a : Desk) (entries : List Entry) (x : SlotLife) (d : Desk) (left : List Entry)
    → slot_last s a entries ≡ done x d left → IsLast entries left x
unfolding slot_last
slot_last_read s a entries x d left ends =
    let b = both (last_turn s.life) (λ life. pure (record s { life = life })) a entries x d left ends in
    let l = last_read s.life a entries b.x b.desk b.left b.first in
    let p = was_pure (record s { life = b.x }) b.desk b.left x d left b.goes in
    (l.0 ∙ ap of_channel p.1, sym (ap (λ (t : SlotLife). t.life.spent) p.0) ∙ l.1)

module _ (plan : List Action) (floor keep : ℕ) where
  turn_first : (full : Bool) (s : SlotLife) (a : Desk) (entries : List Entry) (x : SlotLife) (d : Desk) (left : List Entry)
      → slot_turn_where full plan floor keep s a entries ≡ done x d left
      → BeginsAt floor (of_channel entries) ⊎ IsLast entries left x
  unfolding slot_turn_where
  turn_first true s a entries x d left ends = inr (slot_last_read s a entries x d left ends)
  turn_first false s a entries x d left ends = inl (work_first plan floor keep s a entries x d left ends)

  slot_turn_first : (s : SlotLife) (a : Desk) (entries : List Entry) (x : SlotLife) (d : Desk) (left : List Entry)
      → slot_turn plan floor keep s a entries ≡ done x d left → BeginsAt floor (of_channel entries) ⊎ IsLast entries left x
  unfolding slot_turn look
  slot_turn_first s a entries x d left ends = turn_first (is_full a.tray) s a entries x d left ends

  -- a turn that isn't the last one begins so, else no further turn follows
  one_first : (s : SlotLife) (a : Desk) (entries : List Entry) (x : Bool × SlotLife) (d : Desk) (left : List Entry)
      → one_slot_turn plan floor keep s a entries ≡ done x d left
      → BeginsAt floor (of_channel entries) ⊎ ((of_channel entries ≡ of_channel left) × (x.0 ≡ false))
  unfolding one_slot_turn until_spent
  one_first s a entries x d left ends =
      let b = both (slot_turn plan floor keep s) until_spent a entries x d left ends in
      let p = was_pure (not b.x.life.spent, b.x) b.desk b.left x d left b.goes in
      elim (slot_turn_first s a entries b.x b.desk b.left b.first) [
        | inl begins ↦ inl begins
        | inr last ↦ inr (last.0 ∙ ap of_channel p.1, sym (ap (λ (t : Bool × SlotLife). t.0) p.0) ∙ ap not last.1)
      ]

  ended : (on : Bool) (next : Meaning SlotLife) (s : SlotLife) (a : Desk) (entries : List Entry) (x : SlotLife) (d : Desk)
      → on ≡ false → (if on then next else pure s) a entries ≡ done x d [] → entries ≡ []
  ended true next s a entries x d off ends = absurd cc
  ended false next s a entries x d off ends = (was_pure s a entries x d [] ends).1

  steps_first : (n : ℕ) (s : SlotLife) (a : Desk) (entries : List Entry) (x : SlotLife) (d : Desk)
      → stepping n (one_slot_turn plan floor keep) s a entries ≡ done x d [] → BeginsAt floor (of_channel entries)
  unfolding stepping
  steps_first zero s a entries x d ends =
      subst (λ l. BeginsAt floor (of_channel l)) (sym (was_pure s a entries x d [] ends).1) tt
  steps_first (suc n) s a entries x d ends =
      let b = both (one_slot_turn plan floor keep s)
      (λ t. if t.0 then stepping n (one_slot_turn plan floor keep) t.1 else pure t.1) a entries x d [] ends in
      elim (one_first s a entries b.x b.desk b.left b.first) [
        | inl begins ↦ begins
        | inr last ↦
            let none = ended b.x.0 (stepping n (one_slot_turn plan floor keep) b.x.1) b.x.1 b.desk b.left x d last.1 b.goes in
            subst (BeginsAt floor) (sym (last.0 ∙ ap of_channel none)) tt
      ]

  pub round_first : (breaths number : ℕ) (s : SlotLife) (a : Desk) (entries : List Entry) (x : SlotLife) (d : Desk)
      → slot_round plan breaths floor keep number s a entries ≡ done x d [] → BeginsAt floor (of_channel entries)
  unfolding slot_round
  round_first breaths number s a entries x d ends =
      let b = both (read (a_round number)) (λ _. stepping breaths (one_slot_turn plan floor keep) s) a entries x d [] ends in
      let r = was_read (a_round number) a entries b.x b.desk b.left b.first in
      let numbers : of_channel entries ≡ of_channel b.left =
      ap of_channel r.stood ∙ ap (λ (l : List ℕ). l ++ of_channel b.left) (round_is_silent number r.entry b.x r.told) in
      subst (BeginsAt floor) (sym numbers) (steps_first breaths s b.desk b.left x d b.goes)
