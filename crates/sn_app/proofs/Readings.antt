-- How answers go together: a reading followed by another, a look, a change, and what is left out of a halt.
use Rattle.std.proofs.Common.{◌≡◌, ◌++◌, ◌∷◌, ◌∙◌, Bool, true, false, IsTrue, List, [], Result, Ok, Err, refl, sym, ap, subst, append_assoc, append-nil}
use Rattle.std.proofs.lemmas.Bool.{and_parts, and_from}
use Rattle.sn_journal.specs.declared.entry.Entry.{Entry}
use Rattle.sn_app.specs.Answers.{Answers, AnswersCase, Halts, Reads, Stays, all_may, halted}
use Rattle.sn_app.specs.Desk.{Desk, Tray, Log}
use Rattle.sn_app.specs.Reader.{Meaning, done, pure, go_on, ◌>>=◌, look, change}
use Rattle.sn_app.specs.declared.halt.Halt.{Halt}
use Rattle.sn_app.specs.declared.halt.Halt.TheVariants.{Stopped, OutOfMemory}

-- what a call keeps
pub stays_same : (t : Tray) → Stays t t
stays_same t = record { constants = refl; started = λ file h. h }

pub stays_then : {a b c : Tray} → Stays a b → Stays b c → Stays a c
stays_then x y = record { constants = y.constants ∙ x.constants; started = λ file h. y.started file (x.started file h) }

-- entries that may come, and more of them
pub all_may-append : (may : Entry → Bool) (xs ys : List Entry) → all_may may xs ≡ true → all_may may ys ≡ true → all_may may (xs ++ ys) ≡ true
all_may-append may [] ys h k = k
all_may-append may (x ∷ xs) ys h k =
    let parts = and_parts (may x) (all_may may xs) h in
    and_from (may x) (all_may may (xs ++ ys)) parts.0 (all_may-append may xs ys parts.1 k)

-- nothing is read
pub answers_pure : {R : Type 0} (x : R) (a : Desk) → Answers (pure x) a a (Ok x)
unfolding AnswersCase pure
answers_pure x a = record {
  stays = stays_same a.tray;
  by_case = record { entries = []; past = sym (append-nil a.tray.log.past); only = refl; gives = λ rest. refl };
}

-- the entries of two readings, one after the other
joined_past : (a b c : List Entry) (xs ys : List Entry) → b ≡ a ++ xs → c ≡ b ++ ys → c ≡ a ++ (xs ++ ys)
joined_past a b c xs ys p q = q ∙ (ap (λ l. l ++ ys) p ∙ append_assoc a xs ys)

joined_only : {a b : Tray} (xs ys : List Entry) → Stays a b → all_may a.log.constants.may xs ≡ true
    → all_may b.log.constants.may ys ≡ true → all_may a.log.constants.may (xs ++ ys) ≡ true
joined_only {a} {b} xs ys s p q =
    all_may-append a.log.constants.may xs ys p (subst (λ c. all_may c.may ys ≡ true) s.constants q)

-- a reading over more entries than its own
bound : {R S : Type 0} (m : Meaning R) (k : R → Meaning S) (a b : Desk) (x : R) (xs ys rest : List Entry)
    → ((more : List Entry) → m a (xs ++ more) ≡ done x b more) → (m >>= k) a ((xs ++ ys) ++ rest) ≡ k x b (ys ++ rest)
unfolding ◌>>=◌ go_on
bound m k a b x xs ys rest gives =
    ap (λ l. go_on (m a l) k) (append_assoc xs ys rest) ∙ ap (λ o. go_on o k) (gives (ys ++ rest))

reads_bind : {R S : Type 0} {m : Meaning R} (k : R → Meaning S) {a b c : Desk} {x : R} {y : S}
    → Stays a.tray b.tray → Reads m a b x → Reads (k x) b c y → Reads (m >>= k) a c y
reads_bind {m = m} k {a} {b} {c} {x} {y} s f g = record {
  entries = f.entries ++ g.entries;
  past = joined_past _ _ _ f.entries g.entries f.past g.past;
  only = joined_only f.entries g.entries s f.only g.only;
  gives = λ rest. bound m k a b x f.entries g.entries rest f.gives ∙ g.gives rest;
}

halts_bind : {R S : Type 0} {m : Meaning R} (k : R → Meaning S) {a b c : Desk} {x : R}
    → Stays a.tray b.tray → Reads m a b x → Halts (k x) b c → Halts (m >>= k) a c
halts_bind {m = m} k {a} {b} {c} {x} s f g = record {
  entries = f.entries ++ g.entries;
  past = joined_past _ _ _ f.entries g.entries f.past g.past;
  only = joined_only f.entries g.entries s f.only g.only;
  gives = λ rest ended. bound m k a b x f.entries g.entries rest f.gives
      ∙ (g.gives rest (λ scripted. ended (subst (λ t. IsTrue t.scripted) s.constants scripted))
      ∙ ap (λ t. halted t.scripted c rest) s.constants);
}

case_bind : {R S : Type 0} (m : Meaning R) (k : R → Meaning S) (a b c : Desk) (x : R) (r : Result S Halt)
    → Stays a.tray b.tray → Reads m a b x → AnswersCase (k x) b c r → AnswersCase (m >>= k) a c r
unfolding AnswersCase
case_bind m k a b c x (Ok y) s f g = reads_bind k s f g
case_bind m k a b c x (Err Stopped) s f g = halts_bind k s f g
case_bind m k a b c x (Err OutOfMemory) s f g = tt

-- one reading, and then another
pub answers_bind : {R S : Type 0} {m : Meaning R} (k : R → Meaning S) {a b c : Desk} {x : R} {r : Result S Halt}
    → Answers m a b (Ok x) → Answers (k x) b c r → Answers (m >>= k) a c r
unfolding AnswersCase
answers_bind {m = m} k {a} {b} {c} {x} {r} f g = record { stays = stays_then f.stays g.stays; by_case = case_bind m k a b c x r f.stays f.by_case g.by_case }

halts_fail : {R S : Type 0} {m : Meaning R} (k : R → Meaning S) {a b : Desk} → Halts m a b → Halts (m >>= k) a b
unfolding ◌>>=◌ go_on halted
halts_fail {m = m} k {a} {b} f = record {
  entries = f.entries;
  past = f.past;
  only = f.only;
  gives = λ rest ended. ap (λ o. go_on o k) (f.gives rest ended) ∙ halted_on a.tray.log.constants.scripted b rest k;
}
  where
    halted_on : {R S : Type 0} (scripted : Bool) (b : Desk) (rest : List Entry) (k : R → Meaning S)
        → go_on (halted scripted b rest) k ≡ halted scripted b rest
    halted_on true b rest k = refl
    halted_on false b rest k = refl

case_fail : {R S : Type 0} (m : Meaning R) (k : R → Meaning S) (a b : Desk) (h : Halt)
    → AnswersCase m a b (Err h) → AnswersCase (m >>= k) a b (Err h)
unfolding AnswersCase
case_fail m k a b Stopped f = halts_fail k f
case_fail m k a b OutOfMemory f = tt

-- where the first reading halts, so do both
pub answers_fail : {R S : Type 0} {m : Meaning R} (k : R → Meaning S) {a b : Desk} {h : Halt}
    → Answers m a b (Err h) → Answers (m >>= k) a b (Err h)
answers_fail {m = m} k {a} {b} {h} f = record { stays = f.stays; by_case = case_fail m k a b h f.by_case }

-- a meaning by what stands on the desk
case_at : {R : Type 0} (m n : Meaning R) (a b : Desk) (r : Result R Halt)
    → ((entries : List Entry) → n a entries ≡ m a entries) → AnswersCase m a b r → AnswersCase n a b r
unfolding AnswersCase
case_at m n a b (Ok x) e f = record {
  entries = f.entries;
  past = f.past;
  only = f.only;
  gives = λ rest. e (f.entries ++ rest) ∙ f.gives rest;
}
case_at m n a b (Err Stopped) e f = record {
  entries = f.entries;
  past = f.past;
  only = f.only;
  gives = λ rest ended. e (f.entries ++ rest) ∙ f.gives rest ended;
}
case_at m n a b (Err OutOfMemory) e f = tt

-- two meanings that are one at this desk
pub answers_at : {R : Type 0} {m n : Meaning R} {a b : Desk} {r : Result R Halt}
    → ((entries : List Entry) → n a entries ≡ m a entries) → Answers m a b r → Answers n a b r
answers_at {m = m} {n} {a} {b} {r} e f = record { stays = f.stays; by_case = case_at m n a b r e f.by_case }

pub answers_look : {R : Type 0} (f : Desk → Meaning R) {a b : Desk} {r : Result R Halt} → Answers (f a) a b r → Answers (look f) a b r
unfolding look
answers_look f x = answers_at (λ entries. refl) x

-- the desk changes, and the log doesn't
pub answers_changed : (f : Desk → Desk) (a : Desk) → (f a).tray.log ≡ a.tray.log → Stays a.tray (f a).tray → Answers (change f) a (f a) (Ok tt)
unfolding AnswersCase change
answers_changed f a log stays = record {
  stays = stays;
  by_case = record {
    entries = [];
    past = ap (λ (l : Log). l.past) log ∙ sym (append-nil a.tray.log.past);
    only = refl;
    gives = λ rest. refl;
  };
}

-- memory was refused
pub answers_lost : {R : Type 0} (m : Meaning R) {a b : Desk} → Stays a.tray b.tray → Answers m a b (Err OutOfMemory)
unfolding AnswersCase
answers_lost m stays = record { stays = stays; by_case = tt }

-- Over a whole journal that began with nothing, the meaning gives the value and reads it all: a journal replayed.
pub replayed : {R : Type 0} (m : Meaning R) {a b : Desk} {x : R} → a.tray.log.past ≡ [] → Answers m a b (Ok x) → m a b.tray.log.past ≡ done x b []
unfolding AnswersCase
replayed m {a} {b} {x} began f =
    let e = f.by_case.past ∙ ap (λ l. l ++ f.by_case.entries) began in
    ap (m a) (e ∙ sym (append-nil f.by_case.entries)) ∙ f.by_case.gives []
