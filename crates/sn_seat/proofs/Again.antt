-- A meaning again and again, over trays, where want of memory alone halts it.
use Rattle.std.proofs.Common.{◌≡◌, ℕ, suc, ◌+◌, ◌++◌, ◌∙◌, Bool, true, false, if◌then◌else◌, List, length, Option, Result}
use Rattle.std.proofs.Common.{Ok, Err, refl, sym, ap, subst, arith, append_assoc, length-append}
use Rattle.sn_journal.specs.declared.entry.Entry.{Entry}
use Rattle.sn_app.specs.Answers.{AnswersCase, OnTray, all_may}
use Rattle.sn_app.specs.Desk.{Desk, Queue, Tray}
use Rattle.sn_app.specs.Reader.{Meaning, done, go_on, pure, repeated, repeated_with}
use Rattle.sn_app.specs.declared.halt.Halt.{Halt}
use Rattle.sn_app.specs.declared.halt.Halt.TheVariants.{OutOfMemory}
use Rattle.sn_app.proofs.Playing.{desk}
use Rattle.sn_app.proofs.Readings.{all_may-append, stays_then}

again : (n : ℕ) (m : Meaning Bool) → Bool → Meaning Unit
again n m on = if on then repeated_with n m else pure tt

first_time : (m : Meaning Bool) (d : Desk) (entries : List Entry) → repeated m d entries ≡ go_on (m d entries)
    (again (length entries) m)
unfolding repeated repeated_with again
first_time m d entries = refl

goes_on : (m : Meaning Bool) (d b : Desk) (entries rest : List Entry) → m d entries ≡ done true b rest
    → length entries ≡ suc (length rest) → repeated m d entries ≡ repeated m b rest
unfolding go_on again repeated
goes_on m d b entries rest gives one =
    first_time m d entries ∙ (ap (λ o. go_on o (again (length entries) m)) gives ∙ ap (λ n. repeated_with n m b rest) one)

ends_at : (m : Meaning Bool) (d b : Desk) (entries rest : List Entry) → m d entries ≡ done false b rest
    → repeated m d entries ≡ done tt b rest
unfolding go_on again pure
ends_at m d b entries rest gives = first_time m d entries ∙ ap (λ o. go_on o (again (length entries) m)) gives

-- it is done for the last time
last_case : (m : Meaning Bool) (a b : Desk) → AnswersCase m a b (Ok false) → AnswersCase (repeated m) a b (Ok tt)
unfolding AnswersCase
last_case m a b f = record {
  entries = f.entries;
  past = f.past;
  only = f.only;
  gives = λ rest. ends_at m a b (f.entries ++ rest) rest (f.gives rest);
}

pub repeat_last : (m : Meaning Bool) {t u : Tray} → OnTray m t u (Ok false) → OnTray (repeated m) t u (Ok tt)
repeat_last m {t} {u} f = record {
  at = λ queues. record
      { stays = (f.at queues).stays; by_case = last_case m (desk t queues) (desk u queues) (f.at queues).by_case };
}

-- where it halts, memory was refused
abbrev pub OnlyMemory : {R : Type 0} → Result R Halt → Type 0
OnlyMemory (Ok x) = Unit {0}
OnlyMemory (Err halt) = halt ≡ OutOfMemory

lost_at : (m : Meaning Bool) (a b : Desk) (h : Halt) → h ≡ OutOfMemory → AnswersCase (repeated m) a b (Err h)
unfolding AnswersCase
lost_at m a b h is = subst (λ z. AnswersCase (repeated m) a b (Err z)) (sym is) tt

-- it is done once more, with one entry
module _ (m : Meaning Bool) (t u v : Tray) (one_past : length u.log.past ≡ length t.log.past + 1) where
  counts_one : (entries rest : List Entry) → u.log.past ≡ t.log.past ++ entries → length (entries ++ rest) ≡ suc (length rest)
  counts_one entries rest past =
      let here : length u.log.past ≡ length (t.log.past ++ entries) = ap length past in
      omega (arith, length-append t.log.past entries, length-append entries rest, here, one_past)

  more_reads : (queues : ℕ → Option Queue) → AnswersCase m (desk t queues) (desk u queues) (Ok true) → u.log.constants
      ≡ t.log.constants
      → AnswersCase (repeated m) (desk u queues) (desk v queues) (Ok tt)
      → AnswersCase (repeated m) (desk t queues) (desk v queues) (Ok tt)
  unfolding AnswersCase
  more_reads queues f same g = record {
    entries = f.entries ++ g.entries;
    past = g.past ∙ (ap (λ l. l ++ g.entries) f.past ∙ append_assoc t.log.past f.entries g.entries);
    only = all_may-append t.log.constants.may f.entries g.entries f.only
        (subst (λ k. all_may k.may g.entries ≡ true) same g.only);
    gives = λ rest. ap (repeated m (desk t queues)) (append_assoc f.entries g.entries rest)
        ∙ (goes_on m (desk t queues) (desk u queues) (f.entries ++ (g.entries ++ rest)) (g.entries ++ rest)
        (f.gives (g.entries ++ rest))
        (counts_one f.entries (g.entries ++ rest) f.past)
        ∙ g.gives rest);
  }

  lost_case : (queues : ℕ → Option Queue) (h : Halt) → h ≡ OutOfMemory → AnswersCase (repeated m) (desk t queues)
      (desk v queues) (Err h)
  unfolding AnswersCase
  lost_case queues h is = lost_at m (desk t queues) (desk v queues) h is

  by_answer : (r : Result Unit Halt) → OnlyMemory r → (queues : ℕ → Option Queue) → AnswersCase m (desk t queues)
      (desk u queues) (Ok true)
      → u.log.constants ≡ t.log.constants
      → AnswersCase (repeated m) (desk u queues) (desk v queues) r → AnswersCase (repeated m) (desk t queues) (desk v queues) r
  by_answer (Ok x) only queues f same g = more_reads queues f same g
  by_answer (Err h) only queues f same g = lost_case queues h only

  pub repeat_more : OnTray m t u (Ok true) → (r : Result Unit Halt) → OnlyMemory r → OnTray (repeated m) u v r → OnTray
      (repeated m) t v r
  repeat_more f r only g = record {
    at = λ queues. record {
      stays = stays_then (f.at queues).stays (g.at queues).stays;
      by_case = by_answer r only queues (f.at queues).by_case (f.at queues).stays.constants (g.at queues).by_case;
    };
  }

-- memory was refused at last
pub repeat_lost : (m : Meaning Bool) {t u : Tray} {halt : Halt} → halt ≡ OutOfMemory → OnTray m t u (Err halt)
    → OnTray (repeated m) t u (Err halt)
repeat_lost m {t} {u} {halt} is f = record {
  at = λ queues. record { stays = (f.at queues).stays; by_case = lost_at m (desk t queues) (desk u queues) halt is };
}

-- however it goes on from here, so it went from the start, where it halts by want of memory alone
pub record Repeats (m : Meaning Bool) (start now : Tray) : Type 0 where
  pub ends : (later : Tray) (r : Result Unit Halt) → OnlyMemory r → OnTray (repeated m) now later r → OnTray (repeated m)
      start later r

pub repeats_start : (m : Meaning Bool) (t : Tray) → Repeats m t t
repeats_start m t = record { ends = λ later r only f. f }

pub repeats_more : {m : Meaning Bool} {t u v : Tray} → Repeats m t u → OnTray m u v (Ok true)
    → length v.log.past ≡ length u.log.past + 1 → Repeats m t v
repeats_more {m} {t} {u} {v} before turn one =
    record { ends = λ later r only f. before.ends later r only (repeat_more m u v later one turn r only f) }
