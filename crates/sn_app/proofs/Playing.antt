-- How a call of a bench played its row: which entries of the script it read.
use Rattle.std.proofs.Common.{◌≡◌, ℕ, ◌++◌, ◌∷◌, ◌∙◌, Bool, true, false, IsTrue, List, [], length, Option, Some, None, is_some, Ok, Err, refl, sym, ap, append-nil, arith}
use Rattle.std.proofs.lemmas.Bool.{and_from}
use Rattle.sn_journal.specs.declared.entry.Entry.{Entry}
use Rattle.sn_app.specs.Answers.{AnswersCase, Stays, all_may, halted}
use Rattle.sn_app.specs.Bench.{Played, PlaysCase, may_come}
use Rattle.sn_app.specs.Desk.{Desk, Queue, Tray}
use Rattle.sn_app.specs.Reader.{Meaning, done, refused}
use Rattle.sn_app.specs.declared.halt.Halt.TheVariants.{Stopped, OutOfMemory}

-- a desk of this tray
abbrev pub desk : Tray → (ℕ → Option Queue) → Desk
desk t queues = record { tray = t; queues = queues }

-- these entries were read, and a value came, whatever follows them
pub played_some : {R : Type 0} (m : Meaning R) (t u : Tray) (script left entries : List Entry) (x : R)
    → Stays t u → u.log.past ≡ t.log.past ++ entries → all_may t.log.constants.may entries ≡ true → script ≡ entries ++ left
    → ((queues : ℕ → Option Queue) (rest : List Entry) → m (desk t queues) (entries ++ rest) ≡ done x (desk u queues) rest)
    → Played m t u script left (Ok x)
unfolding PlaysCase AnswersCase
played_some m t u script left entries x stays past only was gives = record {
  reads = record {
    at = λ queues. record {
      stays = stays;
      by_case = record { entries = entries; past = past; only = only; gives = gives queues };
    };
  };
  plays = λ queues. ap (m (desk t queues)) was ∙ gives queues left;
}

-- these entries were read, and the next one may not be read, nor may the script end there
pub stopped_after : {R : Type 0} (m : Meaning R) (t u : Tray) (script left entries : List Entry)
    → Stays t u → u.log.past ≡ t.log.past ++ entries → all_may t.log.constants.may entries ≡ true
    → t.log.constants.scripted ≡ true → script ≡ entries ++ left
    → ((queues : ℕ → Option Queue) → m (desk t queues) (entries ++ []) ≡ refused (desk u queues) [])
    → ((queues : ℕ → Option Queue) → m (desk t queues) (entries ++ left) ≡ refused (desk u queues) left)
    → Played m t u script left (Err Stopped)
unfolding PlaysCase AnswersCase halted
stopped_after m t u script left entries stays past only scripted was at_end here = record {
  reads = record {
    at = λ queues. record {
      stays = stays;
      by_case = record {
        entries = entries;
        past = past;
        only = only;
        gives = λ rest ended.
            let none : rest ≡ [] = ended scripted in
            ap (λ l. m (desk t queues) (entries ++ l)) none
            ∙ (at_end queues ∙ (ap (refused (desk u queues)) (sym none)
            ∙ ap (λ b. halted b (desk u queues) rest) (sym scripted)));
      };
    };
  };
  plays = λ queues. ap (m (desk t queues)) was ∙ here queues;
}

-- one entry was read
pub played_one : {R : Type 0} (m : Meaning R) (t u : Tray) (script left : List Entry) (entry : Entry) (x : R)
    → Stays t u → u.log.past ≡ t.log.past ++ entry ∷ [] → t.log.constants.may entry ≡ true → script ≡ entry ∷ left
    → ((queues : ℕ → Option Queue) (rest : List Entry) → m (desk t queues) (entry ∷ rest) ≡ done x (desk u queues) rest)
    → Played m t u script left (Ok x)
played_one m t u script left entry x stays past may was gives =
    played_some m t u script left (entry ∷ []) x stays past (and_from (t.log.constants.may entry) true may refl) was gives

-- nothing was read
pub played_none : {R : Type 0} (m : Meaning R) (t u : Tray) (script : List Entry) (x : R)
    → Stays t u → u.log.past ≡ t.log.past
    → ((queues : ℕ → Option Queue) (rest : List Entry) → m (desk t queues) rest ≡ done x (desk u queues) rest)
    → Played m t u script script (Ok x)
played_none m t u script x stays past gives =
    played_some m t u script script [] x stays (past ∙ sym (append-nil t.log.past)) refl refl gives

-- nothing was read, since the next entry may not be read
pub stopped_at_once : {R : Type 0} (m : Meaning R) (t u : Tray) (script : List Entry)
    → Stays t u → u.log.past ≡ t.log.past → t.log.constants.scripted ≡ true
    → ((queues : ℕ → Option Queue) → m (desk t queues) [] ≡ refused (desk u queues) [])
    → ((queues : ℕ → Option Queue) → m (desk t queues) script ≡ refused (desk u queues) script)
    → Played m t u script script (Err Stopped)
stopped_at_once m t u script stays past scripted at_end here =
    stopped_after m t u script script [] stays (past ∙ sym (append-nil t.log.past)) refl scripted refl at_end here

-- memory was refused
pub played_lost : {R : Type 0} (m : Meaning R) (t u : Tray) (script left : List Entry) → Stays t u
    → Played m t u script left (Err OutOfMemory)
unfolding PlaysCase AnswersCase
played_lost m t u script left stays = record {
  reads = record { at = λ queues. record { stays = stays; by_case = tt } };
  plays = λ queues. tt;
}

-- an entry of a script may come
pub may_read : (bare : Bool) (script left : List Entry) (entry : Entry) → (IsTrue bare → length script ≡ 0)
    → script ≡ entry ∷ left
    → may_come bare entry ≡ true
may_read true script left entry empty was = absurd (omega (arith, empty refl, ap length was))
may_read false script left entry empty was = refl

-- whether a test that tells nothing more holds
pub is_there : (o : Option Unit) → true ≡ is_some o → Some tt ≡ o
is_there (Some x) h = refl
is_there None h = absurd cc

pub isnt_there : (o : Option Unit) → false ≡ is_some o → None ≡ o
isnt_there (Some x) h = absurd cc
isnt_there None h = refl
