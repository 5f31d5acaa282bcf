-- How a call of a bench plays a row whose first entries it read before, and one that is done again and again.
use Rattle.std.proofs.Common.{◌≡◌, ℕ, suc, ◌+◌, ◌++◌, ◌∷◌, ◌∙◌, Bool, true, false, if◌then◌else◌, IsTrue, List, [], length, Option, Result, Ok, Err, refl, ap, subst, arith, append_assoc, length-append}
use Rattle.sn_journal.specs.declared.entry.Entry.{Entry}
use Rattle.sn_app.specs.Answers.{Answers, AnswersCase, Halts, Reads, Stays, all_may, halted}
use Rattle.sn_app.specs.Bench.{Played, PlaysCase}
use Rattle.sn_app.specs.Desk.{Desk, Queue, Tray}
use Rattle.sn_app.specs.Reader.{Meaning, done, refused, go_on, pure, repeated, repeated_with}
use Rattle.sn_app.specs.declared.halt.Halt.{Halt}
use Rattle.sn_app.specs.declared.halt.Halt.TheVariants.{Stopped, OutOfMemory}
use Rattle.sn_app.proofs.Playing.{desk}
use Rattle.sn_app.proofs.Readings.{all_may-append, stays_then}

-- these entries were read before, and then comes the rest of the row
module _ {R : Type 0} (m k : Meaning R) (t middle : Tray) (queues : ℕ → Option Queue) (entries : List Entry)
    (stays : Stays t middle)
    (past : middle.log.past ≡ t.log.past ++ entries) (only : all_may t.log.constants.may entries ≡ true)
    (before : (rest : List Entry) → m (desk t queues) (entries ++ rest) ≡ k (desk middle queues) rest) where
  past_after : (u : Tray) (more : List Entry) → u.log.past ≡ middle.log.past ++ more
      → u.log.past ≡ t.log.past ++ (entries ++ more)
  past_after u more e = e ∙ (ap (λ l. l ++ more) past ∙ append_assoc t.log.past entries more)

  only_after : (more : List Entry) → all_may middle.log.constants.may more ≡ true
      → all_may t.log.constants.may (entries ++ more) ≡ true
  only_after more h =
      all_may-append t.log.constants.may entries more only (subst (λ c. all_may c.may more ≡ true) stays.constants h)

  reads_after : (u : Tray) (x : R) → Reads k (desk middle queues) (desk u queues) x → Reads m (desk t queues) (desk u queues) x
  reads_after u x f = record {
    entries = entries ++ f.entries;
    past = past_after u f.entries f.past;
    only = only_after f.entries f.only;
    gives = λ rest. ap (m (desk t queues)) (append_assoc entries f.entries rest) ∙ (before (f.entries ++ rest) ∙ f.gives rest);
  }

  halts_after : (u : Tray) → Halts k (desk middle queues) (desk u queues) → Halts m (desk t queues) (desk u queues)
  halts_after u f = record {
    entries = entries ++ f.entries;
    past = past_after u f.entries f.past;
    only = only_after f.entries f.only;
    gives = λ rest ended. ap (m (desk t queues)) (append_assoc entries f.entries rest)
        ∙ (before (f.entries ++ rest)
        ∙ (f.gives rest (λ scripted. ended (subst (λ c. IsTrue c.scripted) stays.constants scripted))
        ∙ ap (λ c. halted c.scripted (desk u queues) rest) stays.constants));
  }

  case_after : (u : Tray) (r : Result R Halt) → AnswersCase k (desk middle queues) (desk u queues) r
      → AnswersCase m (desk t queues) (desk u queues) r
  unfolding AnswersCase
  case_after u (Ok x) f = reads_after u x f
  case_after u (Err Stopped) f = halts_after u f
  case_after u (Err OutOfMemory) f = tt

  answers_after : (u : Tray) (r : Result R Halt) → Answers k (desk middle queues) (desk u queues) r
      → Answers m (desk t queues) (desk u queues) r
  answers_after u r f = record { stays = stays_then stays f.stays; by_case = case_after u r f.by_case }

plays_after : {R : Type 0} (m k : Meaning R) (t middle u : Tray) (script more left : List Entry) (queues : ℕ → Option Queue)
    (r : Result R Halt) → m (desk t queues) script ≡ k (desk middle queues) more → PlaysCase k middle u more left queues r
    → PlaysCase m t u script left queues r
unfolding PlaysCase
plays_after m k t middle u script more left queues (Ok x) before f = before ∙ f
plays_after m k t middle u script more left queues (Err Stopped) before f = before ∙ f
plays_after m k t middle u script more left queues (Err OutOfMemory) before f = tt

-- one entry was read before
pub played_after : {R : Type 0} (m k : Meaning R) (t middle u : Tray) (script more left : List Entry) (entry : Entry)
    (r : Result R Halt)
    → Stays t middle → middle.log.past ≡ t.log.past ++ entry ∷ [] → all_may t.log.constants.may (entry ∷ []) ≡ true
    → script ≡ entry ∷ more
    → ((queues : ℕ → Option Queue) (rest : List Entry) → m (desk t queues) (entry ∷ rest) ≡ k (desk middle queues) rest)
    → Played k middle u more left r → Played m t u script left r
played_after m k t middle u script more left entry r stays past only was before f = record {
  reads = record {
    at = λ queues. answers_after m k t middle queues (entry ∷ []) stays past only (before queues) u r (f.reads.at queues);
  };
  plays = λ queues. plays_after m k t middle u script more left queues r (ap (m (desk t queues)) was ∙ before queues more)
      (f.plays queues);
}

-- AGAIN AND AGAIN

again : (n : ℕ) (m : Meaning Bool) → Bool → Meaning Unit
again n m on = if on then repeated_with n m else pure tt

first_time : (m : Meaning Bool) (d : Desk) (entries : List Entry)
    → repeated m d entries ≡ go_on (m d entries) (again (length entries) m)
unfolding repeated repeated_with again
first_time m d entries = refl

-- once more, with one entry read
goes_on : (m : Meaning Bool) (d b : Desk) (entries rest : List Entry) → m d entries ≡ done true b rest
    → length entries ≡ suc (length rest) → repeated m d entries ≡ repeated m b rest
unfolding go_on again repeated
goes_on m d b entries rest gives one =
    first_time m d entries ∙ (ap (λ o. go_on o (again (length entries) m)) gives ∙ ap (λ n. repeated_with n m b rest) one)

-- for the last time
ends : (m : Meaning Bool) (d b : Desk) (entries rest : List Entry) → m d entries ≡ done false b rest
    → repeated m d entries ≡ done tt b rest
unfolding go_on again pure
ends m d b entries rest gives = first_time m d entries ∙ ap (λ o. go_on o (again (length entries) m)) gives

stops : (m : Meaning Bool) (d b : Desk) (entries rest : List Entry) → m d entries ≡ refused b rest
    → repeated m d entries ≡ refused b rest
unfolding go_on
stops m d b entries rest gives = first_time m d entries ∙ ap (λ o. go_on o (again (length entries) m)) gives

stops_halted : (m : Meaning Bool) (d b : Desk) (entries rest : List Entry) (scripted : Bool)
    → m d entries ≡ halted scripted b rest
    → repeated m d entries ≡ halted scripted b rest
unfolding go_on halted
stops_halted m d b entries rest true gives = first_time m d entries ∙ ap (λ o. go_on o (again (length entries) m)) gives
stops_halted m d b entries rest false gives = first_time m d entries ∙ ap (λ o. go_on o (again (length entries) m)) gives

module _ (m : Meaning Bool) (t middle : Tray) (script more : List Entry) where
  -- it is done once more
  module _ (turn : Played m t middle script more (Ok true)) (one_past : length middle.log.past ≡ length t.log.past + 1)
      (one : length more + 1 ≡ length script) where
    turn_at : (queues : ℕ → Option Queue) → Reads m (desk t queues) (desk middle queues) true
    unfolding AnswersCase
    turn_at queues = (turn.reads.at queues).by_case

    one_entry : (queues : ℕ → Option Queue) (rest : List Entry)
        → length ((turn_at queues).entries ++ rest) ≡ suc (length rest)
    one_entry queues rest =
        let entries : List Entry = (turn_at queues).entries in
        let here : length middle.log.past ≡ length (t.log.past ++ entries) = ap length (turn_at queues).past in
        omega (arith, length-append t.log.past entries, length-append entries rest, here, one_past)

    plays_turn : (queues : ℕ → Option Queue) → m (desk t queues) script ≡ done true (desk middle queues) more
    unfolding PlaysCase
    plays_turn queues = turn.plays queues

    pub played_again : (u : Tray) (left : List Entry) (r : Result Unit Halt) → Played (repeated m) middle u more left r
        → Played (repeated m) t u script left r
    played_again u left r f = record {
      reads = record {
        at = λ queues.
            let at : Reads m (desk t queues) (desk middle queues) true = turn_at queues in
            answers_after (repeated m) (repeated m) t middle queues at.entries (turn.reads.at queues).stays at.past at.only
            (λ rest. goes_on m (desk t queues) (desk middle queues) (at.entries ++ rest) rest (at.gives rest)
            (one_entry queues rest))
            u r (f.reads.at queues);
      };
      plays = λ queues. plays_after (repeated m) (repeated m) t middle u script more left queues r
          (goes_on m (desk t queues) (desk middle queues) script more (plays_turn queues) (omega (arith, one)))
          (f.plays queues);
    }

  -- it was done for the last time
  pub played_last : Played m t middle script more (Ok false) → Played (repeated m) t middle script more (Ok tt)
  unfolding PlaysCase AnswersCase
  played_last turn = record {
    reads = record {
      at = λ queues. record {
        stays = (turn.reads.at queues).stays;
        by_case = record {
          entries = (turn.reads.at queues).by_case.entries;
          past = (turn.reads.at queues).by_case.past;
          only = (turn.reads.at queues).by_case.only;
          gives = λ rest. ends m (desk t queues) (desk middle queues) ((turn.reads.at queues).by_case.entries ++ rest) rest
              ((turn.reads.at queues).by_case.gives rest);
        };
      };
    };
    plays = λ queues. ends m (desk t queues) (desk middle queues) script more (turn.plays queues);
  }

  -- it halts
  pub played_halt : (halt : Halt) → Played m t middle script more (Err halt) → Played (repeated m) t middle script more (Err halt)
  unfolding PlaysCase AnswersCase
  played_halt Stopped turn = record {
    reads = record {
      at = λ queues. record {
        stays = (turn.reads.at queues).stays;
        by_case = record {
          entries = (turn.reads.at queues).by_case.entries;
          past = (turn.reads.at queues).by_case.past;
          only = (turn.reads.at queues).by_case.only;
          gives = λ rest ended. stops_halted m (desk t queues) (desk middle queues)
              ((turn.reads.at queues).by_case.entries ++ rest) rest t.log.constants.scripted
              ((turn.reads.at queues).by_case.gives rest ended);
        };
      };
    };
    plays = λ queues. stops m (desk t queues) (desk middle queues) script more (turn.plays queues);
  }
  played_halt OutOfMemory turn = record {
    reads = record { at = λ queues. record { stays = (turn.reads.at queues).stays; by_case = tt } };
    plays = λ queues. tt;
  }
