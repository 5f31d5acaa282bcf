-- What the course of a call says of its answer, clause by clause.
use Rattle.std.proofs.Common.{◌≡◌, ℕ, true, false, inl, inr, List, [], Option, Some, None, refl, sym, ap, ◌∙◌, subst}
use Rattle.std.proofs.lemmas.List.{append-nil}
use Rattle.std.specs.Prelude.{IfSome, IsSome, is_some, unwrap_or, ◌⊎◌, ◌↔◌, ◌≢◌}
use Rattle.sn_outside.specs.Counts.{FaultCounted}
use Rattle.sn_pcap.specs.declared.fault.PcapFault.{PcapFault}
use Rattle.sn_pcap.specs.Faults.{HasFault}
use Rattle.sn_pcap.specs.Grammar.{PcapText}
use Rattle.sn_outside.specs.declared.fault.FileFault.TheVariants.{Failed, TooLong as Long, OutOfMemory as NoMemory}
use Rattle.sn_run.specs.Answers.{Answered, FaultsCounted, Headline, IsCaused, IsDue, IsTextOf, Leaves, ended_by}
use Rattle.sn_run.specs.Answers.{has_report}
use Rattle.sn_run.specs.Calls.{CallsMade, IsLikeOrStarved}
use Rattle.sn_run.specs.Commands.{IsCommand}
use Rattle.sn_run.specs.Courses.{Course}
use Rattle.sn_run.specs.Expectations.{Expected, IsOutside, Leads}
use Rattle.sn_run.specs.Printed.{Sunk, TookAll, TookAllOf, TookFrontOf}
use Rattle.sn_run.specs.Reported.{RunReport}
use Rattle.sn_run.specs.Scripts.{command_script}
use Rattle.sn_run.specs.Seen.{Seen}
use Rattle.sn_run.specs.Texts.{Said}
use Rattle.sn_run.specs.Ways.{AreAlike, Way, is_finished, no_words, unread, refused, finished, done, unwritten, starved}
use Rattle.sn_run.specs.Ways.{unprinted, way_of}
use Rattle.sn_run.specs.declared.status.Ended.{Ended}
use Rattle.sn_run.specs.declared.status.Status.{Status}
use Rattle.sn_run.specs.declared.status.Status.TheVariants.{Drained, RoundsUsed, JournalLimit, Done, BadWords, NoWorker}
use Rattle.sn_run.specs.declared.status.Status.TheVariants.{BadScenario, NotYet, BadPcap, ReadFault, TooLong, WriteFault}
use Rattle.sn_run.specs.declared.status.Status.TheVariants.{PrintFault, OutOfMemory}
use Rattle.sn_run.proofs.CallLists.{makes_calls}
use Rattle.sn_run.proofs.ScriptEnds.{HasOwnText, counts, of_script, own_text, reports}
use Rattle.sn_run.proofs.Headlines.{headline, ran_leaves, untouched_leaves}
use Rattle.sn_run.proofs.RunEnds.{RanTo, Untouched, run_ends}
use Rattle.sn_run.proofs.OneAnswer.{SaidAlike, led, one_lead}
use Rattle.sn_run.proofs.OneCommand.{one_asked}

ways_alike : (a b : Said) → SaidAlike a b → AreAlike a.way b.way
ways_alike a b alike = elim alike [ inl e ↦ inl (ap (λ s. s.way) e) | inr both ↦ inr both ]

-- where no run came to its end, the texts are one
same_text : (a b : Said) → a.way ≡ done → SaidAlike a b → a.text ≡ b.text
same_text a b is alike = elim alike [
  | inl e ↦ ap (λ s. s.text) e
  | inr both ↦ absurd (let h : false ≡ true = sym (ap is_finished is) ∙ both.0 in cc)
]

module _ (w : Seen) (words : List (List ℕ)) where
  pub reports_of : (report : Option RunReport) (said : Said) → Course w words report said → is_some report ≡ has_report said.way
  reports_of report said (inl n) =
      subst (λ r. is_some r ≡ has_report said.way) (sym n.no_report) (subst (λ s. false ≡ has_report s.way) (sym n.says) refl)
  reports_of report said (inr m) = reports w.tells (command_script m.file m.command) w.old w.new report said m.follows

  -- a run of what was read came to its end, or nothing was written
  ends_of : (report : Option RunReport) (said : Said) → Course w words report said
      → RanTo w words report said ⊎ Untouched w.tells w.old.contents w.new report
  ends_of report said (inl n) = inr (record { none = n.no_report; kept = λ t. ap (λ v. v.contents) n.same })
  ends_of report said (inr m) = run_ends w words m.file m.command report said m.asked m.follows

  pub leaves_of : w.tells ≡ true → (report : Option RunReport) (said : Said) → Course w words report said
      → Leaves w words report said.way
  leaves_of t report said course = elim (ends_of report said course) [
    | inl r ↦ ran_leaves w words report said t r
    | inr u ↦ untouched_leaves w words report said t u
  ]

  pub counts_of : (report : Option RunReport) (said : Said) → Course w words report said
      → FaultsCounted w.old.faults w.new.faults said.way
  counts_of report said (inl n) =
      subst (λ s. FaultsCounted w.old.faults w.new.faults s.way) (sym n.says) (ap (λ v. v.faults) n.same)
  counts_of report said (inr m) = counts w.tells (command_script m.file m.command) w.old w.new report said m.follows

  pub calls_of : (report : Option RunReport) (said : Said) → Course w words report said → CallsMade w words said.way
  calls_of report said (inl n) = record {
    calls = [];
    told = λ t. ap (λ v. v.calls) n.same ∙ sym (append-nil w.old.calls);
    are = inl (n.none, refl, ap (λ s. s.way) n.says);
  }
  calls_of report said (inr m) =
      let made : _ = makes_calls w.tells (command_script m.file m.command) w.old w.new report said m.follows in
      record { calls = made.calls; told = made.told; are = inr (m.file, m.command, m.asked, made.are) }

  pub caused_of : (report : Option RunReport) (said : Said) → Course w words report said → IsCaused w words said.way
  caused_of report said (inl n) t = inr (said.text, inl (n.none, n.says))
  caused_of report said (inr m) t = elim (led w.tells t (command_script m.file m.command) w.old w.new report said m.follows) [
    | inl o ↦ inl o
    | inr l ↦ inr (said.text, inr (record { file = m.file; command = m.command; asked = m.asked; leads = l }))
  ]

  pub headline_of : (report : Option RunReport) (said : Said) → Course w words report said
      → IfSome report (Headline w words said.way)
  headline_of report said course = by_report report refl
    where
      by_report : (r : Option RunReport) → report ≡ r → IfSome r (Headline w words said.way)
      by_report None is = tt
      by_report (Some told) is = elim (ends_of report said course) [
        | inl ran ↦ headline w words report said told is ran
        | inr u ↦ absurd (let e : Some told ≡ None = sym is ∙ u.none in cc)
      ]

  module _ (one_fault : (bytes : List ℕ) (a b : PcapFault) → HasFault bytes a → HasFault bytes b → a ≡ b) (no_fault :
      (bytes : List ℕ) (records : List (List ℕ)) (fault : PcapFault) → PcapText bytes records → HasFault bytes fault → ⊥) where
    -- words and contents lead to one answer, up to what a run leaves
    one_expected : (a b : Said) → Expected w.old.contents words a → Expected w.old.contents words b → SaidAlike a b
    one_expected a b (inl x) (inl y) = inl (x.1 ∙ sym y.1)
    one_expected a b (inl x) (inr y) = absurd (x.0 (y.file, y.command, y.asked))
    one_expected a b (inr x) (inl y) = absurd (y.0 (x.file, x.command, x.asked))
    one_expected a b (inr x) (inr y) =
        let one : (x.file ≡ y.file) × (x.command ≡ y.command) =
        one_asked words x.file y.file x.command y.command x.asked y.asked in
        one_lead one_fault no_fault (command_script y.file y.command) w.old.contents a b
        (subst (λ f. Leads (command_script f y.command) w.old.contents a) one.0
        (subst (λ c. Leads (command_script x.file c) w.old.contents a) one.1 x.leads))
        y.leads

    expected_by : (report : Option RunReport) (said : Said) → Course w words report said → w.tells ≡ true
        → IsOutside said.way ⊎ Expected w.old.contents words said
    expected_by report said (inl n) t = inr (inl (n.none, n.says))
    expected_by report said (inr m) t = elim (led w.tells t (command_script m.file m.command) w.old w.new report said m.follows) [
      | inl o ↦ inl o
      | inr l ↦ inr (inr (record { file = m.file; command = m.command; asked = m.asked; leads = l }))
    ]

    -- where no fault was counted, an answer of that kind is want of memory
    lacking : (way : Way) → IsOutside way → FaultsCounted w.old.faults w.new.faults way
        → (FaultCounted w.old.faults w.new.faults → ⊥) → way ≡ starved
    lacking no_words o f calm = absurd o
    lacking (unread name Failed) o f calm = absurd (calm f)
    lacking (unread name Long) o f calm = absurd o
    lacking (unread name NoMemory) o f calm = absurd o
    lacking (refused why) o f calm = absurd o
    lacking (finished outcome) o f calm = absurd o
    lacking done o f calm = absurd o
    lacking (unwritten name) o f calm = absurd (calm f)
    lacking starved o f calm = refl
    lacking unprinted o f calm = absurd o

    pub expected_of : (report : Option RunReport) (said wanted : Said) → Course w words report said → IsDue w words wanted
        → IsLikeOrStarved said.way wanted.way
    expected_of report said wanted course due = elim (expected_by report said course due.told) [
      | inl o ↦ inr (lacking said.way o (counts_of report said course) due.calm)
      | inr e ↦ inl (ways_alike said wanted (one_expected said wanted e due.expected))
    ]

    pub shown_of : (report : Option RunReport) (said wanted : Said) → Course w words report said → w.tells ≡ true
        → Expected w.old.contents words wanted → said.way ≡ done → said.text ≡ wanted.text
    shown_of report said wanted course t expected is = elim (expected_by report said course t) [
      | inl o ↦ absurd (subst IsOutside is o)
      | inr e ↦ same_text said wanted is (one_expected said wanted e expected)
    ]

  -- the words are no command just where the answer says so
  bad_status : (status : Status) → way_of status ≡ no_words → status ≡ BadWords
  bad_status Drained e = cc
  bad_status (RoundsUsed n) e = cc
  bad_status (JournalLimit n) e = cc
  bad_status Done e = cc
  bad_status BadWords e = refl
  bad_status (NoWorker n) e = cc
  bad_status (BadScenario fault) e = cc
  bad_status (NotYet name) e = cc
  bad_status (BadPcap name fault) e = cc
  bad_status (ReadFault name) e = cc
  bad_status (TooLong name) e = cc
  bad_status (WriteFault name) e = cc
  bad_status PrintFault e = cc
  bad_status OutOfMemory e = cc

  no_command : (report : Option RunReport) (said : Said) → Course w words report said → said.way ≡ no_words → IsCommand words → ⊥
  no_command report said (inl n) is command = n.none command
  no_command report said (inr m) is command =
      subst Rattle.sn_run.proofs.ScriptEnds.IsOfScript is
      (of_script w.tells (command_script m.file m.command) w.old w.new report said m.follows)

  says_no_words : (report : Option RunReport) (said : Said) → Course w words report said → (IsCommand words → ⊥)
      → said.way ≡ no_words
  says_no_words report said (inl n) none = ap (λ s. s.way) n.says
  says_no_words report said (inr m) none = absurd (none (m.file, m.command, m.asked))

  pub bad_words_of : (report : Option RunReport) (status : Status) (text : List ℕ)
      → Course w words report (record { way = way_of status; text = text }) → (status ≡ BadWords) ↔ (IsCommand words → ⊥)
  bad_words_of report status text course =
      (λ is. no_command report _ course (ap way_of is), λ none. bad_status status (says_no_words report _ course none))

  -- the answer that a print fault replaced is no print fault
  pub never_unprinted_of : (replaced : Option Status) (status : Status) (report : Option RunReport) (text : List ℕ)
      → Course w words report (record { way = way_of (unwrap_or replaced status); text = text }) → replaced ≡ Some PrintFault → ⊥
  never_unprinted_of replaced status report text (inl n) is =
      let e : unprinted ≡ no_words = sym (ap (λ r. way_of (unwrap_or r status)) is) ∙ ap (λ s. s.way) n.says in cc
  never_unprinted_of replaced status report text (inr m) is =
      subst Rattle.sn_run.proofs.ScriptEnds.IsOfScript (ap (λ r. way_of (unwrap_or r status)) is)
      (of_script w.tells (command_script m.file m.command) w.old w.new report _ m.follows)

  answer_done : (replaced : Option Status) (status : Status) → IsSome replaced ↔ (status ≡ PrintFault) → status ≡ Done
      → unwrap_or replaced status ≡ Done
  answer_done None status faults is = is
  answer_done (Some answer) status faults is = absurd (let e : PrintFault ≡ Done = sym (faults.0 refl) ∙ is in cc)

  -- what is printed is what words and contents say
  pub shown_taken : (one_fault : (bytes : List ℕ) (a b : PcapFault) → HasFault bytes a → HasFault bytes b → a ≡ b) (no_fault :
      (bytes : List ℕ) (records : List (List ℕ)) (fault : PcapFault) → PcapText bytes records → HasFault bytes fault → ⊥) (s :
      Sunk) (ended : Ended) (wanted : Said) → Answered w s words ended → IsSome ended.replaced ↔ (ended.status ≡ PrintFault) →
      w.tells ≡ true → Expected w.old.contents words wanted → ended.status ≡ Done → TookAll s wanted.text
  shown_taken one_fault no_fault s ended wanted answered faults t expected is =
      subst (TookAll s) (shown_of one_fault no_fault ended.report _ wanted answered.course t expected
      (ap way_of (answer_done ended.replaced ended.status faults is)))
      (answered.all (λ p. let e : Done ≡ PrintFault = sym is ∙ p in cc))

  own_of : (report : Option RunReport) (said : Said) → Course w words report said → HasOwnText said
  own_of report said (inl n) = subst HasOwnText (sym n.says) (λ other. refl)
  own_of report said (inr m) = own_text w.tells (command_script m.file m.command) w.old w.new report said m.follows

  text_is : (ended : Ended) (text : List ℕ) → Course w words ended.report (record { way = ended_by ended; text = text })
      → IsTextOf w words (ended_by ended) text
  text_is ended text course = record { report = ended.report; course = course; own = own_of ended.report _ course }

  -- the sink took the text of the answer, or its front
  pub text_of_answer : (s : Sunk) (ended : Ended) → Answered w s words ended → ended.status ≢ PrintFault
      → TookAllOf s (IsTextOf w words (ended_by ended))
  text_of_answer s ended answered printed =
      record { text = answered.text; is = text_is ended answered.text answered.course; took = answered.all printed }

  pub front_of_answer : (s : Sunk) (ended : Ended) → Answered w s words ended → ended.status ≡ PrintFault
      → TookFrontOf s (IsTextOf w words (ended_by ended))
  front_of_answer s ended answered failed =
      record { text = answered.text; is = text_is ended answered.text answered.course; took = answered.front failed }
