-- The steps of a command, joined to what its script says.
use Rattle.std.proofs.Common.{Err, Ok, ◌≡◌, ℕ, ◌+◌, ◌-◌, ◌<◌, ◌≤◌, Bool, true, false, inl, inr, List, [], ◌∷◌, ◌++◌, Option, None}
use Rattle.std.proofs.Common.{length}
use Rattle.std.proofs.Common.{drop, refl, sym, ap, ◌∙◌, subst, cond}
use Rattle.std.proofs.lemmas.Bool.{le-ltb, lt-ltb}
use Rattle.std.proofs.lemmas.List.{drop_all, drop_more, length-append}
use Rattle.std.specs.Prelude.{IfErr, Result, get_or, min}
use Rattle.sn_outside.specs.Views.{FilesView}
use Rattle.sn_outside.specs.declared.fault.FileFault.{FileFault}
use Rattle.sn_pcap.specs.declared.fault.PcapFault.{PcapFault}
use Rattle.sn_pcap.specs.Faults.{HasFault}
use Rattle.sn_scenario.specs.Plans.{plan_of}
use Rattle.sn_scenario.specs.ScenarioText.{scenario_of}
use Rattle.sn_scenario.specs.Scenarios.{ScenarioForm}
use Rattle.sn_run.specs.ActionTexts.{actions_text}
use Rattle.sn_run.specs.Now.{runs_now}
use Rattle.sn_run.specs.Courses.{EndsWritten, Follows}
use Rattle.sn_run.specs.Replay.{IsRun}
use Rattle.sn_run.specs.Reported.{RunReport, WrittenFile}
use Rattle.sn_run.specs.Scripts.{Script, prints, refuses, reads, opens, runs, actions_script, captures_script, command_script}
use Rattle.sn_run.specs.Scripts.{form_script, run_script, text_script, most_capture, most_captures, most_scenario}
use Rattle.sn_run.specs.Seen.{ReadGave, ReadRefused}
use Rattle.sn_run.specs.Steps.{CaptureEnds, CapturesEnd, EndsRun, GaveCapture, GaveText, LeadOn, RefusesText, TextEnds}
use Rattle.sn_run.specs.Texts.{Said, SaysOrStarves, said_of, starving, unread_said}
use Rattle.sn_run.specs.Ways.{Why, done, refused, no_capture, no_worker, not_yet}
use Rattle.sn_run.specs.Written.{written_files}
use Rattle.sn_run.specs.declared.command.Command.{Command}
use Rattle.sn_run.specs.declared.outcome.Outcome.{Outcome}

-- memory may lack at every step of a script
pub starves : (s : Script) (tells : Bool) (v : FilesView) (report : Option RunReport) (said : Said) → report ≡ None
    → said ≡ starving → Follows tells s v v report said
unfolding Follows
starves (prints text) tells v report said none lacks = record { same = refl; none = none; says = inr lacks }
starves (refuses why) tells v report said none lacks = record { same = refl; none = none; says = inr lacks }
starves (reads name limit next) tells v report said none lacks = inr (inr (record { same = refl; none = none; says = inl lacks }))
starves (opens name bytes next) tells v report said none lacks = inr (inr (record { same = refl; none = none; says = inl lacks }))
starves (runs form captures) tells v report said none lacks = inr (record { same = refl; none = none; says = inl lacks })

module _ (tells : Bool) (old new : FilesView) where
  -- a read that was refused ends a command
  pub unread_ends : (name : List ℕ) (limit : ℕ) (next : List ℕ → Script) (fault : FileFault) (said : Said)
      → ReadRefused tells old new name limit fault → SaysOrStarves said (unread_said name fault)
      → Follows tells (reads name limit next) old new None said
  unfolding Follows
  unread_ends name limit next fault said r says = inr (inl (record { fault = fault; refused = r; none = refl; says = says }))

  -- and so does a text that spells no scenario
  pub text_ends : (file text : List ℕ) (said : Said) → ReadGave tells old new file most_scenario text → RefusesText text said
      → TextEnds tells old new file said
  unfolding Follows
  text_ends file text said gave refuses_it command = inl (
    text,
    new,
    gave,
    elim refuses_it [
      | inl r ↦ subst (λ q. Follows tells (text_script file command q) new new None said) (sym r.1)
          (record { same = refl; none = refl; says = r.2 })
      | inr lacks ↦ starves (text_script file command (scenario_of text)) tells new None said refl lacks
    ],
  )

  -- a text that spells one is gone on with
  pub goes_on : (file : List ℕ) (form : ScenarioForm) (command : Command) (last : FilesView) (report : Option RunReport)
      (said : Said) → GaveText tells old new file form
      → Follows tells (form_script file form command) new last report said
      → Follows tells (command_script file command) old last report said
  unfolding Follows
  goes_on file form command last report said gave more = inl (
    gave.text,
    new,
    gave.gave,
    subst (λ q. Follows tells (text_script file command q) new last report said) (sym gave.is) more,
  )

  -- bytes that are no capture end a run
  pub capture_ends : (name : List ℕ) (limit : ℕ) (bytes : List ℕ) (fault : PcapFault) (said : Said)
      → ReadGave tells old new name limit bytes → HasFault bytes fault
      → SaysOrStarves said (said_of (refused (no_capture name fault))) → CaptureEnds tells old new name limit said
  unfolding Follows
  capture_ends name limit bytes fault said gave has says next =
      inl (bytes, new, gave, inr (inl (fault, has, record { same = refl; none = refl; says = says })))

  -- and so does want of memory behind the read of one
  pub capture_lacks : (name : List ℕ) (limit : ℕ) (bytes : List ℕ) (said : Said) → ReadGave tells old new name limit bytes
      → said ≡ starving → CaptureEnds tells old new name limit said
  unfolding Follows
  capture_lacks name limit bytes said gave lacks next =
      inl (bytes, new, gave, inr (inr (record { same = refl; none = refl; says = inl lacks })))

  -- a run goes on once its captures were read
  pub run_ends : (form : ScenarioForm) (captures : List (List ℕ)) (ran : Outcome) (told : RunReport)
      (report : Option RunReport) (said : Said) (files : List WrittenFile) → IsRun form captures ran told
      → files ≡ written_files form told → EndsRun tells old new files ran told report said
      → Follows tells (runs form captures) old new report said
  unfolding Follows
  run_ends form captures ran told report said files run files_are ends = elim ends [
    | inl e ↦ inl (ran, told, run, subst (λ fs. EndsWritten tells old new fs ran told report said) files_are e)
    | inr stops ↦ inr stops
  ]

-- what is left of the captures' script, once so many were read
abbrev pub left_script : ScenarioForm → List (List ℕ) → ℕ → ℕ → List (List ℕ) → Script
left_script form names at room read = captures_script form (drop at names) room read

-- what follows on that follows on all of it
abbrev pub LeadsOn : Bool → FilesView → FilesView → List (List ℕ) → ℕ → ℕ → List (List ℕ) → Type 0
LeadsOn tells old now names at room read =
    (form : ScenarioForm) (last : FilesView) (report : Option RunReport) (said : Said)
    → Follows tells (left_script form names at room read) now last report said
    → Follows tells (captures_script form names most_captures []) old last report said

-- what stands at a place comes first of what is left
drop_here : (names : List (List ℕ)) (at : ℕ) (name : List ℕ) → at < length names → name ≡ get_or names at name
    → drop at names ≡ name ∷ drop (at + 1) names
drop_here names at name within here = drop_more names at name within ∙ ap (λ (n : List ℕ). n ∷ drop (at + 1) names) (sym here)

module _ (tells : Bool) (old now new : FilesView) (names : List (List ℕ)) (at room : ℕ) (read : List (List ℕ)) (name : List ℕ)
    (within : at < length names) (here : name ≡ get_or names at name) (so_far : LeadsOn tells old now names at room read) where
  -- one capture more was read and opened
  lead_step : (bytes : List ℕ) (left : ℕ) (more : List (List ℕ)) → GaveCapture tells now new name (min room most_capture) bytes
      → left ≡ room - length bytes → more ≡ read ++ bytes ∷ [] → LeadsOn tells old new names (at + 1) left more
  unfolding Follows
  lead_step bytes left more gave left_is more_is form last report said follows =
      so_far form last report said
      (subst (λ here_on. Follows tells (captures_script form here_on room read) now last report said)
      (sym (drop_here names at name within here)) (inl (
        bytes,
        new,
        gave.gave,
        inl (
          gave.is,
          subst (λ r. Follows tells
              (captures_script form (drop (at + 1) names) (room - length bytes) r) new last report said) more_is
              (subst
              (λ r. Follows tells (captures_script form (drop (at + 1) names) r more) new last report said) left_is follows),
        ),
      )))

  -- the next one ended the run
  lead_stop : (said : Said) → CaptureEnds tells now new name (min room most_capture) said → CapturesEnd tells old new names said
  lead_stop said ends form =
      so_far form new None said
      (subst (λ here_on. Follows tells (captures_script form here_on room read) now new None said)
      (sym (drop_here names at name within here))
      (ends (λ bytes. captures_script form (drop (at + 1) names) (room - length bytes) (read ++ bytes ∷ []))))

  module _ (limit : ℕ) (limit_is : limit ≡ min room most_capture) where
    pub lead_on : (bytes : List ℕ) (len left : ℕ) (more : List (List ℕ)) → GaveCapture tells now new name limit bytes
        → len ≡ length bytes → left ≡ room - len → more ≡ read ++ bytes ∷ [] → LeadsOn tells old new names (at + 1) left more
    lead_on bytes len left more gave len_is left_is more_is =
        lead_step bytes left more (subst (λ l. GaveCapture tells now new name l bytes) limit_is gave)
        (left_is ∙ ap (λ n. room - n) len_is) more_is

    pub lead_ends : (said : Said) → CaptureEnds tells now new name limit said → CapturesEnd tells old new names said
    lead_ends said ends = lead_stop said (subst (λ l. CaptureEnds tells now new name l said) limit_is ends)

    -- it was read, and memory lacked
    pub lead_lacks : (bytes : List ℕ) (said : Said) → GaveCapture tells now new name limit bytes → said ≡ starving
        → CapturesEnd tells old new names said
    lead_lacks bytes said gave lacks = lead_ends said (capture_lacks tells now new name limit bytes said gave.gave lacks)

-- all captures were read
pub lead_done : (tells : Bool) (old new : FilesView) (names : List (List ℕ)) (at room : ℕ) (read : List (List ℕ))
    → length names ≤ at → LeadsOn tells old new names at room read → LeadOn tells old new names read
lead_done tells old new names at room read past so_far form last report said follows =
    so_far form last report said
    (subst (λ here_on. Follows tells (captures_script form here_on room read) new last report said)
    (sym (drop_all at names past)) follows)

-- the answer is what was said without a report
pub answered : (s : Script) (tells : Bool) (old new : FilesView) (report : Option RunReport) (said answer : Said)
    → Follows tells s old new None said → answer ≡ said → report ≡ None → Follows tells s old new report answer
answered s tells old new report said answer follows is none =
    subst (λ r. Follows tells s old new r answer) (sym none) (subst (Follows tells s old new None) (sym is) follows)

-- a worker that the scenario has, and one that it doesn't have
pub has_worker : (worker : ℕ) (form : ScenarioForm) → worker < form.settings.workers
    → actions_script worker form ≡ prints (actions_text 1 (plan_of worker form))
has_worker worker form has =
    ap (λ b. cond b (prints (actions_text 1 (plan_of worker form))) (refuses (no_worker worker)))
    (lt-ltb worker form.settings.workers has)

pub lacks_worker : (worker : ℕ) (form : ScenarioForm) → form.settings.workers ≤ worker
    → actions_script worker form ≡ refuses (no_worker worker)
lacks_worker worker form lacks =
    ap (λ b. cond b (prints (actions_text 1 (plan_of worker form))) (refuses (no_worker worker)))
    (le-ltb worker form.settings.workers lacks)

-- a scenario that runs so far, and one that doesn't
pub now_runs : (file : List ℕ) (form : ScenarioForm) → runs_now form ≡ true
    → run_script file form ≡ captures_script form form.captures most_captures []
now_runs file form now = ap (λ b. cond b (captures_script form form.captures most_captures []) (refuses (not_yet file))) now

pub not_now : (file : List ℕ) (form : ScenarioForm) → runs_now form ≡ false
    → run_script file form ≡ refuses (not_yet file)
not_now file form later =
    ap (λ b. cond b (captures_script form form.captures most_captures []) (refuses (not_yet file))) later

-- a text is printed
pub prints_text : (tells : Bool) (v : FilesView) (report : Option RunReport) (said : Said) (text wanted : List ℕ) → report ≡ None
    → said ≡ record { way = done; text = text } → text ≡ wanted → Follows tells (prints wanted) v v report said
unfolding Follows
prints_text tells v report said text wanted none is text_is =
    record { same = refl; none = none; says = inl (is ∙ ap (λ t. record { way = done; text = t }) text_is) }

-- a refusal
pub refuses_so : (tells : Bool) (v : FilesView) (why : Why) (report : Option RunReport) (said answer : Said)
    → SaysOrStarves said (said_of (refused why)) → answer ≡ said → report ≡ None → Follows tells (refuses why) v v report answer
unfolding Follows
refuses_so tells v why report said answer says is none =
    record { same = refl; none = none; says = subst (λ s. SaysOrStarves s (said_of (refused why))) (sym is) says }

-- one script for another
pub with_script : (tells : Bool) (s t : Script) (old new : FilesView) (report : Option RunReport) (said : Said) → s ≡ t
    → Follows tells t old new report said → Follows tells s old new report said
with_script tells s t old new report said is follows = subst (λ u. Follows tells u old new report said) (sym is) follows

-- what follows on the captures of a scenario
pub read_on : (tells : Bool) (old between new : FilesView) (form : ScenarioForm) (names : List (List ℕ))
    (read captures : List (List ℕ)) (report : Option RunReport) (said : Said) → names ≡ form.captures → captures ≡ read
    → LeadOn tells old between names read → Follows tells (runs form captures) between new report said
    → Follows tells (captures_script form form.captures most_captures []) old new report said
read_on tells old between new form names read captures report said names_are same leads follows =
    subst (λ ns. Follows tells (captures_script form ns most_captures []) old new report said) names_are
    (leads form new report said (subst (λ cs. Follows tells (runs form cs) between new report said) same follows))

-- one element more
pub length_more : {A : Type 0} (xs : List A) (x : A) (n : ℕ) → length xs ≡ n → length (xs ++ x ∷ []) ≡ n + 1
length_more xs x n is = length-append xs (x ∷ []) ∙ ap (λ k. k + 1) is

-- what follows of each fault follows of the one that there is
pub by_err : {A E : Type 0} (r : Result A E) (P Q : E → Type 0) → ((e : E) → P e → Q e) → IfErr r P → IfErr r Q
by_err (Ok x) P Q f h = tt
by_err (Err e) P Q f h = f e h
