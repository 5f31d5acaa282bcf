-- Where a command leads: a run of what was read came to its end, or nothing was written.
use Rattle.std.proofs.Common.{◌≡◌, ℕ, ◌-◌, Bool, true, false, cond, inl, inr, List, [], ◌∷◌, ◌++◌, Option, Some, None, Ok, Err}
use Rattle.std.proofs.Common.{length, refl, sym, ap, ◌∙◌, subst, append_assoc}
use Rattle.std.proofs.lemmas.List.{append-nil}
use Rattle.std.specs.FinMap.{get}
use Rattle.std.specs.Prelude.{◌⊎◌, Result, nat_lt}
use Rattle.sn_outside.specs.Contents.{Contents}
use Rattle.sn_outside.specs.Views.{FilesView}
use Rattle.sn_scenario.specs.ScenarioText.{scenario_of}
use Rattle.sn_scenario.specs.Scenarios.{ScenarioForm}
use Rattle.sn_scenario.specs.declared.fault.ScenarioFault.{ScenarioFault}
use Rattle.sn_run.specs.Answers.{HasCaptures, Ran}
use Rattle.sn_run.specs.Commands.{IsCommandOf}
use Rattle.sn_run.specs.Now.{runs_now}
use Rattle.sn_run.specs.Courses.{EndsWritten, Follows, Stops}
use Rattle.sn_run.specs.Replay.{IsRun}
use Rattle.sn_run.specs.Reported.{RunReport}
use Rattle.sn_run.specs.Scripts.{prints, refuses, captures_script, command_script, form_script}
use Rattle.sn_run.specs.Scripts.{most_captures, text_script}
use Rattle.sn_run.specs.Seen.{Seen}
use Rattle.sn_run.specs.Texts.{Said}
use Rattle.sn_run.specs.Ways.{Why, not_yet}
use Rattle.sn_run.specs.Written.{written_files}
use Rattle.sn_run.specs.declared.command.Command.{Command}
use Rattle.sn_run.specs.declared.command.Command.TheVariants.{Run, Check, Actions}
use Rattle.sn_run.specs.declared.outcome.Outcome.{Outcome}

-- nothing was written, and there is no report
pub record Untouched (tells : Bool) (m : Contents) (new : FilesView) (report : Option RunReport) : Type 0 where
  pub none : report ≡ None
  pub kept : tells ≡ true → new.contents ≡ m

-- a run over captures that were found, behind these, came to its end
record Founded (tells : Bool) (m : Contents) (form : ScenarioForm) (names : List (List ℕ)) (room : ℕ)
    (before : List (List ℕ)) (new : FilesView) (report : Option RunReport) (said : Said) : Type 0 where
  pub captures : List (List ℕ)
  pub held : HasCaptures tells m room names captures
  pub mid : FilesView
  pub same : tells ≡ true → mid.contents ≡ m
  pub ran : Outcome
  pub told : RunReport
  pub run : IsRun form (before ++ captures) ran told
  pub ends : EndsWritten tells mid new (written_files form told) ran told report said

-- a run of what this call read came to its end
pub record RanTo (w : Seen) (words : List (List ℕ)) (report : Option RunReport) (said : Said) : Type 0 where
  pub form : ScenarioForm
  pub ran : Outcome
  pub told : RunReport
  pub run : Ran w words form ran told
  pub mid : FilesView
  pub same : w.tells ≡ true → mid.contents ≡ w.old.contents
  pub ends : EndsWritten w.tells mid w.new (written_files form told) ran told report said

module _ (tells : Bool) (m : Contents) (new : FilesView) (report : Option RunReport) (said : Said) where
  stopped : (old : FilesView) (wanted : Said) → (tells ≡ true → old.contents ≡ m) → Stops old new report said wanted
      → Untouched tells m new report
  stopped old wanted kept st = record { none = st.none; kept = λ t. ap (λ v. v.contents) st.same ∙ kept t }

  founded : (form : ScenarioForm) (names : List (List ℕ)) (room : ℕ) (before : List (List ℕ)) (old : FilesView)
      → (tells ≡ true → old.contents ≡ m) → Follows tells (captures_script form names room before) old new report said
      → Founded tells m form names room before new report said ⊎ Untouched tells m new report
  unfolding Follows
  founded form [] room before old kept (inl (ran, told, run, ends)) = inl (record {
    captures = [];
    held = tt;
    mid = old;
    same = kept;
    ran = ran;
    told = told;
    run = subst (λ cs. IsRun form cs ran told) (sym (append-nil before)) run;
    ends = ends;
  })
  founded form [] room before old kept (inr st) = inr (stopped old _ kept st)
  founded form (name ∷ names) room before old kept (inl (bytes, mid, gave, inl (is_capture, more))) =
      elim (founded form names (room - length bytes) (before ++ bytes ∷ []) mid (λ t. gave.kept t ∙ kept t) more) [
        | inl rest ↦ inl (record {
          captures = bytes ∷ rest.captures;
          held = (
            record {
              told = λ t. subst (λ n. get n name ≡ Some bytes) (kept t) (gave.found.told t);
              short = gave.found.short;
            },
            is_capture,
            rest.held,
          );
          mid = rest.mid;
          same = rest.same;
          ran = rest.ran;
          told = rest.told;
          run = subst (λ cs. IsRun form cs rest.ran rest.told) (append_assoc before (bytes ∷ []) rest.captures) rest.run;
          ends = rest.ends;
        })
        | inr untouched ↦ inr untouched
      ]
  founded form (name ∷ names) room before old kept (inl (bytes, mid, gave, inr (inl h))) =
      inr (stopped mid _ (λ t. gave.kept t ∙ kept t) h.2)
  founded form (name ∷ names) room before old kept (inl (bytes, mid, gave, inr (inr st))) =
      inr (stopped mid _ (λ t. gave.kept t ∙ kept t) st)
  founded form (name ∷ names) room before old kept (inr (inl u)) =
      inr (record { none = u.none; kept = λ t. u.refused.kept t ∙ kept t })
  founded form (name ∷ names) room before old kept (inr (inr st)) = inr (stopped old _ kept st)

  -- what the text of a file gave
  record Started (text : List ℕ) (command : Command) : Type 0 where
    pub form : ScenarioForm
    pub ran : command ≡ Run
    pub read : scenario_of text ≡ Ok form
    pub now : runs_now form ≡ true
    pub of : Founded tells m form form.captures most_captures [] new report said

  by_now : (text : List ℕ) (form : ScenarioForm) (why : Why) (old : FilesView) → (tells ≡ true → old.contents ≡ m) → (b : Bool)
      → Follows tells (cond b (captures_script form form.captures most_captures []) (refuses why)) old new report said
      → ((b ≡ true) × Founded tells m form form.captures most_captures [] new report said) ⊎ Untouched tells m new report
  unfolding Follows
  by_now text form why old kept true f = elim (founded form form.captures most_captures [] old kept f) [
    | inl of ↦ inl (refl, of)
    | inr untouched ↦ inr untouched
  ]
  by_now text form why old kept false f = inr (stopped old _ kept f)

  by_worker : (b : Bool) (text : List ℕ) (why : Why) (old : FilesView) → (tells ≡ true → old.contents ≡ m)
      → Follows tells (cond b (prints text) (refuses why)) old new report said → Untouched tells m new report
  unfolding Follows
  by_worker true text why old kept f = stopped old _ kept f
  by_worker false text why old kept f = stopped old _ kept f

  by_command : (file text : List ℕ) (form : ScenarioForm) (command : Command) (old : FilesView)
      → (tells ≡ true → old.contents ≡ m) → scenario_of text ≡ Ok form
      → Follows tells (form_script file form command) old new report said
      → Started text command ⊎ Untouched tells m new report
  unfolding Follows
  by_command file text form Run old kept read f = elim (by_now text form (not_yet file) old kept (runs_now form) f) [
    | inl x ↦ inl (record { form = form; ran = refl; read = read; now = x.0; of = x.1 })
    | inr untouched ↦ inr untouched
  ]
  by_command file text form Check old kept read f = inr (stopped old _ kept f)
  by_command file text form (Actions worker) old kept read f =
      inr (by_worker (nat_lt worker form.settings.workers) _ _ old kept f)

  by_text : (file text : List ℕ) (command : Command) (old : FilesView) → (tells ≡ true → old.contents ≡ m)
      → (r : Result ScenarioForm ScenarioFault) → scenario_of text ≡ r
      → Follows tells (text_script file command r) old new report said
      → Started text command ⊎ Untouched tells m new report
  unfolding Follows
  by_text file text command old kept (Ok form) read f = by_command file text form command old kept read f
  by_text file text command old kept (Err fault) read f = inr (stopped old _ kept f)

-- where the course of a command leads
pub run_ends : (w : Seen) (words : List (List ℕ)) (file : List ℕ) (command : Command) (report : Option RunReport) (said : Said)
    → IsCommandOf words file command → Follows w.tells (command_script file command) w.old w.new report said
    → RanTo w words report said ⊎ Untouched w.tells w.old.contents w.new report
unfolding Follows
run_ends w words file command report said asked (inl (text, mid, gave, more)) =
    elim (by_text w.tells w.old.contents w.new report said file text command mid gave.kept (scenario_of text) refl more) [
      | inl started ↦ inl (record {
        form = started.form;
        ran = started.of.ran;
        told = started.of.told;
        run = record {
          file = file;
          asked = subst (IsCommandOf words file) started.ran asked;
          text = text;
          scenario = record { found = gave.found; is = started.read; now = started.now };
          captures = started.of.captures;
          held = started.of.held;
          run = started.of.run;
        };
        mid = started.of.mid;
        same = started.of.same;
        ends = started.of.ends;
      })
      | inr untouched ↦ inr untouched
    ]
run_ends w words file command report said asked (inr (inl u)) = inr (record { none = u.none; kept = λ t. u.refused.kept t })
run_ends w words file command report said asked (inr (inr st)) =
    inr (stopped w.tells w.old.contents w.new report said w.old _ (λ t. refl) st)
