-- The list of calls that a script makes.
use Rattle.std.proofs.Common.{◌≡◌, ℕ, Bool, true, inl, inr, List, [], ◌∷◌, ◌++◌, Option, Ok, Err, map, refl, sym, ap, ◌∙◌, subst}
use Rattle.std.proofs.Common.{append_assoc}
use Rattle.std.proofs.lemmas.List.{append-nil}
use Rattle.sn_outside.specs.Told.{with_call}
use Rattle.sn_outside.specs.Views.{FilesView}
use Rattle.sn_outside.specs.declared.fault.FileFault.{FileFault}
use Rattle.sn_outside.specs.declared.fault.FileFault.TheVariants.{Failed, TooLong, OutOfMemory}
use Rattle.sn_outside.specs.declared.files.CallKind.{CallKind}
use Rattle.sn_outside.specs.declared.files.CallKind.TheVariants.{Read, Write}
use Rattle.sn_outside.specs.declared.files.FileCall.{FileCall}
use Rattle.sn_run.specs.Calls.{AreCalls, EndsUnwritten, IsOrStarved, unread_way}
use Rattle.sn_run.specs.Courses.{Follows, SaysUnwritten, Unwritten}
use Rattle.sn_scenario.specs.Scenarios.{ScenarioForm}
use Rattle.sn_run.specs.Replay.{IsRun}
use Rattle.sn_run.specs.Reported.{RunReport}
use Rattle.sn_run.specs.Scripts.{Script, prints, refuses, reads, opens, runs}
use Rattle.sn_run.specs.Seen.{a_read, write_call}
use Rattle.sn_run.specs.Texts.{Said, SaysOrStarves, starving, unread_said}
use Rattle.sn_run.specs.Ways.{starved}
use Rattle.sn_run.specs.Written.{written_files}
use Rattle.sn_run.specs.declared.outcome.Outcome.{Outcome}

-- calls that were made, and whose they are
pub record MakesCalls (tells : Bool) (s : Script) (old new : FilesView) (said : Said) : Type 0 where
  pub calls : List FileCall
  pub told : tells ≡ true → new.calls ≡ old.calls ++ calls
  pub are : AreCalls s calls said.way

way_says : (said wanted : Said) → SaysOrStarves said wanted → IsOrStarved said.way wanted.way
way_says said wanted either = elim either [ inl e ↦ inl (ap (λ s. s.way) e) | inr e ↦ inr (ap (λ s. s.way) e) ]

only_starved : (said : Said) → SaysOrStarves said starving → said.way ≡ starved
only_starved said either = elim either [ inl e ↦ ap (λ s. s.way) e | inr e ↦ ap (λ s. s.way) e ]

unread_is : (name : List ℕ) (fault : FileFault) → (unread_said name fault).way ≡ unread_way name fault
unread_is name Failed = refl
unread_is name TooLong = refl
unread_is name OutOfMemory = refl

-- a refused call behind others
call_on : (old more : List FileCall) (kind : CallKind) (name : List ℕ) (fault : FileFault)
    → with_call (old ++ more) kind name (Err fault) ≡ old ++ with_call more kind name (Err fault)
call_on old more kind name Failed = append_assoc old more (record { kind = kind; name = name; answer = Err Failed } ∷ [])
call_on old more kind name TooLong = append_assoc old more (record { kind = kind; name = name; answer = Err TooLong } ∷ [])
call_on old more kind name OutOfMemory = refl

ends_unwritten : (fault : FileFault) (name : List ℕ) (told : RunReport) (report : Option RunReport) (said : Said)
    → SaysUnwritten fault name told report said → EndsUnwritten fault name said.way
ends_unwritten Failed name told report said s = ap (λ s. s.way) s.1
ends_unwritten TooLong name told report said s = absurd s
ends_unwritten OutOfMemory name told report said s = ap (λ s. s.way) s.1

none_called : (old new : FilesView) → new ≡ old → new.calls ≡ old.calls ++ []
none_called old new same = ap (λ v. v.calls) same ∙ sym (append-nil old.calls)

module _ (tells : Bool) where
  unwritten_calls : (form : ScenarioForm) (captures : List (List ℕ)) (old new : FilesView) (ran : Outcome) (told : RunReport)
      (report : Option RunReport) (said : Said) → IsRun form captures ran told
      → Unwritten tells old new (written_files form told) told report said
      → MakesCalls tells (runs form captures) old new said
  unfolding AreCalls
  unwritten_calls form captures old new ran told report said run u = record {
    calls = with_call (map write_call u.up_to.front) Write u.file.name (Err u.fault);
    told = λ t.
        u.up_to.refused.called t
        ∙ ap (λ cs. with_call cs Write u.file.name (Err u.fault)) (u.up_to.written.called t)
        ∙ call_on old.calls (map write_call u.up_to.front) Write u.file.name u.fault;
    are = inl (
      ran,
      told,
      run,
      inr (record {
        front = u.up_to.front;
        file = u.file;
        behind = u.up_to.behind;
        files_are = u.up_to.files_are;
        fault = u.fault;
        calls_are = refl;
        ends = ends_unwritten u.fault u.file.name told report said u.says;
      }),
    );
  }

  pub makes_calls : (s : Script) (old new : FilesView) (report : Option RunReport) (said : Said)
      → Follows tells s old new report said → MakesCalls tells s old new said
  unfolding Follows AreCalls
  makes_calls (prints text) old new report said f =
      record { calls = []; told = λ t. none_called old new f.same; are = (refl, way_says said _ f.says) }
  makes_calls (refuses why) old new report said f =
      record { calls = []; told = λ t. none_called old new f.same; are = (refl, way_says said _ f.says) }
  makes_calls (reads name limit next) old new report said (inl g) =
      let rest : MakesCalls tells (next g.0) g.1 new said = makes_calls (next g.0) g.1 new report said g.3 in
      record {
        calls = a_read name (Ok tt) ∷ rest.calls;
        told =
            λ t. rest.told t ∙ ap (λ cs. cs ++ rest.calls) (g.2.called t) ∙ append_assoc old.calls
            (a_read name (Ok tt) ∷ []) rest.calls;
        are = inl (g.0, rest.calls, refl, rest.are);
      }
  makes_calls (reads name limit next) old new report said (inr (inl u)) = record {
    calls = with_call [] Read name (Err u.fault);
    told =
        λ t. u.refused.called t ∙ ap (λ cs. with_call cs Read name (Err u.fault)) (sym (append-nil old.calls))
        ∙ call_on old.calls [] Read name u.fault;
    are = inr (inl (u.fault, refl, subst (IsOrStarved said.way) (unread_is name u.fault) (way_says said _ u.says)));
  }
  makes_calls (reads name limit next) old new report said (inr (inr st)) =
      record { calls = []; told = λ t. none_called old new st.same; are = inr (inr (refl, only_starved said st.says)) }
  makes_calls (opens name bytes next) old new report said (inl g) =
      let rest : MakesCalls tells next old new said = makes_calls next old new report said g.1 in
      record { calls = rest.calls; told = rest.told; are = inl (g.0, rest.are) }
  makes_calls (opens name bytes next) old new report said (inr (inl h)) =
      record { calls = []; told = λ t. none_called old new h.2.same; are = inr (inl (h.0, h.1, refl, way_says said _ h.2.says)) }
  makes_calls (opens name bytes next) old new report said (inr (inr st)) =
      record { calls = []; told = λ t. none_called old new st.same; are = inr (inr (refl, only_starved said st.says)) }
  makes_calls (runs form captures) old new report said (inl (ran, told, run, inl f)) = record {
    calls = map write_call (written_files form told);
    told = f.written.called;
    are = inl (ran, told, run, inl (refl, ap (λ s. s.way) f.says));
  }
  makes_calls (runs form captures) old new report said (inl (ran, told, run, inr u)) =
      unwritten_calls form captures old new ran told report said run u
  makes_calls (runs form captures) old new report said (inr st) =
      record { calls = []; told = λ t. none_called old new st.same; are = inr (refl, only_starved said st.says) }
