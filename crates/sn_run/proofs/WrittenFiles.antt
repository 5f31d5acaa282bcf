-- Files written one after another.
use Rattle.std.proofs.Common.{◌≡◌, ℕ, ◌+◌, ◌<◌, Bool, true, List, [], ◌∷◌, ◌++◌, Ok, length, map, take, drop, Option, Some, None}
use Rattle.std.proofs.Common.{inl, inr, arith, refl, sym, ap, ◌∙◌, subst, append_assoc}
use Rattle.std.proofs.lemmas.List.{drop_more, get_or-append-add, get_or-map, get_or_append_left, length-append, length-map}
use Rattle.std.proofs.lemmas.List.{map-append, take-append-drop, take-append-le, take_more}
use Rattle.std.proofs.Math.Seq.{take-append-add}
use Rattle.std.specs.FinMap.{insert}
use Rattle.std.specs.Prelude.{Result, Err, get_or}
use Rattle.sn_outside.specs.Contents.{Contents}
use Rattle.sn_outside.specs.Counts.{HasCause}
use Rattle.sn_outside.specs.Told.{ToldWrite}
use Rattle.sn_outside.specs.Views.{FilesView}
use Rattle.sn_outside.specs.declared.fault.FileFault.{FileFault}
use Rattle.sn_outside.specs.declared.fault.FileFault.TheVariants.{Failed, TooLong, OutOfMemory}
use Rattle.sn_run.specs.Reported.{RunReport, WrittenFile, with_files}
use Rattle.sn_run.specs.Seen.{Written, WrittenUpTo, WriteRefused, write_call}
use Rattle.sn_run.specs.Steps.{EndsRun, PreparedFor, WriteStops, prepared, unwritten_all}
use Rattle.sn_run.specs.Texts.{Said, said_of, saying, starving}
use Rattle.sn_run.specs.Ways.{finished, unwritten}
use Rattle.sn_run.specs.declared.answer.Refusal.{Refusal}
use Rattle.sn_run.specs.declared.outcome.Outcome.{Outcome}

-- files and others behind them
pub with_both : (m : Contents) (front behind : List WrittenFile)
    → with_files m (front ++ behind) ≡ with_files (with_files m front) behind
with_both m [] behind = refl
with_both m (file ∷ front) behind = with_both (insert m file.name file.bytes) front behind

-- an Ok is no failure
abbrev the_ok : Unit {0} → Result (Unit {0}) FileFault
the_ok x = Ok x

abbrev the_err : FileFault → Result (Unit {0}) FileFault
the_err fault = Err fault

never_failed : (x : Unit {0}) → the_ok x ≡ the_err Failed → ⊥
never_failed x e = cc

module _ (tells : Bool) (old now new : FilesView) (files : List WrittenFile) (at : ℕ) (file : WrittenFile)
    (within : at < length files) (here : file ≡ get_or files at file) (before : Written tells old now (take at files)) where
  one_more : take (at + 1) files ≡ take at files ++ file ∷ []
  one_more = take_more files at file within ∙ ap (λ (f : WrittenFile). take at files ++ f ∷ []) (sym here)

  one_written : (x : Unit {0}) → HasCause now new (Ok x) → (tells ≡ true → ToldWrite now new file.name file.bytes (Ok x))
      → Written tells old new (take (at + 1) files)
  one_written x cause told = record {
    contents =
        λ t. (told t).written ∙ ap (λ m. insert m file.name file.bytes) (before.contents t) ∙ sym
        (with_both old.contents (take at files) (file ∷ [])) ∙ ap (with_files old.contents) (sym one_more);
    called = λ t.
        (told t).call
        ∙ ap (λ cs. cs ++ write_call file ∷ []) (before.called t)
        ∙ append_assoc old.calls (map write_call (take at files)) (write_call file ∷ [])
        ∙ ap (λ cs. old.calls ++ cs)
        (sym (map-append write_call (take at files) (file ∷ [])) ∙ ap (map write_call) (sym one_more));
    still = cause.still (never_failed x) ∙ before.still;
  }

  -- one file more was written
  pub written_more : (x : Unit {0}) (name bytes : List ℕ) → name ≡ file.name → bytes ≡ file.bytes → HasCause now new (Ok x)
      → (tells ≡ true → ToldWrite now new name bytes (Ok x)) → Written tells old new (take (at + 1) files)
  written_more x name bytes name_is bytes_is cause told =
      one_written x cause (λ t. subst (λ n. ToldWrite now new n file.bytes (Ok x)) name_is
      (subst (λ b. ToldWrite now new name b (Ok x)) bytes_is (told t)))

same_fault : (fault : FileFault) → the_err fault ≡ the_err Failed → fault ≡ Failed
same_fault fault e = cc

-- a write was refused with this fault
write_refused : (tells : Bool) (old new : FilesView) (name bytes : List ℕ) (fault : FileFault) → HasCause old new (the_err fault)
    → (tells ≡ true → ToldWrite old new name bytes (Err fault)) → WriteRefused tells old new name fault
write_refused tells old new name bytes fault cause told = record {
  others = λ t. (told t).others;
  kept = λ t lacks. (told t).kept (ap Err lacks);
  called = λ t. (told t).call;
  later = cause.later;
  failed = λ f. cause.failed (ap Err f);
  still = λ f. cause.still (λ e. f (same_fault fault e));
}

-- the files of a run up to one that was not written
pub split_at : (files : List WrittenFile) (at : ℕ) (file : WrittenFile) → at < length files → file ≡ get_or files at file
    → files ≡ take at files ++ file ∷ drop (at + 1) files
split_at files at file within here =
    sym (take-append-drop at files) ∙ ap (λ (d : List WrittenFile). take at files ++ d)
    (drop_more files at file within ∙ ap (λ (f : WrittenFile). f ∷ drop (at + 1) files) (sym here))

-- files were written up to one whose write was refused
pub write_stops : (tells : Bool) (old now new : FilesView) (files : List WrittenFile) (at : ℕ) (file : WrittenFile)
    → at < length files → file ≡ get_or files at file → Written tells old now (take at files)
    → (name bytes : List ℕ) (fault : FileFault) → name ≡ file.name → HasCause now new (the_err fault)
    → (tells ≡ true → ToldWrite now new name bytes (Err fault)) → (the_err fault ≡ the_err TooLong → ⊥)
    → WriteStops tells old new files at fault
write_stops tells old now new files at file within here before name bytes fault name_is cause told short = record {
  file = file;
  here = here;
  between = now;
  written = before;
  refused = subst (λ n. WriteRefused tells now new n fault) name_is (write_refused tells now new name bytes fault cause told);
  never_long = λ e. short (ap Err e);
  within = within;
}

-- files were written, and then others behind them
pub both_written : (tells : Bool) (old now new : FilesView) (front behind : List WrittenFile) → Written tells old now front
    → Written tells now new behind → Written tells old new (front ++ behind)
both_written tells old now new front behind first second = record {
  contents = λ t.
      second.contents t
      ∙ ap (λ m. with_files m behind) (first.contents t)
      ∙ sym (with_both old.contents front behind);
  called = λ t.
      second.called t
      ∙ ap (λ cs. cs ++ map write_call behind) (first.called t)
      ∙ append_assoc old.calls (map write_call front) (map write_call behind)
      ∙ ap (λ cs. old.calls ++ cs) (sym (map-append write_call front behind));
  still = second.still ∙ first.still;
}

-- a file of some was not written, and others would follow them
pub stops_before : (tells : Bool) (old new : FilesView) (front behind : List WrittenFile) (at : ℕ) (fault : FileFault)
    → WriteStops tells old new front at fault → WriteStops tells old new (front ++ behind) at fault
stops_before tells old new front behind at fault s = record {
  file = s.file;
  within = omega (arith, s.within, length-append front behind);
  here = s.here ∙ sym (get_or_append_left front behind s.file at s.within);
  between = s.between;
  written = subst (Written tells old s.between) (sym (take-append-le at front behind (omega (arith, s.within)))) s.written;
  refused = s.refused;
  never_long = s.never_long;
}

-- some files were written, and one of those behind them was not
pub stops_behind : (tells : Bool) (old now new : FilesView) (front behind : List WrittenFile) (at : ℕ) (fault : FileFault)
    → Written tells old now front → WriteStops tells now new behind at fault
    → WriteStops tells old new (front ++ behind) (length front + at) fault
stops_behind tells old now new front behind at fault first s = record {
  file = s.file;
  within = omega (arith, s.within, length-append front behind);
  here = s.here ∙ sym (get_or-append-add front behind at s.file);
  between = s.between;
  written = subst (Written tells old s.between) (sym (take-append-add front behind at))
      (both_written tells old now s.between front (take at behind) first s.written);
  refused = s.refused;
  never_long = s.never_long;
}

-- as many answers as files were made
pub prepared_for : (answers : List Refusal) (files : List WrittenFile) → PreparedFor answers files → length answers ≡ length files
prepared_for answers files prepared =
    sym (length-map answers (λ (r : Refusal). saying r.status r.text.items)) ∙ ap length prepared ∙ length-map files
    (λ (f : WrittenFile). said_of (unwritten f.name))

-- what holds of the answers that were made for files holds of each
prepared_at : (answers : List Refusal) (files : List WrittenFile) (at : ℕ) (file : WrittenFile) (answer : Refusal)
    → PreparedFor answers files → at < length files → file ≡ get_or files at file → answer ≡ get_or answers at answer
    → saying answer.status answer.text.items ≡ said_of (unwritten file.name)
prepared_at answers files at file answer prepared within here is =
    ap (λ (r : Refusal). saying r.status r.text.items) is
    ∙ sym (get_or-map (λ (r : Refusal). saying r.status r.text.items) answers at answer (said_of (unwritten file.name))
    (omega (arith, within, prepared_for answers files prepared)))
    ∙ ap (λ (l : List Said). get_or l at (said_of (unwritten file.name))) prepared
    ∙ get_or-map (λ (f : WrittenFile). said_of (unwritten f.name)) files at file (said_of (unwritten file.name)) within
    ∙ ap (λ (f : WrittenFile). said_of (unwritten f.name)) (sym here)

module _ (tells : Bool) (old new : FilesView) (files : List WrittenFile) (ran : Outcome) (told : RunReport) (at : ℕ) where
  up_to : (fault : FileFault) (stops : WriteStops tells old new files at fault) → WrittenUpTo tells old new files stops.file fault
  up_to fault stops = record {
    front = take at files;
    behind = drop (at + 1) files;
    files_are = split_at files at stops.file stops.within stops.here;
    between = stops.between;
    written = stops.written;
    refused = stops.refused;
  }

  -- a run of which a file was not written
  pub unwritten_ends : (answers : List Refusal) (answer : Refusal) (fault : FileFault) (report : Option RunReport) (said : Said)
      → fault ≡ Failed → WriteStops tells old new files at fault → PreparedFor answers files → answer ≡ get_or answers at answer
      → said ≡ saying answer.status answer.text.items → report ≡ Some told → EndsRun tells old new files ran told report said
  unwritten_ends answers answer fault report said failed stops prepared_files here says is =
      let stopped : WriteStops tells old new files at Failed = subst (WriteStops tells old new files at) failed stops in
      inl (inr (record {
        file = stopped.file;
        fault = Failed;
        up_to = up_to Failed stopped;
        says = (is, says ∙ prepared_at answers files at stopped.file answer prepared_files stopped.within stopped.here here);
      }))

  -- or of which memory lacked for one
  pub lacking_ends : (fault : FileFault) (report : Option RunReport) (said : Said) → fault ≡ OutOfMemory
      → WriteStops tells old new files at fault → said ≡ starving → report ≡ None
      → EndsRun tells old new files ran told report said
  lacking_ends fault report said lacks stops says none =
      let stopped : WriteStops tells old new files at OutOfMemory = subst (WriteStops tells old new files at) lacks stops in
      inl (inr (record { file = stopped.file; fault = OutOfMemory; up_to = up_to OutOfMemory stopped; says = (none, says) }))

-- the same for a report's files and those behind them
module _ (tells : Bool) (old new : FilesView) (behind : List WrittenFile) (ran : Outcome) (told : RunReport) (at : ℕ)
    (fault : FileFault) (report : Option RunReport) (said : Said) (written : List WrittenFile)
    (written_are : written ≡ told.files)
    (stops : WriteStops tells old new (written ++ behind) at fault) where
  stops_at : WriteStops tells old new (told.files ++ behind) at fault
  stops_at = subst (λ fs. WriteStops tells old new (fs ++ behind) at fault) written_are stops

  pub report_unwritten : (answers : List Refusal) (answer : Refusal) (files : List WrittenFile) → fault ≡ Failed
      → files ≡ told.files → PreparedFor answers (files ++ behind) → answer ≡ get_or answers at answer
      → said ≡ saying answer.status answer.text.items → report ≡ Some told
      → EndsRun tells old new (told.files ++ behind) ran told report said
  report_unwritten answers answer files failed files_are prepared_files here says is =
      unwritten_ends tells old new (told.files ++ behind) ran told at answers answer fault report said failed stops_at
      (subst (λ fs. PreparedFor answers (fs ++ behind)) files_are prepared_files) here says is

  pub report_lacking : fault ≡ OutOfMemory → said ≡ starving → report ≡ None
      → EndsRun tells old new (told.files ++ behind) ran told report said
  report_lacking lacks says none =
      lacking_ends tells old new (told.files ++ behind) ran told at fault report said lacks stops_at says none

-- what is prepared for one file more
pub prepared_more : (into answers : List Refusal) (before : List Said) (files : List WrittenFile) (at : ℕ) (file : WrittenFile)
    (answer : Refusal) → at < length files → file ≡ get_or files at file → prepared into ≡ before ++ unwritten_all (take at files)
    → saying answer.status answer.text.items ≡ said_of (unwritten file.name) → answers ≡ into ++ answer ∷ []
    → prepared answers ≡ before ++ unwritten_all (take (at + 1) files)
prepared_more into answers before files at file answer within here so_far says more_is =
    ap prepared more_is
    ∙ map-append (λ (r : Refusal). saying r.status r.text.items) into (answer ∷ [])
    ∙ ap (λ (l : List Said). l ++ saying answer.status answer.text.items ∷ []) so_far
    ∙ append_assoc before (unwritten_all (take at files)) (saying answer.status answer.text.items ∷ [])
    ∙ ap (λ (l : List Said). before ++ l)
    (ap (λ (s : Said). unwritten_all (take at files) ++ s ∷ []) says
    ∙ sym (map-append (λ (f : WrittenFile). said_of (unwritten f.name)) (take at files) (file ∷ []))
    ∙ ap unwritten_all (sym (take_more files at file within
    ∙ ap (λ (f : WrittenFile). take at files ++ f ∷ []) (sym here))))

-- a run that came to its end
pub finished_ends : (tells : Bool) (old new : FilesView) (files : List WrittenFile) (told : RunReport)
    (report : Option RunReport) (said made : Said) (ran : Outcome) → Written tells old new files → report ≡ Some told
    → said ≡ made → made ≡ said_of (finished ran) → EndsRun tells old new files ran told report said
finished_ends tells old new files told report said made ran written is says made_is =
    inl (inl (record { written = written; is = is; says = says ∙ made_is }))
