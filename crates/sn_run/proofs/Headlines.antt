-- A report is that of a run of what was read, and the files hold what the run made.
use Rattle.std.proofs.Common.{◌≡◌, ℕ, true, inl, inr, List, ◌∷◌, Option, Some, None, refl, sym, ap, ◌∙◌, subst}
use Rattle.std.specs.FinMap.{get}
use Rattle.sn_outside.specs.declared.fault.FileFault.{FileFault}
use Rattle.sn_outside.specs.declared.fault.FileFault.TheVariants.{Failed, TooLong, OutOfMemory}
use Rattle.sn_run.specs.Answers.{EndsBy, Headline, Leaves, LeftBy, Ran}
use Rattle.sn_run.specs.Courses.{Finished, SaysUnwritten, Unwritten}
use Rattle.sn_run.specs.Reported.{RunReport, with_files}
use Rattle.sn_run.specs.Seen.{Seen, WriteRefused}
use Rattle.sn_run.specs.Texts.{Said}
use Rattle.sn_run.specs.Written.{written_files}
use Rattle.sn_run.proofs.RunEnds.{RanTo, Untouched}

no_some : {A : Type 0} (report : Option A) (told : A) → report ≡ Some told → report ≡ None → ⊥
no_some report told is none = let e : Some told ≡ None = sym is ∙ none in cc

same_some : {A : Type 0} (report : Option A) (a b : A) → report ≡ Some a → report ≡ Some b → a ≡ b
same_some report a b x y = let e : Some a ≡ Some b = sym x ∙ y in cc

module _ (w : Seen) (words : List (List ℕ)) (report : Option RunReport) (said : Said) where
  -- the way by which a run that ended so makes a report
  by_outcome : (told : RunReport) (r : RanTo w words report said) → report ≡ Some told
      → (told ≡ r.told) × EndsBy r.ran said.way
  by_outcome told r is = elim r.ends [
    | inl f ↦ (same_some report told r.told is f.is, subst (λ s. EndsBy r.ran s.way) (sym f.says) refl)
    | inr u ↦ by_fault u.fault u.file.name u.says
  ]
    where
      by_fault : (fault : FileFault) (name : List ℕ) → SaysUnwritten fault name r.told report said
          → (told ≡ r.told) × EndsBy r.ran said.way
      by_fault Failed name s = (same_some report told r.told is s.0, subst (λ q. EndsBy r.ran q.way) (sym s.1) tt)
      by_fault TooLong name s = absurd s
      by_fault OutOfMemory name s = absurd (no_some report told is s.0)

  pub headline : (told : RunReport) → report ≡ Some told → RanTo w words report said → Headline w words said.way told
  headline told is r =
      let ended : (told ≡ r.told) × EndsBy r.ran said.way = by_outcome told r is in
      record { form = r.form; ran = r.ran; run = subst (Ran w words r.form r.ran) (sym ended.0) r.run; ends = ended.1 }

  module _ (t : w.tells ≡ true) where
    pub untouched_leaves : Untouched w.tells w.old.contents w.new report → Leaves w words report said.way
    untouched_leaves u = subst (λ r. Leaves w words r said.way) (sym u.none) (inl (u.kept t))

    module _ (r : RanTo w words report said) where
      finished_leaves : Finished w.tells r.mid w.new (written_files r.form r.told) r.ran r.told report said
          → Leaves w words report said.way
      finished_leaves f = subst (λ q. Leaves w words q said.way) (sym f.is) (record {
        form = r.form;
        ran = r.ran;
        run = r.run;
        left = subst (λ s. LeftBy w.old.contents w.new.contents (written_files r.form r.told) s.way) (sym f.says)
            (f.written.contents t ∙ ap (λ m. with_files m (written_files r.form r.told)) (r.same t));
      })

      unwritten_leaves : Unwritten w.tells r.mid w.new (written_files r.form r.told) r.told report said
          → Leaves w words report said.way
      unwritten_leaves u = by_fault u.fault u.up_to.refused u.says
        where
          so_far : u.up_to.between.contents ≡ with_files w.old.contents u.up_to.front
          so_far = u.up_to.written.contents t ∙ ap (λ m. with_files m u.up_to.front) (r.same t)

          by_fault : (fault : FileFault) → WriteRefused w.tells u.up_to.between w.new u.file.name fault
              → SaysUnwritten fault u.file.name r.told report said → Leaves w words report said.way
          by_fault Failed refused s = subst (λ q. Leaves w words q said.way) (sym s.0) (record {
            form = r.form;
            ran = r.ran;
            run = r.run;
            left = subst (λ q. LeftBy w.old.contents w.new.contents (written_files r.form r.told) q.way) (sym s.1) (record {
              front = u.up_to.front;
              file = u.file;
              behind = u.up_to.behind;
              files_are = u.up_to.files_are;
              named = refl;
              others = λ other apart. refused.others t other apart ∙ ap (λ m. get m other) so_far;
            });
          })
          by_fault TooLong refused s = absurd s
          by_fault OutOfMemory refused s = subst (λ q. Leaves w words q said.way) (sym s.0) (inr (record {
            lacks = ap (λ q. q.way) s.1;
            form = r.form;
            ran = r.ran;
            report = r.told;
            run = r.run;
            front = u.up_to.front;
            behind = u.file ∷ u.up_to.behind;
            files_are = u.up_to.files_are;
            left = refused.kept t refl ∙ so_far;
          }))

      pub ran_leaves : Leaves w words report said.way
      ran_leaves = elim r.ends [ inl f ↦ finished_leaves f | inr u ↦ unwritten_leaves u ]
