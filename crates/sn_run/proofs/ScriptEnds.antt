-- What the course of a call says of its answer.
use Rattle.std.proofs.Common.{◌≡◌, ℕ, ◌≤◌, Bool, inl, inr, List, Option, Some, None, refl, sym, ap, subst, arith}
use Rattle.std.specs.Prelude.{◌≢◌, is_some}
use Rattle.sn_outside.specs.Views.{FilesView}
use Rattle.sn_outside.specs.declared.fault.FileFault.{FileFault}
use Rattle.sn_outside.specs.declared.fault.FileFault.TheVariants.{Failed, TooLong as Long, OutOfMemory as NoMemory}
use Rattle.sn_run.specs.Answers.{FaultsCounted, has_report}
use Rattle.sn_run.specs.Courses.{Course, Finished, Follows, SaysUnwritten, Stops, Unread, Unwritten}
use Rattle.sn_run.specs.Reported.{RunReport, WrittenFile}
use Rattle.sn_run.specs.Scripts.{Script, prints, refuses, reads, opens, runs}
use Rattle.sn_run.specs.Seen.{ReadRefused, WriteRefused}
use Rattle.sn_run.specs.Texts.{Said, SaysOrStarves, said_of, starving, unread_said, way_text}
use Rattle.sn_run.specs.Ways.{Way, no_words, unread, refused, finished, done, unwritten, starved, unprinted, way_of}
use Rattle.sn_run.specs.declared.status.Status.{Status}
use Rattle.sn_run.specs.declared.status.Status.TheVariants.{PrintFault}

-- what holds of what is wanted and of want of memory holds of what is said
says : (P : Said → Type 0) (said wanted : Said) → SaysOrStarves said wanted → P wanted → P starving → P said
says P said wanted either well lacks = elim either [ inl e ↦ subst P (sym e) well | inr e ↦ subst P (sym e) lacks ]

-- a script never ends in these two ways
abbrev pub IsOfScript : Way → Type 0
IsOfScript no_words = ⊥
IsOfScript (unread name fault) = Unit {0}
IsOfScript (refused why) = Unit {0}
IsOfScript (finished outcome) = Unit {0}
IsOfScript done = Unit {0}
IsOfScript (unwritten name) = Unit {0}
IsOfScript starved = Unit {0}
IsOfScript unprinted = ⊥

abbrev pub OfScript : Said → Type 0
OfScript said = IsOfScript said.way

unread_of_script : (name : List ℕ) (fault : FileFault) → OfScript (unread_said name fault)
unread_of_script name Failed = tt
unread_of_script name Long = tt
unread_of_script name NoMemory = tt

module _ (tells : Bool) where
  stops_of_script : (old new : FilesView) (report : Option RunReport) (said wanted : Said) → Stops old new report said wanted
      → OfScript wanted → OfScript said
  stops_of_script old new report said wanted stops well = says OfScript said wanted stops.says well tt

  unwritten_of_script : (old new : FilesView) (files : List WrittenFile) (told : RunReport) (report : Option RunReport)
      (said : Said) (u : Unwritten tells old new files told report said) → OfScript said
  unwritten_of_script old new files told report said u = by_fault u.fault u.says
    where
      by_fault : (fault : FileFault) → Rattle.sn_run.specs.Courses.SaysUnwritten fault u.file.name told report said
          → OfScript said
      by_fault Failed s = subst OfScript (sym s.1) tt
      by_fault Long s = absurd s
      by_fault NoMemory s = subst OfScript (sym s.1) tt

  pub of_script : (s : Script) (old new : FilesView) (report : Option RunReport) (said : Said)
      → Follows tells s old new report said → OfScript said
  unfolding Follows
  of_script (prints text) old new report said f = stops_of_script old new report said _ f tt
  of_script (refuses why) old new report said f = stops_of_script old new report said _ f tt
  of_script (reads name limit next) old new report said (inl g) = of_script (next g.0) g.1 new report said g.3
  of_script (reads name limit next) old new report said (inr (inl u)) =
      says OfScript said (unread_said name u.fault) u.says (unread_of_script name u.fault) tt
  of_script (reads name limit next) old new report said (inr (inr st)) = stops_of_script old new report said starving st tt
  of_script (opens name bytes next) old new report said (inl g) = of_script next old new report said g.1
  of_script (opens name bytes next) old new report said (inr (inl h)) = stops_of_script old new report said _ h.2 tt
  of_script (opens name bytes next) old new report said (inr (inr st)) = stops_of_script old new report said starving st tt
  of_script (runs form captures) old new report said (inl (ran, told, run, inl f)) = subst OfScript (sym f.says) tt
  of_script (runs form captures) old new report said (inl (ran, told, run, inr u)) =
      unwritten_of_script old new _ told report said u
  of_script (runs form captures) old new report said (inr st) = stops_of_script old new report said starving st tt

-- so its status is neither of these
pub never_unprinted : (tells : Bool) (s : Script) (old new : FilesView) (report : Option RunReport) (status : Status)
    (text : List ℕ) → Follows tells s old new report (Rattle.sn_run.specs.Texts.saying status text) → status ≢ PrintFault
never_unprinted tells s old new report status text f is = subst IsOfScript (ap way_of is) (of_script tells s old new report _ f)

-- there is a report just with these ways
abbrev pub OfReport : Option RunReport → Said → Type 0
OfReport report said = is_some report ≡ has_report said.way

unread_reports : (name : List ℕ) (fault : FileFault) → OfReport None (unread_said name fault)
unread_reports name Failed = refl
unread_reports name Long = refl
unread_reports name NoMemory = refl

-- no report, and what is wanted has none
stops_reports : (report : Option RunReport) (said wanted : Said) → report ≡ None → SaysOrStarves said wanted
    → OfReport None wanted → OfReport report said
stops_reports report said wanted none either well =
    subst (λ r. OfReport r said) (sym none) (says (OfReport None) said wanted either well refl)

by_unwritten : (fault : FileFault) (name : List ℕ) (told : RunReport) (report : Option RunReport) (said : Said)
    → SaysUnwritten fault name told report said → OfReport report said
by_unwritten Failed name told report said s =
    subst (λ r. OfReport r said) (sym s.0) (subst (OfReport (Some told)) (sym s.1) refl)
by_unwritten Long name told report said s = absurd s
by_unwritten NoMemory name told report said s =
    subst (λ r. OfReport r said) (sym s.0) (subst (OfReport None) (sym s.1) refl)

pub reports : (tells : Bool) (s : Script) (old new : FilesView) (report : Option RunReport) (said : Said)
    → Follows tells s old new report said → OfReport report said
unfolding Follows
reports tells (prints text) old new report said f = stops_reports report said _ f.none f.says refl
reports tells (refuses why) old new report said f = stops_reports report said _ f.none f.says refl
reports tells (reads name limit next) old new report said (inl g) = reports tells (next g.0) g.1 new report said g.3
reports tells (reads name limit next) old new report said (inr (inl u)) =
    stops_reports report said _ u.none u.says (unread_reports name u.fault)
reports tells (reads name limit next) old new report said (inr (inr st)) =
    stops_reports report said starving st.none st.says refl
reports tells (opens name bytes next) old new report said (inl g) = reports tells next old new report said g.1
reports tells (opens name bytes next) old new report said (inr (inl h)) =
    stops_reports report said _ h.2.none h.2.says refl
reports tells (opens name bytes next) old new report said (inr (inr st)) =
    stops_reports report said starving st.none st.says refl
reports tells (runs form captures) old new report said (inl (ran, told, run, inl f)) =
    subst (λ r. OfReport r said) (sym f.is) (subst (OfReport (Some told)) (sym f.says) refl)
reports tells (runs form captures) old new report said (inl (ran, told, run, inr u)) =
    by_unwritten u.fault u.file.name told report said u.says
reports tells (runs form captures) old new report said (inr st) = stops_reports report said starving st.none st.says refl

-- the count of faults
abbrev pub OfFaults : ℕ → ℕ → Said → Type 0
OfFaults before now said = FaultsCounted before now said.way

still_counts : (before now : ℕ) (said wanted : Said) → now ≡ before → SaysOrStarves said wanted
    → (now ≡ before → OfFaults before now wanted) → OfFaults before now said
still_counts before now said wanted same either well =
    says (OfFaults before now) said wanted either (well same) (omega (arith, same))

module _ (tells : Bool) where
  unread_counts : (old new : FilesView) (name : List ℕ) (limit : ℕ) (fault : FileFault)
      → ReadRefused tells old new name limit fault → OfFaults old.faults new.faults (unread_said name fault)
  unread_counts old new name limit Failed r = r.failed refl
  unread_counts old new name limit Long r = r.still (λ e. cc)
  unread_counts old new name limit NoMemory r = r.later

  unwritten_counts : (old mid new : FilesView) (name : List ℕ) (told : RunReport) (report : Option RunReport) (said : Said)
      (fault : FileFault) → mid.faults ≡ old.faults → WriteRefused tells mid new name fault
      → SaysUnwritten fault name told report said → OfFaults old.faults new.faults said
  unwritten_counts old mid new name told report said Failed same r s =
      subst (OfFaults old.faults new.faults) (sym s.1)
      (subst (λ n. Rattle.sn_outside.specs.Counts.FaultCounted n new.faults) same (r.failed refl))
  unwritten_counts old mid new name told report said Long same r s = absurd s
  unwritten_counts old mid new name told report said NoMemory same r s =
      subst (OfFaults old.faults new.faults) (sym s.1) (subst (λ n. n ≤ new.faults) same r.later)

  pub counts : (s : Script) (old new : FilesView) (report : Option RunReport) (said : Said) → Follows tells s old new report said
      → OfFaults old.faults new.faults said
  unfolding Follows
  counts (prints text) old new report said f =
      still_counts old.faults new.faults said _ (ap (λ v. v.faults) f.same) f.says (λ e. e)
  counts (refuses why) old new report said f =
      still_counts old.faults new.faults said _ (ap (λ v. v.faults) f.same) f.says (λ e. e)
  counts (reads name limit next) old new report said (inl g) =
      subst (λ n. OfFaults n new.faults said) g.2.still (counts (next g.0) g.1 new report said g.3)
  counts (reads name limit next) old new report said (inr (inl u)) =
      says (OfFaults old.faults new.faults) said (unread_said name u.fault) u.says
      (unread_counts old new name limit u.fault u.refused) u.refused.later
  counts (reads name limit next) old new report said (inr (inr st)) =
      still_counts old.faults new.faults said starving (ap (λ v. v.faults) st.same) st.says (λ e. omega (arith, e))
  counts (opens name bytes next) old new report said (inl g) = counts next old new report said g.1
  counts (opens name bytes next) old new report said (inr (inl h)) =
      still_counts old.faults new.faults said _ (ap (λ v. v.faults) h.2.same) h.2.says (λ e. e)
  counts (opens name bytes next) old new report said (inr (inr st)) =
      still_counts old.faults new.faults said starving (ap (λ v. v.faults) st.same) st.says (λ e. omega (arith, e))
  counts (runs form captures) old new report said (inl (ran, told, run, inl f)) =
      subst (OfFaults old.faults new.faults) (sym f.says) f.written.still
  counts (runs form captures) old new report said (inl (ran, told, run, inr u)) =
      unwritten_counts old u.up_to.between new u.file.name told report said u.fault u.up_to.written.still u.up_to.refused u.says
  counts (runs form captures) old new report said (inr st) =
      still_counts old.faults new.faults said starving (ap (λ v. v.faults) st.same) st.says (λ e. omega (arith, e))

-- each way but one has one text
abbrev pub HasOwnText : Said → Type 0
HasOwnText said = (said.way ≡ done → ⊥) → said.text ≡ way_text said.way

unread_text_own : (name : List ℕ) (fault : FileFault) → HasOwnText (unread_said name fault)
unread_text_own name Failed other = refl
unread_text_own name Long other = refl
unread_text_own name NoMemory other = refl

unwritten_own : (fault : FileFault) (name : List ℕ) (told : RunReport) (report : Option RunReport) (said : Said)
    → SaysUnwritten fault name told report said → HasOwnText said
unwritten_own Failed name told report said s = subst HasOwnText (sym s.1) (λ other. refl)
unwritten_own Long name told report said s = absurd s
unwritten_own NoMemory name told report said s = subst HasOwnText (sym s.1) (λ other. refl)

pub own_text : (tells : Bool) (s : Script) (old new : FilesView) (report : Option RunReport) (said : Said)
    → Follows tells s old new report said → HasOwnText said
unfolding Follows
own_text tells (prints text) old new report said f = says HasOwnText said _ f.says (λ other. absurd (other refl)) (λ other. refl)
own_text tells (refuses why) old new report said f = says HasOwnText said _ f.says (λ other. refl) (λ other. refl)
own_text tells (reads name limit next) old new report said (inl g) = own_text tells (next g.0) g.1 new report said g.3
own_text tells (reads name limit next) old new report said (inr (inl u)) =
    says HasOwnText said (unread_said name u.fault) u.says (unread_text_own name u.fault) (λ other. refl)
own_text tells (reads name limit next) old new report said (inr (inr st)) =
    says HasOwnText said starving st.says (λ other. refl) (λ other. refl)
own_text tells (opens name bytes next) old new report said (inl g) = own_text tells next old new report said g.1
own_text tells (opens name bytes next) old new report said (inr (inl h)) =
    says HasOwnText said _ h.2.says (λ other. refl) (λ other. refl)
own_text tells (opens name bytes next) old new report said (inr (inr st)) =
    says HasOwnText said starving st.says (λ other. refl) (λ other. refl)
own_text tells (runs form captures) old new report said (inl (ran, told, run, inl f)) =
    subst HasOwnText (sym f.says) (λ other. refl)
own_text tells (runs form captures) old new report said (inl (ran, told, run, inr u)) =
    unwritten_own u.fault u.file.name told report said u.says
own_text tells (runs form captures) old new report said (inr st) =
    says HasOwnText said starving st.says (λ other. refl) (λ other. refl)
