-- Where words and contents lead, and that they lead to one answer, up to what a run leaves.
use Rattle.std.proofs.Common.{◌≡◌, ℕ, ◌<◌, ◌≤◌, Bool, true, inl, inr, List, [], ◌∷◌, Option, Some, None, Ok, Err, refl, sym, ap}
use Rattle.std.proofs.Common.{◌∙◌, subst, arith}
use Rattle.std.specs.Prelude.{◌⊎◌, IsSomeAnd}
use Rattle.sn_outside.specs.Contents.{Contents}
use Rattle.sn_outside.specs.Views.{FilesView}
use Rattle.sn_outside.specs.declared.fault.FileFault.{FileFault}
use Rattle.sn_outside.specs.declared.fault.FileFault.TheVariants.{Failed, TooLong, OutOfMemory}
use Rattle.sn_pcap.specs.declared.fault.PcapFault.{PcapFault}
use Rattle.sn_pcap.specs.Faults.{HasFault}
use Rattle.sn_pcap.specs.Grammar.{PcapText}
use Rattle.sn_run.specs.Courses.{Follows, SaysUnwritten}
use Rattle.sn_run.specs.Expectations.{IsOutside, Leads}
use Rattle.sn_run.specs.Reported.{RunReport}
use Rattle.sn_run.specs.Scripts.{Script, prints, refuses, reads, opens, runs}
use Rattle.sn_run.specs.Seen.{Holds, IsOver, ReadRefused}
use Rattle.sn_run.specs.Texts.{Said, SaysOrStarves, said_of, starving, unread_said}
use Rattle.sn_run.specs.Ways.{finished, is_finished, refused, no_capture}
use Rattle.sn_run.specs.declared.outcome.Outcome.{Outcome}

-- the answer tells of a fault of files or of want of memory, or the contents lead to it
abbrev pub Led : Script → Contents → Said → Type 0
Led s m said = IsOutside said.way ⊎ Leads s m said

said_led : (s : Script) (m : Contents) (said wanted : Said) → SaysOrStarves said wanted → Led s m wanted → Led s m said
said_led s m said wanted either well =
    elim either [ inl e ↦ subst (Led s m) (sym e) well | inr e ↦ subst (Led s m) (sym e) (inl tt) ]

module _ (tells : Bool) (t : tells ≡ true) where
  unread_led : (old new : FilesView) (name : List ℕ) (limit : ℕ) (next : List ℕ → Script) (fault : FileFault)
      → ReadRefused tells old new name limit fault → Led (reads name limit next) old.contents (unread_said name fault)
  unfolding Leads
  unread_led old new name limit next Failed r = inl tt
  unread_led old new name limit next TooLong r = inr (inr (record { over = r.long t refl }, refl))
  unread_led old new name limit next OutOfMemory r = inl tt

  unwritten_led : (s : Script) (m : Contents) (fault : FileFault) (name : List ℕ) (told : RunReport) (report : Option RunReport)
      (said : Said) → SaysUnwritten fault name told report said → Led s m said
  unwritten_led s m Failed name told report said u = subst (Led s m) (sym u.1) (inl tt)
  unwritten_led s m TooLong name told report said u = absurd u
  unwritten_led s m OutOfMemory name told report said u = subst (Led s m) (sym u.1) (inl tt)

  pub led : (s : Script) (old new : FilesView) (report : Option RunReport) (said : Said) → Follows tells s old new report said
      → Led s old.contents said
  unfolding Follows Leads
  led (prints text) old new report said f = said_led (prints text) old.contents said _ f.says (inr refl)
  led (refuses why) old new report said f = said_led (refuses why) old.contents said _ f.says (inr refl)
  led (reads name limit next) old new report said (inl g) =
      elim (subst (λ m. Led (next g.0) m said) (g.2.kept t) (led (next g.0) g.1 new report said g.3)) [
        | inl o ↦ inl o
        | inr l ↦ inr (inl (g.0, record { held = g.2.found.told t; short = g.2.found.short }, l))
      ]
  led (reads name limit next) old new report said (inr (inl u)) =
      said_led (reads name limit next) old.contents said (unread_said name u.fault) u.says
      (unread_led old new name limit next u.fault u.refused)
  led (reads name limit next) old new report said (inr (inr st)) =
      said_led (reads name limit next) old.contents said starving st.says (inl tt)
  led (opens name bytes next) old new report said (inl g) =
      elim (led next old new report said g.1) [ inl o ↦ inl o | inr l ↦ inr (inl (g.0, l)) ]
  led (opens name bytes next) old new report said (inr (inl h)) =
      said_led (opens name bytes next) old.contents said _ h.2.says (inr (inr (h.0, h.1, refl)))
  led (opens name bytes next) old new report said (inr (inr st)) =
      said_led (opens name bytes next) old.contents said starving st.says (inl tt)
  led (runs form captures) old new report said (inl (ran, told, run, inl f)) = inr (ran, f.says)
  led (runs form captures) old new report said (inl (ran, told, run, inr u)) =
      unwritten_led (runs form captures) old.contents u.fault u.file.name told report said u.says
  led (runs form captures) old new report said (inr st) =
      said_led (runs form captures) old.contents said starving st.says (inl tt)

-- a file holds one text
one_text : (m : Contents) (name : List ℕ) (limit : ℕ) (a b : List ℕ) → Holds m name limit a → Holds m name limit b → a ≡ b
one_text m name limit a b x y = let e : Some a ≡ Some b = sym x.held ∙ y.held in cc

-- and isn't too long where it holds one that isn't
never_over : (m : Contents) (name : List ℕ) (limit : ℕ) (bytes : List ℕ) → Holds m name limit bytes → IsOver m name limit → ⊥
never_over m name limit bytes x y =
    let over : limit < Rattle.std.proofs.Common.length bytes =
    subst (λ o. IsSomeAnd o (λ b. limit < Rattle.std.proofs.Common.length b)) x.held y.over in
    omega (arith, over, x.short)

-- what is said is one, or a run came to its end in both
abbrev pub SaidAlike : Said → Said → Type 0
SaidAlike a b = (a ≡ b) ⊎ ((is_finished a.way ≡ true) × (is_finished b.way ≡ true))

ended_alike : (a b : Said) (x y : Outcome) → a ≡ said_of (finished x) → b ≡ said_of (finished y) → SaidAlike a b
ended_alike a b x y p q = inr (ap (λ s. is_finished s.way) p, ap (λ s. is_finished s.way) q)

module _ (one_fault : (bytes : List ℕ) (a b : PcapFault) → HasFault bytes a → HasFault bytes b → a ≡ b)
    (no_fault : (bytes : List ℕ) (records : List (List ℕ)) (fault : PcapFault) → PcapText bytes records → HasFault bytes fault
    → ⊥) where
  pub one_lead : (s : Script) (m : Contents) (a b : Said) → Leads s m a → Leads s m b → SaidAlike a b
  unfolding Leads
  one_lead (prints text) m a b x y = inl (x ∙ sym y)
  one_lead (refuses why) m a b x y = inl (x ∙ sym y)
  one_lead (reads name limit next) m a b (inl x) (inl y) =
      one_lead (next y.0) m a b (subst (λ t. Leads (next t) m a) (one_text m name limit x.0 y.0 x.1 y.1) x.2) y.2
  one_lead (reads name limit next) m a b (inl x) (inr y) = absurd (never_over m name limit x.0 x.1 y.0)
  one_lead (reads name limit next) m a b (inr x) (inl y) = absurd (never_over m name limit y.0 y.1 x.0)
  one_lead (reads name limit next) m a b (inr x) (inr y) = inl (x.1 ∙ sym y.1)
  one_lead (opens name bytes next) m a b (inl x) (inl y) = one_lead next m a b x.1 y.1
  one_lead (opens name bytes next) m a b (inl x) (inr y) = absurd (no_fault bytes x.0.records y.0 x.0.text y.1)
  one_lead (opens name bytes next) m a b (inr x) (inl y) = absurd (no_fault bytes y.0.records x.0 y.0.text x.1)
  one_lead (opens name bytes next) m a b (inr x) (inr y) =
      inl (x.2 ∙ ap (λ f. said_of (refused (no_capture name f))) (one_fault bytes x.0 y.0 x.1 y.1) ∙ sym y.2)
  one_lead (runs form captures) m a b x y = ended_alike a b x.0 y.0 x.1 y.1
