-- A scan under way, probe after probe.
use Rattle.std.proofs.Common.{◌≡◌, ◌≢◌, ◌<◌, ◌≤◌, ℕ, zero, suc, ◌+◌, ◌-◌, List, [], ◌∷◌, ◌++◌, Option, refl, sym, ap, ◌∙◌, subst, ⊎_elim, add-one, append_assoc, arith}
use Rattle.std.proofs.lemmas.Bool.{cases_lt}
use Rattle.std.proofs.lemmas.Bool.Decides.{nat_tests}
use mathlib.Core.Logic.{dite}
use native.Mathlib.Decide.{ℕ_discrete}
use Rattle.sn_packet.specs.Packet.{PacketState}
use Rattle.sn_group.specs.declared.view.View.{View}
use Rattle.sn_group.specs.declared.entry.Probe.{Probe}
use Rattle.sn_group.specs.declared.entry.Probe.TheVariants.{Loaded, Exchanged}
use Rattle.sn_group.specs.Views.{probed, took, reserved, ran_dry, ran_full}
use Rattle.sn_group.specs.Scans.{around, PassedFull, PassedEmpty, Passes, PassesEach}
use Rattle.sn_group.specs.Finds.{IsIdle, IsScanning, scanning, FoundNoneFull, FoundNoneEmpty}
use Rattle.sn_group.specs.Plays.{Mine}

-- an idle seat begins a scan
pub begins : (me : Mine) → IsIdle me → IsScanning me.0 [] me
begins me idle = record { is = λ i. (record { number = me.0.number; groups = me.0.groups; parts = me.0.parts; log = me.0.log; joined = me.0.joined; cells = me.0.cells; scan = idle.scan i; last = me.0.last }, idle.slots i) }

module _ (v : View) (scan : List Probe) (me : Mine) where
  pub scanning_parts : IsScanning v scan me → v.parts ≡ 1 → 0 < me.0.parts
  scanning_parts s one = omega (arith, ap (λ (m : Mine). m.0.parts) s.is, one)

  pub scanning_cells : IsScanning v scan me → v.cells ≡ [] → me.0.cells ≡ []
  scanning_cells s none' = ap (λ (m : Mine). m.0.cells) s.is ∙ none'

  pub scanning_slots : IsScanning v scan me → me.1 ≡ []
  scanning_slots s = ap (λ (m : Mine). m.1) s.is

  pub scans_on : IsScanning v scan me → (probe : Probe) (after : Mine) → after ≡ (probed probe me.0, me.1) → IsScanning v (probe ∷ scan) after
  scans_on s probe after e = record { is = e ∙ ap (λ (m : Mine). (probed probe m.0, m.1)) s.is }

  pub scans_dry : IsScanning v scan me → (after : Mine) → after ≡ (ran_dry me.0, me.1) → after ≡ (ran_dry (scanning v scan), [])
  scans_dry s after e = e ∙ ap (λ (m : Mine). (ran_dry m.0, m.1)) s.is

  pub scans_full : IsScanning v scan me → (word : ℕ) (after : Mine) → after ≡ (ran_full word me.0, me.1) → after ≡ (ran_full word (scanning v scan), [])
  scans_full s word after e = e ∙ ap (λ (m : Mine). (ran_full word m.0, m.1)) s.is

  pub scan_took : IsScanning v scan me → (cell word : ℕ) (load : Option PacketState) (after : Mine) → after ≡ (took cell word me.0, (cell, load) ∷ []) → after ≡ (took cell word (scanning v scan), (cell, load) ∷ [])
  scan_took s cell word load after e = e ∙ ap (λ (m : Mine). (took cell word m.0, (cell, load) ∷ [])) s.is

  pub scan_reserved : IsScanning v scan me → (cell : ℕ) (load : Option PacketState) (after : Mine) → after ≡ (reserved cell me.0, (cell, load) ∷ []) → after ≡ (reserved cell (scanning v scan), (cell, load) ∷ [])
  scan_reserved s cell load after e = e ∙ ap (λ (m : Mine). (reserved cell m.0, (cell, load) ∷ [])) s.is

-- one more cell is passed
pub passes_more : (P : ℕ → List Probe → List Probe → Type 0) (cells start k cell : ℕ) (before scan : List Probe) → Passes P cells start k before → cell ≡ around cells start k → P cell before scan → Passes P cells start (k + 1) scan
passes_more P cells start k cell before scan passes place here =
    let more : Passes P cells start (suc k) scan = (before, passes, subst (λ (c : ℕ). P c before scan) place here) in
    subst (λ (n : ℕ). Passes P cells start n scan) (sym (add-one k)) more

-- a passed cell adds probes, and takes none away
Adds : (ℕ → List Probe → List Probe → Type 0) → Type 0
Adds P = (cell : ℕ) (before scan : List Probe) → P cell before scan → (top : List Probe) × (scan ≡ top ++ before)

passed_full_adds : Adds PassedFull
unfolding Adds
passed_full_adds cell before scan p =
    ⊎_elim
    (λ (x : (p.0 < 2) × (scan ≡ Loaded cell p.0 ∷ before)). let r : (top : List Probe) × (scan ≡ top ++ before) = (Loaded cell p.0 ∷ [], x.1) in r)
    (λ (x : (2 ≤ p.0) × (found : ℕ) × (found ≢ p.0) × (scan ≡ Exchanged cell p.0 found ∷ Loaded cell p.0 ∷ before)).
    let r : (top : List Probe) × (scan ≡ top ++ before) = (Exchanged cell p.0 x.1 ∷ Loaded cell p.0 ∷ [], x.3) in r)
    p.1

passed_empty_adds : Adds PassedEmpty
unfolding Adds
passed_empty_adds cell before scan p =
    ⊎_elim
    (λ (x : (p.0 ≢ 0) × (scan ≡ Loaded cell p.0 ∷ before)). let r : (top : List Probe) × (scan ≡ top ++ before) = (Loaded cell p.0 ∷ [], x.1) in r)
    (λ (x : (p.0 ≡ 0) × (found : ℕ) × (found ≢ 0) × (scan ≡ Exchanged cell 0 found ∷ Loaded cell 0 ∷ before)).
    let r : (top : List Probe) × (scan ≡ top ++ before) = (Exchanged cell 0 x.1 ∷ Loaded cell 0 ∷ [], x.3) in r)
    p.1

-- each of the first k cells was passed somewhere
passes_at : (P : ℕ → List Probe → List Probe → Type 0) → Adds P → (cells start k : ℕ) (scan : List Probe) → Passes P cells start k scan → (j : ℕ) → j < k
    → (later here before : List Probe) × (scan ≡ later ++ here) × P (around cells start j) before here
unfolding Adds
passes_at P adds cells start zero scan passes j lt = absurd (omega arith)
passes_at P adds cells start (suc k) scan passes j lt =
    dite (ℕ_discrete j k)
    (λ (e : j ≡ k). ([], scan, passes.0, refl, subst (λ (n : ℕ). P (around cells start n) passes.0 scan) (sym e) passes.2))
    (λ (ne : j ≢ k).
    let more = passes_at P adds cells start k passes.0 passes.1 j (omega arith) in
    let top = adds (around cells start k) passes.0 scan passes.2 in
    (top.0 ++ more.0, more.1, more.2, top.1 ∙ ap (λ (l : List Probe). top.0 ++ l) more.3 ∙ sym (append_assoc top.0 more.0 more.1), more.4))

around_goes : (cells start cell : ℕ) → cell < cells → start ≤ cell → around cells start (cell - start) ≡ cell
around_goes cells start cell c le = grind (arith, nat_tests)

around_wraps : (cells start cell : ℕ) → start < cells → cell < start → around cells start (cell + cells - start) ≡ cell
around_wraps cells start cell s lt = grind (arith, nat_tests)

-- each cell comes on the way round
around_all : (cells start cell : ℕ) → start < cells → cell < cells → (j : ℕ) × (j < cells) × (around cells start j ≡ cell)
around_all cells start cell s c =
    ⊎_elim
    (λ (lt : cell < start). let r : (j : ℕ) × (j < cells) × (around cells start j ≡ cell) = (cell + cells - start, omega arith, around_wraps cells start cell s lt) in r)
    (λ (le : start ≤ cell). let r : (j : ℕ) × (j < cells) × (around cells start j ≡ cell) = (cell - start, omega arith, around_goes cells start cell c le) in r)
    (cases_lt cell start)

passes_each : (P : ℕ → List Probe → List Probe → Type 0) → Adds P → (cells start : ℕ) (scan : List Probe) → start < cells → Passes P cells start cells scan → PassesEach P cells scan
passes_each P adds cells start scan within passes cell lt =
    let j = around_all cells start cell within lt in
    let at = passes_at P adds cells start cells scan passes j.0 j.1 in
    (at.0, at.1, at.2, at.3, subst (λ (c : ℕ). P c at.2 at.1) j.2 at.4)

passes_each_full : (cells start : ℕ) (scan : List Probe) → start < cells → Passes PassedFull cells start cells scan → PassesEach PassedFull cells scan
passes_each_full = passes_each PassedFull passed_full_adds

passes_each_empty : (cells start : ℕ) (scan : List Probe) → start < cells → Passes PassedEmpty cells start cells scan → PassesEach PassedEmpty cells scan
passes_each_empty = passes_each PassedEmpty passed_empty_adds

-- a scan that claimed nothing passed each cell
pub dry_each : (cells count start : ℕ) (v : View) (me : Mine) → FoundNoneFull cells start v me → start < cells → cells ≡ count → PassesEach PassedFull count me.0.last
dry_each cells count start v me found lt same =
    subst (λ (n : ℕ). PassesEach PassedFull n me.0.last) same (
    subst (λ (s : List Probe). PassesEach PassedFull cells s) (sym (ap (λ (m : Mine). m.0.last) found.after)) (passes_each_full cells start found.scan lt found.passes))

pub full_each : (cells count start : ℕ) (v : View) (word : ℕ) (me : Mine) → FoundNoneEmpty cells start v word me → start < cells → cells ≡ count → PassesEach PassedEmpty count me.0.last
full_each cells count start v word me found lt same =
    subst (λ (n : ℕ). PassesEach PassedEmpty n me.0.last) same (
    subst (λ (s : List Probe). PassesEach PassedEmpty cells s) (sym (ap (λ (m : Mine). m.0.last) found.after)) (passes_each_empty cells start found.scan lt found.passes))
