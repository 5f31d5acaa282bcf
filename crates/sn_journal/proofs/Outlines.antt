-- A text has one outline, or one first fault.
use Rattle.std.proofs.Common.{List, None, Some, [], ap, append_assoc, arith, drop, length, map, refl, subst, sym, true, ℕ, ◌++◌, ◌+◌, ◌<◌, ◌∙◌, ◌∷◌, ◌≡◌}
use Rattle.std.proofs.lemmas.Bool.{and_parts}
use Rattle.std.proofs.lemmas.List.{append-nil, length-map}
use Rattle.std.specs.List.{concat, list_all}
use Rattle.sn_journal.specs.Cutting.{behind, front, is_no_feed, read_line}
use Rattle.sn_journal.specs.JournalText.{fits, line_text, lines_text}
use Rattle.sn_journal.specs.Outline.{IsFirstFault, IsOutline, cut_lines}
use Rattle.sn_journal.specs.declared.fault.OutlineFault.TheVariants as OutlineFault
use Rattle.sn_journal.specs.declared.line.Line.{Line}
use Rattle.sn_journal.proofs.LineCuts.{all_formed, cut_behind, first_cut, no_fault}
use Rattle.sn_journal.proofs.LineTexts.{first_behind, first_read}

-- the text begins with no line of the form
abbrev pub IsFaulty : List ℕ → Type 0
IsFaulty text = (line : Line) (rest : List ℕ) → fits line ≡ true → text ≡ line_text line ++ rest → ⊥

-- two texts that begin with lines are equal only where the lines are, and what follows them
one_line : (a b : Line) (x y : List ℕ) → fits a ≡ true → fits b ≡ true → line_text a ++ x ≡ line_text b ++ y → (a ≡ b) × (x ≡ y)
one_line a b x y p q e =
    let text = line_text b ++ y in
    let read : Some a ≡ Some b = sym (first_read a text x p (sym e)) ∙ first_read b text y q refl in
    let rest : 10 ∷ x ≡ 10 ∷ y = sym (first_behind a text x p (sym e)) ∙ first_behind b text y q refl in
    let same : a ≡ b = cc in
    (same, ap (drop 1) rest)

-- nothing begins with no line
pub faulty-nil : IsFaulty []
faulty-nil = λ line rest fit e. let no : [] ≡ 10 ∷ rest = first_behind line [] rest fit e in cc

-- nor does what has no byte 10
pub faulty_unended : (text : List ℕ) → length (behind is_no_feed text) ≡ 0 → IsFaulty text
faulty_unended text none = λ line rest fit e.
    let ended : length (behind is_no_feed text) ≡ length (10 ∷ rest) = ap length (first_behind line text rest fit e) in
    omega (arith, ended, none)

-- nor does what isn't read up to its first
pub faulty_unread : (text bytes : List ℕ) → bytes ≡ front is_no_feed text → None ≡ read_line bytes → IsFaulty text
faulty_unread text bytes f none = λ line rest fit e.
    let read : None ≡ Some line = none ∙ ap read_line f ∙ first_read line text rest fit e in cc

-- lines, and behind them what begins with none
pub alike : (these those : List Line) (x y : List ℕ) → list_all fits these ≡ true → list_all fits those ≡ true
    → IsFaulty x → IsFaulty y
    → lines_text these ++ x ≡ lines_text those ++ y → (these ≡ those) × (x ≡ y)
alike [] [] x y p q f g e = (refl, e)
alike [] (b ∷ those) x y p q f g e =
    absurd (f b (lines_text those ++ y) (and_parts (fits b) (list_all fits those) q).0
    (e ∙ append_assoc (line_text b) (lines_text those) y))
alike (a ∷ these) [] x y p q f g e =
    absurd (g a (lines_text these ++ x) (and_parts (fits a) (list_all fits these) p).0
    (sym e ∙ append_assoc (line_text a) (lines_text these) x))
alike (a ∷ these) (b ∷ those) x y p q f g e =
    let here = and_parts (fits a) (list_all fits these) p in
    let there = and_parts (fits b) (list_all fits those) q in
    let one = one_line a b (lines_text these ++ x) (lines_text those ++ y) here.0 there.0
    (sym (append_assoc (line_text a) (lines_text these) x) ∙ e ∙ append_assoc (line_text b) (lines_text those) y) in
    let more = alike these those x y here.1 there.1 f g one.1 in
    (ap (λ line. line ∷ these) one.0 ∙ ap (λ lines. b ∷ lines) more.0, more.1)

-- a text has one outline
pub one_outline : (text : List ℕ) (these those : List Line) → IsOutline text these → IsOutline text those → these ≡ those
one_outline text these those a b =
    (alike these those [] [] a.fit b.fit faulty-nil faulty-nil
    (append-nil (lines_text these) ∙ sym a.spelled ∙ b.spelled ∙ sym (append-nil (lines_text those)))).0

-- a text with a first fault has none
pub no_outline : (text : List ℕ) (n : ℕ) (lines : List Line) → IsFirstFault text n → IsOutline text lines → ⊥
no_outline text n lines fault read = no_fault lines n read.fit (subst (λ t. IsFirstFault t n) read.spelled fault)

-- nothing is left
pub outline_end : (text rest : List ℕ) (lines : List Line) → length rest ≡ 0 → text ≡ lines_text lines ++ rest
    → list_all fits lines ≡ true → IsOutline text lines
outline_end text [] lines none read all = record { spelled = read ∙ append-nil (lines_text lines); fit = all }
outline_end text (x ∷ xs) lines none read all = absurd (omega arith)

-- line n is at fault, behind the lines that were read
pub fault_at : (text rest : List ℕ) (lines : List Line) (m n : ℕ) → text ≡ lines_text lines ++ rest → list_all fits lines ≡ true
    → length lines + 1 ≡ m → OutlineFault.Line m ≡ OutlineFault.Line n → 0 < length rest → IsFaulty rest → IsFirstFault text n
fault_at text rest lines m n read all counted told some faulty =
    let same : m ≡ n = cc in
    let first = first_cut rest some in
    record {
      before = map line_text lines;
      bytes = first.first;
      behind = first.more;
      cut =
          ap cut_lines read
          ∙ cut_behind lines rest all
          ∙ ap (λ (cut : List (List ℕ)). map line_text lines ++ cut) first.cut;
      counted = omega (arith, length-map lines line_text, counted, same);
      formed = all_formed lines all;
      faulty = λ formed. faulty formed.line (concat first.more) formed.fit (
          first.begins ∙ ap (λ (t : List ℕ). t ++ concat first.more) formed.spelled);
    }
