-- A text cut into lines.
use Rattle.std.proofs.Common.{Bool, List, [], ap, append_assoc, arith, cond, false, length, map, refl, subst, suc, sym, true, zero, ℕ, ◌++◌, ◌<◌, ◌==◌, ◌∙◌, ◌∷◌, ◌≡◌}
use Rattle.std.proofs.lemmas.Bool.{and_parts}
use Rattle.std.proofs.lemmas.Bool.Decides.{nat_tests}
use Rattle.std.proofs.lemmas.List.{append-nil}
use Rattle.std.specs.List.{All, concat, list_all}
use Rattle.sn_journal.specs.Cutting.{is_no_feed, onto}
use Rattle.sn_journal.specs.JournalText.{fits, line_text, lines_text}
use Rattle.sn_journal.specs.Outline.{IsFirstFault, IsFormed, cut_lines}
use Rattle.sn_journal.specs.declared.line.Line.{Line}
use Rattle.sn_journal.proofs.LineTexts.{bytes_plain, line_bytes, line_ended}

abbrev cut_by : ℕ → List (List ℕ) → Bool → List (List ℕ)
cut_by x more ends = cond ends ((x ∷ []) ∷ more) (onto x more)

cut-cons : (x : ℕ) (xs : List ℕ) → cut_lines (x ∷ xs) ≡ cut_by x (cut_lines xs) (x == 10)
unfolding cut_lines
cut-cons x xs = refl

pub cut-nil : cut_lines [] ≡ []
unfolding cut_lines
cut-nil = refl

-- bytes without a byte 10, and one behind them
cut_ended : (bytes rest : List ℕ) → list_all is_no_feed bytes ≡ true
    → cut_lines (bytes ++ 10 ∷ rest) ≡ (bytes ++ 10 ∷ []) ∷ cut_lines rest
cut_ended [] rest plain = cut-cons 10 rest
cut_ended (x ∷ xs) rest plain =
    let parts = and_parts (is_no_feed x) (list_all is_no_feed xs) plain in
    let other : (x == 10) ≡ false = grind (arith, nat_tests) in
    cut-cons x (xs ++ 10 ∷ rest)
    ∙ ap (cut_by x (cut_lines (xs ++ 10 ∷ rest))) other
    ∙ ap (onto x) (cut_ended xs rest parts.1)

cut_line : (line : Line) (rest : List ℕ) → fits line ≡ true → cut_lines (line_text line ++ rest) ≡ line_text line ∷ cut_lines rest
cut_line line rest fit =
    ap cut_lines (line_ended line rest)
    ∙ cut_ended (line_bytes line) rest (bytes_plain line fit)
    ∙ ap (λ (bytes : List ℕ). bytes ∷ cut_lines rest) (sym (line_ended line []) ∙ append-nil (line_text line))

-- the lines of a text that begins with lines
pub cut_behind : (lines : List Line) (rest : List ℕ) → list_all fits lines ≡ true
    → cut_lines (lines_text lines ++ rest) ≡ map line_text lines ++ cut_lines rest
cut_behind [] rest fit = refl
cut_behind (line ∷ lines) rest fit =
    let parts = and_parts (fits line) (list_all fits lines) fit in
    ap cut_lines (append_assoc (line_text line) (lines_text lines) rest)
    ∙ cut_line line (lines_text lines ++ rest) parts.0
    ∙ ap (λ (cut : List (List ℕ)). line_text line ∷ cut) (cut_behind lines rest parts.1)

-- of a list of lines of the form, the first, those behind it, and one more
formed_first : (bytes : List ℕ) (more : List (List ℕ)) → All IsFormed (bytes ∷ more) → IsFormed bytes
formed_first bytes more all = all 0 [] (omega arith)

formed_rest : (bytes : List ℕ) (more : List (List ℕ)) → All IsFormed (bytes ∷ more) → All IsFormed more
formed_rest bytes more all = λ k d less. all (suc k) d (omega arith)

formed_more : (bytes : List ℕ) (more : List (List ℕ)) → IsFormed bytes → All IsFormed more → All IsFormed (bytes ∷ more)
formed_more bytes more one all zero d less = one
formed_more bytes more one all (suc k) d less = all k d (omega arith)

-- they are of the form
pub all_formed : (lines : List Line) → list_all fits lines ≡ true → All IsFormed (map line_text lines)
all_formed [] fit = λ k d less. absurd (omega arith)
all_formed (line ∷ lines) fit =
    let parts = and_parts (fits line) (list_all fits lines) fit in
    let one : IsFormed (line_text line) = record { line = line; fit = parts.0; spelled = refl } in
    formed_more (line_text line) (map line_text lines) one (all_formed lines parts.1)

-- the lines together are the text
onto_joined : (x : ℕ) (lines : List (List ℕ)) → concat (onto x lines) ≡ x ∷ concat lines
onto_joined x [] = refl
onto_joined x (line ∷ lines) = refl

joined_by : (x : ℕ) (xs : List ℕ) (ends : Bool) → concat (cut_lines xs) ≡ xs → concat (cut_by x (cut_lines xs) ends) ≡ x ∷ xs
joined_by x xs true more = ap (λ (t : List ℕ). x ∷ t) more
joined_by x xs false more = onto_joined x (cut_lines xs) ∙ ap (λ (t : List ℕ). x ∷ t) more

cut_joined : (text : List ℕ) → concat (cut_lines text) ≡ text
cut_joined [] = ap concat cut-nil
cut_joined (x ∷ xs) = ap concat (cut-cons x xs) ∙ joined_by x xs (x == 10) (cut_joined xs)

-- a text that isn't empty has a first line
pub record FirstCut (text : List ℕ) : Type 0 where
  pub first : List ℕ
  pub more : List (List ℕ)
  pub cut : cut_lines text ≡ first ∷ more
  pub begins : text ≡ first ++ concat more

first_of : (text : List ℕ) (lines : List (List ℕ)) → 0 < length text → cut_lines text ≡ lines → FirstCut text
first_of text [] some cut =
    let none : [] ≡ text = sym (ap concat cut) ∙ cut_joined text in absurd (omega (arith, ap length none, some))
first_of text (line ∷ lines) some cut =
    record { first = line; more = lines; cut = cut; begins = sym (cut_joined text) ∙ ap concat cut }

pub first_cut : (text : List ℕ) → 0 < length text → FirstCut text
first_cut text some = first_of text (cut_lines text) some refl

-- a text has one first line that isn't of the form
alone : (before others : List (List ℕ)) (bytes other : List ℕ) (behind after : List (List ℕ)) → All IsFormed before
    → All IsFormed others
    → (IsFormed bytes → ⊥) → (IsFormed other → ⊥) → before ++ bytes ∷ behind ≡ others ++ other ∷ after
    → length before ≡ length others
alone [] [] bytes other behind after p q f g e = refl
alone [] (b ∷ others) bytes other behind after p q f g e =
    let same : b ≡ bytes = cc in absurd (f (subst IsFormed same (formed_first b others q)))
alone (a ∷ before) [] bytes other behind after p q f g e =
    let same : a ≡ other = cc in absurd (g (subst IsFormed same (formed_first a before p)))
alone (a ∷ before) (b ∷ others) bytes other behind after p q f g e =
    let more : before ++ bytes ∷ behind ≡ others ++ other ∷ after = cc in
    omega (arith, alone before others bytes other behind after (formed_rest a before p) (formed_rest b others q) f g more)

pub one_fault : (text : List ℕ) (m n : ℕ) → IsFirstFault text m → IsFirstFault text n → m ≡ n
one_fault text m n a b =
    let cut = sym a.cut ∙ b.cut in
    let same = alone a.before b.before a.bytes b.bytes a.behind b.behind a.formed b.formed a.faulty b.faulty cut in
    omega (arith, same, a.counted, b.counted)

-- lines of the form alone have none
none_faulty : (lines before : List (List ℕ)) (bytes : List ℕ) (behind : List (List ℕ)) → All IsFormed lines → (IsFormed bytes → ⊥)
    → lines ≡ before ++ bytes ∷ behind → ⊥
none_faulty [] [] bytes behind all faulty e = cc
none_faulty [] (b ∷ before) bytes behind all faulty e = cc
none_faulty (line ∷ lines) [] bytes behind all faulty e =
    let same : line ≡ bytes = cc in faulty (subst IsFormed same (formed_first line lines all))
none_faulty (line ∷ lines) (b ∷ before) bytes behind all faulty e =
    let more : lines ≡ before ++ bytes ∷ behind = cc in
    none_faulty lines before bytes behind (formed_rest line lines all) faulty more

pub no_fault : (lines : List Line) (n : ℕ) → list_all fits lines ≡ true → IsFirstFault (lines_text lines) n → ⊥
no_fault lines n fit fault =
    let whole : cut_lines (lines_text lines) ≡ map line_text lines =
    ap cut_lines (sym (append-nil (lines_text lines)))
    ∙ cut_behind lines [] fit
    ∙ ap (λ (cut : List (List ℕ)). map line_text lines ++ cut) cut-nil
    ∙ append-nil (map line_text lines)
    in
    none_faulty (map line_text lines) fault.before fault.bytes fault.behind (all_formed lines fit) fault.faulty
    (sym whole ∙ fault.cut)
