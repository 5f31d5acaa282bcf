-- A text's lines, by the first of them.
use Rattle.std.proofs.Common.{Bool, List, [], ap, arith, cond, drop, false, length, not, refl, subst, sym, true, ℕ, ◌+◌, ◌<◌, ◌∙◌, ◌∷◌, ◌≡◌, ◌≤◌, Result, Ok, Err}
use Rattle.sn_scenario.specs.Cutting.{behind, front, is_feed, is_no_feed, lines_of, onto, without_return}
use Rattle.sn_scenario.specs.Parsing.{Refuses, fault_at}
use Rattle.sn_scenario.specs.Results.{Fails}
use Rattle.sn_scenario.specs.ScenarioText.{Reading, at_line, finish, line_gives, lines_from, read_on}
use Rattle.sn_scenario.specs.Scenarios.{ScenarioForm}
use Rattle.sn_scenario.specs.declared.fault.LineFault.{LineFault}
use Rattle.sn_scenario.specs.declared.fault.LineFault.TheVariants.{Bad, OutOfMemory}
use Rattle.sn_scenario.specs.declared.fault.ParseFault.{ParseFault}
use Rattle.sn_scenario.specs.declared.fault.ScenarioFault.{ScenarioFault}
use Rattle.sn_scenario.specs.declared.why.Why.{Why}

abbrev lines_by : ℕ → List (List ℕ) → Bool → List (List ℕ)
lines_by x more feeds = cond feeds ([] ∷ more) (onto x more)

lines-cons : (x : ℕ) (xs : List ℕ) → lines_of (x ∷ xs) ≡ lines_by x (lines_of xs) (is_feed x)
unfolding lines_of
lines-cons x xs = refl

pub lines-nil : lines_of [] ≡ []
unfolding lines_of
lines-nil = refl

first_by : (b : Bool) (x : ℕ) (xs : List ℕ) → is_feed x ≡ b → (0 < length xs → lines_of xs ≡ front is_no_feed xs ∷ lines_of (drop 1 (behind is_no_feed xs))) → lines_by x (lines_of xs) b ≡ cond (not b) (x ∷ front is_no_feed xs) [] ∷ lines_of (drop 1 (cond (not b) (behind is_no_feed xs) (x ∷ xs)))
first_by true x xs t more = refl
first_by false x [] t more = ap (onto x) lines-nil ∙ ap (λ lines. (x ∷ []) ∷ lines) (sym lines-nil)
first_by false x (y ∷ ys) t more = ap (onto x) (more (omega arith))

-- the first line, and the lines of what follows it
pub lines_first : (text : List ℕ) → 0 < length text → lines_of text ≡ front is_no_feed text ∷ lines_of (drop 1 (behind is_no_feed text))
lines_first [] h = absurd (omega arith)
lines_first (x ∷ xs) h = lines-cons x xs ∙ first_by (is_feed x) x xs refl (lines_first xs)

behind_within : (p : ℕ → Bool) (xs : List ℕ) → length (behind p xs) ≤ length xs
behind_within p [] = omega arith
behind_within p (x ∷ xs) = within_by (p x) (behind_within p xs)
  where
    within_by : (b : Bool) → length (behind p xs) ≤ length xs → length (cond b (behind p xs) (x ∷ xs)) ≤ length (x ∷ xs)
    within_by true h = omega arith
    within_by false h = omega arith

drop_less : (xs : List ℕ) (n : ℕ) → length xs ≤ n → 0 < n → length (drop 1 xs) < n
drop_less [] n h some = omega arith
drop_less (x ∷ xs) n h some = omega arith

-- what follows the first line is shorter
pub behind_less : (text : List ℕ) → 0 < length text → length (drop 1 (behind is_no_feed text)) < length text
behind_less text some = drop_less (behind is_no_feed text) (length text) (behind_within is_no_feed text) some

lines-step : (number : ℕ) (line : List ℕ) (lines : List (List ℕ)) (r : Reading) → lines_from number (line ∷ lines) r ≡ read_on number (line_gives r (without_return line)) (lines_from (number + 1) lines)
unfolding lines_from
lines-step number line lines r = refl

lines-end : (number : ℕ) (r : Reading) → lines_from number [] r ≡ at_line number (finish r)
unfolding lines_from
lines-end number r = refl

-- no line is left
pub read_end : (number : ℕ) (text : List ℕ) (r : Reading) → length text ≡ 0 → lines_from number (lines_of text) r ≡ at_line number (finish r)
read_end number [] r h = ap (λ lines. lines_from number lines r) lines-nil ∙ lines-end number r
read_end number (x ∷ xs) r h = absurd (omega arith)

-- a line is read
pub read_next : (number : ℕ) (text : List ℕ) (r next : Reading) → 0 < length text → line_gives r (without_return (front is_no_feed text)) ≡ Ok next → lines_from number (lines_of text) r ≡ lines_from (number + 1) (lines_of (drop 1 (behind is_no_feed text))) next
read_next number text r next some e =
    ap (λ lines. lines_from number lines r) (lines_first text some)
    ∙ lines-step number (front is_no_feed text) (lines_of (drop 1 (behind is_no_feed text))) r
    ∙ ap (λ read. read_on number read (lines_from (number + 1) (lines_of (drop 1 (behind is_no_feed text))))) e

-- a line is faulty
pub read_fault : (number : ℕ) (text : List ℕ) (r : Reading) (why : Why) → 0 < length text → line_gives r (without_return (front is_no_feed text)) ≡ Err why → lines_from number (lines_of text) r ≡ Err (record { line = number; why = why })
read_fault number text r why some e =
    ap (λ lines. lines_from number lines r) (lines_first text some)
    ∙ lines-step number (front is_no_feed text) (lines_of (drop 1 (behind is_no_feed text))) r
    ∙ ap (λ read. read_on number read (lines_from (number + 1) (lines_of (drop 1 (behind is_no_feed text))))) e

pub ruleset lining = (read_end, read_next, read_fault, behind_less)

-- what a line's fault says of the text
pub read_refused : (number : ℕ) (text line short : List ℕ) (r : Reading) (fault : LineFault) (refusal : ParseFault) (all : Result ScenarioForm ScenarioFault) → 0 < length text → line ≡ front is_no_feed text → short ≡ without_return line → refusal ≡ fault_at number fault → all ≡ lines_from number (lines_of text) r → Fails fault (line_gives r short) → Refuses refusal all
read_refused number text line short r OutOfMemory refusal all some l s e a f = subst (λ p. Refuses p all) (sym e) tt
read_refused number text line short r (Bad why) refusal all some l s e a f =
    let given : line_gives r (without_return (front is_no_feed text)) ≡ Err why = ap (λ t. line_gives r (without_return t)) (sym l) ∙ ap (line_gives r) (sym s) ∙ f in
    subst (λ p. Refuses p all) (sym e) (a ∙ read_fault number text r why some given)
