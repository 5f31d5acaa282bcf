-- The runs of bytes that pass: the tokens of a line, and the names of a link's text.
use Rattle.std.proofs.Common.{Bool, List, None, Option, Some, [], ap, append_assoc, arith, cond, false, is_none, length, refl, suc, sym, true, zero, ℕ, ◌++◌, ◌<◌, ◌∙◌, ◌∷◌, ◌≡◌, not}
use Rattle.std.proofs.lemmas.Bool.{and_parts}
use Rattle.std.specs.List.{list_all}
use Rattle.sn_names.specs.LinkText.{IsLinkText}
use Rattle.sn_names.specs.NameText.{IsName, is_name_byte}
use Rattle.sn_names.specs.Parts.{left, link_parts, starts}
use Rattle.sn_names.specs.Spelled.{port_text, spaces}
use Rattle.sn_names.specs.declared.link.LinkSpec.{LinkSpec}
use Rattle.sn_scenario.specs.Cutting.{behind, behind_token, first_token, front, is_blank, is_token_byte, joined, runs, tokens}
use Rattle.sn_scenario.specs.Leaves.{link_of, link_of_names}

abbrev pub runs_by : ℕ → Bool → List (List ℕ) → Bool → List (List ℕ)
runs_by x next more passes = cond passes (joined x next more) more

pub runs-cons : (p : ℕ → Bool) (x : ℕ) (xs : List ℕ) → runs p (x ∷ xs) ≡ runs_by x (starts p xs) (runs p xs) (p x)
unfolding runs
runs-cons p x xs = refl

pub runs-nil : (p : ℕ → Bool) → runs p [] ≡ []
unfolding runs
runs-nil p = refl

pub runs_skip : (p : ℕ → Bool) (x : ℕ) (xs : List ℕ) → p x ≡ false → runs p (x ∷ xs) ≡ runs p xs
runs_skip p x xs h = runs-cons p x xs ∙ ap (runs_by x (starts p xs) (runs p xs)) h

pub runs_word : (p : ℕ → Bool) (word rest : List ℕ) → list_all p word ≡ true → 0 < length word → starts p rest ≡ false → runs p (word ++ rest) ≡ word ∷ runs p rest
runs_word p [] rest h some next = absurd (omega arith)
runs_word p (x ∷ []) rest h some next =
    let a = and_parts (p x) true h in
    runs-cons p x rest ∙ ap (runs_by x (starts p rest) (runs p rest)) a.0 ∙ ap (λ b. joined x b (runs p rest)) next
runs_word p (x ∷ y ∷ ys) rest h some next =
    let a = and_parts (p x) (list_all p (y ∷ ys)) h in
    let b = and_parts (p y) (list_all p ys) a.1 in
    runs-cons p x (y ∷ (ys ++ rest))
    ∙ ap (runs_by x (p y) (runs p (y ∷ (ys ++ rest)))) a.0
    ∙ ap (λ b. joined x b (runs p (y ∷ (ys ++ rest)))) b.0
    ∙ ap (joined x true) (runs_word p (y ∷ ys) rest a.1 (omega arith) next)

runs_spaces : (n : ℕ) (rest : List ℕ) → runs is_name_byte (spaces n ++ rest) ≡ runs is_name_byte rest
runs_spaces zero rest = refl
runs_spaces (suc n) rest = runs_skip is_name_byte 32 (spaces n ++ rest) refl ∙ runs_spaces n rest

runs_name : (name rest : List ℕ) → IsName name → starts is_name_byte rest ≡ false → runs is_name_byte (name ++ rest) ≡ name ∷ runs is_name_byte rest
runs_name name rest h next = let some = h.filled in runs_word is_name_byte name rest h.plain (omega arith) next

runs_port : (app port rest : List ℕ) → IsName app → IsName port → starts is_name_byte rest ≡ false → runs is_name_byte (port_text app port ++ rest) ≡ app ∷ port ∷ runs is_name_byte rest
runs_port app port rest a p next =
    ap (runs is_name_byte) (append_assoc app (46 ∷ port) rest)
    ∙ runs_name app (46 ∷ port ++ rest) a refl
    ∙ ap (λ more. app ∷ more) (runs_skip is_name_byte 46 (port ++ rest) refl ∙ runs_name port rest p next)

no_name_first : (n : ℕ) (rest : List ℕ) → starts is_name_byte rest ≡ false → starts is_name_byte (spaces n ++ rest) ≡ false
no_name_first zero rest h = h
no_name_first (suc n) rest h = refl

append-nil : (xs : List ℕ) → xs ++ [] ≡ xs
append-nil [] = refl
append-nil (x ∷ xs) = ap (λ ys. x ∷ ys) (append-nil xs)

no_name_end : (n : ℕ) → starts is_name_byte (spaces n) ≡ false
no_name_end zero = refl
no_name_end (suc n) = refl

runs_end : (n : ℕ) → runs is_name_byte (spaces n) ≡ []
runs_end n = ap (runs is_name_byte) (sym (append-nil (spaces n))) ∙ runs_spaces n [] ∙ runs-nil is_name_byte

link_names : (text : List ℕ) (link : LinkSpec) → IsLinkText text link → runs is_name_byte text ≡ link.from ∷ link.out ∷ link.to ∷ link.input ∷ []
link_names text link h =
    let tail = port_text link.to link.input ++ spaces h.after in
    let arrow = spaces h.left ++ (45 ∷ 62 ∷ (spaces h.right ++ tail)) in
    ap (runs is_name_byte) h.spelled
    ∙ runs_spaces h.before (port_text link.from link.out ++ arrow)
    ∙ runs_port link.from link.out arrow h.from_name h.out_name (no_name_first h.left (45 ∷ 62 ∷ (spaces h.right ++ tail)) refl)
    ∙ ap (λ more. link.from ∷ link.out ∷ more) (
    runs_spaces h.left (45 ∷ 62 ∷ (spaces h.right ++ tail))
    ∙ runs_skip is_name_byte 45 (62 ∷ (spaces h.right ++ tail)) refl
    ∙ runs_skip is_name_byte 62 (spaces h.right ++ tail) refl
    ∙ runs_spaces h.right tail
    ∙ runs_port link.to link.input (spaces h.after) h.to_name h.input_name (no_name_end h.after)
    ∙ ap (λ more. link.to ∷ link.input ∷ more) (runs_end h.after))

abbrev link_by : List ℕ → Option ℕ → Option LinkSpec
link_by text rest = cond (is_none rest) (link_of_names (runs is_name_byte text)) None

pub link_found : (text : List ℕ) (link : LinkSpec) → IsLinkText text link → left link_parts text ≡ None → link_of text ≡ Some link
unfolding link_of
link_found text link h e = ap (link_by text) e ∙ ap link_of_names (link_names text link h)

pub link_none : (text : List ℕ) (rest : ℕ) → left link_parts text ≡ Some rest → link_of text ≡ None
unfolding link_of
link_none text rest e = ap (link_by text) e

-- a line's tokens, by the first of them
skip_blanks : (xs : List ℕ) → runs is_token_byte xs ≡ runs is_token_byte (behind is_blank xs)
skip_blanks [] = refl
skip_blanks (x ∷ xs) = skip_by (is_blank x) x xs refl (skip_blanks xs)
  where
    skip_by : (b : Bool) (x : ℕ) (xs : List ℕ) → is_blank x ≡ b → runs is_token_byte xs ≡ runs is_token_byte (behind is_blank xs) → runs is_token_byte (x ∷ xs) ≡ runs is_token_byte (cond b (behind is_blank xs) (x ∷ xs))
    skip_by true x xs t e = runs_skip is_token_byte x xs (ap not t) ∙ e
    skip_by false x xs t e = refl

-- what a text begins with after its blanks passes, or there is nothing
no_blank_first : (xs : List ℕ) → starts is_blank (behind is_blank xs) ≡ false
no_blank_first [] = refl
no_blank_first (x ∷ xs) = first_by (is_blank x) x xs refl (no_blank_first xs)
  where
    first_by : (b : Bool) (x : ℕ) (xs : List ℕ) → is_blank x ≡ b → starts is_blank (behind is_blank xs) ≡ false → starts is_blank (cond b (behind is_blank xs) (x ∷ xs)) ≡ false
    first_by true x xs t e = e
    first_by false x xs t e = t

joined_first : (p : ℕ → Bool) (x : ℕ) (xs : List ℕ) → (starts p xs ≡ true → runs p xs ≡ front p xs ∷ runs p (behind p xs)) → (b : Bool) → starts p xs ≡ b → joined x b (runs p xs) ≡ (x ∷ front p xs) ∷ runs p (behind p xs)
joined_first p x xs more true e = ap (joined x true) (more e)
joined_first p x [] more false e = refl
joined_first p x (y ∷ ys) more false e =
    ap (λ b. (x ∷ cond b (y ∷ front p ys) []) ∷ runs p (cond b (behind p ys) (y ∷ ys))) (sym e)

pub runs_first : (p : ℕ → Bool) (xs : List ℕ) → starts p xs ≡ true → runs p xs ≡ front p xs ∷ runs p (behind p xs)
runs_first p [] e = cc
runs_first p (x ∷ xs) e =
    runs-cons p x xs
    ∙ ap (runs_by x (starts p xs) (runs p xs)) e
    ∙ joined_first p x xs (runs_first p xs) (starts p xs) refl
    ∙ ap (λ b. cond b (x ∷ front p xs) [] ∷ runs p (cond b (behind p xs) (x ∷ xs))) (sym e)

tokens_by : (xs : List ℕ) → starts is_blank xs ≡ false → (b : Bool) → starts is_token_byte xs ≡ b → runs is_token_byte xs ≡ cond b (front is_token_byte xs ∷ runs is_token_byte (behind is_token_byte xs)) []
tokens_by xs none true e = runs_first is_token_byte xs e
tokens_by [] none false e = runs-nil is_token_byte
tokens_by (x ∷ xs) none false e = let yes : is_token_byte x ≡ true = ap not none in cc

-- no token, or the first and those behind it
pub tokens_cut : (line : List ℕ) → tokens line ≡ cond (starts is_token_byte (behind is_blank line)) (first_token line ∷ tokens (behind_token line)) []
tokens_cut line = skip_blanks line ∙ tokens_by (behind is_blank line) (no_blank_first line) (starts is_token_byte (behind is_blank line)) refl

starts_front : (p : ℕ → Bool) (xs : List ℕ) (b : Bool) → starts p xs ≡ b → (0 < length (front p xs) → b ≡ true)
starts_front p xs true e h = refl
starts_front p [] false e h = absurd (omega arith)
starts_front p (x ∷ xs) false e h =
    let none : length (front p (x ∷ xs)) ≡ 0 = ap (λ b. length (cond b (x ∷ front p xs) [])) e in absurd (omega arith)

pub some_token : (line : List ℕ) → 0 < length (first_token line) → tokens line ≡ first_token line ∷ tokens (behind_token line)
some_token line h =
    tokens_cut line ∙ ap (λ b. cond b (first_token line ∷ tokens (behind_token line)) []) (starts_front is_token_byte (behind is_blank line) (starts is_token_byte (behind is_blank line)) refl h)

front_starts : (p : ℕ → Bool) (xs : List ℕ) → length (front p xs) ≡ 0 → starts p xs ≡ false
front_starts p [] h = refl
front_starts p (x ∷ xs) h = front_by (p x) h
  where
    front_by : (b : Bool) → length (cond b (x ∷ front p xs) []) ≡ 0 → b ≡ false
    front_by true h = absurd (omega arith)
    front_by false h = refl

pub none_token : (line : List ℕ) → length (first_token line) ≡ 0 → tokens line ≡ []
none_token line h =
    tokens_cut line ∙ ap (λ b. cond b (first_token line ∷ tokens (behind_token line)) []) (front_starts is_token_byte (behind is_blank line) h)

pub ruleset cuts = (some_token, none_token)
