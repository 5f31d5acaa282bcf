-- What the steps of a reader say of the text.
use Rattle.std.proofs.Common.{Bool, List, None, Some, [], ap, arith, drop, false, length, length-append, replicate, refl, suc, sym, subst, take, true, zero, ℕ, ◌&&◌, ◌++◌, ◌+◌, ◌-◌, ◌<◌, ◌∙◌, ◌∷◌, ◌≡◌, ◌≤◌}
use Rattle.std.specs.List.{list_all}
use Rattle.std.specs.Str.{IsUtf8}
use Rattle.std.proofs.lemmas.Str.{IsUtf8-from_ascii}
use Rattle.std.proofs.lemmas.Str.Ascii.{IsAscii-cons, IsAscii-nil}
use Rattle.std.specs.Str.{IsAscii}
use Rattle.std.proofs.lemmas.Bool.Decides.{nat_tests}
use Rattle.std.proofs.lemmas.List.{take-append-drop, take_rest}
use Rattle.sn_names.proofs.Walks.{first_fault, left-First, left-More, left-More-suc, left-More-zero, left-Spaces, left_by}
use Rattle.sn_names.specs.FirstFault.{IsFirstFault}
use Rattle.sn_names.specs.NameText.{IsName, is_name_byte}
use Rattle.sn_names.specs.Parts.Part.{More, Spaces}
use Rattle.sn_names.specs.Parts.{Part, after, is_space, left, name_parts, starts}

and_first : (a b : Bool) → (a && b) ≡ true → a ≡ true
and_first true b h = refl
and_first false b h = h

and_second : (a b : Bool) → (a && b) ≡ true → b ≡ true
and_second true b h = h
and_second false b h = cc

name_byte_ascii : (x : ℕ) → is_name_byte x ≡ true → x < 128
name_byte_ascii x h = grind (arith, nat_tests)

-- names are text
pub ascii_names : (name : List ℕ) → list_all is_name_byte name ≡ true → IsAscii name
ascii_names [] h = IsAscii-nil
ascii_names (x ∷ xs) h = IsAscii-cons x xs (name_byte_ascii x (and_first _ _ h)) (ascii_names xs (and_second _ _ h))

pub utf8_name : (name : List ℕ) → IsName name → IsUtf8 name
utf8_name name h = IsUtf8-from_ascii name (ascii_names name h.plain)

-- after as many bytes of a name as there are, or as there may be, what follows goes on
left-name : (n : ℕ) (parts : List Part) (name rest : List ℕ) → list_all is_name_byte name ≡ true → length name ≤ n → (length name < n → starts is_name_byte rest ≡ false) → left (More n ∷ parts) (name ++ rest) ≡ left parts rest
left-name zero parts [] rest h b next = left-More-zero parts rest
left-name (suc n) parts [] rest h b next = left-More (suc n) parts rest (next (omega arith))
left-name zero parts (x ∷ xs) rest h b next = absurd (omega arith)
left-name (suc n) parts (x ∷ xs) rest h b next =
    left-More-suc n parts x (xs ++ rest) (and_first _ _ h) ∙ left-name n parts xs rest (and_second _ _ h) (omega arith) (λ l. next (omega arith))

pub goes_on_name : (parts : List Part) (name rest : List ℕ) → 0 < length name → list_all is_name_byte name ≡ true → length name ≤ 64 → (length name < 64 → starts is_name_byte rest ≡ false) → left (name_parts parts) (name ++ rest) ≡ left parts rest
goes_on_name parts [] rest p h b next = absurd (omega arith)
goes_on_name parts (x ∷ xs) rest p h b next =
    left-First (More 63 ∷ parts) x (xs ++ rest) (and_first _ _ h) ∙ left-name 63 parts xs rest (and_second _ _ h) (omega arith) (λ l. next (omega arith))

pub left-spaces : (k : ℕ) (parts : List Part) (rest : List ℕ) → starts is_space rest ≡ false → left (Spaces ∷ parts) (replicate k 32 ++ rest) ≡ left parts rest
left-spaces zero parts rest h = left-Spaces parts rest h
left-spaces (suc k) parts rest h = left-spaces k parts rest h

pub append-nil : (xs : List ℕ) → xs ++ [] ≡ xs
append-nil [] = refl
append-nil (x ∷ xs) = ap (λ ys. x ∷ ys) (append-nil xs)

name_goes : (t : List ℕ) → IsName t → left (name_parts []) t ≡ None
name_goes t h = ap (left (name_parts [])) (sym (append-nil t)) ∙ goes_on_name [] t [] h.filled h.plain h.short (λ l. refl)

-- a part of a name's bytes, and what follows it
pub record MoreThen (n : ℕ) (parts : List Part) (text : List ℕ) : Type 0 where
  pub name : List ℕ
  pub rest : List ℕ
  pub split : text ≡ name ++ rest
  pub plain : list_all is_name_byte name ≡ true
  pub short : length name ≤ n
  pub goes : left parts rest ≡ None

none_more : (n : ℕ) (parts : List Part) (text : List ℕ) → left parts text ≡ None → MoreThen n parts text
none_more n parts text e = record { name = []; rest = text; split = refl; plain = refl; short = omega arith; goes = e }

more_by : (b : Bool) (n : ℕ) (parts : List Part) (x : ℕ) (xs : List ℕ) → is_name_byte x ≡ b → (left (More n ∷ parts) xs ≡ None → MoreThen n parts xs) → left_by xs (More n ∷ parts) (after parts x) b ≡ None → MoreThen (suc n) parts (x ∷ xs)
more_by true n parts x xs t more e =
    let m = more e in
    record { name = x ∷ m.name; rest = m.rest; split = ap (λ ys. x ∷ ys) m.split; plain = ap (λ b. b && list_all is_name_byte m.name) t ∙ m.plain; short = let s = m.short in omega arith; goes = m.goes }
more_by false n parts x xs t more e = none_more (suc n) parts (x ∷ xs) e

pub more_then : (n : ℕ) (parts : List Part) (text : List ℕ) → left (More n ∷ parts) text ≡ None → MoreThen n parts text
more_then n parts [] e = none_more n parts [] e
more_then zero parts (x ∷ xs) e = none_more zero parts (x ∷ xs) e
more_then (suc n) parts (x ∷ xs) e = more_by (is_name_byte x) n parts x xs refl (more_then n parts xs) e

-- a name, and what follows it
pub record NameThen (parts : List Part) (text : List ℕ) : Type 0 where
  pub name : List ℕ
  pub rest : List ℕ
  pub split : text ≡ name ++ rest
  pub valid : IsName name
  pub goes : left parts rest ≡ None

first_by : (b : Bool) (parts : List Part) (x : ℕ) (xs : List ℕ) → is_name_byte x ≡ b → left_by xs (More 63 ∷ parts) None b ≡ None → NameThen parts (x ∷ xs)
first_by true parts x xs t e =
    let m = more_then 63 parts xs e in
    record { name = x ∷ m.name; rest = m.rest; split = ap (λ ys. x ∷ ys) m.split; valid = record { filled = omega arith; short = let s = m.short in omega arith; plain = ap (λ b. b && list_all is_name_byte m.name) t ∙ m.plain }; goes = m.goes }
first_by false parts x xs t e = cc

pub name_then : (parts : List Part) (text : List ℕ) → left (name_parts parts) text ≡ None → NameThen parts text
name_then parts [] e = cc
name_then parts (x ∷ xs) e = first_by (is_name_byte x) parts x xs refl e

name_alone : (t rest : List ℕ) → left [] rest ≡ None → t ++ rest ≡ t
name_alone t [] e = append-nil t
name_alone t (x ∷ xs) e = cc

name_came : (t : List ℕ) → left (name_parts []) t ≡ None → IsName t
name_came t e = let n = name_then [] t e in subst IsName (sym (n.split ∙ name_alone n.name n.rest n.goes)) n.valid

pub name_first_fault : (text : List ℕ) (rest at : ℕ) → left (name_parts []) text ≡ Some rest → at + rest ≡ length text → IsFirstFault IsName text at
name_first_fault text rest at e sum = first_fault IsName (name_parts []) text rest at (refl, tt) name_goes name_came e sum

pub after_spaces_goes : (text : List ℕ) (n : ℕ) → take n text ≡ replicate n 32 → starts is_space (drop n text) ≡ false → (parts : List Part) → left (Spaces ∷ parts) text ≡ left parts (take (length text - n) (drop n text))
after_spaces_goes text n s next parts =
    ap (left (Spaces ∷ parts)) (sym (take-append-drop n text) ∙ ap (λ t. t ++ drop n text) s) ∙ left-spaces n parts (drop n text) next ∙ ap (left parts) (sym (take_rest text n))

pub split_name_goes : (text name rest : List ℕ) → text ≡ name ++ rest → 0 < length name → list_all is_name_byte name ≡ true → length name ≤ 64 → (length name < 64 → starts is_name_byte rest ≡ false) → (parts : List Part) → left (name_parts parts) text ≡ left parts rest
split_name_goes text name rest e p h b next parts = ap (left (name_parts parts)) e ∙ goes_on_name parts name rest p h b next

-- a name with more behind it is no name
pub split_name_fault : (text name rest : List ℕ) → text ≡ name ++ rest → 0 < length rest → left (name_parts []) text ≡ left [] rest → IsFirstFault IsName text (length name)
split_name_fault text name [] e more goes = absurd (omega arith)
split_name_fault text name (x ∷ rest) e more goes =
    name_first_fault text (length (x ∷ rest)) (length name) goes (sym (length-append name (x ∷ rest)) ∙ ap length (sym e))

pub left-nothing : (rest : List ℕ) → 0 < length rest → left [] rest ≡ Some (length rest)
left-nothing [] h = absurd (omega arith)
left-nothing (x ∷ xs) h = refl
