-- A word writes one number, or one place and byte.
use Rattle.std.proofs.Common.{Bool, List, [], ap, arith, false, refl, sym, subst, true, ℕ, ◌++◌, ◌<◌, ◌^◌, ◌||◌, ◌∙◌, ◌∷◌, ◌≡◌, ◌≤◌}
use Rattle.std.proofs.lemmas.Bool.Decides.{nat_tests}
use Rattle.std.proofs.lemmas.Fmt.{decimal_injective, decimal_is_IsNumeral}
use Rattle.std.proofs.lemmas.Str.Parse.{digit_from_value}
use Rattle.std.specs.Fmt.{decimal}
use Rattle.std.specs.List.{list_any}
use Rattle.std.specs.Str.Parse.{AllDigits}
use Rattle.sn_config.specs.ArgText.{IsByte, IsNumber}
use Rattle.sn_config.specs.Signs.{is_sign}
use Rattle.sn_names.specs.DecimalText.{IsDecimal}
use Rattle.sn_names.specs.declared.arg.Arg.{Arg}

pub one_number : (word : List ℕ) (low high n : ℕ) (arg : Arg) → high < 2 ^ 64 → IsDecimal word high n → n < low → IsNumber low high word arg → ⊥
one_number word low high n arg fits d small h =
    let a = d.within in
    let b = h.decimal.within in
    let c = h.enough in
    let same : n ≡ h.number = decimal_injective n h.number (omega arith) (omega arith) (sym d.digits ∙ h.decimal.digits) in
    omega arith

pub first_false : (a b : Bool) → (a || b) ≡ false → a ≡ false
first_false true b h = h
first_false false b h = refl

pub second_false : (a b : Bool) → (a || b) ≡ false → b ≡ false
second_false true b h = cc
second_false false b h = h

-- two cuts of a word at its first sign are one
record SameCut (a b c d : List ℕ) : Type 0 where
  front : a ≡ c
  back : b ≡ d

cut_sign : (a b c d : List ℕ) → list_any is_sign a ≡ false → list_any is_sign c ≡ false → a ++ 61 ∷ b ≡ c ++ 61 ∷ d → SameCut a b c d
cut_sign [] b [] d p q e = record { front = refl; back = cc }
cut_sign [] b (y ∷ c) d p q e =
    let same : 61 ≡ y = cc in
    let no : is_sign y ≡ false = first_false (is_sign y) (list_any is_sign c) q in
    let yes : is_sign y ≡ true = subst (λ x. is_sign x ≡ true) same refl in cc
cut_sign (x ∷ a) b [] d p q e =
    let same : 61 ≡ x = cc in
    let no : is_sign x ≡ false = first_false (is_sign x) (list_any is_sign a) p in
    let yes : is_sign x ≡ true = subst (λ y. is_sign y ≡ true) same refl in cc
cut_sign (x ∷ a) b (y ∷ c) d p q e =
    let rest : a ++ 61 ∷ b ≡ c ++ 61 ∷ d = cc in
    let same : x ≡ y = cc in
    let s : SameCut a b c d = cut_sign a b c d (second_false (is_sign x) (list_any is_sign a) p) (second_false (is_sign y) (list_any is_sign c) q) rest in
    let f : a ≡ c = s.front in
    record { front = cc; back = s.back }

no_sign_digits : (ds : List ℕ) → AllDigits 10 ds → list_any is_sign ds ≡ false
no_sign_digits [] h = refl
no_sign_digits (x ∷ ds) h =
    let r = digit_from_value x h.0 in
    let lone : is_sign x ≡ false = no_sign x r.1 in
    ap (λ b. b || list_any is_sign ds) lone ∙ no_sign_digits ds h.1
  where
    no_sign : (x : ℕ) → x ≤ 57 → is_sign x ≡ false
    no_sign x h = grind (arith, nat_tests)

no_sign_decimal : (word : List ℕ) (max n : ℕ) → max < 2 ^ 64 → IsDecimal word max n → list_any is_sign word ≡ false
no_sign_decimal word max n fits d =
    let w = d.within in
    ap (list_any is_sign) d.digits ∙ no_sign_digits (decimal n) (decimal_is_IsNumeral n (omega arith)).0.1

pub other_place : (word place byte : List ℕ) (arg : Arg) → word ≡ place ++ 61 ∷ byte → list_any is_sign place ≡ false → ((n : ℕ) → IsDecimal place 10239 n → ⊥) → IsByte word arg → ⊥
other_place word place byte arg e none no_offset h =
    let s = cut_sign place byte h.place h.byte none (no_sign_decimal h.place 10239 h.offset (omega arith) h.place_decimal) (sym e ∙ h.written) in
    no_offset h.offset (subst (λ p. IsDecimal p 10239 h.offset) (sym s.front) h.place_decimal)

pub other_byte : (word place byte : List ℕ) (arg : Arg) → word ≡ place ++ 61 ∷ byte → list_any is_sign place ≡ false → ((n : ℕ) → IsDecimal byte 255 n → ⊥) → IsByte word arg → ⊥
other_byte word place byte arg e none no_value h =
    let s = cut_sign place byte h.place h.byte none (no_sign_decimal h.place 10239 h.offset (omega arith) h.place_decimal) (sym e ∙ h.written) in
    no_value h.value (subst (λ p. IsDecimal p 255 h.value) (sym s.back) h.byte_decimal)
