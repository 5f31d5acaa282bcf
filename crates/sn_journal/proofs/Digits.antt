-- What std's parse of a text says of decimal digits, up to 2^64 - 1.
use Rattle.std.proofs.Common.{Err, List, None, Ok, Option, Some, ap, arith, get_or, length, lit<, refl, subst, suc, sym, true, zero, ℕ, ◌&&◌, ◌<◌, ◌^◌, ◌∙◌, ◌≡◌, ◌≢◌}
use Rattle.std.proofs.lemmas.Bool.{and_parts}
use Rattle.std.proofs.lemmas.Bool.Decides.{nat_tests}
use Rattle.std.proofs.lemmas.Fmt.{IsAscii-decimal, decimal-digits_value, decimal_digit, decimal_is_IsNumeral, decimal_nonempty, first_decimal, parse-decimal}
use Rattle.std.proofs.lemmas.Option.{cond_some}
use Rattle.std.proofs.lemmas.Slice.Eq.{bytes_eq-Decides}
use Rattle.std.proofs.lemmas.Str.{IsUtf8-from_ascii}
use Rattle.std.proofs.lemmas.Str.Parse.{IsNumeralModel, digit_at, numerals_by_value, parse_plain, tells_digits}
use Rattle.std.specs.Fmt.{decimal}
use Rattle.std.specs.Str.{IsUtf8, bytes_eq}
use Rattle.std.specs.Str.Parse.{AllDigits, ParsesUnsigned, digits_value}
use Rattle.sn_journal.specs.Cutting.{number_of}
use Rattle.sn_journal.specs.JournalText.{is_u64}

own : IsNumeralModel (AllDigits 10) (digits_value 10)
own = numerals_by_value (AllDigits 10) tells_digits

-- a text that std parses is the number's digits, where it begins with no plus and no leading zero
pub digits_from_parse : (bs : List ℕ) (n : ℕ) → ParsesUnsigned {E = ℕ} 64 10 bs (Ok n) → get_or bs 0 0 ≢ 43
    → (get_or bs 0 0 ≡ 48 → length bs ≡ 1) → bs ≡ decimal n
digits_from_parse bs n h plus one =
    let p = parse_plain own {E = ℕ} 64 bs (Ok n) h plus in
    rw p.1 (sym (decimal-digits_value own bs p.0.0 p.0.1 one p.0.2))

-- a number's digits begin with a digit
pub first_digit : (bs : List ℕ) (n : ℕ) → n < 2 ^ 64 → bs ≡ decimal n → 47 < get_or bs 0 0
first_digit bs n h e =
    let d = digit_at (decimal n) 0 (decimal_is_IsNumeral n h).0.1 (decimal_nonempty n h) in
    rw e (omega arith)

-- and with no zero before another digit
pub one_zero : (bs : List ℕ) (n : ℕ) → n < 2 ^ 64 → bs ≡ decimal n → get_or bs 0 0 ≡ 48 → length bs ≡ 1
one_zero bs zero h e z = ap length (e ∙ decimal_digit 0 (lit< tt))
one_zero bs (suc n) h e z =
    let late = first_decimal (suc n) (omega arith) h in
    let first : get_or (decimal (suc n)) 0 0 ≡ 48 = rw (← e) z in
    absurd (omega arith)

pub ruleset digits_begin = (first_digit, one_zero, decimal_nonempty)

-- a number's digits are parsed
pub parsed : {F : Type 0} (bs : List ℕ) (e : F) (n : ℕ) → n < 2 ^ 64 → ParsesUnsigned 64 10 bs (Err e) → bs ≡ decimal n → ⊥
parsed bs e n h p d = let r : Err e ≡ Ok n = parse-decimal 64 n bs (Err e) h h d p in cc

-- and are text
pub utf8_digits : (bs : List ℕ) (n : ℕ) → n < 2 ^ 64 → bs ≡ decimal n → IsUtf8 bs
utf8_digits bs n h d = rw d (IsUtf8-from_ascii _ (IsAscii-decimal n h))

-- the digits of a number are read as it
pub number_found : (bs : List ℕ) (n : ℕ) → n < 2 ^ 64 → bs ≡ decimal n → number_of bs ≡ Some n
unfolding number_of
number_found bs n h d =
    let value : digits_value 10 bs ≡ n = ap (digits_value 10) d ∙ (decimal_is_IsNumeral n h).1 in
    let same : bytes_eq bs (decimal n) ≡ true = (bytes_eq-Decides bs (decimal n)).1 d in
    let small : is_u64 n ≡ true = grind (arith, nat_tests) in
    rw (value, same, small) refl

-- what a number is read from
pub record IsDigitsOf (bs : List ℕ) (n : ℕ) : Type 0 where
  pub small : n < 2 ^ 64
  pub digits : bs ≡ decimal n

below : (n : ℕ) → is_u64 n ≡ true → n < 2 ^ 64
below n e = grind (arith, nat_tests)

pub number_came : (bs : List ℕ) (n : ℕ) → number_of bs ≡ Some n → IsDigitsOf bs n
unfolding number_of
number_came bs n e =
    let v = digits_value 10 bs in
    let s = cond_some (bytes_eq bs (decimal v) && is_u64 v) v n e in
    let p = and_parts (bytes_eq bs (decimal v)) (is_u64 v) s.0 in
    subst (IsDigitsOf bs) s.1 (record { small = below v p.1; digits = (bytes_eq-Decides bs (decimal v)).0 p.0 })

none_unless : {A : Type 0} (o : Option A) → ((x : A) → o ≡ Some x → ⊥) → o ≡ None
none_unless None h = refl
none_unless (Some x) h = absurd (h x refl)

-- what is no number's digits isn't read
pub number_none : (bs : List ℕ) → ((n : ℕ) → n < 2 ^ 64 → bs ≡ decimal n → ⊥) → number_of bs ≡ None
number_none bs h =
    none_unless (number_of bs) (λ n e. let came = number_came bs n e in h n came.small came.digits)
