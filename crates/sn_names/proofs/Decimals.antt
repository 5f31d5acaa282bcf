-- What std's parse of a text says of decimal digits.
use Rattle.std.proofs.Common.{Err, List, Ok, Result, arith, refl, ◌≤◌, get_or, length, ℕ, ◌≡◌, ◌≢◌, ◌<◌, ◌^◌, ◌∙◌, sym, ap, lit<, suc, zero}
use Rattle.std.proofs.lemmas.Fmt.{decimal-digits_value, decimal_is_IsNumeral, decimal_digit, decimal_nonempty, first_decimal, length-decimal-le, parse-decimal, IsAscii-decimal}
use Rattle.std.proofs.lemmas.Str.{IsUtf8-from_ascii}
use Rattle.std.proofs.lemmas.Str.Parse.{IsNumeralModel, digit_at, numerals_by_value, parse_plain, tells_digits}
use Rattle.std.specs.Fmt.{decimal}
use Rattle.std.specs.Str.Parse.{AllDigits, ParsesUnsigned, digits_value}
use Rattle.std.specs.Str.{IsUtf8}
use Rattle.sn_names.specs.DecimalText.{IsDecimal}

own : IsNumeralModel (AllDigits 10) (digits_value 10)
own = numerals_by_value (AllDigits 10) tells_digits

-- a text that std parses is the number's digits, where it begins with no plus and no leading zero
pub digits_from_parse : (bs : List ℕ) (n : ℕ) → ParsesUnsigned {E = ℕ} 64 10 bs (Ok n) → get_or bs 0 0 ≢ 43 → (get_or bs 0 0 ≡ 48 → length bs ≡ 1) → bs ≡ decimal n
digits_from_parse bs n h plus one =
    let p = parse_plain own {E = ℕ} 64 bs (Ok n) h plus in
    rw p.1 (sym (decimal-digits_value own bs p.0.0 p.0.1 one p.0.2))

-- a number's digits begin with a digit
pub first_digit : (bs : List ℕ) (n : ℕ) → n < 2 ^ 64 → bs ≡ decimal n → 47 < get_or bs 0 0
first_digit bs n h e =
    let d = digit_at (decimal n) 0 (decimal_is_IsNumeral n h).0.1 (decimal_nonempty n h) in
    rw e (omega arith)

-- and with no zero before another digit
pub one_zero : (bs : List ℕ) (n : ℕ) → n < 2 ^ 64 → bs ≡ decimal n → get_or bs 0 0 ≡ 48 → length bs ≡ 1
one_zero bs zero h e z = ap length (e ∙ decimal_digit 0 (lit< tt))
one_zero bs (suc n) h e z =
    let late = first_decimal (suc n) (omega arith) h in
    let first : get_or (decimal (suc n)) 0 0 ≡ 48 = rw (← e) z in
    absurd (omega arith)

-- a number's digits are parsed
pub parsed_digits : {F : Type 0} (bs : List ℕ) (e : F) (max n : ℕ) → max < 2 ^ 64 → ParsesUnsigned 64 10 bs (Err e) → IsDecimal bs max n → ⊥
parsed_digits bs e max n h p d =
    let r : Err e ≡ Ok n = parse-decimal 64 n bs (Err e) (omega (arith, d.within)) (omega (arith, d.within)) d.digits p in cc

-- by that number alone
pub read_alone : (bs : List ℕ) (max n m : ℕ) → max < 2 ^ 64 → ParsesUnsigned {E = ℕ} 64 10 bs (Ok m) → IsDecimal bs max n → n ≡ m
read_alone bs max n m h p d =
    let result : Result ℕ ℕ = Ok m in
    let r : result ≡ Ok n = parse-decimal 64 n bs (Ok m) (omega (arith, d.within)) (omega (arith, d.within)) d.digits p in cc

-- and are text
pub utf8_digits : (bs : List ℕ) (max n : ℕ) → max < 2 ^ 64 → IsDecimal bs max n → IsUtf8 bs
utf8_digits bs max n h d =
    rw d.digits (IsUtf8-from_ascii _ (IsAscii-decimal n (omega (arith, d.within))))

pub ruleset digits_begin = (first_digit, one_zero, decimal_nonempty)

pub ruleset digits_parse = (utf8_digits, first_digit)

-- the digits of a number of at most ten are read back
pub reads_back : (n max : ℕ) → n < 2 ^ 64 → n < 10 ^ 10 → n ≤ max → IsDecimal (decimal n) max n
reads_back n max h short within = record { digits = refl; short = length-decimal-le 10 n (omega arith) short h; within = within }
