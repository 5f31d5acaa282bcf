-- Decimals, as words of a command have them.
use Rattle.std.proofs.Common.{◌≡◌, ℕ, ◌<◌, ◌≤◌, ◌^◌, List, sym, ap, ◌∙◌, arith}
use Rattle.std.proofs.lemmas.Fmt.{decimal_is_IsNumeral, length-decimal-le}
use Rattle.std.proofs.lemmas.Str.Parse.{IsNumeralModel, numerals_by_value, tells_digits}
use Rattle.std.specs.Str.Parse.{AllDigits, digits_value}
use Rattle.std.specs.Fmt.{decimal}
use Rattle.sn_names.specs.DecimalText.{IsDecimal}

own : IsNumeralModel (AllDigits 10) (digits_value 10)
own = numerals_by_value (AllDigits 10) tells_digits

-- two numbers have different digits
pub same_number : (m n : ℕ) → m < 2 ^ 64 → n < 2 ^ 64 → decimal m ≡ decimal n → m ≡ n
same_number m n a b e = sym (decimal_is_IsNumeral m a).1 ∙ ap (digits_value 10) e ∙ (decimal_is_IsNumeral n b).1

-- no worker where the word is no number up to 15
pub no_worker : (text : List ℕ) → ((n : ℕ) → IsDecimal text 15 n → ⊥) → (worker : ℕ) → worker ≤ 15 → text ≡ decimal worker → ⊥
no_worker text none worker small is =
    none worker (record {
      digits = is;
      short = rw is (length-decimal-le 10 worker (omega arith) (omega arith) (omega arith));
      within = small;
    })
