-- What a token is read as, from what is known of its text.
use Rattle.std.proofs.Common.{Bool, List, None, Option, Some, [], ap, arith, cond, false, length, refl, subst, sym, true, ℕ, ◌&&◌, ◌++◌, ◌<◌, ◌^◌, ◌∙◌, ◌∷◌, ◌≡◌, ◌≤◌, nat_le, not, find, option_map, drop}
use Rattle.std.proofs.lemmas.Bool.{and_from, and_parts, false_from_ne_true, le-leb, leb-true}
use Rattle.std.proofs.lemmas.Bool.Decides.{nat_tests}
use Rattle.std.proofs.lemmas.Fmt.{decimal_is_IsNumeral}
use Rattle.std.proofs.lemmas.Option.{cond_some}
use Rattle.std.proofs.lemmas.Slice.Eq.{bytes_eq-Decides}
use Rattle.std.proofs.lemmas.Str.{IsUtf8-from_ascii}
use Rattle.std.proofs.lemmas.Str.Ascii.{IsAscii-cons, IsAscii-nil}
use Rattle.std.specs.Str.{IsAscii}
use Rattle.sn_names.specs.FileText.{IsFileName}
use Rattle.std.proofs.lemmas.Str.Parse.{digit_from_value}
use Rattle.std.specs.Fmt.{decimal}
use Rattle.std.specs.List.{list_all}
use Rattle.std.specs.Str.{bytes_eq}
use Rattle.std.specs.Str.Parse.{AllDigits, digits_value}
use Rattle.sn_config.specs.ArgText.{IsByte, IsFile, IsFileText, IsLane, IsNumber, TakesArg, TakesWord, goes_without, is_file_byte}
use Rattle.sn_config.specs.Signs.{is_sign}
use Rattle.sn_names.specs.Classes.{class_word}
use Rattle.sn_names.specs.DecimalText.{IsDecimal}
use Rattle.sn_names.specs.NameText.{IsName, is_name_byte}
use Rattle.sn_names.specs.Parts.{starts}
use Rattle.sn_names.specs.declared.arg.Arg.{Arg}
use Rattle.sn_names.specs.declared.arg.Arg.TheVariants as args
use Rattle.sn_names.specs.declared.class.Class.{Class}
use Rattle.sn_names.specs.declared.class.Class.TheVariants as class
use Rattle.sn_scenario.specs.Cutting.{behind, front}
use Rattle.sn_scenario.specs.Leaves.{all_classes, arg_of, byte_arg, class_of, filter_arg, is_file, is_name, is_no_sign, number_in, word_arg}

-- a value that can't be there isn't
pub none_unless : {A : Type 0} (o : Option A) → ((x : A) → o ≡ Some x → ⊥) → o ≡ None
none_unless None h = refl
none_unless (Some x) h = absurd (h x refl)

same_bytes : (xs ys : List ℕ) → xs ≡ ys → bytes_eq xs ys ≡ true
same_bytes xs ys e = (bytes_eq-Decides xs ys).1 e

from_bytes : (xs ys : List ℕ) → bytes_eq xs ys ≡ true → xs ≡ ys
from_bytes xs ys e = (bytes_eq-Decides xs ys).0 e

pub number_found : (low high n : ℕ) (token : List ℕ) → high < 2 ^ 64 → IsDecimal token high n → low ≤ n → number_in low high token ≡ Some n
unfolding number_in
number_found low high n token fits d enough =
    let short = d.short in
    let within = d.within in
    let value : digits_value 10 token ≡ n = ap (digits_value 10) d.digits ∙ (decimal_is_IsNumeral n (omega arith)).1 in
    let same : bytes_eq token (decimal n) ≡ true = same_bytes token (decimal n) d.digits in
    let a : nat_le (length token) 10 ≡ true = le-leb (length token) 10 short in
    let b : nat_le low n ≡ true = le-leb low n enough in
    let c : nat_le n high ≡ true = le-leb n high within in
    rw (value, same, a, b, c) refl

-- what a number was read from
pub record CameFrom (low high n : ℕ) (token : List ℕ) : Type 0 where
  pub decimal : IsDecimal token high n
  pub enough : low ≤ n

pub number_came : (low high n : ℕ) (token : List ℕ) → number_in low high token ≡ Some n → CameFrom low high n token
unfolding number_in
number_came low high n token e =
    let v = digits_value 10 token in
    let a = bytes_eq token (decimal v) in
    let b = nat_le (length token) 10 in
    let c = nat_le low v in
    let d = nat_le v high in
    let s = cond_some (a && b && c && d) v n e in
    let p = and_parts (a && b && c) d s.0 in
    let q = and_parts (a && b) c p.0 in
    let r = and_parts a b q.0 in
    let P : ℕ → Type 0 = λ m. CameFrom low high m token in
    subst P s.1 (record {
      decimal = record { digits = from_bytes token (decimal v) r.0; short = leb-true (length token) 10 r.1; within = leb-true v high p.1 };
      enough = leb-true low v q.1;
    })

pub number_none : (low high : ℕ) (token : List ℕ) → ((n : ℕ) → IsDecimal token high n → ⊥) → number_in low high token ≡ None
number_none low high token h = none_unless (number_in low high token) (λ n e. h n (number_came low high n token e).decimal)

pub number_low : (low high n : ℕ) (token : List ℕ) → high < 2 ^ 64 → IsDecimal token high n → n < low → number_in low high token ≡ None
number_low low high n token fits d small =
    let found : number_in 0 high token ≡ Some n = number_found 0 high n token fits d (omega arith) in
    none_unless (number_in low high token) (λ m e.
    let came = number_came low high m token e in
    let enough = came.enough in
    let again : number_in 0 high token ≡ Some m = number_found 0 high m token fits came.decimal (omega arith) in
    let same : n ≡ m = cc in
    absurd (omega arith))

pub name_yes : (token : List ℕ) → IsName token → is_name token ≡ true
unfolding is_name
name_yes token h = rw (le-leb 1 (length token) h.filled, le-leb (length token) 64 h.short, h.plain) refl

pub name_came : (token : List ℕ) → is_name token ≡ true → IsName token
unfolding is_name
name_came token e =
    let p = and_parts (nat_le 1 (length token) && nat_le (length token) 64) (list_all is_name_byte token) e in
    let q = and_parts (nat_le 1 (length token)) (nat_le (length token) 64) p.0 in
    record { filled = leb-true 1 (length token) q.0; short = leb-true (length token) 64 q.1; plain = p.1 }

pub name_no : (token : List ℕ) → (IsName token → ⊥) → is_name token ≡ false
name_no token h = false_from_ne_true (is_name token) (λ e. h (name_came token e))

pub file_yes : (token : List ℕ) → IsFileText token → is_file token ≡ true
unfolding is_file
file_yes token h = rw (le-leb 1 (length token) h.filled, le-leb (length token) 255 h.short, h.plain) refl

pub file_came : (token : List ℕ) → is_file token ≡ true → IsFileText token
unfolding is_file
file_came token e =
    let p = and_parts (nat_le 1 (length token) && nat_le (length token) 255) (list_all is_file_byte token) e in
    let q = and_parts (nat_le 1 (length token)) (nat_le (length token) 255) p.0 in
    record { filled = leb-true 1 (length token) q.0; short = leb-true (length token) 255 q.1; plain = p.1 }

file_byte_ascii : (x : ℕ) → is_file_byte x ≡ true → x < 128
file_byte_ascii x h = grind (arith, nat_tests)

ascii_file : (name : List ℕ) → list_all is_file_byte name ≡ true → IsAscii name
ascii_file [] h = IsAscii-nil
ascii_file (x ∷ xs) h =
    let p = and_parts (is_file_byte x) (list_all is_file_byte xs) h in
    IsAscii-cons x xs (file_byte_ascii x p.0) (ascii_file xs p.1)

-- a file's name in a scenario is one anywhere
pub file_name : (token : List ℕ) → is_file token ≡ true → IsFileName token
file_name token e =
    let h = file_came token e in
    let filled = h.filled in
    let short = h.short in
    record { filled = filled; short = omega arith; utf8 = IsUtf8-from_ascii token (ascii_file token h.plain) }

pub class_found : (class : Class) → class_of (class_word class) ≡ Some class
unfolding class_of
class_found class.Source = refl
class_found class.Sink = refl
class_found class.Tee = refl
class_found class.Join = refl
class_found class.Split = refl
class_found class.Repeater = refl
class_found class.Truncate = refl
class_found class.Sample = refl
class_found class.ByteFilter = refl
class_found class.PcapReader = refl
class_found class.PcapWriter = refl
class_found class.Receiver = refl
class_found class.Transmitter = refl

find_none : {A : Type 0} (p : A → Bool) (xs : List A) → ((x : A) → p x ≡ false) → find p xs ≡ None
find_none p [] h = refl
find_none p (x ∷ xs) h = rw (h x) (find_none p xs h)

pub class_none : (token : List ℕ) → ((class : Class) → token ≡ class_word class → ⊥) → class_of token ≡ None
unfolding class_of
class_none token h = find_none (λ c. bytes_eq token (class_word c)) all_classes (λ c. false_from_ne_true (bytes_eq token (class_word c)) (λ e. h c (from_bytes token (class_word c) e)))

number_arg_found : (low high : ℕ) (token : List ℕ) (arg : Arg) → high < 2 ^ 64 → IsNumber low high token arg → option_map args.Number (number_in low high token) ≡ Some arg
number_arg_found low high token arg fits h =
    let e = number_found low high h.number token fits h.decimal h.enough in
    ap (option_map args.Number) e ∙ ap Some (sym h.same)

number_arg_came : (low high : ℕ) (token : List ℕ) (arg : Arg) (o : Option ℕ) → number_in low high token ≡ o → option_map args.Number o ≡ Some arg → IsNumber low high token arg
number_arg_came low high token arg None s e = cc
number_arg_came low high token arg (Some n) s e =
    let came = number_came low high n token s in
    record { number = n; decimal = came.decimal; enough = came.enough; same = cc }

-- the front before the first sign, and what follows it
front_sign : (place byte : List ℕ) → list_all is_no_sign place ≡ true → front is_no_sign (place ++ 61 ∷ byte) ≡ place
front_sign [] byte h = refl
front_sign (x ∷ xs) byte h =
    let p = and_parts (is_no_sign x) (list_all is_no_sign xs) h in
    ap (λ b. cond b (x ∷ front is_no_sign (xs ++ 61 ∷ byte)) []) p.0 ∙ ap (λ ys. x ∷ ys) (front_sign xs byte p.1)

behind_sign : (place byte : List ℕ) → list_all is_no_sign place ≡ true → behind is_no_sign (place ++ 61 ∷ byte) ≡ 61 ∷ byte
behind_sign [] byte h = refl
behind_sign (x ∷ xs) byte h =
    let p = and_parts (is_no_sign x) (list_all is_no_sign xs) h in
    ap (λ b. cond b (behind is_no_sign (xs ++ 61 ∷ byte)) (x ∷ xs ++ 61 ∷ byte)) p.0 ∙ behind_sign xs byte p.1

no_sign_digits : (ds : List ℕ) → AllDigits 10 ds → list_all is_no_sign ds ≡ true
no_sign_digits [] h = refl
no_sign_digits (x ∷ ds) h =
    let r = digit_from_value x h.0 in
    let lone : is_no_sign x ≡ true = no_sign x r.1 in
    and_from (is_no_sign x) (list_all is_no_sign ds) lone (no_sign_digits ds h.1)
  where
    no_sign : (x : ℕ) → x ≤ 57 → is_no_sign x ≡ true
    no_sign x h = grind (arith, nat_tests)

no_sign_decimal : (word : List ℕ) (max n : ℕ) → max < 2 ^ 64 → IsDecimal word max n → list_all is_no_sign word ≡ true
no_sign_decimal word max n fits d =
    let w = d.within in
    ap (list_all is_no_sign) d.digits ∙ no_sign_digits (decimal n) (decimal_is_IsNumeral n (omega arith)).0.1

filter_found : (token : List ℕ) (arg : Arg) → IsByte token arg → filter_arg token ≡ Some arg
filter_found token arg h =
    let no = no_sign_decimal h.place 10239 h.offset (omega arith) h.place_decimal in
    let f : front is_no_sign token ≡ h.place = ap (front is_no_sign) h.written ∙ front_sign h.place h.byte no in
    let b : behind is_no_sign token ≡ 61 ∷ h.byte = ap (behind is_no_sign) h.written ∙ behind_sign h.place h.byte no in
    let o = number_found 0 10239 h.offset h.place (omega arith) h.place_decimal (omega arith) in
    let v = number_found 0 255 h.value h.byte (omega arith) h.byte_decimal (omega arith) in
    rw (b, f, o, v) (ap Some (sym h.same))

is_61 : (x : ℕ) → is_sign x ≡ true → x ≡ 61
is_61 x t = grind (arith, nat_tests)

-- a text with a sign is the front before it, the sign, and the rest
sign_by : (b : Bool) (x : ℕ) (xs : List ℕ) → is_sign x ≡ b → (starts is_sign (behind is_no_sign xs) ≡ true → xs ≡ front is_no_sign xs ++ 61 ∷ drop 1 (behind is_no_sign xs)) → starts is_sign (cond (not b) (behind is_no_sign xs) (x ∷ xs)) ≡ true → x ∷ xs ≡ cond (not b) (x ∷ front is_no_sign xs) [] ++ 61 ∷ drop 1 (cond (not b) (behind is_no_sign xs) (x ∷ xs))
sign_by true x xs t more e = ap (λ y. y ∷ xs) (is_61 x t)
sign_by false x xs t more e = ap (λ ys. x ∷ ys) (more e)

sign_cut : (xs : List ℕ) → starts is_sign (behind is_no_sign xs) ≡ true → xs ≡ front is_no_sign xs ++ 61 ∷ drop 1 (behind is_no_sign xs)
sign_cut [] e = cc
sign_cut (x ∷ xs) e = sign_by (is_sign x) x xs refl (sign_cut xs) e

filter_came : (token : List ℕ) (arg : Arg) (o v : Option ℕ) → number_in 0 10239 (front is_no_sign token) ≡ o → number_in 0 255 (drop 1 (behind is_no_sign token)) ≡ v → starts is_sign (behind is_no_sign token) ≡ true → byte_arg o v ≡ Some arg → IsByte token arg
filter_came token arg None v p q s e = cc
filter_came token arg (Some offset) None p q s e = cc
filter_came token arg (Some offset) (Some value) p q s e =
    record {
      place = front is_no_sign token;
      byte = drop 1 (behind is_no_sign token);
      written = sign_cut token s;
      offset = offset;
      value = value;
      place_decimal = (number_came 0 10239 offset (front is_no_sign token) p).decimal;
      byte_decimal = (number_came 0 255 value (drop 1 (behind is_no_sign token)) q).decimal;
      same = cc;
    }

filter_came_all : (token : List ℕ) (arg : Arg) (b : Bool) → starts is_sign (behind is_no_sign token) ≡ b → cond b (byte_arg (number_in 0 10239 (front is_no_sign token)) (number_in 0 255 (drop 1 (behind is_no_sign token)))) None ≡ Some arg → IsByte token arg
filter_came_all token arg true s e = filter_came token arg (number_in 0 10239 (front is_no_sign token)) (number_in 0 255 (drop 1 (behind is_no_sign token))) refl refl s e
filter_came_all token arg false s e = cc

file_arg_came : (token : List ℕ) (arg : Arg) → cond (is_file token) (Some (args.File token)) None ≡ Some arg → IsFile token arg
file_arg_came token arg e =
    let s = cond_some (is_file token) (args.File token) arg e in
    record { file = file_came token s.0; same = sym s.1 }

lane_arg_came : (token : List ℕ) (arg : Arg) → cond (is_name token) (Some (args.Lane token)) None ≡ Some arg → IsLane token arg
lane_arg_came token arg e =
    let s = cond_some (is_name token) (args.Lane token) arg e in
    record { name = name_came token s.0; same = sym s.1 }

file_arg_found : (token : List ℕ) (arg : Arg) → IsFile token arg → cond (is_file token) (Some (args.File token)) None ≡ Some arg
file_arg_found token arg h = ap (λ b. cond b (Some (args.File token)) None) (file_yes token h.file) ∙ ap Some (sym h.same)

lane_arg_found : (token : List ℕ) (arg : Arg) → IsLane token arg → cond (is_name token) (Some (args.Lane token)) None ≡ Some arg
lane_arg_found token arg h = ap (λ b. cond b (Some (args.Lane token)) None) (name_yes token h.name) ∙ ap Some (sym h.same)

word_found : (class : Class) (token : List ℕ) (arg : Arg) → TakesWord class token arg → word_arg class token ≡ Some arg
word_found class.Source token arg h = number_arg_found 0 10240 token arg (omega arith) h
word_found class.Sink token arg h = absurd h
word_found class.Tee token arg h = absurd h
word_found class.Join token arg h = absurd h
word_found class.Split token arg h = absurd h
word_found class.Repeater token arg h = absurd h
word_found class.Truncate token arg h = number_arg_found 0 10240 token arg (omega arith) h
word_found class.Sample token arg h = number_arg_found 1 1000000 token arg (omega arith) h
word_found class.ByteFilter token arg h = filter_found token arg h
word_found class.PcapReader token arg h = file_arg_found token arg h
word_found class.PcapWriter token arg h = file_arg_found token arg h
word_found class.Receiver token arg h = lane_arg_found token arg h
word_found class.Transmitter token arg h = lane_arg_found token arg h

word_came : (class : Class) (token : List ℕ) (arg : Arg) → word_arg class token ≡ Some arg → TakesWord class token arg
word_came class.Source token arg e = number_arg_came 0 10240 token arg (number_in 0 10240 token) refl e
word_came class.Sink token arg e = cc
word_came class.Tee token arg e = cc
word_came class.Join token arg e = cc
word_came class.Split token arg e = cc
word_came class.Repeater token arg e = cc
word_came class.Truncate token arg e = number_arg_came 0 10240 token arg (number_in 0 10240 token) refl e
word_came class.Sample token arg e = number_arg_came 1 1000000 token arg (number_in 1 1000000 token) refl e
word_came class.ByteFilter token arg e = filter_came_all token arg (starts is_sign (behind is_no_sign token)) refl e
word_came class.PcapReader token arg e = file_arg_came token arg e
word_came class.PcapWriter token arg e = file_arg_came token arg e
word_came class.Receiver token arg e = lane_arg_came token arg e
word_came class.Transmitter token arg e = lane_arg_came token arg e

pub arg_found : (class : Class) (text : Option (List ℕ)) (arg : Arg) → TakesArg class text arg → arg_of class text ≡ Some arg
unfolding arg_of
arg_found class None arg h = ap (λ b. cond b (Some args.Nothing) None) h.0 ∙ ap Some (sym h.1)
arg_found class (Some token) arg h = word_found class token arg h

pub arg_came : (class : Class) (text : Option (List ℕ)) (arg : Arg) → arg_of class text ≡ Some arg → TakesArg class text arg
unfolding arg_of
arg_came class None arg e = let s = cond_some (goes_without class) args.Nothing arg e in (s.0, sym s.1)
arg_came class (Some token) arg e = word_came class token arg e

pub arg_none : (class : Class) (text : Option (List ℕ)) → ((arg : Arg) → TakesArg class text arg → ⊥) → arg_of class text ≡ None
arg_none class text h = none_unless (arg_of class text) (λ arg e. h arg (arg_came class text arg e))

pub ruleset numbers = (number_found, number_none, number_low)

pub ruleset names = (name_yes, name_no)

pub ruleset files = (file_name)

pub ruleset classes = (class_found, class_none)

pub ruleset arguments = (arg_found, arg_none)
