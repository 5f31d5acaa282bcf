-- The longest front of bytes that pass, by its length, and of texts that are known.
use Rattle.std.proofs.Common.{Bool, List, [], ap, arith, cond, drop, false, length, refl, suc, take, true, ℕ, ◌++◌, ◌+◌, ◌∙◌, ◌∷◌, ◌≡◌, ◌≤◌}
use Rattle.std.proofs.lemmas.Bool.{and_parts}
use Rattle.std.specs.List.{list_all, prefix_len}
use Rattle.sn_names.specs.Parts.{starts}
use Rattle.sn_journal.specs.Cutting.{behind, front, is_no_feed}

one_more : (n : ℕ) → 1 + n ≡ suc n
one_more n = omega arith

take_by : (b : Bool) (x : ℕ) (xs more : List ℕ) (n : ℕ) → take n xs ≡ more
    → take (cond b (1 + n) 0) (x ∷ xs) ≡ cond b (x ∷ more) []
take_by true x xs more n e = ap (λ k. take k (x ∷ xs)) (one_more n) ∙ ap (λ ys. x ∷ ys) e
take_by false x xs more n e = refl

pub take_front : (p : ℕ → Bool) (xs : List ℕ) → take (prefix_len p xs) xs ≡ front p xs
take_front p [] = refl
take_front p (x ∷ xs) = take_by (p x) x xs (front p xs) (prefix_len p xs) (take_front p xs)

drop_by : (b : Bool) (x : ℕ) (xs more : List ℕ) (n : ℕ) → drop n xs ≡ more
    → drop (cond b (1 + n) 0) (x ∷ xs) ≡ cond b more (x ∷ xs)
drop_by true x xs more n e = ap (λ k. drop k (x ∷ xs)) (one_more n) ∙ e
drop_by false x xs more n e = refl

pub drop_front : (p : ℕ → Bool) (xs : List ℕ) → drop (prefix_len p xs) xs ≡ behind p xs
drop_front p [] = refl
drop_front p (x ∷ xs) = drop_by (p x) x xs (behind p xs) (prefix_len p xs) (drop_front p xs)

parts_by : (b : Bool) (x : ℕ) (xs these those : List ℕ) → xs ≡ these ++ those
    → x ∷ xs ≡ cond b (x ∷ these) [] ++ cond b those (x ∷ xs)
parts_by true x xs these those e = ap (λ ys. x ∷ ys) e
parts_by false x xs these those e = refl

-- the front and what follows it are the text
pub front_parts : (p : ℕ → Bool) (xs : List ℕ) → xs ≡ front p xs ++ behind p xs
front_parts p [] = refl
front_parts p (x ∷ xs) = parts_by (p x) x xs (front p xs) (behind p xs) (front_parts p xs)

front_stops : (p : ℕ → Bool) (rest : List ℕ) → starts p rest ≡ false → front p rest ≡ []
front_stops p [] h = refl
front_stops p (x ∷ xs) h = ap (λ b. cond b (x ∷ front p xs) []) h

behind_stops : (p : ℕ → Bool) (rest : List ℕ) → starts p rest ≡ false → behind p rest ≡ rest
behind_stops p [] h = refl
behind_stops p (x ∷ xs) h = ap (λ b. cond b (behind p xs) (x ∷ xs)) h

-- a word of bytes that pass, and behind it one that doesn't, or nothing
pub front_word : (p : ℕ → Bool) (word rest : List ℕ) → list_all p word ≡ true → starts p rest ≡ false
    → front p (word ++ rest) ≡ word
front_word p [] rest all h = front_stops p rest h
front_word p (x ∷ xs) rest all h =
    let a = and_parts (p x) (list_all p xs) all in
    ap (λ b. cond b (x ∷ front p (xs ++ rest)) []) a.0 ∙ ap (λ ys. x ∷ ys) (front_word p xs rest a.1 h)

pub behind_word : (p : ℕ → Bool) (word rest : List ℕ) → list_all p word ≡ true → starts p rest ≡ false
    → behind p (word ++ rest) ≡ rest
behind_word p [] rest all h = behind_stops p rest h
behind_word p (x ∷ xs) rest all h =
    let a = and_parts (p x) (list_all p xs) all in
    ap (λ b. cond b (behind p (xs ++ rest)) (x ∷ xs ++ rest)) a.0 ∙ behind_word p xs rest a.1 h

-- the first byte that doesn't pass is a line feed
feed_by : (b : Bool) (x : ℕ) (xs : List ℕ) → is_no_feed x ≡ b → (y : ℕ) (ys : List ℕ)
    → ((behind is_no_feed xs ≡ y ∷ ys) → y ≡ 10) → cond b (behind is_no_feed xs) (x ∷ xs) ≡ y ∷ ys → y ≡ 10
feed_by true x xs t y ys more e = more e
feed_by false x xs t y ys more e = let same : x ≡ y = cc in grind arith

pub feed_first : (xs : List ℕ) (y : ℕ) (ys : List ℕ) → behind is_no_feed xs ≡ y ∷ ys → y ≡ 10
feed_first [] y ys e = cc
feed_first (x ∷ xs) y ys e = feed_by (is_no_feed x) x xs refl y ys (feed_first xs y ys) e

-- what follows the front begins with no byte that passes
pub behind_starts : (p : ℕ → Bool) (xs : List ℕ) → starts p (behind p xs) ≡ false
behind_starts p [] = refl
behind_starts p (x ∷ xs) = starts_by (p x) x xs refl (behind_starts p xs)
  where
    starts_by : (b : Bool) (x : ℕ) (xs : List ℕ) → p x ≡ b → starts p (behind p xs) ≡ false
        → starts p (cond b (behind p xs) (x ∷ xs)) ≡ false
    starts_by true x xs t e = e
    starts_by false x xs t e = t

pub behind_within : (p : ℕ → Bool) (xs : List ℕ) → length (behind p xs) ≤ length xs
behind_within p [] = omega arith
behind_within p (x ∷ xs) = within_by (p x) (behind_within p xs)
  where
    within_by : (b : Bool) → length (behind p xs) ≤ length xs → length (cond b (behind p xs) (x ∷ xs)) ≤ length (x ∷ xs)
    within_by true h = omega arith
    within_by false h = omega arith

pub ruleset fronts = (take_front, drop_front, front_parts, feed_first, behind_starts, behind_within)
