-- A text goes on as the parts of a form, or has a first fault.
use Rattle.std.proofs.Common.{Bool, List, None, Option, Some, [], ap, arith, cond, false, length, refl, suc, sym, subst, take, true, zero, ℕ, ◌++◌, ◌+◌, ◌<◌, ◌==◌, ◌∙◌, ◌∷◌, ◌≡◌, ◌≤◌}
use Rattle.sn_names.specs.FirstFault.{IsFirstFault}
use Rattle.sn_names.specs.NameText.{is_name_byte}
use Rattle.sn_names.specs.Parts.Part.{Byte, First, More, Spaces}
use Rattle.sn_names.specs.Parts.{Part, after, ends, is_space, left, starts}

-- a shortest text of the parts
abbrev pub shortest : List Part → List ℕ
shortest [] = []
shortest (Byte c ∷ parts) = c ∷ shortest parts
shortest (First ∷ parts) = 97 ∷ shortest parts
shortest (More n ∷ parts) = shortest parts
shortest (Spaces ∷ parts) = shortest parts

-- no part can be taken for the one before
abbrev pub IsClear : List Part → Type 0
IsClear [] = Unit {0}
IsClear (Byte c ∷ parts) = IsClear parts
IsClear (First ∷ parts) = IsClear parts
IsClear (More n ∷ parts) = (starts is_name_byte (shortest parts) ≡ false) × IsClear parts
IsClear (Spaces ∷ parts) = (starts is_space (shortest parts) ≡ false) × IsClear parts

-- what is left after a byte
abbrev pub left_after : List ℕ → Option (List Part) → Option ℕ
left_after xs o = elim o [ None ↦ Some (suc (length xs)) | Some further ↦ left further xs ]

-- the same by the test of the first byte
abbrev pub left_by : List ℕ → List Part → Option (List Part) → Bool → Option ℕ
left_by xs parts o b = left_after xs (cond b (Some parts) o)

-- parts of which nothing more is there go on as what follows them
pub left-More : (n : ℕ) (parts : List Part) (text : List ℕ) → starts is_name_byte text ≡ false → left (More n ∷ parts) text ≡ left parts text
left-More n parts [] h = refl
left-More zero parts (x ∷ xs) h = refl
left-More (suc n) parts (x ∷ xs) h = ap (left_by xs (More n ∷ parts) (after parts x)) h

pub left-More-zero : (parts : List Part) (text : List ℕ) → left (More zero ∷ parts) text ≡ left parts text
left-More-zero parts [] = refl
left-More-zero parts (x ∷ xs) = refl

pub left-More-suc : (n : ℕ) (parts : List Part) (x : ℕ) (xs : List ℕ) → is_name_byte x ≡ true → left (More (suc n) ∷ parts) (x ∷ xs) ≡ left (More n ∷ parts) xs
left-More-suc n parts x xs h = ap (left_by xs (More n ∷ parts) (after parts x)) h

pub left-First : (parts : List Part) (x : ℕ) (xs : List ℕ) → is_name_byte x ≡ true → left (First ∷ parts) (x ∷ xs) ≡ left parts xs
left-First parts x xs h = ap (left_by xs parts None) h

pub left-First-none : (parts : List Part) (text : List ℕ) → starts is_name_byte text ≡ false → left (First ∷ parts) text ≡ Some (length text)
left-First-none parts [] h = refl
left-First-none parts (x ∷ xs) h = ap (left_by xs parts None) h

pub left-Spaces : (parts : List Part) (text : List ℕ) → starts is_space text ≡ false → left (Spaces ∷ parts) text ≡ left parts text
left-Spaces parts [] h = refl
left-Spaces parts (x ∷ xs) h = ap (left_by xs (Spaces ∷ parts) (after parts x)) h

same_byte : (c : ℕ) → (c == c) ≡ true
same_byte c = grind arith

pub left-Byte : (c : ℕ) (parts : List Part) (xs : List ℕ) → left (Byte c ∷ parts) (c ∷ xs) ≡ left parts xs
left-Byte c parts xs = ap (left_by xs parts None) (same_byte c)

pub left-Byte-none : (c : ℕ) (parts : List Part) (text : List ℕ) → starts (λ x. x == c) text ≡ false → left (Byte c ∷ parts) text ≡ Some (length text)
left-Byte-none c parts [] h = refl
left-Byte-none c parts (x ∷ xs) h = ap (left_by xs parts None) h

-- the shortest text is a text of the parts
pub left-shortest : (parts : List Part) → IsClear parts → left parts (shortest parts) ≡ None
left-shortest [] c = refl
left-shortest (Byte b ∷ parts) c = left-Byte b parts (shortest parts) ∙ left-shortest parts c
left-shortest (First ∷ parts) c = left-shortest parts c
left-shortest (More n ∷ parts) c = left-More n parts (shortest parts) c.0 ∙ left-shortest parts c.1
left-shortest (Spaces ∷ parts) c = left-Spaces parts (shortest parts) c.0 ∙ left-shortest parts c.1

IsClear-cond : (b : Bool) (o : Option (List Part)) (parts further : List Part) → IsClear parts → ((r : List Part) → o ≡ Some r → IsClear r) → cond b (Some parts) o ≡ Some further → IsClear further
IsClear-cond true o parts further c h e = let same : parts ≡ further = cc in subst IsClear same c
IsClear-cond false o parts further c h e = h further e

-- what is left of clear parts is clear
IsClear-after : (parts further : List Part) (x : ℕ) → IsClear parts → after parts x ≡ Some further → IsClear further
IsClear-after [] further x c e = cc
IsClear-after (Byte b ∷ parts) further x c e = IsClear-cond (x == b) None parts further c (λ r n. cc) e
IsClear-after (First ∷ parts) further x c e = IsClear-cond (is_name_byte x) None parts further c (λ r n. cc) e
IsClear-after (More zero ∷ parts) further x c e = IsClear-after parts further x c.1 e
IsClear-after (More (suc n) ∷ parts) further x c e = IsClear-cond (is_name_byte x) (after parts x) (More n ∷ parts) further c (λ r n. IsClear-after parts r x c.1 n) e
IsClear-after (Spaces ∷ parts) further x c e = IsClear-cond (is_space x) (after parts x) (Spaces ∷ parts) further c (λ r n. IsClear-after parts r x c.1 n) e

-- some prefix that a text of the parts begins with, and no longer one
pub record Stops (parts : List Part) (text : List ℕ) (rest : ℕ) : Type 0 where
  pub at : ℕ
  pub sum : at + rest ≡ length text
  pub further : List ℕ
  pub begins : left parts (take at text ++ further) ≡ None
  pub longest : (longer : ℕ) (more : List ℕ) → at < longer → longer ≤ length text → left parts (take longer text ++ more) ≡ None → ⊥

stops_here : (parts : List Part) (x : ℕ) (xs : List ℕ) → IsClear parts → after parts x ≡ None → Stops parts (x ∷ xs) (suc (length xs))
stops_here parts x xs c o =
    record {
      at = 0;
      sum = omega arith;
      further = shortest parts;
      begins = left-shortest parts c;
      longest = λ longer more. elim longer as (λ n. 0 < n → n ≤ suc (length xs) → left parts (take n (x ∷ xs) ++ more) ≡ None → ⊥) [
        | zero ↦ λ h b n. absurd (omega arith)
        | suc m ↦ λ h b n. let r = ap (left_after (take m xs ++ more)) o in cc
      ];
    }

stops_later : (parts further : List Part) (x : ℕ) (xs : List ℕ) (rest : ℕ) → after parts x ≡ Some further → Stops further xs rest → Stops parts (x ∷ xs) rest
stops_later parts further x xs rest o s =
    record {
      at = suc (s.at);
      sum = let e = s.sum in omega arith;
      further = s.further;
      begins = ap (left_after (take s.at xs ++ s.further)) o ∙ s.begins;
      longest = λ longer more. elim longer as (λ n. suc (s.at) < n → n ≤ suc (length xs) → left parts (take n (x ∷ xs) ++ more) ≡ None → ⊥) [
        | zero ↦ λ h b n. absurd (omega arith)
        | suc m ↦ λ h b n. s.longest m more (omega arith) (omega arith) (sym (ap (left_after (take m xs ++ more)) o) ∙ n)
      ];
    }

stops_after : (o : Option (List Part)) (parts : List Part) (x : ℕ) (xs : List ℕ) (rest : ℕ) → IsClear parts → after parts x ≡ o → ((further : List Part) → IsClear further → left further xs ≡ Some rest → Stops further xs rest) → left_after xs o ≡ Some rest → Stops parts (x ∷ xs) rest
stops_after None parts x xs rest c o more e = let r : suc (length xs) ≡ rest = cc in subst (Stops parts (x ∷ xs)) r (stops_here parts x xs c o)
stops_after (Some further) parts x xs rest c o more e = stops_later parts further x xs rest o (more further (IsClear-after parts further x c o) e)

stops_at_end : (b : Bool) (rest : ℕ) → cond b None (Some 0) ≡ Some rest → rest ≡ 0
stops_at_end true rest e = cc
stops_at_end false rest e = cc

pub stops : (parts : List Part) (text : List ℕ) (rest : ℕ) → IsClear parts → left parts text ≡ Some rest → Stops parts text rest
stops parts [] rest c e =
    let none = stops_at_end (ends parts) rest e in
    record {
      at = 0;
      sum = omega arith;
      further = shortest parts;
      begins = left-shortest parts c;
      longest = λ longer more h b n. absurd (omega arith);
    }
stops parts (x ∷ xs) rest c e = stops_after (after parts x) parts x xs rest c refl (λ further c e. stops further xs rest c e) e

-- the first fault of a text of a form, whose texts are those of the parts
pub first_fault : (P : List ℕ → Type 0) (parts : List Part) (text : List ℕ) (rest at : ℕ) → IsClear parts → ((t : List ℕ) → P t → left parts t ≡ None) → ((t : List ℕ) → left parts t ≡ None → P t) → left parts text ≡ Some rest → at + rest ≡ length text → IsFirstFault P text at
first_fault P parts text rest at c to from e sum =
    let s = stops parts text rest c e in
    let same : s.at ≡ at = let h = s.sum in omega arith in
    record {
      faulty = λ p. let n = to text p in cc;
      within = omega arith;
      begins = (s.further, from (take at text ++ s.further) (subst (λ n. left parts (take n text ++ s.further) ≡ None) same s.begins));
      longest = λ longer more h b p. s.longest longer more (omega arith) b (to _ p);
    }
