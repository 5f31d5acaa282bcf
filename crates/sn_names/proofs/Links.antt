-- The texts of links are those of their parts, and each is the text of one link.
use Rattle.std.proofs.Common.{Bool, List, None, Some, [], ap, append_assoc, arith, false, length, refl, suc, sym, true, zero, ℕ, ◌&&◌, ◌++◌, ◌-◌, ◌==◌, ◌∙◌, ◌∷◌, ◌≡◌, ◌≤◌}
use Rattle.std.proofs.lemmas.Bool.Decides.{nat_tests}
use Rattle.std.specs.List.{list_all}
use Rattle.sn_names.proofs.Reading.{append-nil, goes_on_name, left-spaces, name_then}
use Rattle.sn_names.proofs.Walks.{IsClear, first_fault, left-Byte, left_by, stops}
use Rattle.sn_names.specs.FirstFault.{IsFirstFault}
use Rattle.sn_names.specs.LinkText.{AreNames, IsLinkText, IsSomeLinkText, canonical_text}
use Rattle.sn_names.specs.NameText.{IsName, is_name_byte}
use Rattle.sn_names.specs.Parts.Part.{Byte, Spaces}
use Rattle.sn_names.specs.Parts.{Part, after, arrow_parts, is_space, left, link_parts, name_parts, port_parts, starts}
use Rattle.sn_names.specs.Spelled.{port_text, spaces}
use Rattle.sn_names.specs.declared.link.LinkSpec.{LinkSpec}

-- the first byte of a name is no space
name_byte_no_space : (x : ℕ) → is_name_byte x ≡ true → (x == 32) ≡ false
name_byte_no_space x h = grind (arith, nat_tests)

pub head_true : (a b : Bool) → (a && b) ≡ true → a ≡ true
head_true true b h = refl
head_true false b h = h

pub tail_true : (a b : Bool) → (a && b) ≡ true → b ≡ true
tail_true true b h = h
tail_true false b h = cc

no_space_first : (name rest : List ℕ) → IsName name → starts is_space (name ++ rest) ≡ false
no_space_first [] rest h = absurd (let p = h.filled in omega arith)
no_space_first (x ∷ xs) rest h = name_byte_no_space x (head_true _ _ h.plain)

-- spaces and what is no name byte behind them
no_name_first : (k : ℕ) (rest : List ℕ) → starts is_name_byte rest ≡ false → starts is_name_byte (spaces k ++ rest) ≡ false
no_name_first zero rest h = h
no_name_first (suc k) rest h = refl

goes_on_port : (parts : List Part) (app port rest : List ℕ) → IsName app → IsName port → starts is_name_byte rest ≡ false → left (port_parts parts) (port_text app port ++ rest) ≡ left parts rest
goes_on_port parts app port rest a p h =
    ap (left (port_parts parts)) (append_assoc app (46 ∷ port) rest)
    ∙ goes_on_name (Byte 46 ∷ name_parts parts) app (46 ∷ port ++ rest) a.filled a.plain a.short (λ l. refl)
    ∙ left-Byte 46 (name_parts parts) (port ++ rest)
    ∙ goes_on_name parts port rest p.filled p.plain p.short (λ l. h)

no_space_port : (app port rest : List ℕ) → IsName app → starts is_space (port_text app port ++ rest) ≡ false
no_space_port app port rest a = ap (starts is_space) (append_assoc app (46 ∷ port) rest) ∙ no_space_first app (46 ∷ port ++ rest) a

goes_to_end : (to input : List ℕ) (after : ℕ) → IsName to → IsName input → left (port_parts (Spaces ∷ [])) (port_text to input ++ spaces after) ≡ None
goes_to_end to input after t i =
    ap (λ s. left (port_parts (Spaces ∷ [])) (port_text to input ++ s)) (sym (append-nil (spaces after)))
    ∙ goes_on_port (Spaces ∷ []) to input (spaces after ++ []) t i (no_name_first after [] refl)
    ∙ left-spaces after [] [] refl

goes_by_arrow : (parts : List Part) (l r : ℕ) (rest : List ℕ) → starts is_space rest ≡ false → left (arrow_parts parts) (spaces l ++ (45 ∷ 62 ∷ (spaces r ++ rest))) ≡ left parts rest
goes_by_arrow parts l r rest h =
    left-spaces l (Byte 45 ∷ Byte 62 ∷ Spaces ∷ parts) (45 ∷ 62 ∷ (spaces r ++ rest)) refl
    ∙ left-spaces r parts rest h

pub link_goes : (t : List ℕ) → IsSomeLinkText t → left link_parts t ≡ None
link_goes t h =
    let l = h.1 in
    let tail = port_text h.0.to h.0.input ++ spaces l.after in
    let arrow = spaces l.left ++ (45 ∷ 62 ∷ (spaces l.right ++ tail)) in
    ap (left link_parts) l.spelled
    ∙ left-spaces l.before (port_parts (arrow_parts (port_parts (Spaces ∷ [])))) (port_text h.0.from h.0.out ++ arrow) (no_space_port h.0.from h.0.out arrow l.from_name)
    ∙ goes_on_port (arrow_parts (port_parts (Spaces ∷ []))) h.0.from h.0.out arrow l.from_name l.out_name (no_name_first l.left (45 ∷ 62 ∷ (spaces l.right ++ tail)) refl)
    ∙ goes_by_arrow (port_parts (Spaces ∷ [])) l.left l.right tail (no_space_port h.0.to h.0.input (spaces l.after) l.to_name)
    ∙ goes_to_end h.0.to h.0.input l.after l.to_name l.input_name

-- spaces, and what follows them
record SpacesThen (parts : List Part) (text : List ℕ) : Type 0 where
  count : ℕ
  rest : List ℕ
  split : text ≡ spaces count ++ rest
  goes : left parts rest ≡ None

test_true : (x c : ℕ) → (x == c) ≡ true → x ≡ c
test_true x c h = grind (arith, nat_tests)

spaces_by : (b : Bool) (parts : List Part) (x : ℕ) (xs : List ℕ) → (x == 32) ≡ b → (left (Spaces ∷ parts) xs ≡ None → SpacesThen parts xs) → left_by xs (Spaces ∷ parts) (after parts x) b ≡ None → SpacesThen parts (x ∷ xs)
spaces_by true parts x xs t more e =
    let m = more e in
    record { count = suc (m.count); rest = m.rest; split = ap (λ y. y ∷ xs) (test_true x 32 t) ∙ ap (λ ys. 32 ∷ ys) m.split; goes = m.goes }
spaces_by false parts x xs t more e = record { count = 0; rest = x ∷ xs; split = refl; goes = e }

spaces_then : (parts : List Part) (text : List ℕ) → left (Spaces ∷ parts) text ≡ None → SpacesThen parts text
spaces_then parts [] e = record { count = 0; rest = []; split = refl; goes = e }
spaces_then parts (x ∷ xs) e = spaces_by (x == 32) parts x xs refl (spaces_then parts xs) e

-- a byte, and what follows it
record ByteThen (c : ℕ) (parts : List Part) (text : List ℕ) : Type 0 where
  rest : List ℕ
  split : text ≡ c ∷ rest
  goes : left parts rest ≡ None

byte_by : (b : Bool) (c : ℕ) (parts : List Part) (x : ℕ) (xs : List ℕ) → (x == c) ≡ b → left_by xs parts None b ≡ None → ByteThen c parts (x ∷ xs)
byte_by true c parts x xs t e = record { rest = xs; split = ap (λ y. y ∷ xs) (test_true x c t); goes = e }
byte_by false c parts x xs t e = cc

byte_then : (c : ℕ) (parts : List Part) (text : List ℕ) → left (Byte c ∷ parts) text ≡ None → ByteThen c parts text
byte_then c parts [] e = cc
byte_then c parts (x ∷ xs) e = byte_by (x == c) c parts x xs refl e

-- a port, and what follows it
record PortThen (parts : List Part) (text : List ℕ) : Type 0 where
  app : List ℕ
  port : List ℕ
  rest : List ℕ
  split : text ≡ port_text app port ++ rest
  app_name : IsName app
  port_name : IsName port
  goes : left parts rest ≡ None

port_then : (parts : List Part) (text : List ℕ) → left (port_parts parts) text ≡ None → PortThen parts text
port_then parts text e =
    let a = name_then (Byte 46 ∷ name_parts parts) text e in
    let d = byte_then 46 (name_parts parts) a.rest a.goes in
    let p = name_then parts d.rest d.goes in
    record {
      app = a.name;
      port = p.name;
      rest = p.rest;
      split = a.split ∙ ap (λ r. a.name ++ r) (d.split ∙ ap (λ r. 46 ∷ r) p.split) ∙ sym (append_assoc a.name (46 ∷ p.name) p.rest);
      app_name = a.valid;
      port_name = p.valid;
      goes = p.goes;
    }

nothing_then : (rest : List ℕ) → left [] rest ≡ None → rest ≡ []
nothing_then [] e = refl
nothing_then (x ∷ xs) e = cc

link_came : (t : List ℕ) → left link_parts t ≡ None → IsSomeLinkText t
link_came t e =
    let before = spaces_then (port_parts (arrow_parts (port_parts (Spaces ∷ [])))) t e in
    let from = port_then (arrow_parts (port_parts (Spaces ∷ []))) before.rest before.goes in
    let l = spaces_then (Byte 45 ∷ Byte 62 ∷ Spaces ∷ port_parts (Spaces ∷ [])) from.rest from.goes in
    let dash = byte_then 45 (Byte 62 ∷ Spaces ∷ port_parts (Spaces ∷ [])) l.rest l.goes in
    let point = byte_then 62 (Spaces ∷ port_parts (Spaces ∷ [])) dash.rest dash.goes in
    let r = spaces_then (port_parts (Spaces ∷ [])) point.rest point.goes in
    let to = port_then (Spaces ∷ []) r.rest r.goes in
    let end = spaces_then [] to.rest to.goes in (
      record { from = from.app; out = from.port; to = to.app; input = to.port },
      record {
        from_name = from.app_name;
        out_name = from.port_name;
        to_name = to.app_name;
        input_name = to.port_name;
        before = before.count;
        left = l.count;
        right = r.count;
        after = end.count;
        spelled = before.split ∙ ap (λ s. spaces before.count ++ s) (from.split ∙ ap (λ s. port_text from.app from.port ++ s) (l.split ∙ ap (λ s. spaces l.count ++ s) (dash.split ∙ ap (λ s. 45 ∷ s) (point.split ∙ ap (λ s. 62 ∷ s) (r.split ∙ ap (λ s. spaces r.count ++ s) (to.split ∙ ap (λ s. port_text to.app to.port ++ s) (end.split ∙ ap (λ s. spaces end.count ++ s) (nothing_then end.rest end.goes) ∙ append-nil (spaces end.count))))))));
      },
    )

clear_link : IsClear link_parts
clear_link = (refl, (refl, (refl, (refl, (refl, (refl, (refl, (refl, tt))))))))

-- the rest of a text at its fault is not longer than the text
pub left_within : (text : List ℕ) (rest : ℕ) → left link_parts text ≡ Some rest → rest ≤ length text
left_within text rest e = let s = stops link_parts text rest clear_link e in let h = s.sum in omega arith

pub link_first_fault : (text : List ℕ) (rest : ℕ) → left link_parts text ≡ Some rest → IsFirstFault IsSomeLinkText text (length text - rest)
link_first_fault text rest e = let w = left_within text rest e in first_fault IsSomeLinkText link_parts text rest (length text - rest) clear_link link_goes link_came e (omega arith)

-- two ways to cut a text behind the bytes that pass are one
record SameCut (a b c d : List ℕ) : Type 0 where
  front : a ≡ c
  back : b ≡ d

cut_once : (p : ℕ → Bool) (a b c d : List ℕ) → list_all p a ≡ true → list_all p c ≡ true → starts p b ≡ false → starts p d ≡ false → a ++ b ≡ c ++ d → SameCut a b c d
cut_once p [] b [] d ha hc hb hd e = record { front = refl; back = e }
cut_once p [] b (y ∷ c) d ha hc hb hd e = let s = ap (starts p) e in let t = head_true (p y) (list_all p c) hc in cc
cut_once p (x ∷ a) b [] d ha hc hb hd e = let s = ap (starts p) e in let t = head_true (p x) (list_all p a) ha in cc
cut_once p (x ∷ a) b (y ∷ c) d ha hc hb hd e =
    let rest : a ++ b ≡ c ++ d = cc in
    let same : x ≡ y = cc in
    let s : SameCut a b c d = cut_once p a b c d (tail_true (p x) (list_all p a) ha) (tail_true (p y) (list_all p c) hc) hb hd rest in
    let f : a ≡ c = s.front in
    record { front = cc; back = s.back }

all_spaces : (k : ℕ) → list_all is_space (spaces k) ≡ true
all_spaces zero = refl
all_spaces (suc k) = all_spaces k

cut_spaces : (k l : ℕ) (b d : List ℕ) → starts is_space b ≡ false → starts is_space d ≡ false → spaces k ++ b ≡ spaces l ++ d → b ≡ d
cut_spaces k l b d hb hd e = (cut_once is_space (spaces k) b (spaces l) d (all_spaces k) (all_spaces l) hb hd e).back

record SamePort (app port rest app' port' rest' : List ℕ) : Type 0 where
  apps : app ≡ app'
  ports : port ≡ port'
  rests : rest ≡ rest'

cut_port : (app port rest app' port' rest' : List ℕ) → IsName app → IsName port → IsName app' → IsName port' → starts is_name_byte rest ≡ false → starts is_name_byte rest' ≡ false → port_text app port ++ rest ≡ port_text app' port' ++ rest' → SamePort app port rest app' port' rest'
cut_port app port rest app' port' rest' a p a' p' h h' e =
    let flat : app ++ (46 ∷ port ++ rest) ≡ app' ++ (46 ∷ port' ++ rest') = sym (append_assoc app (46 ∷ port) rest) ∙ e ∙ append_assoc app' (46 ∷ port') rest' in
    let first = cut_once is_name_byte app (46 ∷ port ++ rest) app' (46 ∷ port' ++ rest') a.plain a'.plain refl refl flat in
    let behind : port ++ rest ≡ port' ++ rest' = let b = first.back in cc in
    let second = cut_once is_name_byte port rest port' rest' p.plain p'.plain h h' behind in
    record { apps = first.front; ports = second.front; rests = second.back }

pub one_link : (text : List ℕ) (a b : LinkSpec) → IsLinkText text a → IsLinkText text b → a ≡ b
one_link text a b k l =
    let tail_k = port_text a.to a.input ++ spaces k.after in
    let tail_l = port_text b.to b.input ++ spaces l.after in
    let arrow_k = spaces k.left ++ (45 ∷ 62 ∷ (spaces k.right ++ tail_k)) in
    let arrow_l = spaces l.left ++ (45 ∷ 62 ∷ (spaces l.right ++ tail_l)) in
    let froms = cut_spaces k.before l.before (port_text a.from a.out ++ arrow_k) (port_text b.from b.out ++ arrow_l) (no_space_port a.from a.out arrow_k k.from_name) (no_space_port b.from b.out arrow_l l.from_name) (sym k.spelled ∙ l.spelled) in
    let from = cut_port a.from a.out arrow_k b.from b.out arrow_l k.from_name k.out_name l.from_name l.out_name (no_name_first k.left (45 ∷ 62 ∷ (spaces k.right ++ tail_k)) refl) (no_name_first l.left (45 ∷ 62 ∷ (spaces l.right ++ tail_l)) refl) froms in
    let arrows = cut_spaces k.left l.left (45 ∷ 62 ∷ (spaces k.right ++ tail_k)) (45 ∷ 62 ∷ (spaces l.right ++ tail_l)) refl refl from.rests in
    let heads : spaces k.right ++ tail_k ≡ spaces l.right ++ tail_l = cc in
    let tails = cut_spaces k.right l.right tail_k tail_l (no_space_port a.to a.input (spaces k.after) k.to_name) (no_space_port b.to b.input (spaces l.after) l.to_name) heads in
    let to = cut_port a.to a.input (spaces k.after) b.to b.input (spaces l.after) k.to_name k.input_name l.to_name l.input_name (no_name_end k.after) (no_name_end l.after) tails in
    λ i. record { from = from.apps i; out = from.ports i; to = to.apps i; input = to.ports i }
  where
    no_name_end : (n : ℕ) → starts is_name_byte (spaces n) ≡ false
    no_name_end zero = refl
    no_name_end (suc n) = refl

-- the canonical text is the link's
pub canonical_link : (link : LinkSpec) → AreNames link → IsLinkText (canonical_text link) link
canonical_link link h =
    record {
      from_name = h.from;
      out_name = h.out;
      to_name = h.to;
      input_name = h.input;
      before = 0;
      left = 1;
      right = 1;
      after = 0;
      spelled = ap (λ s. port_text link.from link.out ++ (32 ∷ 45 ∷ 62 ∷ 32 ∷ s)) (sym (append-nil (port_text link.to link.input)));
    }
