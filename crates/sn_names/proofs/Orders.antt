-- The order of links by their names is the order of their canonical texts by their bytes.
use Rattle.std.proofs.Common.{List, [], ap, append_assoc, arith, refl, sym, true, ℕ, ◌++◌, ◌<◌, ◌∙◌, ◌∷◌, ◌≡◌}
use Rattle.std.proofs.lemmas.Bool.Decides.{nat_tests}
use Rattle.std.specs.Cmp.Lexicographic.{slice_cmp}
use Rattle.std.specs.List.{list_all}
use Rattle.std.specs.Ordering.{nat_cmp, ordering_then}
use Rattle.std.specs.declared.cmp.Ordering.{Ordering}
use Rattle.std.specs.declared.cmp.Ordering.TheVariants.{Equal, Greater, Less}
use Rattle.sn_names.proofs.Links.{head_true, tail_true}
use Rattle.sn_names.specs.LinkOrder.{link_cmp, name_cmp}
use Rattle.sn_names.specs.LinkText.{AreNames, canonical_text}
use Rattle.sn_names.specs.NameText.{is_name_byte}
use Rattle.sn_names.specs.Spelled.{port_text}
use Rattle.sn_names.specs.declared.link.LinkSpec.{LinkSpec}

below_name : (c x : ℕ) → c < 48 → is_name_byte x ≡ true → nat_cmp c x ≡ Less
below_name c x h n = grind (arith, nat_tests)

above_name : (c x : ℕ) → c < 48 → is_name_byte x ≡ true → nat_cmp x c ≡ Greater
above_name c x h n = grind (arith, nat_tests)

same_cmp : (c : ℕ) → nat_cmp c c ≡ Equal
same_cmp c = grind (arith, nat_tests)

then_assoc : (a b c : Ordering) → ordering_then a (ordering_then b c) ≡ ordering_then (ordering_then a b) c
then_assoc Less b c = refl
then_assoc Equal b c = refl
then_assoc Greater b c = refl

-- a byte below those of names ends both
by_name : (c : ℕ) (a b u v : List ℕ) → c < 48 → list_all is_name_byte a ≡ true → list_all is_name_byte b ≡ true → slice_cmp nat_cmp (a ++ c ∷ u) (b ++ c ∷ v) ≡ ordering_then (name_cmp a b) (slice_cmp nat_cmp u v)
by_name c [] [] u v h p q = ap (λ o. ordering_then o (slice_cmp nat_cmp u v)) (same_cmp c)
by_name c [] (y ∷ b) u v h p q = ap (λ o. ordering_then o (slice_cmp nat_cmp u (b ++ c ∷ v))) (below_name c y h (head_true (is_name_byte y) (list_all is_name_byte b) q))
by_name c (x ∷ a) [] u v h p q = ap (λ o. ordering_then o (slice_cmp nat_cmp (a ++ c ∷ u) v)) (above_name c x h (head_true (is_name_byte x) (list_all is_name_byte a) p))
by_name c (x ∷ a) (y ∷ b) u v h p q =
    ap (ordering_then (nat_cmp x y)) (by_name c a b u v h (tail_true (is_name_byte x) (list_all is_name_byte a) p) (tail_true (is_name_byte y) (list_all is_name_byte b) q))
    ∙ then_assoc (nat_cmp x y) (name_cmp a b) (slice_cmp nat_cmp u v)

pub canonical_order : (a b : LinkSpec) → AreNames a → AreNames b → link_cmp a b ≡ slice_cmp nat_cmp (canonical_text a) (canonical_text b)
canonical_order a b p q =
    let tail : LinkSpec → List ℕ = λ l. 45 ∷ 62 ∷ 32 ∷ port_text l.to l.input in
    let flat : (l : LinkSpec) → canonical_text l ≡ l.from ++ (46 ∷ (l.out ++ (32 ∷ tail l))) = λ l. append_assoc l.from (46 ∷ l.out) (32 ∷ tail l) in
    sym (ap (λ s. slice_cmp nat_cmp s (canonical_text b)) (flat a)
    ∙ ap (λ s. slice_cmp nat_cmp (a.from ++ (46 ∷ (a.out ++ (32 ∷ tail a)))) s) (flat b)
    ∙ by_name 46 a.from b.from (a.out ++ (32 ∷ tail a)) (b.out ++ (32 ∷ tail b)) (omega arith) p.from.plain q.from.plain
    ∙ ap (ordering_then (name_cmp a.from b.from))
    (by_name 32 a.out b.out (tail a) (tail b) (omega arith) p.out.plain q.out.plain
    ∙ ap (ordering_then (name_cmp a.out b.out)) (by_name 46 a.to b.to a.input b.input (omega arith) p.to.plain q.to.plain)))
