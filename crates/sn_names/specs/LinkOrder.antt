-- The orders of names and of links.
use Rattle.std.specs.Prelude.{List, ℕ}
use Rattle.std.proofs.Common.{ap}
use Rattle.std.proofs.lemmas.Cmp.{nat_list_cmp_total, on_total, then_total}
use Rattle.std.proofs.lemmas.Map.Lookups.{CmpEqualImpliesEq, exact_bytes, exact_pairs}
use Rattle.std.specs.Cmp.{IsTotalOrder}
use Rattle.std.specs.Cmp.Lexicographic.{slice_cmp}
use Rattle.std.specs.Ordering.{nat_cmp, ordering_then}
use Rattle.std.specs.declared.cmp.Ordering.{Ordering}
use Rattle.sn_names.specs.LinkText.{canonical_text}
use Rattle.sn_names.specs.declared.link.LinkSpec.{LinkSpec}

-- by the bytes, one after another
abbrev pub name_cmp : List ℕ → List ℕ → Ordering
name_cmp a b = slice_cmp nat_cmp a b

-- by the four names, one after another
abbrev pub link_cmp : LinkSpec → LinkSpec → Ordering
link_cmp a b =
    ordering_then (name_cmp a.from b.from)
    (ordering_then (name_cmp a.out b.out)
    (ordering_then (name_cmp a.to b.to) (name_cmp a.input b.input)))

-- by the canonical texts' bytes
abbrev pub text_cmp : LinkSpec → LinkSpec → Ordering
text_cmp a b = slice_cmp nat_cmp (canonical_text a) (canonical_text b)

-- by an app and its port
abbrev pub port_cmp : List ℕ × List ℕ → List ℕ × List ℕ → Ordering
port_cmp a b = ordering_then (name_cmp a.0 b.0) (name_cmp a.1 b.1)

-- the orders are total, and only equal names, ports and links compare alike
pub name_cmp_total : IsTotalOrder name_cmp
name_cmp_total = nat_list_cmp_total

pub exact_names : CmpEqualImpliesEq name_cmp
exact_names = exact_bytes

pub port_cmp_total : IsTotalOrder port_cmp
port_cmp_total = then_total (on_total (λ p. p.0) name_cmp_total) (on_total (λ p. p.1) name_cmp_total)

pub exact_ports : CmpEqualImpliesEq port_cmp
exact_ports = exact_pairs name_cmp name_cmp exact_names exact_names

pub link_cmp_total : IsTotalOrder link_cmp
link_cmp_total =
    then_total (on_total (λ l. l.from) name_cmp_total)
    (then_total (on_total (λ l. l.out) name_cmp_total)
    (then_total (on_total (λ l. l.to) name_cmp_total) (on_total (λ l. l.input) name_cmp_total)))

pub exact_links : CmpEqualImpliesEq link_cmp
exact_links a b h =
    ap (λ (p : List ℕ × (List ℕ × (List ℕ × List ℕ))). record { from = p.0; out = p.1.0; to = p.1.1.0; input = p.1.1.1 })
    (exact_pairs name_cmp (λ x y. ordering_then (name_cmp x.0 y.0) (port_cmp x.1 y.1))
    exact_names (exact_pairs name_cmp port_cmp exact_names exact_ports)
    (a.from, (a.out, (a.to, a.input))) (b.from, (b.out, (b.to, b.input))) h)
