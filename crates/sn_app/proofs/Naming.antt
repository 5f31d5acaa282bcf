-- A named port, as the code finds it and as a desk has it.
use Rattle.std.proofs.Common.{◌≡◌, ℕ, suc, ◌+◌, ◌<◌, Bool, true, false, not, cond, nat_lt, ltb-true, List, [], ◌∷◌, length, Option, Some, None, refl, sym, ap, subst, ◌∙◌, arith, bytes_eq, one-add, IfSome, IfNone, rules}
use Rattle.std.proofs.lemmas.Bool.{lt-ltb}
use Rattle.std.proofs.lemmas.Bool.Decides.{nat_tests}
use Rattle.std.specs.List.{position_or_len}
use Rattle.sn_link.specs.Link.{Line}
use Rattle.sn_app.specs.Apps.{row_named}
use Rattle.sn_app.specs.Ports.{line_at, place_of, row_at, rows_of}

below_suc : (a b : ℕ) → nat_lt (suc a) (suc b) ≡ nat_lt a b
below_suc a b = grind (arith, nat_tests)

-- the row of the first port of this name, where one has it
row_first : (slots : List (Option Line)) (ports : List (List ℕ × ℕ)) (name : List ℕ)
    → row_named name (rows_of slots ports)
    ≡ cond (nat_lt (position_or_len (λ port. bytes_eq port.0 name) ports) (length ports))
    (Some (row_at slots ports (position_or_len (λ port. bytes_eq port.0 name) ports))) None
unfolding rows_of
row_first slots [] name = refl
row_first slots (port ∷ ports) name = by_name (bytes_eq port.0 name) (row_first slots ports name)
  where
    by_name : (b : Bool)
        → row_named name (rows_of slots ports)
        ≡ cond (nat_lt (position_or_len (λ port. bytes_eq port.0 name) ports) (length ports))
        (Some (row_at slots ports (position_or_len (λ port. bytes_eq port.0 name) ports))) None
        → (cond b (Some (line_at slots port.1).row) (row_named name (rows_of slots ports)))
        ≡ cond (nat_lt (cond (not b) (1 + position_or_len (λ p. bytes_eq p.0 name) ports) 0) (suc (length ports)))
        (Some (row_at slots (port ∷ ports) (cond (not b) (1 + position_or_len (λ p. bytes_eq p.0 name) ports) 0))) None
    by_name true rest = ap (λ b. cond b (Some (line_at slots port.1).row) None) (sym (lt-ltb 0 (suc (length ports)) (omega arith)))
    by_name false rest =
        rest
        ∙ (ap (λ b. cond b (Some (row_at slots ports (position_or_len (λ p. bytes_eq p.0 name) ports))) None)
        (sym (below_suc (position_or_len (λ p. bytes_eq p.0 name) ports) (length ports)))
        ∙ ap (λ n. cond (nat_lt n (suc (length ports))) (Some (row_at slots (port ∷ ports) n)) None)
        (sym (one-add (position_or_len (λ p. bytes_eq p.0 name) ports))))

the_some : (k i : ℕ) → Some k ≡ Some i → k ≡ i
the_some k i e = cc

-- found
pub named_some : (slots : List (Option Line)) (ports : List (List ℕ × ℕ)) (name : List ℕ) (i : ℕ) → place_of ports name ≡ Some i
    → row_named name (rows_of slots ports) ≡ Some (row_at slots ports i)
named_some slots ports name i found =
    row_first slots ports name ∙ some_at (nat_lt (position_or_len (λ port. bytes_eq port.0 name) ports) (length ports)) _ found
  where
    some_at : (b : Bool) (k : ℕ) → cond b (Some k) None ≡ Some i → cond b (Some (row_at slots ports k)) None ≡ Some (row_at slots ports i)
    some_at true k e = ap (λ n. Some (row_at slots ports n)) (the_some k i e)
    some_at false k e = absurd cc

pub named_within : (ports : List (List ℕ × ℕ)) (name : List ℕ) (i : ℕ) → place_of ports name ≡ Some i → i < length ports
named_within ports name i found = within (nat_lt (position_or_len (λ port. bytes_eq port.0 name) ports) (length ports)) _ refl found
  where
    within : (b : Bool) (k : ℕ) → nat_lt k (length ports) ≡ b → cond b (Some k) None ≡ Some i → i < length ports
    within true k e f = subst (λ n. n < length ports) (the_some k i f) (ltb-true k (length ports) e)
    within false k e f = absurd cc

-- not found
pub named_none : (slots : List (Option Line)) (ports : List (List ℕ × ℕ)) (name : List ℕ) → place_of ports name ≡ None
    → row_named name (rows_of slots ports) ≡ None
named_none slots ports name missing =
    row_first slots ports name ∙ none_at (nat_lt (position_or_len (λ port. bytes_eq port.0 name) ports) (length ports)) _ missing
  where
    none_at : (b : Bool) (k : ℕ) → cond b (Some k) None ≡ None → cond b (Some (row_at slots ports k)) None ≡ None
    none_at true k e = absurd cc
    none_at false k e = refl

-- as an answer says it
pub if_found : (slots : List (Option Line)) (ports : List (List ℕ × ℕ)) (name : List ℕ) (result : Option ℕ) → result ≡ place_of ports name
    → IfSome result (λ i. row_named name (rows_of slots ports) ≡ Some (row_at slots ports i))
if_found slots ports name (Some i) is = let e = named_some slots ports name i (sym is) in search rules
if_found slots ports name None is = search rules

pub if_missing : (slots : List (Option Line)) (ports : List (List ℕ × ℕ)) (name : List ℕ) (result : Option ℕ) → result ≡ place_of ports name
    → IfNone result (row_named name (rows_of slots ports) ≡ None)
if_missing slots ports name (Some i) is = search rules
if_missing slots ports name None is = let e = named_none slots ports name (sym is) in search rules
