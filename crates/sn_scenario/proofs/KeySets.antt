-- What is among keys stays there with one key more, and so does that key.
use Rattle.std.proofs.Common.{Bool, Contains, List, [], ap, false, fold, refl, true, ◌∙◌, ◌∷◌, ◌≡◌, ◌||◌}
use Rattle.std.proofs.lemmas.Cmp.{tied_itself}
use Rattle.std.proofs.lemmas.Map.Lookups.{CmpEqualImpliesEq}
use Rattle.std.proofs.lemmas.Map.Views.{Contains-from_any}
use Rattle.std.specs.BTreeMap.{is_at}
use Rattle.std.specs.BTreeSet.{insert_key}
use Rattle.std.specs.Cmp.{IsTotalOrder}
use Rattle.std.specs.List.{list_any}
use Rattle.std.specs.Ordering.{is_eq, match_ordering}
use Rattle.std.specs.declared.cmp.Ordering.{Ordering}
use Rattle.std.specs.declared.cmp.Ordering.TheVariants.{Equal, Greater, Less}

pub equal_eq : (o : Ordering) → is_eq o ≡ true → o ≡ Equal
equal_eq Less h = cc
equal_eq Equal h = refl
equal_eq Greater h = cc

pub or_second : (a b : Bool) → b ≡ true → (a || b) ≡ true
or_second true b h = refl
or_second false b h = h

pub or_first : (a b : Bool) → a ≡ true → (a || b) ≡ true
or_first true b h = refl
or_first false b h = cc

module _ {K : Type 0} (R : K → K → Ordering) where
  -- a key is among these
  abbrev pub has_key : List K → K → Bool
  has_key keys key = list_any (is_at (R key)) keys

  more_by : (o : Ordering) (k x q : K) (xs : List K) → has_key (x ∷ xs) q ≡ true → (has_key xs q ≡ true → has_key (insert_key R xs k) q ≡ true) → has_key (match_ordering o (k ∷ x ∷ xs) (x ∷ xs) (x ∷ insert_key R xs k)) q ≡ true
  more_by Less k x q xs h more = or_second (is_at (R q) k) (has_key (x ∷ xs) q) h
  more_by Equal k x q xs h more = h
  more_by Greater k x q xs h more = by (is_at (R q) x) h
    where
      by : (b : Bool) → (b || has_key xs q) ≡ true → (b || has_key (insert_key R xs k) q) ≡ true
      by true t = refl
      by false t = more t

  pub key_stays : (keys : List K) (key q : K) → has_key keys q ≡ true → has_key (insert_key R keys key) q ≡ true
  key_stays [] key q h = cc
  key_stays (x ∷ xs) key q h = more_by (R key x) key x q xs h (key_stays xs key q)

  module _ (total : IsTotalOrder R) where
    pub key_itself : (q : K) → is_at (R q) q ≡ true
    key_itself q = ap is_eq (tied_itself total q)

    own_by : (o : Ordering) (k x : K) (xs : List K) → R k x ≡ o → has_key (insert_key R xs k) k ≡ true → has_key (match_ordering o (k ∷ x ∷ xs) (x ∷ xs) (x ∷ insert_key R xs k)) k ≡ true
    own_by Less k x xs e more = or_first (is_at (R k) k) (has_key (x ∷ xs) k) (key_itself k)
    own_by Equal k x xs e more = ap (λ o. is_eq o || has_key xs k) e
    own_by Greater k x xs e more = or_second (is_at (R k) x) (has_key (insert_key R xs k) k) more

    pub key_added : (keys : List K) (key : K) → has_key (insert_key R keys key) key ≡ true
    key_added [] key = or_first (is_at (R key) key) false (key_itself key)
    key_added (x ∷ xs) key = own_by (R key x) key x xs refl (key_added xs key)

    all_stay : (keys more : List K) (q : K) → has_key keys q ≡ true → has_key (fold (insert_key R) keys more) q ≡ true
    all_stay keys [] q h = h
    all_stay keys (k ∷ more) q h = all_stay (insert_key R keys k) more q (key_stays keys k q h)

    -- keys that are put in one after another are all there
    module _ (exact : CmpEqualImpliesEq R) where
      pub all_added : (keys more : List K) (q : K) → has_key more q ≡ true → has_key (fold (insert_key R) keys more) q ≡ true
      all_added keys [] q h = cc
      all_added keys (k ∷ more) q h = by (is_at (R q) k) refl h (all_added (insert_key R keys k) more q)
        where
          by : (b : Bool) → is_at (R q) k ≡ b → (b || has_key more q) ≡ true → (has_key more q ≡ true → has_key (fold (insert_key R) (insert_key R keys k) more) q ≡ true) → has_key (fold (insert_key R) (insert_key R keys k) more) q ≡ true
          by true e t rest = all_stay (insert_key R keys k) more q (ap (λ x. has_key (insert_key R keys k) x) (exact q k (equal_eq (R q k) e)) ∙ key_added keys k)
          by false e t rest = rest t

      pub key_there : (keys : List K) (q : K) → has_key keys q ≡ true → Contains keys q
      key_there keys q h = Contains-from_any {eq = λ x y. is_eq (R x y)} (λ x y t. exact x y (equal_eq (R x y) t)) q keys h
