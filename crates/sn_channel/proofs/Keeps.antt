-- Each step keeps the rule, and tells what it should.
use Rattle.std.proofs.Common.{◌≡◌, ◌≢◌, ℕ, zero, suc, ◌≤◌, ◌<◌, max, List, [], ◌∷◌, ◌++◌, length, set, true, false, true≢false, All, Contains, refl, sym, ap, ap₂, ◌∙◌, subst, inl, inr, ⊎_elim, arith}
use Rattle.std.specs.Prelude.{slice_index, slice_set, slice_index_or}
use Rattle.std.proofs.lemmas.List.Elements.{All-nil, All-push, All-weaker}
use Rattle.std.proofs.lemmas.List.Quantifiers.{all_pairs_push}
use mathlib.Core.Option.{some, some-ne-none, some-injective, none}
use lib.ListN.{get_elem?}
use Rattle.atomic_table.specs.Table.{State, Me, step, stepped, keeps, opening, Allows, Splits, Joins}
use Rattle.atomic_table.proofs.Lists.{at_set, at_snoc, set_again}
use Rattle.sn_channel.specs.declared.view.View.{View}
use Rattle.sn_channel.specs.Ends.{last_said, IsRising, IsSaid}
use Rattle.sn_channel.specs.Rule.{speaker, listener, note, nobody, learned, collected, Knows, Follows, Saying, Hearing, Comparing, Looking}

pub last_said-push : (said : List ℕ) (n : ℕ) → last_said (said ++ n ∷ []) ≡ n
last_said-push [] n = refl
last_said-push (m ∷ []) n = refl
last_said-push (m ∷ k ∷ said) n = last_said-push (k ∷ said) n

is_said-more : (said : List ℕ) (n : ℕ) (h : ℕ) → IsSaid said h → IsSaid (said ++ n ∷ []) h
is_said-more said n h (inl e) = inl e
is_said-more said n h (inr c) = inr (contains-front said n h c.0 c.1 c.2)
  where
    contains-front : (said : List ℕ) (n h k : ℕ) → k < length said → slice_index_or said k h ≡ h → Contains (said ++ n ∷ []) h
    contains-front [] n h k lt e = absurd (omega arith)
    contains-front (m ∷ said) n h zero lt e = (0, omega arith, e)
    contains-front (m ∷ said) n h (suc k) lt e = let c = contains-front said n h k (omega arith) e in (suc c.0, omega (arith, c.1), c.2)

last_is_said : (said : List ℕ) → IsSaid said (last_said said)
last_is_said [] = inl refl
last_is_said (n ∷ []) = inr (0, omega arith, refl)
last_is_said (n ∷ m ∷ said) = ⊎_elim (λ e. inl e) (λ c. inr (suc c.0, omega (arith, c.1), c.2)) (last_is_said (m ∷ said))

-- no numbers rise
rises-none : IsRising []
rises-none i j d before within = absurd (omega (arith, within))

off : false ≡ true → ⊥
off e = true≢false (sym e)

knows_set : (said : List ℕ) (views : List View) (by : ℕ) (w : View) → ((seat : ℕ) (v : View) → seat ≢ by → get_elem? views seat ≡ some v → Knows said seat v) → Knows said by w
    → (seat : ℕ) (v : View) → get_elem? (set views by w) seat ≡ some v → Knows said seat v
knows_set said views by w others mine seat v e =
    ⊎_elim
    (λ (x : (seat ≡ by) × (w ≡ v)). subst (λ (y : ℕ × View). Knows said y.0 y.1) (λ i. (sym x.0 i, x.1 i)) mine)
    (λ (x : (seat ≢ by) × (get_elem? views seat ≡ some v)). others seat v x.0 x.1)
    (at_set views by seat w v e)

-- a step that leaves the word
stays : (s : State ℕ View) (k : Follows s) (by : ℕ) (c : List (ℕ × ℕ)) (w : View) → Knows k.said by w → Follows (stepped s 0 (slice_index s.words 0) by c w keeps)
stays s k by c w mine = record {
  said = k.said;
  word = ap (λ ws. slice_set ws 0 (slice_index ws 0)) k.word;
  knows = knows_set k.said s.views by w (λ seat v _ e. k.knows seat v e) mine;
}

pub begins : Follows (opening (0 ∷ []) [] (speaker []))
begins = record { said = []; word = refl; knows = one }
  where
    first : Knows [] 0 (speaker [])
    first = record { speaks = λ _. (refl, refl); among = All-nil _; most = All-nil _; rises = rises-none; reached = omega arith }

    one : (seat : ℕ) (v : View) → get_elem? (speaker [] ∷ []) seat ≡ some v → Knows [] seat v
    one zero v e = subst (Knows [] 0) (some-injective _ _ e) first
    one (suc seat) v e = absurd (some-ne-none v (sym e))

-- what a seat still knows when a further number was said
knows_more : (said : List ℕ) (n seat : ℕ) (v : View) → last_said said ≤ n → (v.speaks ≡ true → ⊥) → Knows said seat v → Knows (said ++ n ∷ []) seat v
knows_more said n seat v le silent k =
    let last = last_said-push said n in record {
      speaks = λ e. absurd (silent e);
      among = All-weaker (IsSaid said) (IsSaid (said ++ n ∷ [])) (λ h. is_said-more said n h) v.heard k.among;
      most = All-weaker (λ h. h ≤ last_said said) (λ h. h ≤ last_said (said ++ n ∷ [])) (λ h m. omega (arith, m, le, last)) v.heard k.most;
      rises = k.rises;
      reached = omega (arith, k.reached, le, last);
    }

pub says : (slots by n : ℕ) (said : List ℕ) → last_said said ≤ n → Allows Follows slots by (speaker said, []) 0 (λ m. max m n) (Saying (step slots 0 n 0 none) (speaker said, []))
says slots by n said le s k homes at bound =
    let mine = k.knows by (speaker said) at in
    let known = mine.speaks refl in
    let w : View = record { speaks = true; said = said ++ n ∷ []; heard = []; reached = n } in
    let last = last_said-push k.said n in
    let same : last_said said ≡ last_said k.said = ap last_said known.1 in
    let found : slice_index s.words 0 ≡ last_said k.said = ap (λ ws. slice_index ws 0) k.word in
    let new : max (slice_index s.words 0) n ≡ last_said (k.said ++ n ∷ []) = omega (arith, le, same, found, last) in (
      w,
      keeps,
      tt,
      record {
        said = k.said ++ n ∷ [];
        word = ap₂ (λ ws m. slice_set ws 0 m) k.word new;
        knows = knows_set (k.said ++ n ∷ []) s.views by w
            (λ seat v apart e. knows_more k.said n seat v (omega (arith, le, same)) (λ speaks. absurd (apart (((k.knows seat v e).speaks speaks).0 ∙ sym known.0))) (k.knows seat v e))
            (record { speaks = λ _. (known.0, ap (λ l. l ++ n ∷ []) known.1); among = All-nil _; most = All-nil _; rises = rises-none; reached = omega (arith, last) });
      },
      refl,
    )

pub hears : (slots by : ℕ) (heard : List ℕ) (met : ℕ) → Allows Follows slots by (listener heard met, []) 0 (λ m. m) (Hearing (step slots 0 0 0 none) (listener heard met, []))
hears slots by heard met s k homes at bound =
    let mine = k.knows by (listener heard met) at in
    let n = slice_index s.words 0 in
    let found : last_said k.said ≡ n = sym (ap (λ ws. slice_index ws 0) k.word) in
    let w = listener (heard ++ n ∷ []) met in (
      w,
      keeps,
      tt,
      stays s k by [] w (record {
        speaks = λ e. absurd (off e);
        among = All-push (IsSaid k.said) heard n mine.among (subst (IsSaid k.said) found (last_is_said k.said));
        most = All-push (λ h. h ≤ last_said k.said) heard n mine.most (omega (arith, found));
        rises = all_pairs_push (λ a b. a ≤ b) heard n mine.rises
            (All-weaker (λ h. h ≤ last_said k.said) (λ h. h ≤ n) (λ h m. omega (arith, m, found)) heard mine.most);
        reached = mine.reached;
      }),
      (refl, All-weaker (λ h. h ≤ last_said k.said) (λ h. h ≤ n) (λ h m. omega (arith, m, found)) heard mine.most, omega (arith, mine.reached, found)),
    )

pub compares : (slots by : ℕ) (said heard : List ℕ) → Allows Follows slots by (collected (speaker said) (listener heard 0), []) 0 (λ m. m) (Comparing (step slots 0 0 0 none) (collected (speaker said) (listener heard 0), []))
compares slots by said heard s k homes at bound =
    let mine = k.knows by (collected (speaker said) (listener heard 0)) at in
    let known = mine.speaks refl in (
      speaker said,
      keeps,
      tt,
      stays s k by [] (speaker said) (record { speaks = λ _. known; among = All-nil _; most = All-nil _; rises = rises-none; reached = mine.reached }),
      (
        refl,
        subst (λ l. All (IsSaid l) heard) (sym known.1) mine.among,
        subst (λ l. All (λ n. n ≤ last_said l) heard) (sym known.1) mine.most,
        mine.rises,
      ),
    )

pub looks : (slots by : ℕ) (v : View) → Allows Follows slots by (v, []) 0 (λ m. m) (Looking (step slots 0 0 0 none) (v, []))
looks slots by v s k homes at bound = (v, keeps, tt, stays s k by [] v (k.knows by v at), refl)

pub notes : (by : ℕ) (v : View) → Splits Follows by v v (note v)
notes by v s k at =
    let mine = k.knows by v at in
    record {
      said = k.said;
      word = k.word;
      knows = λ seat u e. ⊎_elim
          (λ was. k.knows seat u (subst (λ l. get_elem? l seat ≡ some u) (set_again s.views by v at) was))
          (λ (same : note v ≡ u). subst (Knows k.said seat) same (record { speaks = λ x. absurd (off x); among = mine.among; most = mine.most; rises = mine.rises; reached = mine.reached }))
          (at_snoc (set s.views by v) (note v) u seat e);
    }

-- a join, after which the seat knows what either knew
joins : (by : ℕ) (v : View) (other : ℕ) (u both : View) → ((said : List ℕ) → Knows said by v → Knows said other u → Knows said by both) → Joins Follows by v other u both nobody
joins by v other u both adds s k at apart there =
    let theirs : Knows k.said other u = ⊎_elim (λ (t : (other ≡ by) × (both ≡ u)). absurd (apart t.0)) (λ (t : (other ≢ by) × (get_elem? s.views other ≡ some u)). k.knows other u t.1) (at_set s.views by other both u there) in
    let mine = adds k.said (k.knows by v at) theirs in
    record {
      said = k.said;
      word = k.word;
      knows = knows_set k.said (set s.views by both) other nobody
          (λ seat w _ e. knows_set k.said s.views by both (λ i y _ e'. k.knows i y e') mine seat w e)
          (record { speaks = λ x. absurd (off x); among = All-nil _; most = All-nil _; rises = rises-none; reached = omega arith });
    }

pub learns : (by : ℕ) (v : View) (other : ℕ) (u : View) → Joins Follows by v other u (learned v u) nobody
learns by v other u = joins by v other u (learned v u) (λ said mine theirs. record { speaks = mine.speaks; among = mine.among; most = mine.most; rises = mine.rises; reached = theirs.reached })

pub collects : (by : ℕ) (v : View) (other : ℕ) (u : View) → Joins Follows by v other u (collected v u) nobody
collects by v other u = joins by v other u (collected v u) (λ said mine theirs. record { speaks = mine.speaks; among = theirs.among; most = theirs.most; rises = theirs.rises; reached = mine.reached })

-- the steps of an end whose seat's state is known by an equation
pub says_as : (slots by n : ℕ) (said : List ℕ) (me : Me ℕ View) → me ≡ (speaker said, []) → last_said said ≤ n → Allows Follows slots by me 0 (λ m. max m n) (Saying (step slots 0 n 0 none) me)
says_as slots by n said me is le = subst (λ u. Allows Follows slots by u 0 (λ m. max m n) (Saying (step slots 0 n 0 none) u)) (sym is) (says slots by n said le)

pub hears_as : (slots by : ℕ) (heard : List ℕ) (met : ℕ) (me : Me ℕ View) → me ≡ (listener heard met, []) → Allows Follows slots by me 0 (λ m. m) (Hearing (step slots 0 0 0 none) me)
hears_as slots by heard met me is = subst (λ u. Allows Follows slots by u 0 (λ m. m) (Hearing (step slots 0 0 0 none) u)) (sym is) (hears slots by heard met)

pub compares_as : (slots by : ℕ) (said heard : List ℕ) (me : Me ℕ View) → me ≡ (collected (speaker said) (listener heard 0), []) → Allows Follows slots by me 0 (λ m. m) (Comparing (step slots 0 0 0 none) me)
compares_as slots by said heard me is = subst (λ u. Allows Follows slots by u 0 (λ m. m) (Comparing (step slots 0 0 0 none) u)) (sym is) (compares slots by said heard)

pub looks_as : (slots by : ℕ) (v : View) (me : Me ℕ View) → me ≡ (v, []) → Allows Follows slots by me 0 (λ m. m) (Looking (step slots 0 0 0 none) me)
looks_as slots by v me is = subst (λ u. Allows Follows slots by u 0 (λ m. m) (Looking (step slots 0 0 0 none) u)) (sym is) (looks slots by v)

-- the speaker after it said a number
pub speaks_on : (me after : Me ℕ View) (n : ℕ) → me ≡ (speaker me.0.said, []) → after ≡ (record { speaks = me.0.speaks; said = me.0.said ++ n ∷ []; heard = me.0.heard; reached = n }, me.1) → after ≡ (speaker after.0.said, [])
speaks_on me after n is then =
    let said = me.0.said ++ n ∷ [] in
    let now : after ≡ (record { speaks = true; said = said; heard = []; reached = n }, []) = then ∙ ap (λ (u : Me ℕ View). (record { speaks = u.0.speaks; said = said; heard = u.0.heard; reached = n }, u.1)) is in
    let last : after ≡ (speaker said, []) = now ∙ ap (λ (r : ℕ). (record { speaks = true; said = said; heard = []; reached = r }, [])) (sym (last_said-push me.0.said n)) in
    last ∙ ap (λ (l : List ℕ). (speaker l, [])) (sym (ap (λ (u : Me ℕ View). u.0.said) last))

-- the speaker with the listener's note
pub has_collected : (spoke heard told asks : Me ℕ View) → spoke ≡ (speaker spoke.0.said, []) → told ≡ (note heard.0, []) → asks ≡ (collected spoke.0 told.0, spoke.1) → asks ≡ (collected (speaker spoke.0.said) (listener heard.0.heard 0), [])
has_collected spoke heard told asks is noted asked = asked ∙ ap₂ (λ (u : Me ℕ View) (hs : List ℕ). (collected u.0 (listener hs 0), u.1)) is (ap (λ (u : Me ℕ View). u.0.heard) noted)

-- the listener with the speaker's note
pub has_learned : (heard spoke told knows : Me ℕ View) → heard ≡ (listener heard.0.heard heard.0.reached, []) → spoke ≡ (speaker spoke.0.said, []) → told ≡ (note spoke.0, []) → knows ≡ (learned heard.0 told.0, heard.1)
    → knows ≡ (listener heard.0.heard (last_said spoke.0.said), [])
has_learned heard spoke told knows is speaks noted learned' =
    let last : told.0.reached ≡ last_said spoke.0.said = ap (λ (u : Me ℕ View). u.0.reached) noted ∙ ap (λ (u : Me ℕ View). u.0.reached) speaks in
    learned' ∙ ap₂ (λ (u : Me ℕ View) (r : ℕ). (learned u.0 (listener [] r), u.1)) is last
