-- Each step of an end keeps the rule, and tells what it should.
use Rattle.std.proofs.Common.{◌≡◌, ◌<◌, ◌⊎◌, ⊎_elim, ℕ, zero, suc, Bool, true, false, List, [], ◌∷◌, ◌++◌, length, refl, sym, ap, ap₂, ◌∙◌, subst}
use Rattle.std.specs.Prelude.{slice_index}
use mathlib.Core.Option.{some, some-ne-none, some-injective}
use lib.ListN.{get_elem?}
use Rattle.atomic_table.specs.Table.{State, Me, Act, keeps, stepped, Valid, carried_after, Allows}
use Rattle.sn_core.specs.declared.events.Side.{Side}
use Rattle.sn_core.specs.declared.events.Side.TheVariants.{Tx, Rx}
use Rattle.sn_packet.specs.Packet.{PacketState}
use Rattle.sn_interlink.specs.declared.entry.LaneEntry.{LaneEntry}
use Rattle.sn_interlink.specs.declared.view.EndState.{EndState}
use Rattle.sn_interlink.specs.declared.view.EndState.TheVariants.{Out, Up, Closing}
use Rattle.sn_interlink.specs.declared.view.Known.{Known}
use Rattle.sn_interlink.specs.declared.view.View.{View}
use Rattle.sn_interlink.specs.declared.view.View.TheVariants.{Fresh, One, Both, Spent}
use Rattle.sn_interlink.specs.Course.{Status, absent, up, gone, closing, Course, mine, with_status, is_up, word_of, state_of, leaves, left_state, Deed, History, course, log_of, entries_of, if_own}
use Rattle.sn_interlink.specs.Rule.{Lying, Ends, of_side, with_side, Stage, whole, parted, joined, views_of, words_of, Meets, Rule}
use Rattle.sn_interlink.specs.Moves.{Half, idle, out_of, turn, seat_of, stayed, Left}

-- THE SEAT OF AN END

-- a seat that knows what one end knows is that end's
pub record Seated (s : State Lying View) (id : ℕ) (side : Side) (v : Known) : Type 0 where
  pub hist : History
  pub k : Ends
  pub meets : Meets s hist parted k
  pub id_is : id ≡ seat_of side
  pub known : of_side side k ≡ v

abbrev pub one_side : View → Side
one_side (Fresh a b) = Tx
one_side (One side v) = side
one_side (Both a b) = Tx
one_side Spent = Tx

abbrev pub one_known : Known → View → Known
one_known d (Fresh a b) = d
one_known d (One side v) = v
one_known d (Both a b) = d
one_known d Spent = d

abbrev is_one_end : View → Bool
is_one_end (Fresh a b) = false
is_one_end (One side v) = true
is_one_end (Both a b) = false
is_one_end Spent = false

seated_at : (s : State Lying View) (hist : History) (k : Ends) (id : ℕ) (side own : Side) (v : Known) → Meets s hist parted k → id ≡ seat_of own → One own (of_side own k) ≡ One side v → Seated s id side v
seated_at s hist k id side own v m at e =
    let same : own ≡ side = ap one_side e in record {
      hist = hist;
      k = k;
      meets = m;
      id_is = at ∙ ap seat_of same;
      known = ap (λ x. of_side x k) (sym same) ∙ ap (one_known v) e;
    }

pub seated : (s : State Lying View) (id : ℕ) (side : Side) (v : Known) → Rule s → get_elem? s.views id ≡ some (One side v) → Seated s id side v
seated s id side v r at = by r.stage id r.meets (ap (λ vs. get_elem? vs id) (sym r.meets.views) ∙ at)
  where
    by : (stage : Stage) (id : ℕ) → Meets s r.hist stage r.ends → get_elem? (views_of stage r.ends) id ≡ some (One side v) → Seated s id side v
    by whole zero m e = let b : false ≡ true = ap is_one_end (some-injective _ _ e) in cc
    by whole (suc id) m e = absurd (some-ne-none _ (sym e))
    by parted zero m e = seated_at s r.hist r.ends 0 side Tx v m refl (some-injective _ _ e)
    by parted (suc zero) m e = seated_at s r.hist r.ends 1 side Rx v m refl (some-injective _ _ e)
    by parted (suc (suc id)) m e = absurd (some-ne-none _ (sym e))
    by joined zero m e = let b : false ≡ true = ap is_one_end (some-injective _ _ e) in cc
    by joined (suc zero) m e = let b : false ≡ true = ap is_one_end (some-injective _ _ e) in cc
    by joined (suc (suc id)) m e = absurd (some-ne-none _ (sym e))

-- STEPS

-- what a step that turns the slots leaves, and tells
pub record Turns (s : State Lying View) (hist : History) (k : Ends) (side : Side) (half : Half) (i n : ℕ) (tells : Me Lying View → Type 0) : Type 0 where
  pub d : Deed
  pub w : Known
  pub left : Left s hist k side d (of_side side k) half w i n
  pub told : tells (One side w, out_of w.hand idle)

-- the same of a step that leaves them
pub record Rests (s : State Lying View) (hist : History) (k : Ends) (side : Side) (half : Half) (i n : ℕ) (tells : Me Lying View → Type 0) : Type 0 where
  pub d : Deed
  pub w : Known
  pub left : Meets (stayed s i n side (of_side side k) half w) ((side, d) ∷ hist) parted (with_side side w k)
  pub told : tells (One side w, out_of (of_side side k).hand half)

-- what a step needs: whatever the table is, one of the two
abbrev pub Steps : Side → Known → Half → ℕ → (ℕ → ℕ) → (ℕ → Me Lying View → Type 0) → Type 0
Steps side v half i f tells = (s : State Lying View) (hist : History) (k : Ends) → Meets s hist parted k → of_side side k ≡ v → slice_index s.words i < 18446744073709551616
    → Turns s hist k side half i (f (slice_index s.words i)) (tells (slice_index s.words i)) ⊎ Rests s hist k side half i (f (slice_index s.words i)) (tells (slice_index s.words i))

Picks : State Lying View → ℕ → Side → Known → Half → ℕ → ℕ → (Me Lying View → Type 0) → Type 0
Picks s id side v half i n tells = (w : View) × (a : Act Lying) × Valid s.homes (out_of v.hand half) a × Rule (stepped s i n id (out_of v.hand half) w a) × tells (w, carried_after (out_of v.hand half) a)

picked_turn : (s : State Lying View) (hist : History) (k : Ends) (side : Side) (half : Half) (i n : ℕ) (tells : Me Lying View → Type 0)
    → Turns s hist k side half i n tells → Picks s (seat_of side) side (of_side side k) half i n tells
unfolding Picks
picked_turn s hist k side half i n tells t = (
  One side t.w,
  turn (of_side side k).hand t.w.hand,
  t.left.valid,
  record { hist = (side, t.d) ∷ hist; stage = parted; ends = with_side side t.w k; meets = t.left.meets },
  subst (λ c. tells (One side t.w, c)) (sym t.left.carried) t.told,
)

picked_rest : (s : State Lying View) (hist : History) (k : Ends) (side : Side) (half : Half) (i n : ℕ) (tells : Me Lying View → Type 0)
    → Rests s hist k side half i n tells → Picks s (seat_of side) side (of_side side k) half i n tells
unfolding Picks
picked_rest s hist k side half i n tells t = (
  One side t.w,
  keeps,
  tt,
  record { hist = (side, t.d) ∷ hist; stage = parted; ends = with_side side t.w k; meets = t.left },
  t.told,
)

pub allow : (slots id : ℕ) (side : Side) (v : Known) (half : Half) (i : ℕ) (f : ℕ → ℕ) (tells : ℕ → Me Lying View → Type 0)
    → Steps side v half i f tells → Allows Rule slots id (One side v, out_of v.hand half) i f tells
unfolding Picks
allow slots id side v half i f tells steps s r homes at bound =
    let here = seated s id side v r at in
    let n : ℕ = slice_index s.words i in
    let pick : Picks s (seat_of side) side (of_side side here.k) half i (f n) (tells n) =
    ⊎_elim (picked_turn s here.hist here.k side half i (f n) (tells n)) (picked_rest s here.hist here.k side half i (f n) (tells n)) (steps s here.hist here.k here.meets here.known bound) in
    subst (λ (x : ℕ × Known). Picks s x.0 side x.1 half i (f n) (tells n)) (λ j. (sym here.id_is j, here.known j)) pick

-- WORDS AND STATUSES

pub own_entries : (side : Side) (es : List LaneEntry) → if_own side side es ≡ es
own_entries Tx es = refl
own_entries Rx es = refl

pub log_more : (side : Side) (hist : History) (d : Deed) (log : List LaneEntry) → log ≡ log_of side hist → log ++ entries_of d ≡ log_of side ((side, d) ∷ hist)
log_more side hist d log e = ap₂ (λ a b. a ++ b) e (sym (own_entries side (entries_of d)))

abbrev is_state_up : EndState → Bool
is_state_up Out = false
is_state_up Up = true
is_state_up Closing = false

abbrev is_state_closing : EndState → Bool
is_state_closing Out = false
is_state_closing Up = false
is_state_closing Closing = true

pub up_if : (s : Status) → state_of s ≡ Up → s ≡ up
up_if absent e = let b : false ≡ true = ap is_state_up e in cc
up_if up e = refl
up_if gone e = let b : false ≡ true = ap is_state_up e in cc
up_if closing e = let b : false ≡ true = ap is_state_up e in cc

pub closing_if : (s : Status) → state_of s ≡ Closing → s ≡ closing
closing_if absent e = let b : false ≡ true = ap is_state_closing e in cc
closing_if up e = let b : false ≡ true = ap is_state_closing e in cc
closing_if gone e = let b : false ≡ true = ap is_state_closing e in cc
closing_if closing e = refl

pub away_if : (s : Status) → state_of s ≡ Out → is_up s ≡ false
away_if absent e = refl
away_if up e = let b : true ≡ false = ap is_state_up e in cc
away_if gone e = refl
away_if closing e = refl

-- an end and its status
pub mine_with : (side : Side) (st : Status) (c : Course) → mine side (with_status side st c) ≡ st
mine_with Tx st c = refl
mine_with Rx st c = refl

pub mine_same : (side : Side) (c : Course) (ps : List PacketState) (r : ℕ) → mine side (record { tx = c.tx; rx = c.rx; puts = ps; read = r }) ≡ mine side c
mine_same Tx c ps r = refl
mine_same Rx c ps r = refl

pub mine_freed : (side : Side) (c : Course) → mine side (record { tx = absent; rx = absent; puts = c.puts; read = c.read }) ≡ absent
mine_freed Tx c = refl
mine_freed Rx c = refl

pub puts_with : (side : Side) (st : Status) (c : Course) → (with_status side st c).puts ≡ c.puts
puts_with Tx st c = refl
puts_with Rx st c = refl

pub read_with : (side : Side) (st : Status) (c : Course) → (with_status side st c).read ≡ c.read
read_with Tx st c = refl
read_with Rx st c = refl

pub words_with : (side : Side) (st : Status) (c : Course) → word_of (with_status side st c) ∷ length c.puts ∷ c.read ∷ [] ≡ words_of (with_status side st c)
words_with Tx st c = refl
words_with Rx st c = refl

pub left_of : (b : Bool) → left_state b ≡ state_of (leaves b)
left_of true = refl
left_of false = refl

-- the word found
pub word_at : (s : State Lying View) (hist : History) (stage : Stage) (k : Ends) → Meets s hist stage k → slice_index s.words 0 ≡ word_of (course hist)
word_at s hist stage k m = ap (λ ws. slice_index ws 0) m.words

pub put_at : (s : State Lying View) (hist : History) (stage : Stage) (k : Ends) → Meets s hist stage k → slice_index s.words 1 ≡ length (course hist).puts
put_at s hist stage k m = ap (λ ws. slice_index ws 1) m.words

pub read_at : (s : State Lying View) (hist : History) (stage : Stage) (k : Ends) → Meets s hist stage k → slice_index s.words 2 ≡ (course hist).read
read_at s hist stage k m = ap (λ ws. slice_index ws 2) m.words
