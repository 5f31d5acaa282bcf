-- What is known of the table of an interlink whose ends are both out.
use Rattle.std.proofs.Common.{◌≡◌, ℕ, zero, suc, Bool, true, false, List, [], ◌∷◌, Some, refl, sym, ap, ◌∙◌, subst, subst₂}
use Rattle.std.specs.Prelude.{slice_index}
use mathlib.Core.Option.{some, some-injective, some-ne-none}
use lib.ListN.{get_elem?}
use Rattle.atomic_table.specs.Table.{State, Final, Seen, Joins}
use Rattle.sn_core.specs.declared.events.Side.TheVariants.{Tx, Rx}
use Rattle.sn_interlink.specs.declared.view.EndState.{EndState}
use Rattle.sn_interlink.specs.declared.view.EndState.TheVariants.{Out, Up, Closing}
use Rattle.sn_interlink.specs.declared.view.Known.{Known}
use Rattle.sn_interlink.specs.declared.view.View.{View}
use Rattle.sn_interlink.specs.declared.view.View.TheVariants.{One, Spent}
use Rattle.sn_interlink.specs.Course.{Status, absent, up, gone, closing, Course, is_on, state_of, ok_pair, course, log_of}
use Rattle.sn_interlink.specs.Rule.{Lying, Rule}
use Rattle.sn_interlink.specs.Plays.{known_of, both_parts}
use Rattle.sn_interlink.specs.Closing.{other_known}
use Rattle.sn_interlink.specs.Receipt.{IsLife, Fifo}
use Rattle.sn_interlink.proofs.Machine.{sane}
use Rattle.sn_interlink.proofs.LifeOfEnds.{lives}
use Rattle.sn_interlink.proofs.Sessions.{fifo}
use Rattle.sn_interlink.proofs.Parting.{joins, Together, together}

abbrev is_out : EndState → Bool
is_out Out = true
is_out Up = false
is_out Closing = false

off_if_out : (s : Status) → state_of s ≡ Out → is_on s ≡ false
off_if_out absent e = refl
off_if_out up e = let b : false ≡ true = ap is_out e in cc
off_if_out gone e = refl
off_if_out closing e = let b : false ≡ true = ap is_out e in cc

-- two ends that are out are both absent
both_absent : (a b : Status) → ok_pair a b ≡ true → is_on a ≡ false → is_on b ≡ false → (a ≡ absent) × (b ≡ absent)
both_absent absent absent p x y = (refl, refl)
both_absent absent up p x y = cc
both_absent absent gone p x y = cc
both_absent absent closing p x y = cc
both_absent up b p x y = cc
both_absent gone absent p x y = cc
both_absent gone up p x y = cc
both_absent gone gone p x y = cc
both_absent gone closing p x y = cc
both_absent closing b p x y = cc

-- the joining that two ends ask for
pub joins_as : (id other : ℕ) (a b : View) → a ≡ One Tx (known_of a) → b ≡ One Rx (known_of b) → Joins Rule id a other b (both_parts a b) Spent
joins_as id other a b is_tx is_rx =
    subst₂ (λ x y. Joins Rule id x other y (both_parts x y) Spent) (sym is_tx) (sym is_rx) (joins id other (known_of a) (known_of b))

-- what the closed table tells of the logs and the two words
pub record Tells (tx rx : Known) (words : List ℕ) : Type 0 where
  pub tx_life : IsLife Tx tx.log
  pub rx_life : IsLife Rx rx.log
  pub all : Fifo tx.log rx.log (slice_index words 1) (slice_index words 2)

tells_of : (s : State Lying View) (tx rx : Known) → Together s tx rx → tx.state ≡ Out → rx.state ≡ Out → Tells tx rx s.words
tells_of s tx rx t tx_out rx_out =
    let r = t.rule in
    let m = r.meets in
    let c : Course = course r.hist in
    let clean = sane r.hist m.legal in
    let tx_state : state_of c.tx ≡ Out = sym m.tx.state ∙ ap (λ v. v.state) t.tx_is ∙ tx_out in
    let rx_state : state_of c.rx ≡ Out = sym m.rx.state ∙ ap (λ v. v.state) t.rx_is ∙ rx_out in
    let off = both_absent c.tx c.rx clean.pair (off_if_out c.tx tx_state) (off_if_out c.rx rx_state) in
    let tx_log : tx.log ≡ log_of Tx r.hist = ap (λ v. v.log) (sym t.tx_is) ∙ m.tx.log in
    let rx_log : rx.log ≡ log_of Rx r.hist = ap (λ v. v.log) (sym t.rx_is) ∙ m.rx.log in
    record {
      tx_life = subst (IsLife Tx) (sym tx_log) (lives Tx r.hist m.legal ∙ ap Some tx_state);
      rx_life = subst (IsLife Rx) (sym rx_log) (lives Rx r.hist m.legal ∙ ap Some rx_state);
      all = subst₂ (λ a b. Fifo a b (slice_index s.words 1) (slice_index s.words 2)) (sym tx_log) (sym rx_log)
          (fifo r.hist m.legal off.0 off.1 (slice_index s.words 1) (slice_index s.words 2) (ap (λ ws. slice_index ws 1) m.words) (ap (λ ws. slice_index ws 2) m.words));
    }

-- the same from the seat that both ends left, and the closed table's words
pub closed : (id : ℕ) (view : View) (a b : View) (words : List ℕ) (slots : List Lying) → view ≡ both_parts a b → (known_of a).state ≡ Out → (known_of b).state ≡ Out
    → Final (Seen Rule id view) words slots → Tells (known_of view) (other_known view) words
closed id view a b words slots is tx_out rx_out f =
    let s = f.0 in
    subst (λ v. Tells (known_of v) (other_known v) words) (sym is)
    (subst (Tells (known_of a) (known_of b)) f.2
    (tells_of s (known_of a) (known_of b) (together s id (known_of a) (known_of b) f.1.0 (f.1.1 ∙ ap (λ v. some v) is)) tx_out rx_out))

-- a word that was read
pub word_is : (words : List ℕ) (i n : ℕ) → get_elem? words i ≡ some n → slice_index words i ≡ n
word_is [] i n e = absurd (some-ne-none n (sym e))
word_is (x ∷ xs) zero n e = some-injective x n e
word_is (x ∷ xs) (suc i) n e = word_is xs i n e
