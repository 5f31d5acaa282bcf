-- A number is said to one worker after another.
use Rattle.std.proofs.Common.{◌≡◌, ◌≢◌, ℕ, zero, suc, ◌+◌, ◌<◌, ◌≤◌, List, [], ◌∷◌, ◌++◌, Some, length, set, slice_get}
use Rattle.std.proofs.Common.{get_or, refl, sym, ap, subst, ◌∙◌, arith, inl, inr}
use Rattle.std.proofs.Math.Seq.{map-set_same}
use Rattle.std.proofs.lemmas.Bool.{cases_eq}
use Rattle.std.proofs.lemmas.List.{length-set}
use Rattle.std.proofs.lemmas.Option.{get_or_from_slice_get, slice_get-get_or, slice_get_within}
use Rattle.sn_channel.specs.Ends.{ChannelId, SpeakerLog, last_said}
use Rattle.sn_manager.specs.Managers.{AreOf}
use Rattle.sn_manager.specs.Saying.{HasSaid, NoneAhead, said_more}

get_set : (xs : List SpeakerLog) (i : ℕ) (x y : SpeakerLog) → slice_get xs i ≡ Some x → slice_get (set xs i y) i ≡ Some y
get_set [] i x y e = absurd cc
get_set (z ∷ zs) zero x y e = refl
get_set (z ∷ zs) (suc i) x y e = get_set zs i x y e

get_set_other : (xs : List SpeakerLog) (i j : ℕ) (y : SpeakerLog) → j ≢ i → slice_get (set xs i y) j ≡ slice_get xs j
get_set_other [] i j y apart = refl
get_set_other (z ∷ zs) zero zero y apart = absurd (apart refl)
get_set_other (z ∷ zs) zero (suc j) y apart = refl
get_set_other (z ∷ zs) (suc i) zero y apart = refl
get_set_other (z ∷ zs) (suc i) (suc j) y apart = get_set_other zs i j y (λ e. apart (ap suc e))

last_more : (said : List ℕ) (n : ℕ) → last_said (said ++ n ∷ []) ≡ n
last_more [] n = refl
last_more (m ∷ []) n = refl
last_more (m ∷ k ∷ said) n = last_more (k ∷ said) n

-- The speakers before this worker said their numbers, and the others are as before; each is of its channel.
pub record SaidTo (number : ℕ → ℕ) (channels : List ChannelId) (at : ℕ) (old now : List SpeakerLog) : Type 0 where
  pub len : length now ≡ length old
  pub before : (w : ℕ) (s : SpeakerLog) → w < at → slice_get old w ≡ Some s → slice_get now w ≡ Some (said_more (number w) s)
  pub after : (w : ℕ) → at ≤ w → slice_get now w ≡ slice_get old w
  pub of : AreOf now channels

module _ (number : ℕ → ℕ) (channels : List ChannelId) (old : List SpeakerLog) where
  pub said_to_none : AreOf old channels → SaidTo number channels 0 old old
  said_to_none of = record {
    len = refl;
    before = λ w s within there. absurd (omega (arith, within));
    after = λ w past. refl;
    of = of;
  }

  module _ (at : ℕ) (now : List SpeakerLog) (x y : SpeakerLog) (h : SaidTo number channels at old now)
      (there : slice_get now at ≡ Some x) (is : y ≡ said_more (number at) x) where
    before_next : (w : ℕ) (s : SpeakerLog) → w < at + 1 → slice_get old w ≡ Some s
        → slice_get (set now at y) w ≡ Some (said_more (number w) s)
    before_next w s within was = elim (cases_eq w at) [
      | inl e ↦
          let first : slice_get now w ≡ slice_get old w = h.after w (omega (arith, e)) in
          let same : x ≡ s =
          sym (get_or_from_slice_get now at x x there)
          ∙ (ap (λ i. get_or now i x) (sym e) ∙ get_or_from_slice_get now w s x (first ∙ was)) in
          ap (slice_get (set now at y)) e
          ∙ (get_set now at x y there
          ∙ ap (λ (z : SpeakerLog). Some z)
          (is ∙ (ap (λ n. said_more (number n) x) (sym e) ∙ ap (said_more (number w)) same)))
      | inr apart ↦
          let earlier : w < at = omega (arith, within, apart) in
          get_set_other now at w y apart ∙ h.before w s earlier was
    ]

    pub said_to_next : SaidTo number channels (at + 1) old (set now at y)
    said_to_next = record {
      len = length-set now at y ∙ h.len;
      before = before_next;
      after = λ w past. get_set_other now at w y (λ e. absurd (omega (arith, past, e))) ∙ h.after w (omega (arith, past));
      of =
          map-set_same (λ (s : SpeakerLog). s.channel) now at y x
          (ap (λ (s : SpeakerLog). s.channel) (is ∙ ap (said_more (number at)) (sym (get_or_from_slice_get now at x x there))))
          ∙ h.of;
    }

  pub said_to_all : (at : ℕ) (now : List SpeakerLog) → length old ≤ at → SaidTo number channels at old now
      → HasSaid number old now
  said_to_all at now past h = record {
    len = h.len;
    each = λ w s was. h.before w s (let within = slice_get_within old w s was in omega (arith, past, within)) was;
  }

-- what was said is no more than later numbers
pub said_not_ahead : (number later : ℕ → ℕ) (old new : List SpeakerLog) → ((w : ℕ) → number w ≤ later w) → HasSaid number old new
    → NoneAhead later new
said_not_ahead number later old new grows h w s there =
    let within : w < length old = subst (λ n. w < n) h.len (slice_get_within new w s there) in
    let was = slice_get-get_or old w s within in
    let same : s ≡ said_more (number w) (get_or old w s) =
    sym (get_or_from_slice_get new w s s there)
    ∙ get_or_from_slice_get new w (said_more (number w) (get_or old w s)) s (h.each w (get_or old w s) was) in
    let last : last_said s.said ≡ number w =
    ap (λ (z : SpeakerLog). last_said z.said) same ∙ last_more (get_or old w s).said (number w) in
    let least = grows w in omega (arith, last, least)
