-- The channel of a worker's speaker, and what stays where what was there is set again.
use Rattle.std.proofs.Common.{◌≡◌, ◌∙◌, ℕ, zero, suc, List, [], ◌∷◌, Some, map, sym, ap, subst}
use Rattle.std.specs.Prelude.{slice_get, slice_set}
use Rattle.std.proofs.lemmas.List.{set-get_or}
use Rattle.std.proofs.lemmas.Option.{get_or_from_slice_get}
use Rattle.sn_channel.specs.Ends.{ChannelId, SpeakerLog}

pub channel_there : (speakers : List SpeakerLog) (channels : List ChannelId) (n : ℕ) (speaker : SpeakerLog)
    → map (λ s. s.channel) speakers ≡ channels → slice_get speakers n ≡ Some speaker
    → slice_get channels n ≡ Some speaker.channel
channel_there speakers channels n speaker of there =
    ap (λ cs. slice_get cs n) (sym of) ∙ mapped speakers n there
  where
    mapped : (xs : List SpeakerLog) (k : ℕ) → slice_get xs k ≡ Some speaker
        → slice_get (map (λ s. s.channel) xs) k ≡ Some speaker.channel
    mapped [] k h = absurd cc
    mapped (x ∷ xs) zero h =
        let e : Some x ≡ Some speaker = h in
        let f : x ≡ speaker = cc in
        ap (λ (s : SpeakerLog). Some s.channel) f
    mapped (x ∷ xs) (suc k) h = mapped xs k h

-- what was there is set again
pub set_there : {A : Type 0} (xs : List A) (n : ℕ) (x : A) → slice_get xs n ≡ Some x → slice_set xs n x ≡ xs
set_there xs n x there = subst (λ y. slice_set xs n y ≡ xs) (get_or_from_slice_get xs n x x there) (set-get_or xs n x)
