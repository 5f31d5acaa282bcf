-- The packets of one worker more are listed.
use Rattle.std.proofs.Common.{◌≡◌, ℕ, List, [], ◌∷◌, ◌++◌, Some, length, slice_get, refl, subst, arith, inl, inr}
use Rattle.std.proofs.lemmas.List.{length-append}
use Rattle.std.proofs.lemmas.Option.{slice_get_within}
use Rattle.sn_journal.specs.HandOvers.{PacketName}
use Rattle.sn_packet.specs.Hold.{Held}
use Rattle.sn_sharing.proofs.Lists.{each_more, old_or_last}
use Rattle.sn_sharing.specs.Kept.{AreKeptBy, IsKeptBy}

pub none_kept : AreKeptBy [] []
none_kept = record { as_many = refl; each = λ worker hold names there. absurd cc }

module _ (holds : List Held) (kept : List (List PacketName)) (hold : Held) (names : List PacketName) (h : AreKeptBy holds kept)
    (is : IsKeptBy hold names) where
  old_each : (k : ℕ) (ns : List PacketName) → slice_get kept k ≡ Some ns → (x : Held)
      → slice_get (holds ++ hold ∷ []) k ≡ Some x → IsKeptBy x ns
  old_each k ns listed x there = elim (old_or_last holds hold k x there) [
    | inl old ↦ h.each k x ns old listed
    | inr last ↦ absurd (let within = slice_get_within kept k ns listed in omega (arith, within, last.0, h.as_many))
  ]

  last_each : (x : Held) → slice_get (holds ++ hold ∷ []) (length kept) ≡ Some x → IsKeptBy x names
  last_each x there = elim (old_or_last holds hold (length kept) x there) [
    | inl old ↦ absurd (let within = slice_get_within holds (length kept) x old in omega (arith, within, h.as_many))
    | inr last ↦ subst (λ y. IsKeptBy y names) last.1 is
  ]

  pub one_kept : AreKeptBy (holds ++ hold ∷ []) (kept ++ names ∷ [])
  one_kept = record {
    as_many = omega (arith, length-append kept (names ∷ []), length-append holds (hold ∷ []), h.as_many);
    each =
        λ worker x ns there listed.
        each_more (λ k ys. (y : Held) → slice_get (holds ++ hold ∷ []) k ≡ Some y → IsKeptBy y ys) kept names old_each last_each
        worker ns listed x there;
  }
