-- One worker more is seated.
use Rattle.std.proofs.Common.{◌≡◌, ℕ, suc, ◌+◌, ◌-◌, ◌<◌, List, [], ◌∷◌, ◌++◌, Some, length, map, slice_get, sym, ap, ◌∙◌}
use Rattle.std.proofs.Common.{subst, inl, inr, arith}
use Rattle.std.proofs.lemmas.List.{length-append, map_push}
use Rattle.std.proofs.lemmas.Option.{slice_get_within}
use Rattle.std.specs.List.{range_with_len}
use Rattle.sn_channel.specs.Ends.{ChannelId, speaker_log}
use Rattle.sn_group.specs.Seats.{GroupId, new_seat}
use Rattle.sn_scenario.specs.Scenarios.{ScenarioForm}
use Rattle.sn_seat.specs.declared.ends.Ends.{Ends}
use Rattle.sn_seat.specs.declared.seat.Seat.{Seat}
use Rattle.sn_sharing.proofs.Lists.{old_or_last}
use Rattle.sn_sharing.specs.Seating.{AddsWorker, AreSeated, IsSeatedWith, seats_left}
use Rattle.sn_sharing.specs.declared.seating.Seated.{Seated}

-- the group's seat of the next worker, and those that are left then
pub left_more : (of : GroupId) (workers worker : ℕ) → worker < workers
    → seats_left of workers worker ≡ new_seat of worker ∷ seats_left of workers (worker + 1)
left_more of workers worker within =
    let e : workers - worker ≡ suc (workers - (worker + 1)) = omega (arith, within) in
    ap (λ n. map (new_seat of) (range_with_len worker n)) e

pub none_seated : (form : ScenarioForm) (of : GroupId) (seated : Seated) → seated.channels.items ≡ [] → seated.speakers.items ≡ []
    → seated.seats.items ≡ [] → AreSeated form [] of seated
none_seated form of seated c p s = record {
  channels = ap length c ∙ sym (ap length s);
  speakers = p ∙ ap (map (λ channel. speaker_log channel [])) (sym c);
  as_many = ap length s;
  each =
      λ worker seat channel e at. absurd (let no_seat = sym (ap (λ l. slice_get l worker) s) ∙ at in cc);
}

module _ (form : ScenarioForm) (all : List Ends) (of : GroupId) (old new : Seated) (ends : Ends) (h : AreSeated form all of old)
    (a : AddsWorker form ends of old new) where
  same_place : length old.channels.items ≡ length all
  same_place = h.channels ∙ h.as_many

  -- a worker's seat, channel and ends are old ones, or those of the last
  pub each_seated : (worker : ℕ) (seat : Seat) (channel : ChannelId) (e : Ends)
      → slice_get (old.seats.items ++ a.seat ∷ []) worker
      ≡ Some seat
      → slice_get (old.channels.items ++ a.channel ∷ []) worker ≡ Some channel → slice_get (all ++ ends ∷ []) worker ≡ Some e
      → IsSeatedWith form worker e of channel seat
  each_seated worker seat channel e s c at = elim (old_or_last old.seats.items a.seat worker seat s) [
    | inl was ↦ elim (old_or_last old.channels.items a.channel worker channel c) [
      | inl was_c ↦ elim (old_or_last all ends worker e at) [
        | inl was_e ↦ h.each worker seat channel e was was_c was_e
        | inr last ↦
            absurd (let w = slice_get_within old.seats.items worker seat was in omega (arith, w, last.0, h.as_many))
      ]
      | inr last ↦
          absurd (let w = slice_get_within old.seats.items worker seat was in omega (arith, w, last.0, h.channels))
    ]
    | inr last ↦ elim (old_or_last old.channels.items a.channel worker channel c) [
      | inl was_c ↦
          absurd (let w = slice_get_within old.channels.items worker channel was_c in omega (arith, w, last.0, h.channels))
      | inr last_c ↦ elim (old_or_last all ends worker e at) [
        | inl was_e ↦ absurd (let w = slice_get_within all worker e was_e in omega (arith, w, last.0, h.as_many))
        | inr last_e ↦
            subst (λ n. IsSeatedWith form n e of channel seat) (sym last.0)
            (subst (λ x. IsSeatedWith form (length old.seats.items) x of channel seat) last_e.1
            (subst (λ x. IsSeatedWith form (length old.seats.items) ends of x seat) last_c.1
            (subst (λ x. IsSeatedWith form (length old.seats.items) ends of a.channel x) last.1 a.is)))
      ]
    ]
  ]

  pub seated_more : AreSeated form (all ++ ends ∷ []) of new
  seated_more = record {
    channels =
        let one = length-append old.channels.items (a.channel ∷ []) in
        let two = length-append old.seats.items (a.seat ∷ []) in
        let e : length (old.channels.items ++ a.channel ∷ []) ≡ length (old.seats.items ++ a.seat ∷ []) =
        omega (arith, one, two, h.channels) in
        ap length a.channels ∙ (e ∙ sym (ap length a.seats));
    speakers =
        a.speakers
        ∙ (ap (λ l. l ++ speaker_log a.channel [] ∷ []) h.speakers
        ∙ (sym (map_push (λ channel. speaker_log channel []) old.channels.items a.channel)
        ∙ ap (map (λ channel. speaker_log channel [])) (sym a.channels)));
    as_many =
        let one = length-append old.seats.items (a.seat ∷ []) in
        let two = length-append all (ends ∷ []) in
        let e : length (old.seats.items ++ a.seat ∷ []) ≡ length (all ++ ends ∷ []) = omega (arith, one, two, h.as_many) in
        ap length a.seats ∙ e;
    each =
        λ worker seat channel e s c at.
        each_seated worker seat channel e (ap (λ l. slice_get l worker) (sym a.seats) ∙ s)
        (ap (λ l. slice_get l worker) (sym a.channels) ∙ c) at;
  }
