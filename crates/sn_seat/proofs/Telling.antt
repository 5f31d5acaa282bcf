-- What a journal tells after more entries.
use Rattle.std.proofs.Common.{◌≡◌, ℕ, ◌+◌, ◌==◌, Bool, true, false, cond, List, [], ◌∷◌, ◌++◌, set, Some, None, refl, sym, ap}
use Rattle.std.proofs.Common.{◌∙◌, arith, append-nil, append_assoc, slice_get}
use Rattle.std.proofs.lemmas.List.Sums.{sum_by_push}
use Rattle.sn_channel.specs.Ends.{ListenerLog}
use Rattle.sn_group.specs.Seats.{SeatState}
use Rattle.sn_interlink.specs.declared.entry.LaneEntry.{LaneEntry}
use Rattle.sn_journal.specs.HandOvers.{received_packet, released_packet}
use Rattle.sn_journal.specs.Holding.{gains, losses, weight_of}
use Rattle.sn_journal.specs.declared.entry.Entry.{Entry}
use Rattle.sn_packet.specs.Hold.{Held, weight}
use Rattle.sn_seat.specs.Notes.{IsPlain}
use Rattle.sn_seat.specs.SeatEnds.{Numbered, end_in}
use Rattle.sn_seat.specs.Told.{Told, group_part, heard_part, lane_part, log_at, of_channel, of_group, of_lane, part_at, told_log}
use Rattle.sn_seat.specs.declared.seat_end.SeatEnd.{SeatEnd}
use Rattle.sn_seat.proofs.EndLists.{log_set, times_set}

of_lane-push : (number : ℕ) (entries : List Entry) (entry : Entry)
    → of_lane number (entries ++ entry ∷ []) ≡ of_lane number entries ++ part_at number (lane_part entry)
of_lane-push number [] entry = append-nil (part_at number (lane_part entry))
of_lane-push number (first ∷ entries) entry =
    ap (λ l. part_at number (lane_part first) ++ l) (of_lane-push number entries entry)
    ∙ sym (append_assoc (part_at number (lane_part first)) (of_lane number entries) (part_at number (lane_part entry)))

of_group-push : (entries : List Entry) (entry : Entry) → of_group (entries ++ entry ∷ []) ≡ of_group entries ++ group_part entry
of_group-push [] entry = append-nil (group_part entry)
of_group-push (first ∷ entries) entry =
    ap (λ l. group_part first ++ l) (of_group-push entries entry)
    ∙ sym (append_assoc (group_part first) (of_group entries) (group_part entry))

of_channel-push : (entries : List Entry) (entry : Entry)
    → of_channel (entries ++ entry ∷ []) ≡ of_channel entries ++ heard_part entry
of_channel-push [] entry = append-nil (heard_part entry)
of_channel-push (first ∷ entries) entry =
    ap (λ l. heard_part first ++ l) (of_channel-push entries entry)
    ∙ sym (append_assoc (heard_part first) (of_channel entries) (heard_part entry))

-- by any weight, an entry's packets come or go with what the hold has
abbrev pub Weighs : Entry → Held → Held → Type 0
Weighs entry hold later = (f : ℕ → ℕ → ℕ)
    → weight_of f (received_packet entry) + weight f hold ≡ weight_of f (released_packet entry) + weight f later

weighs_on : (f : ℕ → ℕ → ℕ) (entries : List Entry) (entry : Entry) (hold later : Held)
    → gains f entries ≡ losses f entries + weight f hold → Weighs entry hold later
    → gains f (entries ++ entry ∷ []) ≡ losses f (entries ++ entry ∷ []) + weight f later
weighs_on f entries entry hold later told weighs =
    omega (
      arith,
      told,
      weighs f,
      sum_by_push (λ e. weight_of f (received_packet e)) entries entry,
      sum_by_push (λ e. weight_of f (released_packet e)) entries entry,
    )

module _ {entries : List Entry} {hold : Held} {ends : List Numbered} {seat : SeatState} {listener : ListenerLog}
    (told : Told entries hold ends seat listener) where
  -- an entry of an interlink, with a step of its end
  pub told_lane : (k : ℕ) (x : Numbered) (y : SeatEnd) (later : Held) (entry : Entry) (part : LaneEntry)
      → slice_get ends k ≡ Some x → told_log (end_in y) ≡ told_log (end_in x.1) ++ part ∷ []
      → lane_part entry ≡ Some (x.0, part) → group_part entry ≡ [] → heard_part entry ≡ [] → Weighs entry hold later
      → Told (entries ++ entry ∷ []) later (set ends k (x.0, y)) seat listener
  told_lane k x y later entry part there grows lane group heard weighs = record {
    once = λ number. omega (arith, told.once number, times_set number ends k x y there);
    lanes = λ number. of_lane-push number entries entry
        ∙ (ap (λ l. l ++ part_at number (lane_part entry)) (told.lanes number)
        ∙ (ap (λ p. log_at number ends ++ part_at number p) lane
        ∙ sym (log_set number ends k x y (part ∷ []) (told.once number) there grows)));
    grouped = of_group-push entries entry ∙
        (ap (λ l. of_group entries ++ l) group ∙ (append-nil (of_group entries) ∙ told.grouped));
    listened = of_channel-push entries entry
        ∙ (ap (λ l. of_channel entries ++ l) heard ∙ (append-nil (of_channel entries) ∙ told.listened));
    held = λ f. weighs_on f entries entry hold later (told.held f) weighs;
  }

  -- a step of an end that no entry tells of
  pub told_silent : (k : ℕ) (x : Numbered) (y : SeatEnd) → slice_get ends k ≡ Some x → told_log (end_in y) ≡ told_log (end_in x.1)
      → Told entries hold (set ends k (x.0, y)) seat listener
  told_silent k x y there same = record {
    once = λ number. omega (arith, told.once number, times_set number ends k x y there);
    lanes = λ number. told.lanes number
        ∙ (sym (append-nil _) ∙ (ap (λ l. log_at number ends ++ l) (sym (nothing (x.0 == number)))
        ∙ sym (log_set number ends k x y [] (told.once number) there (same ∙ sym (append-nil _)))));
    grouped = told.grouped;
    listened = told.listened;
    held = told.held;
  }
    where
      nothing : (b : Bool) → cond {A = List LaneEntry} b [] [] ≡ []
      nothing true = refl
      nothing false = refl

  -- an entry of no interlink
  pub told_other : (later : Held) (after : SeatState) (listened : ListenerLog) (entry : Entry) → lane_part entry ≡ None
      → after.log ≡ seat.log ++ group_part entry → listened.heard ≡ listener.heard ++ heard_part entry → Weighs entry hold later
      → Told (entries ++ entry ∷ []) later ends after listened
  told_other later after listened entry lane group heard weighs = record {
    once = told.once;
    lanes = λ number. of_lane-push number entries entry
        ∙ (ap (λ p. of_lane number entries ++ part_at number p) lane ∙ (append-nil (of_lane number entries) ∙ told.lanes number));
    grouped = of_group-push entries entry ∙ (ap (λ l. l ++ group_part entry) told.grouped ∙ sym group);
    listened = of_channel-push entries entry ∙ (ap (λ l. l ++ heard_part entry) told.listened ∙ sym heard);
    held = λ f. weighs_on f entries entry hold later (told.held f) weighs;
  }

  -- an entry that tells of nothing here
  pub told_plain : (entry : Entry) → IsPlain entry → Told (entries ++ entry ∷ []) hold ends seat listener
  told_plain entry plain =
      told_other hold seat listener entry plain.lane (sym (ap (λ l. seat.log ++ l) plain.group ∙ append-nil seat.log))
      (sym (ap (λ l. listener.heard ++ l) plain.heard ∙ append-nil listener.heard))
      (λ f. ap (λ p. weight_of f p + weight f hold) plain.received ∙ sym (ap (λ p. weight_of f p + weight f hold) plain.released))
