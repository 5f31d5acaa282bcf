-- What attaching, detaching and loads of the far word leave, whatever they answer.
use Rattle.std.proofs.Common.{◌≡◌, ℕ, List, [], ◌∷◌, ◌++◌, get_or, set, Bool, true, false, not, ◌==◌, refl, ap, ◌∙◌, subst}
use Rattle.sn_channel.specs.Ends.{ListenerLog}
use Rattle.sn_core.specs.declared.events.Side.{Side}
use Rattle.sn_core.specs.declared.events.Side.TheVariants.{Tx, Rx}
use Rattle.sn_group.specs.Seats.{SeatState}
use Rattle.sn_interlink.specs.Answers.{DetachStep, left_word}
use Rattle.sn_interlink.specs.Course.{field_in, left_state, other}
use Rattle.sn_interlink.specs.Ends.{LaneEnd, can_look, if_ready, is_tx}
use Rattle.sn_interlink.specs.declared.answers.Attached.{Attached}
use Rattle.sn_interlink.specs.declared.answers.Attached.TheVariants as attached
use Rattle.sn_interlink.specs.declared.answers.Detached.{Detached}
use Rattle.sn_interlink.specs.declared.answers.Detached.TheVariants as detached
use Rattle.sn_interlink.specs.declared.entry.LaneEntry.{LaneEntry}
use Rattle.sn_interlink.specs.declared.entry.LaneEntry.TheVariants.{Attach, Unattached, Detach}
use Rattle.sn_interlink.specs.declared.view.EndState.TheVariants.{Out, Up, Closing}
use Rattle.sn_journal.specs.declared.entry.Entry.{Entry}
use Rattle.sn_journal.specs.declared.entry.Entry.TheVariants as journal
use Rattle.sn_packet.specs.Hold.{Held}
use Rattle.sn_app.specs.Desk.{End, up_end}
use Rattle.sn_app.specs.Words.{is_closer}
use Rattle.sn_seat.specs.EndSteps.{UpStep, far_entry}
use Rattle.sn_seat.specs.LaneSteps.{Differs, LeavesAs, attach_entry, attached_ends, far_entry_of, left_end}
use Rattle.sn_seat.specs.Places.{IsEndAt}
use Rattle.sn_seat.specs.Resting.{AtRest, Quiet}
use Rattle.sn_seat.specs.SeatEnds.{Numbered, desk_end, end_in, ends_in, side_in}
use Rattle.sn_seat.specs.Told.{Told}
use Rattle.sn_seat.specs.declared.seat_end.SeatEnd.{SeatEnd}
use Rattle.sn_seat.proofs.EndKinds.{Wrote, came_up, left, missed}
use Rattle.sn_seat.proofs.LedgerEnds.{ends_now, ends_same, told_step}

-- ATTACHING

abbrev pub attach_part : ℕ → Attached → LaneEntry
attach_part seen attached.Up = Attach seen
attach_part seen (attached.Again found) = Unattached seen found

abbrev pub attached_desk : Attached → End → End
attached_desk attached.Up end = up_end
attached_desk (attached.Again found) end = end

pub attached_wrote : (x y : SeatEnd) → AtRest x → side_in y ≡ side_in x → (end_in x).state ≡ Out → (seen : ℕ) (answer : Attached)
    → UpStep (side_in x) seen (end_in x) answer (end_in y)
    → Wrote x y (attach_part seen answer ∷ []) (attached_desk answer (desk_end (end_in x)))
attached_wrote x y r same out seen attached.Up step = came_up x y r same seen (side_in x) refl out step
attached_wrote x y r same out seen (attached.Again found) step = missed x y r same seen found step.1

pub differs_from : (side : Side) (seen : ℕ) (old new : LaneEnd) (answer : Attached) → UpStep side seen old answer new
    → Differs seen answer
differs_from side seen old new attached.Up step = tt
differs_from side seen old new (attached.Again found) step = step.0

module _ {entries : List Entry} {hold : Held} {ends : List Numbered} {seat : SeatState} {listener : ListenerLog}
    (told : Told entries hold ends seat listener) (quiet : Quiet ends seat) (number : ℕ) (side : Side) (k : ℕ) (x : Numbered)
    (at : IsEndAt number side ends k) (read : x ≡ get_or ends k x) (y : SeatEnd) where
  pub told_attach : (now : End) (seen : ℕ) (answer : Attached) → Wrote x.1 y (attach_part seen answer ∷ []) now
      → Told (entries ++ attach_entry number seen answer ∷ []) hold (set ends k (x.0, y)) seat listener
  told_attach now seen attached.Up w =
      told_step told quiet number side k x at read y _ now w hold (journal.Attach number seen) (Attach seen) refl refl refl refl
      (λ f. refl)
  told_attach now seen (attached.Again found) w =
      told_step told quiet number side k x at read y _ now w hold (journal.Unattached number seen found) (Unattached seen found)
      refl refl refl refl (λ f. refl)

  pub ends_attached : (parts : List LaneEntry) (answer : Attached)
      → Wrote x.1 y parts (attached_desk answer (desk_end (end_in x.1)))
      → ends_in (set ends k (x.0, y)) ≡ attached_ends number side answer (ends_in ends)
  ends_attached parts attached.Up w = ends_now told quiet number side k x at read y parts up_end w
  ends_attached parts (attached.Again found) w =
      ends_same told quiet number side k x at read y parts (desk_end (end_in x.1)) w refl

  -- LOADS OF THE FAR WORD

  pub told_far : (now : End) (n : ℕ) (own : Side) → own ≡ side → Wrote x.1 y (far_entry own n ∷ []) now
      → Told (entries ++ far_entry_of number side n ∷ []) hold (set ends k (x.0, y)) seat listener
  told_far now n Tx is w =
      subst (λ s. Told (entries ++ far_entry_of number s n ∷ []) hold (set ends k (x.0, y)) seat listener) is
      (told_step told quiet number side k x at read y _ now w hold (journal.Room number n) (far_entry Tx n) refl refl refl refl
      (λ f. refl))
  told_far now n Rx is w =
      subst (λ s. Told (entries ++ far_entry_of number s n ∷ []) hold (set ends k (x.0, y)) seat listener) is
      (told_step told quiet number side k x at read y _ now w hold (journal.Seen number n) (far_entry Rx n) refl refl refl refl
      (λ f. refl))

-- an end that is up or closes may look
pub looks_up : (e : LaneEnd) → e.state ≡ Up → e.synced ≡ true → can_look e ≡ true
looks_up e up synced = ap (λ s. if_ready s e.synced) up ∙ synced

pub looks_closing : (e : LaneEnd) → e.state ≡ Closing → can_look e ≡ true
looks_closing e closing = ap (λ s. if_ready s e.synced) closing

-- DETACHING

pub left_wrote : (x y : SeatEnd) → AtRest x → side_in y ≡ side_in x → (end_in x).state ≡ Up → (answer : Detached)
    → DetachStep (end_in x) answer (end_in y) → Wrote x y (Detach (left_word answer) ∷ []) (left_end answer)
left_wrote x y r same up (detached.Other word) step = left x y r same true word (r.synced up) (ap left_state step.0) step.1
left_wrote x y r same up (detached.Closer word) step = left x y r same false word (r.synced up) (ap left_state step.0) step.1

-- as a desk says it
closer_at : (own side : Side) (word : ℕ) (up : Bool) → own ≡ side → (field_in (other own) word == 1) ≡ up → is_closer side
    word ≡ not up
closer_at Tx Tx word up same is = ap not is
closer_at Rx Rx word up same is = ap not is
closer_at Tx Rx word up same is = absurd (let e : true ≡ false = ap is_tx same in cc)
closer_at Rx Tx word up same is = absurd (let e : false ≡ true = ap is_tx same in cc)

pub closer_as : (side : Side) (old new : LaneEnd) → old.side ≡ side → (answer : Detached) → DetachStep old answer new
    → LeavesAs side answer
closer_as side old new own (detached.Other word) step = closer_at old.side side word true own step.0
closer_as side old new own (detached.Closer word) step = closer_at old.side side word false own step.0
