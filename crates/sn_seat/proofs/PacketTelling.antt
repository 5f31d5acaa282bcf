-- What a journal tells of packets that come and go.
use Rattle.std.proofs.Common.{◌≡◌, ℕ, ◌+◌, ◌-◌, ◌<◌, List, [], ◌∷◌, ◌++◌, get_or, set, Some, refl, sym, ap, ◌∙◌, subst, arith}
use Rattle.std.proofs.Common.{Option, None}
use Rattle.std.proofs.Common.{append-nil}
use Rattle.sn_channel.specs.Ends.{ListenerLog}
use Rattle.sn_core.specs.declared.events.Side.{Side}
use Rattle.sn_group.specs.Seats.{SeatState}
use Rattle.sn_group.specs.declared.entry.GroupEntry.TheVariants as group
use Rattle.sn_interlink.specs.Ends.{LaneEnd, raised, reach_of, sets_free}
use Rattle.sn_interlink.specs.declared.entry.LaneEntry.TheVariants as lane
use Rattle.sn_interlink.specs.declared.view.EndState.{EndState}
use Rattle.sn_interlink.specs.declared.view.EndState.TheVariants.{Up, Closing}
use Rattle.sn_journal.specs.declared.entry.Entry.{Entry}
use Rattle.sn_journal.specs.declared.entry.Entry.TheVariants.{Drain, Full, Gave, Got, Put, Take}
use Rattle.sn_packet.specs.Hold.{Held, put_at, weight}
use Rattle.sn_packet.specs.Packet.{PacketState, with_bytes}
use Rattle.sn_app.specs.Desk.{End, out_end}
use Rattle.sn_app.proofs.Gaining.{put_at_kept, put_at_twice}
use Rattle.sn_seat.specs.Places.{IsEndAt}
use Rattle.sn_seat.specs.Resting.{AtRest, Quiet}
use Rattle.sn_seat.specs.SeatEnds.{Numbered, desk_end, end_in, ends_in, known_by, side_in}
use Rattle.sn_seat.specs.Told.{Told, packet_by}
use Rattle.sn_seat.specs.declared.seat_end.SeatEnd.{SeatEnd}
use Rattle.sn_seat.proofs.EndKinds.{Wrote, reset}
use Rattle.sn_seat.proofs.LedgerEnds.{told_step}
use Rattle.sn_seat.proofs.Telling.{Weighs, told_other}

-- what an end that is up knows on the desk it may move
known_reach : (state : EndState) (n : ℕ) → state ≡ Up → 0 < known_by state n → 0 < n
known_reach state n up known = subst (λ s. 0 < known_by s n) up known

pub may_move : (number : ℕ) (side : Side) (ends : List Numbered) (e : LaneEnd) → ends_in ends number side ≡ desk_end e
    → e.state ≡ Up → 0 < (ends_in ends number side).known → 0 < reach_of e
may_move number side ends e stands up known =
    known_reach e.state (reach_of e) up (subst (λ (d : End). 0 < d.known) stands known)

-- an end whose interlink was emptied is set free
pub emptied : (x y z : SeatEnd) → AtRest x → side_in y ≡ side_in x → side_in z ≡ side_in y → (end_in x).state ≡ Closing
    → end_in y ≡ end_in x → end_in z ≡ sets_free (end_in y) → Wrote x z (lane.Reset ∷ []) out_end
emptied x y z r first second closing same step = reset x z r (second ∙ first) closing (step ∙ ap sets_free same)

-- A PACKET COMES, OR GOES

gone_weighs : (number at name turn : ℕ) (bytes : List ℕ) (packet : PacketState) (hold later : Held) → name ≡ packet.number
    → turn ≡ packet.turn + 1 → ((f : ℕ → ℕ → ℕ) → weight f later + f packet.number packet.turn ≡ weight f hold)
    → Weighs (Put number at name turn bytes) hold later
gone_weighs number at name turn bytes packet hold later n t gone f =
    let before : turn - 1 ≡ packet.turn = omega (arith, t) in
    let same : f name (turn - 1) ≡ f packet.number packet.turn = ap (λ m. f m (turn - 1)) n ∙ ap (f packet.number) before in
    omega (arith, same, gone f)

named : (number at name turn : ℕ) (bytes : List ℕ) (packet : PacketState) → name ≡ packet.number → turn ≡ packet.turn
    → bytes ≡ packet.bytes → packet_by name turn bytes ≡ packet
named number at name turn bytes packet n t b =
    ap (λ m. packet_by m turn bytes) n ∙
    (ap (λ m. packet_by packet.number m bytes) t ∙ ap (packet_by packet.number packet.turn) b)

module _ {entries : List Entry} {hold : Held} {ends : List Numbered} {seat : SeatState} {listener : ListenerLog}
    (told : Told entries hold ends seat listener) (quiet : Quiet ends seat) (number : ℕ) (side : Side) (k : ℕ) (x : Numbered)
    (at : IsEndAt number side ends k) (read : x ≡ get_or ends k x) (y : SeatEnd) (now : End) (later : Held) where
  pub told_put : (packet : PacketState) (place name turn : ℕ) (bytes : List ℕ) → place ≡ (end_in x.1).place
      → name ≡ packet.number → turn ≡ packet.turn + 1 → bytes ≡ packet.bytes
      → ((f : ℕ → ℕ → ℕ) → weight f later + f packet.number packet.turn ≡ weight f hold)
      → Wrote x.1 y (lane.Put (end_in x.1).place (raised packet ∷ []) ∷ []) now
      → Told (entries ++ Put number place name turn bytes ∷ []) later (set ends k (x.0, y)) seat listener
  told_put packet place name turn bytes p n t b gone w =
      told_step told quiet number side k x at read y _ now w later (Put number place name turn bytes) _ refl
      (ap (λ m. Some (number, lane.Put m (packet_by name turn bytes ∷ []))) p
      ∙ ap (λ q. Some (number, lane.Put (end_in x.1).place (q ∷ [])))
      (named number place name turn bytes (raised packet) n t b))
      refl refl (gone_weighs number place name turn bytes packet hold later n t gone)

  pub told_take : (packet : PacketState) (place name turn : ℕ) (bytes : List ℕ) → place ≡ (end_in x.1).place
      → name ≡ packet.number → turn ≡ packet.turn → bytes ≡ packet.bytes
      → ((f : ℕ → ℕ → ℕ) → weight f later ≡ weight f hold + f packet.number packet.turn)
      → Wrote x.1 y (lane.Take (end_in x.1).place (packet ∷ []) ∷ []) now
      → Told (entries ++ Take number place name turn bytes ∷ []) later (set ends k (x.0, y)) seat listener
  told_take packet place name turn bytes p n t b came w =
      told_step told quiet number side k x at read y _ now w later (Take number place name turn bytes) _ refl
      (ap (λ m. Some (number, lane.Take m (packet_by name turn bytes ∷ []))) p
      ∙ ap (λ q. Some (number, lane.Take (end_in x.1).place (q ∷ []))) (named number place name turn bytes packet n t b))
      refl refl
      (λ f. let same : f name turn ≡ f packet.number packet.turn = ap (λ m. f m turn) n ∙ ap (f packet.number) t in
      omega (arith, same, came f))

  pub told_drain : (packet : PacketState) (place name turn : ℕ) → place ≡ (end_in x.1).place
      → name ≡ packet.number → turn ≡ packet.turn
      → ((f : ℕ → ℕ → ℕ) → weight f later ≡ weight f hold + f packet.number packet.turn)
      → Wrote x.1 y (lane.Drain (end_in x.1).place (with_bytes [] packet ∷ []) ∷ []) now
      → Told (entries ++ Drain number place name turn ∷ []) later (set ends k (x.0, y)) seat listener
  told_drain packet place name turn p n t came w =
      told_step told quiet number side k x at read y _ now w later (Drain number place name turn) _ refl
      (ap (λ m. Some (number, lane.Drain m (packet_by name turn [] ∷ []))) p
      ∙ ap (λ q. Some (number, lane.Drain (end_in x.1).place (q ∷ [])))
      (named number place name turn [] (with_bytes [] packet) n t refl))
      refl refl
      (λ f. let same : f name turn ≡ f packet.number packet.turn = ap (λ m. f m turn) n ∙ ap (f packet.number) t in
      omega (arith, same, came f))

-- a packet came from the group
pub told_got : {entries : List Entry} {hold : Held} {ends : List Numbered} {seat : SeatState} {listener : ListenerLog}
    (told : Told entries hold ends seat listener) (after : SeatState) (later : Held) (packet : PacketState) (name turn : ℕ)
    → name ≡ packet.number → turn ≡ packet.turn
    → after.log ≡ seat.log ++ (group.Got name turn ∷ []) ∷ []
    → ((f : ℕ → ℕ → ℕ) → weight f later ≡ weight f hold + f packet.number packet.turn)
    → Told (entries ++ Got name turn ∷ []) later ends after listener
told_got {listener = listener} told after later packet name turn n t log came =
    told_other told later after listener (Got name turn) refl log (sym (append-nil listener.heard))
    (λ f. let same : f name turn ≡ f packet.number packet.turn = ap (λ m. f m turn) n ∙ ap (f packet.number) t in
    omega (arith, same, came f))

-- the packet that a claim names is the one that is carried
pub same_first : {A : Type 0} (x y : A) → x ∷ [] ≡ y ∷ [] → x ≡ y
same_first x y e = cc

-- one position less may be moved
pub one_less : (e f : LaneEnd) → reach_of f ≡ reach_of e - 1 → 0 < reach_of e → reach_of f < reach_of e
one_less e f now some = omega (arith, now, some)

-- a packet went to the group
pub told_gave : {entries : List Entry} {hold : Held} {ends : List Numbered} {seat : SeatState} {listener : ListenerLog}
    (told : Told entries hold ends seat listener) (after : SeatState) (later : Held) (packet : PacketState) (name turn : ℕ)
    → name ≡ packet.number → turn ≡ packet.turn + 1 → after.log ≡ seat.log ++ (group.Gave name turn ∷ []) ∷ []
    → ((f : ℕ → ℕ → ℕ) → weight f later + f packet.number packet.turn ≡ weight f hold)
    → Told (entries ++ Gave name turn ∷ []) later ends after listener
told_gave {hold = hold} {listener = listener} told after later packet name turn n t log gone =
    told_other told later after listener (Gave name turn) refl log (sym (append-nil listener.heard))
    (λ f.
    let before : turn - 1 ≡ packet.turn = omega (arith, t) in
    let same : f name (turn - 1) ≡ f packet.number packet.turn = ap (λ m. f m (turn - 1)) n ∙ ap (f packet.number) before in
    omega (arith, same, gone f))

-- or the group had no room for it
pub told_full : {entries : List Entry} {hold : Held} {ends : List Numbered} {seat : SeatState} {listener : ListenerLog}
    (told : Told entries hold ends seat listener) (after : SeatState) (middle later : Held) (packet back : PacketState)
    (name turn : ℕ) → after.log ≡ seat.log ++ (group.Full name turn ∷ []) ∷ [] → back ≡ packet
    → ((f : ℕ → ℕ → ℕ) → weight f middle + f packet.number packet.turn ≡ weight f hold)
    → ((f : ℕ → ℕ → ℕ) → weight f later ≡ weight f middle + f back.number back.turn)
    → Told (entries ++ Full name turn ∷ []) later ends after listener
told_full {hold = hold} {listener = listener} told after middle later packet back name turn log same gone came =
    told_other told later after listener (Full name turn) refl log (sym (append-nil listener.heard))
    (λ f. let is : f back.number back.turn ≡ f packet.number packet.turn = ap (λ p. f p.number p.turn) same in
    omega (arith, is, gone f, came f))

-- a packet that comes back to its place
pub back_in_place : (used middle later : ℕ → Option PacketState) (place other : ℕ) (packet back : PacketState) → other ≡ place
    → back ≡ packet → used place ≡ Some packet → middle ≡ put_at place None used → later ≡ put_at other (Some back) middle
    → later ≡ used
back_in_place used middle later place other packet back at same was gone came =
    came ∙ (ap (λ q. put_at q (Some back) middle) at ∙ (ap (λ p. put_at place (Some p) middle) same
    ∙ (ap (put_at place (Some packet)) gone ∙ (put_at_twice place (Some packet) None used
    ∙ put_at_kept place (Some packet) used was))))

-- a raised turn
pub raised_is : (turn before now : ℕ) → turn ≡ before + 1 → before ≡ now → turn ≡ now + 1
raised_is turn before now raised same = raised ∙ ap (λ n. n + 1) same
