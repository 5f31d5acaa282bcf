-- Trays of seats by their parts.
use Rattle.std.proofs.Common.{◌≡◌, ℕ, List, [], ◌∷◌, ◌++◌, Option, ap, refl, ◌∙◌}
use Rattle.std.proofs.lemmas.List.{map_push}
use Rattle.sn_core.specs.declared.events.Side.{Side}
use Rattle.sn_journal.specs.declared.entry.Entry.{Entry}
use Rattle.sn_names.specs.Rosters.{RosterRows}
use Rattle.sn_packet.specs.Packet.{PacketState}
use Rattle.sn_app.specs.Counts.{CounterRows}
use Rattle.sn_app.specs.Desk.{End, freed, name_of}
use Rattle.sn_seat.specs.SeatEnds.{Wire}
use Rattle.sn_seat.specs.Trays.{constants_by, tray_by}

-- equal parts make equal trays
pub tray_same : (stops : List (ℕ × ℕ)) (roster : RosterRows) (captures : List (List ℕ)) (wires0 wires1 : List Wire)
    (past0 past1 : List Entry) (gates0 gates1 : ℕ) (frees0 frees1 : List PacketState) (ends0 ends1 : ℕ → Side → End)
    (counters : CounterRows)
    (files : List (Option (List ℕ))) → wires0 ≡ wires1 → past0 ≡ past1 → gates0 ≡ gates1 → frees0 ≡ frees1 → ends0 ≡ ends1
    → tray_by (constants_by stops roster captures wires0) past0 gates0 frees0 ends0 counters files
    ≡ tray_by (constants_by stops roster captures wires1) past1 gates1 frees1 ends1 counters files
tray_same stops roster captures wires0 wires1 past0 past1 gates0 gates1 frees0 frees1 ends0 ends1 counters files w p g f e =
    ap (λ x. tray_by (constants_by stops roster captures x) past0 gates0 frees0 ends0 counters files) w
    ∙ (ap (λ x. tray_by (constants_by stops roster captures wires1) x gates0 frees0 ends0 counters files) p
    ∙ (ap (λ x. tray_by (constants_by stops roster captures wires1) past1 x frees0 ends0 counters files) g
    ∙ (ap (λ x. tray_by (constants_by stops roster captures wires1) past1 gates1 x ends0 counters files) f
    ∙ ap (λ x. tray_by (constants_by stops roster captures wires1) past1 gates1 frees1 x counters files) e)))

-- and one packet more is free
pub tray_freed : (stops : List (ℕ × ℕ)) (roster : RosterRows) (captures : List (List ℕ)) (wires0 wires1 : List Wire)
    (past0 past1 : List Entry) (gates : ℕ) (frees0 frees1 : List PacketState) (ends0 ends1 : ℕ → Side → End)
    (counters : CounterRows)
    (files : List (Option (List ℕ))) (packet : PacketState) → wires0 ≡ wires1 → past0 ≡ past1 → frees0 ≡ frees1 ++ packet ∷ []
    → ends0 ≡ ends1
    → tray_by (constants_by stops roster captures wires0) past0 gates frees0 ends0 counters files
    ≡ freed (name_of packet) (tray_by (constants_by stops roster captures wires1) past1 gates frees1 ends1 counters files)
tray_freed stops roster captures wires0 wires1 past0 past1 gates frees0 frees1 ends0 ends1 counters files packet w p f e =
    tray_same stops roster captures wires0 wires1 past0 past1 gates gates frees0 (frees1 ++ packet ∷ []) ends0 ends1
    counters files
    w p refl f e
    ∙ ap (λ ns. record (tray_by (constants_by stops roster captures wires1) past1 gates frees1 ends1 counters files)
    { free = ns })
    (map_push name_of frees1 packet)

-- the free packets after one that came is freed
pub more_free : (before laid later : List PacketState) (there packet : PacketState) → later ≡ laid ++ there ∷ [] → laid ≡ before
    → there ≡ packet → later ≡ before ++ packet ∷ []
more_free before laid later there packet freed_now same is =
    freed_now ∙ (ap (λ ps. ps ++ there ∷ []) same ∙ ap (λ q. before ++ q ∷ []) is)
