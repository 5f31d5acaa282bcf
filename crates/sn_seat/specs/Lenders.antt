-- What was lent to a seat at work: the seat, by the name of its borrow, and to what this seat belongs.
use Rattle.std.specs.Prelude.{ℕ, ◌≡◌, refl, Bool, true, false, List}
use base.Stored.{Gv}
use Rattle.std.specs.Coded.{Coded, code_by, coded×, coded_bool, coded_list, coded_ℕ}
use Rattle.atomic_table.specs.Seated.{TableId, table_id_coded}
use Rattle.sn_core.specs.declared.events.Side.{Side}
use Rattle.sn_core.specs.declared.events.Side.TheVariants.{Tx, Rx}
use Rattle.sn_interlink.specs.Ends.{LaneId}
use Rattle.sn_seat.specs.Fitting.{Bond}
use Rattle.sn_seat.specs.SeatEnds.{Wire}

-- a side as a truth value, and back
abbrev pub is_tx : Side → Bool
is_tx Tx = true
is_tx Rx = false

abbrev pub side_by : Bool → Side
side_by true = Tx
side_by false = Rx

pub side_back : (side : Side) → side_by (is_tx side) ≡ side
side_back Tx = refl
side_back Rx = refl

abbrev pub wire_by : ℕ × (Bool × LaneId) → Wire
wire_by p = (p.0, side_by p.1.0, p.1.1)

pub wire_back : (w : Wire) → wire_by (w.0, (is_tx w.1, w.2)) ≡ w
wire_back w = λ i. (w.0, side_back w.1 i, w.2)

-- what tells a wire, and a bond, from every other
abbrev pub wire_code : Coded Wire
wire_code = code_by (ℕ × (Bool × LaneId)) (coded× coded_ℕ (coded× coded_bool table_id_coded))
    (λ w. (w.0, (is_tx w.1, w.2))) wire_by wire_back

abbrev pub bond_code : Coded Bond
bond_code = code_by (ℕ × (List Wire × (TableId × (TableId × (ℕ × (ℕ × ℕ))))))
    (coded× coded_ℕ (coded× (coded_list wire_code) (coded× table_id_coded (coded× table_id_coded (coded× coded_ℕ
    (coded× coded_ℕ coded_ℕ))))))
    (λ b. (b.worker, (b.wiring.ends, (b.wiring.group, (b.wiring.channel, (b.wiring.met, (b.captures, b.lanes)))))))
    (λ p. record {
      worker = p.0;
      wiring = record { ends = p.1.0; group = p.1.1.0; channel = p.1.1.1.0; met = p.1.1.1.1.0 };
      captures = p.1.1.1.1.1.0;
      lanes = p.1.1.1.1.1.1;
    }) (λ _. refl)

-- the name of a borrow, and a bond
abbrev pub lent_code : Coded (ℕ × Bond)
lent_code = coded× coded_ℕ bond_code

-- how a context names what was lent to it
unfoldable pub lent_as : ℕ → Bond → Gv
lent_as name bond = lent_code.code (name, bond)
