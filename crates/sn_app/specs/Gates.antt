-- The gates, where a worker may be stopped, and the one table of those that stand.
use Rattle.std.specs.Prelude.{◌==◌, ◌&&◌, Bool, true, false, [], ◌∷◌, length}
use Rattle.std.specs.List.{list_any}
use Rattle.sn_journal.specs.declared.entry.Entry.TheVariants.{Stop}
use Rattle.sn_app.specs.Desk.{Tray, on_tray, gate_passed}
use Rattle.sn_app.specs.Reader.{Meaning, done, stopped, refused, with_entry}

-- a worker that works, or one whose packets are given back
pub data Phase : Type 0 where
  working : Phase
  reclaiming : Phase

-- a gate, by the step that it stands before; `take_more` and `put_more` have something unreleased or laid already
pub data Gate : Type 0 where
  look_state attach sync detach load_far drain_or_reset drain_release look_at room_of : Gate
  take take_more release put_begin put_more put_publish take_back : Gate
  take_claim take_out take_done give_claim give_in give_word give_done hear : Gate

-- The gates that stand. None does where a step leaves something half done, nor in a reclamation.
unfoldable pub stands : Phase → Gate → Bool
stands reclaiming gate = false
stands working look_state = true
stands working attach = true
stands working detach = true
stands working look_at = true
stands working room_of = true
stands working take = true
stands working put_begin = true
stands working take_claim = true
stands working give_claim = true
stands working hear = true
stands working _ = false

-- a stop line names this gate: as many entries and as many gates behind them
unfoldable pub stops_here : Tray → Bool
stops_here t = list_any (λ line. line.0 == length t.log.past && line.1 == t.gates) t.log.constants.stops

-- the worker stops, with the entry Stop
unfoldable pub stop_at : Meaning Unit
stop_at d [] = refused d []
stop_at d (Stop ∷ entries) = stopped (with_entry Stop d) entries
stop_at d (entry ∷ entries) = refused d (entry ∷ entries)

-- the gate is passed
unfoldable pub passed : Meaning Unit
passed d entries = done tt (on_tray gate_passed d) entries

unfoldable pub gate_named : Bool → Meaning Unit
gate_named true = stop_at
gate_named false = passed

-- a script has no stop lines, and its gates aren't counted
unfoldable pub gate_of : Bool → Meaning Unit
gate_of true d entries = done tt d entries
gate_of false d entries = gate_named (stops_here d.tray) d entries

unfoldable pub gate_by : Bool → Meaning Unit
gate_by true d entries = gate_of d.tray.log.constants.scripted d entries
gate_by false d entries = done tt d entries

unfoldable pub gate_in : Phase → Gate → Meaning Unit
gate_in phase gate = gate_by (stands phase gate)
