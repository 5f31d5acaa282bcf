-- Runs on a small desk, worked out: what the definitions give, entry by entry.
use Rattle.std.proofs.Common.{◌≡◌, ℕ, zero, suc, Bool, true, false, List, [], ◌∷◌, Option, Some, None, refl}
use Rattle.sn_core.specs.declared.events.Side.TheVariants.{Rx, Tx}
use Rattle.sn_journal.specs.declared.entry.Entry.{Entry}
use Rattle.sn_journal.specs.declared.entry.Entry.TheVariants.{Attach, Unattached, Detach, Reset, Room, Put, Drain, Dry, Stop}
use Rattle.sn_journal.specs.HandOvers.{PacketName}
use Rattle.sn_link.specs.Counts.{no_counts}
use Rattle.sn_packet.specs.Packet.{PacketState}
use Rattle.sn_app.specs.Apps.{tee_push, tee_inputs, tee_input, tee_where, tee_one, tee_gather, tee_gathered, tee_sends, tee_packet, frees_all, runs_dry, next_of, with_next}
use Rattle.sn_app.specs.Counts.{no_app_counts}
use Rattle.sn_app.specs.Desk.{Desk, Tray, Queue, End, Constants, nothing, no_queue, out_end, up_end}
use Rattle.sn_app.specs.Gates.{working, gate_in, gate_by, gate_of, gate_named, stands, stops_here, stop_at, passed}
use Rattle.sn_app.specs.Ports.{Port}
use Rattle.sn_app.specs.Reader.{Outcome, done, stopped, refused, pure, go_on, ◌>>=◌, look, change, change_tray, read, reading, read_if, reading_if, times, on_each, repeated, repeated_with}
use Rattle.sn_app.specs.Rows.{row_allocate, refill_needed, refill_where, refill, refill_one, claim_taken, take_last, row_attach, attach_from, not_down, attached, came_up, row_detach, detach_from, detached, close_lane, drain_one, drained, drained_in, row_put, takes, taking_front, sends, frees, counts}

-- a worker with one app and three links; its entries come from a script, or it has this stop line
constants_of : Bool → List (ℕ × ℕ) → Constants
constants_of scripted stops = record {
  may = λ entry. true;
  stops = stops;
  scripted = scripted;
  roster = record { apps = ([] ∷ []); links = []; captures = []; files = []; lanes = [] };
  captures = [];
  has_end = λ lane side. true;
}

tray_of : Bool → List (ℕ × ℕ) → List PacketName → End → Tray
tray_of scripted stops free end = record {
  log = record { past = []; constants = constants_of scripted stops };
  gates = 0;
  free = free;
  pending = nothing;
  ends = λ lane side. end;
  counters = record { apps = (no_app_counts ∷ []); links = [] };
  files = [];
}

packet : PacketState
packet = record { number = 7; turn = 3; bytes = 1 ∷ 2 ∷ [] }

-- one packet waits at the first link; two more links are empty
waiting : ℕ → Option Queue
waiting zero = Some (record { packets = packet ∷ []; counts = no_counts })
waiting (suc zero) = Some no_queue
waiting (suc (suc zero)) = Some no_queue
waiting (suc (suc (suc row))) = None

tee_ins : List Port
tee_ins = ([], 0) ∷ []

tee_outs : List Port
tee_outs = ([], 1) ∷ ([], 2) ∷ []

tee_desk : List PacketName → Desk
tee_desk free = record { tray = tray_of true [] free out_end; queues = waiting }

-- what an outcome leaves: the packets of a link, how often the app ran dry, the free packets
desk_after : {R : Type 0} → Outcome R → Desk
desk_after (done x d entries) = d
desk_after (stopped d entries) = d
desk_after (refused d entries) = d

packets_of : Option Queue → List PacketState
packets_of None = []
packets_of (Some queue) = queue.packets

-- A tee with one free packet: each output gets one packet with the same bytes, the copy the first.
tee_copies : (packets_of ((desk_after (tee_push 0 tee_ins tee_outs (tee_desk ((9, 0) ∷ [])) [])).queues 1) ≡ record { number = 9; turn = 0; bytes = 1 ∷ 2 ∷ [] } ∷ [])
    × (packets_of ((desk_after (tee_push 0 tee_ins tee_outs (tee_desk ((9, 0) ∷ [])) [])).queues 2) ≡ packet ∷ [])
    × (packets_of ((desk_after (tee_push 0 tee_ins tee_outs (tee_desk ((9, 0) ∷ [])) [])).queues 0) ≡ [])
unfolding constants_of tray_of packet waiting tee_ins tee_outs tee_desk desk_after packets_of tee_push tee_inputs tee_input tee_where tee_one tee_gather tee_gathered tee_sends tee_packet frees_all runs_dry next_of with_next pure go_on ◌>>=◌ look change change_tray read reading times on_each row_allocate refill_needed refill_where refill refill_one claim_taken take_last gate_in gate_by gate_of stands takes taking_front sends frees counts
tee_copies = (refl, refl, refl)

-- With none, and a dry group, the packet stays in the input, and that is counted.
tee_dry : (packets_of ((desk_after (tee_push 0 tee_ins tee_outs (tee_desk []) (Dry ∷ []))).queues 0) ≡ packet ∷ [])
    × ((desk_after (tee_push 0 tee_ins tee_outs (tee_desk []) (Dry ∷ []))).tray.counters ≡ record { apps = record no_app_counts { dry = 1 } ∷ []; links = [] })
    × ((desk_after (tee_push 0 tee_ins tee_outs (tee_desk []) (Dry ∷ []))).tray.log.past ≡ Dry ∷ [])
unfolding constants_of tray_of packet waiting tee_ins tee_outs tee_desk desk_after packets_of tee_push tee_inputs tee_input tee_where tee_one tee_gather tee_gathered tee_sends tee_packet frees_all runs_dry next_of with_next pure go_on ◌>>=◌ look change change_tray read reading times on_each row_allocate refill_needed refill_where refill refill_one claim_taken take_last gate_in gate_by gate_of stands takes taking_front sends frees counts
tee_dry = (refl, refl, refl)

-- AN INTERLINK'S END
end_desk : Bool → List (ℕ × ℕ) → End → Desk
end_desk scripted stops end = record { tray = tray_of scripted stops [] end; queues = λ row. None }

-- whether an outcome is a value, and what the end's state is then
gives : {R : Type 0} → Outcome R → Option R
gives (done x d entries) = Some x
gives (stopped d entries) = None
gives (refused d entries) = None

left_of : {R : Type 0} → Outcome R → List Entry
left_of (done x d entries) = entries
left_of (stopped d entries) = entries
left_of (refused d entries) = entries

-- A receiver attaches where the transmitter is up; where both words are DOWN it can't; from a word where it is up itself it may not.
attaches : (gives (row_attach 0 Rx (end_desk true [] out_end) (Attach 0 4 ∷ [])) ≡ Some true)
    × (gives (row_attach 0 Rx (end_desk true [] out_end) (Unattached 0 10 10 ∷ [])) ≡ Some false)
    × (gives (row_attach 0 Rx (end_desk true [] out_end) (Unattached 0 4 6 ∷ [])) ≡ Some false)
    × (gives (row_attach 0 Rx (end_desk true [] out_end) (Attach 0 1 ∷ [])) ≡ None)
unfolding constants_of tray_of end_desk gives row_attach attach_from not_down attached came_up pure go_on ◌>>=◌ look change_tray read reading read_if reading_if gate_in gate_by gate_of stands
attaches = (refl, refl, refl, refl)

-- The last of both ends empties the interlink: what it drains becomes free, and the end is out.
detaches : (gives (row_detach working 0 Tx (end_desk true [] up_end) (Detach 0 6 ∷ Room 0 1022 ∷ Drain 0 5 7 3 ∷ Reset 0 ∷ [])) ≡ Some tt)
    × ((desk_after (row_detach working 0 Tx (end_desk true [] up_end) (Detach 0 6 ∷ Room 0 1022 ∷ Drain 0 5 7 3 ∷ Reset 0 ∷ []))).tray.free ≡ (7, 3) ∷ [])
    × ((desk_after (row_detach working 0 Tx (end_desk true [] up_end) (Detach 0 6 ∷ Room 0 1022 ∷ Drain 0 5 7 3 ∷ Reset 0 ∷ []))).tray.ends 0 Tx ≡ out_end)
    × (gives (row_detach working 0 Tx (end_desk true [] up_end) (Detach 0 5 ∷ [])) ≡ Some tt)
    × (gives (row_detach working 0 Tx (end_desk true [] up_end) (Detach 0 6 ∷ Reset 0 ∷ [])) ≡ None)
unfolding constants_of tray_of end_desk desk_after gives row_detach detach_from detached close_lane drain_one drained drained_in pure go_on ◌>>=◌ look change_tray read reading repeated repeated_with gate_in gate_by gate_of stands
detaches = (refl, refl, refl, refl, refl)

-- A put names the packet, its raised turn and its bytes; another turn, or other bytes, may not be read.
puts : (gives (row_put 0 packet (end_desk true [] up_end) (Put 0 12 7 4 (1 ∷ 2 ∷ []) ∷ [])) ≡ Some tt)
    × (gives (row_put 0 packet (end_desk true [] up_end) (Put 0 12 7 3 (1 ∷ 2 ∷ []) ∷ [])) ≡ None)
    × (gives (row_put 0 packet (end_desk true [] up_end) (Put 0 12 7 4 (1 ∷ 3 ∷ []) ∷ [])) ≡ None)
    × (gives (row_put 0 packet (end_desk true [] up_end) (Put 1 12 7 4 (1 ∷ 2 ∷ []) ∷ [])) ≡ None)
unfolding constants_of tray_of packet end_desk gives row_put pure go_on ◌>>=◌ look change_tray read reading gate_in gate_by gate_of stands
puts = (refl, refl, refl, refl)

-- A worker with a stop line stops at that gate, with the entry Stop; without a script it passes the others.
stops_at : (left_of (row_put 0 packet (end_desk false ((0, 0) ∷ []) up_end) (Stop ∷ Dry ∷ [])) ≡ Dry ∷ [])
    × (gives (row_put 0 packet (end_desk false ((0, 1) ∷ []) up_end) (Put 0 12 7 4 (1 ∷ 2 ∷ []) ∷ [])) ≡ Some tt)
unfolding constants_of tray_of packet end_desk gives left_of row_put pure go_on ◌>>=◌ look change_tray read reading gate_in gate_by gate_of gate_named stands stops_here stop_at passed
stops_at = (refl, refl)
