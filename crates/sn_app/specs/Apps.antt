-- What the apps do: each class's pull or push, and how an app starts, takes a new argument and stops.
use Rattle.std.specs.Prelude.{ℕ, zero, suc, ◌+◌, ◌-◌, ◌%◌, ◌==◌, Bool, true, false, codes, min, nat_lt, bytes_eq, if◌then◌else◌, List, [], ◌∷◌, ◌++◌, length, replicate, take, slice_get, slice_index_or, Option, Some, None}
use Rattle.sn_core.specs.declared.events.Side.TheVariants.{Rx, Tx}
use Rattle.sn_journal.specs.HandOvers.{PacketName}
use Rattle.sn_link.specs.Counts.{raised}
use Rattle.sn_link.specs.Link.{most_queued}
use Rattle.sn_names.specs.declared.arg.Arg.{Arg}
use Rattle.sn_names.specs.declared.arg.Arg.TheVariants.{Number, Byte, File, Lane}
use Rattle.sn_names.specs.declared.class.Class.{Class}
use Rattle.sn_names.specs.declared.class.Class.TheVariants.{ByteFilter, Join, PcapReader, PcapWriter, Receiver, Repeater, Sample, Sink, Source, Split, Tee, Transmitter, Truncate}
use Rattle.sn_packet.specs.Packet.{PacketState, with_bytes, no_packet, most_bytes, is_worn}
use Rattle.sn_pcap.specs.Places.{payloads_of}
use Rattle.sn_app.specs.Calls.{row_of}
use Rattle.sn_app.specs.Desk.{Desk, Queue, name_of, roster_of, capture_at}
use Rattle.sn_app.specs.Gates.{working}
use Rattle.sn_app.specs.Ports.{Port}
use Rattle.sn_app.specs.Reader.{Meaning, pure, ◌>>=◌, look, times, on_each, stepping}
use Rattle.sn_app.specs.Rows.{◌>>◌, packet_of, row_allocate, row_attach, row_detach, row_look, row_room, row_take, row_put, row_file_start, row_file_append, counts, frees, sends, takes}
use Rattle.sn_app.specs.declared.counters.Counter.{Counter}
use Rattle.sn_app.specs.declared.counters.Counter.TheVariants.{Packets, Dropped, Oversize, Dry}

-- An app by its class: its row among the apps, and what else it has. A sample has its n and how many packets it has seen, a
-- repeater what it keeps and which comes next, a reader the payloads of the records that it hasn't passed.
pub data AppState : Type 0 where
  source : ℕ → ℕ → AppState
  sink tee join split : ℕ → AppState
  truncate : ℕ → ℕ → AppState
  sample : ℕ → ℕ → ℕ → AppState
  byte_filter : ℕ → ℕ → ℕ → AppState
  repeater : ℕ → List PacketState → ℕ → AppState
  pcap_reader : ℕ → List (List ℕ) → AppState
  pcap_writer : ℕ → ℕ → AppState
  receiver transmitter : ℕ → ℕ → AppState

-- the most packets or records of one pull
abbrev pub most_pulled : ℕ
most_pulled = 102

-- the size of a source's packets where none is given
abbrev pub usual_size : ℕ
usual_size = 60

-- the row of the port of this name, if it is linked
abbrev pub row_named : List ℕ → List Port → Option ℕ
row_named name [] = None
row_named name (port ∷ ports) = if bytes_eq port.0 name then Some port.1 else row_named name ports

-- how many packets a link has, and for how many it has room
abbrev pub readable_of : Option Queue → ℕ
readable_of None = 0
readable_of (Some queue) = length queue.packets

abbrev pub readable : ℕ → Desk → ℕ
readable row d = readable_of (d.queues row)

abbrev pub room_on : ℕ → Desk → ℕ
room_on row d = most_queued - readable row d

-- what is done by an app at a row: a packet is sent and counted, or freed and counted
unfoldable pub sends_counted : ℕ → ℕ → PacketState → Meaning Bool
sends_counted app out packet = sends out packet >> counts app Packets 1 >> pure true

unfoldable pub frees_counted : ℕ → Counter → PacketState → Meaning Bool
frees_counted app counter packet = frees (name_of packet) >> counts app counter 1 >> pure true

abbrev pub drops_counted : ℕ → PacketState → Meaning Bool
drops_counted app packet = frees_counted app Dropped packet

-- the call ends for want of a free packet
unfoldable pub runs_dry : ℕ → Meaning Bool
runs_dry app = counts app Dry 1 >> pure false

-- the next packet of a link, if there is one, and what is done with it
unfoldable pub with_next : Option PacketState → (PacketState → Meaning Bool) → Meaning Bool
with_next None m = pure false
with_next (Some packet) m = m packet

unfoldable pub next_of : ℕ → (PacketState → Meaning Bool) → Meaning Bool
next_of input m = takes input >>= (λ packet. with_next packet m)

-- SOURCE: for each output, 102 packets of zeros

unfoldable pub source_with : ℕ → ℕ → ℕ → Option PacketName → Meaning Bool
source_with app size out None = runs_dry app
source_with app size out (Some name) = sends_counted app out (packet_of name.0 name.1 (replicate size 0))

unfoldable pub source_one : ℕ → ℕ → ℕ → Meaning Bool
source_one app size out = row_allocate >>= source_with app size out

unfoldable pub source_burst : ℕ → ℕ → ℕ → Meaning Bool
source_burst app size out = times most_pulled (source_one app size out)

unfoldable pub source_pull : ℕ → ℕ → List Port → Meaning Bool
source_pull app size outs = on_each outs (λ port. source_burst app size port.1)

-- SINK: takes and frees all of every input

abbrev pub sink_packet : ℕ → PacketState → Meaning Bool
sink_packet app packet = frees_counted app Packets packet

unfoldable pub sink_all : ℕ → ℕ → Meaning Bool
sink_all app input = look (λ d. times (readable input d) (next_of input (sink_packet app)))

unfoldable pub sink_push : ℕ → List Port → Meaning Bool
sink_push app ins = on_each ins (λ port. sink_all app port.1)

-- JOIN and SPLIT: from each input to each output as many as are readable there and find room here, both read once

unfoldable pub move_some : ℕ → ℕ → ℕ → Meaning Bool
move_some app input out = look (λ d. times (min (readable input d) (room_on out d)) (next_of input (sends_counted app out)))

unfoldable pub join_push : ℕ → List Port → ℕ → Meaning Bool
join_push app ins out = on_each ins (λ port. move_some app port.1 out)

unfoldable pub split_input : ℕ → List Port → ℕ → Meaning Bool
split_input app outs input = on_each outs (λ out. move_some app input out.1)

unfoldable pub split_push : ℕ → List Port → List Port → Meaning Bool
split_push app ins outs = on_each ins (λ port. split_input app outs port.1)

-- TEE: a copy of each packet to every output, as long as all outputs have room

-- the least room of these outputs
abbrev pub least_room : List Port → Desk → ℕ
least_room [] d = most_queued
least_room (port ∷ ports) d = min (room_on port.1 d) (least_room ports d)

-- so many free packets; where one doesn't come those that came are freed, the first one first
unfoldable pub frees_all : List PacketName → Meaning Bool
frees_all names = on_each names (λ name. frees name >> pure true)

unfoldable pub tee_gathered : ℕ → List PacketName → (List PacketName → Meaning Bool) → Option PacketName → Meaning Bool
tee_gathered app names next None = frees_all names >> runs_dry app
tee_gathered app names next (Some name) = next (names ++ name ∷ [])

unfoldable pub tee_gather : ℕ → ℕ → List PacketName → (List PacketName → Meaning Bool) → Meaning Bool
tee_gather zero app names next = next names
tee_gather (suc n) app names next = row_allocate >>= tee_gathered app names (λ more. tee_gather n app more next)

-- the copies go to the outputs in their order, and the packet itself to the last
unfoldable pub tee_sends : List PacketName → PacketState → List Port → Meaning Bool
tee_sends [] packet [] = pure true
tee_sends [] packet (port ∷ ports) = sends port.1 packet >> pure true
tee_sends (name ∷ names) packet [] = pure true
tee_sends (name ∷ names) packet (port ∷ ports) =
    sends port.1 (packet_of name.0 name.1 packet.bytes) >> tee_sends names packet ports

unfoldable pub tee_packet : ℕ → List Port → List PacketName → PacketState → Meaning Bool
tee_packet app outs names packet = tee_sends names packet outs >> counts app Packets 1 >> pure true

unfoldable pub tee_one : ℕ → ℕ → List Port → Meaning Bool
tee_one app input outs = tee_gather (length outs - 1) app [] (λ names. next_of input (tee_packet app outs names))

-- one input, as long as it has a packet and there is room: whether the call goes on, and the room that is left
unfoldable pub tee_where : ℕ → Meaning (Bool × ℕ) → ℕ → Meaning (Bool × ℕ)
tee_where room next zero = pure (true, room)
tee_where room next (suc n) = next

unfoldable pub tee_input : ℕ → List Port → ℕ → ℕ → Meaning (Bool × ℕ)
tee_input app outs input zero = pure (true, 0)
tee_input app outs input (suc room) =
    look (λ d. tee_where (suc room)
    (tee_one app input outs >>= (λ on. if on then tee_input app outs input room else pure (false, suc room)))
    (readable input d))

-- each input in turn, with the room that the ones before it left
unfoldable pub tee_inputs : ℕ → List Port → List Port → ℕ → Meaning Bool
tee_inputs app outs [] room = pure true
tee_inputs app outs (port ∷ ports) room =
    tee_input app outs port.1 room >>= (λ t. if t.0 then tee_inputs app outs ports t.1 else pure false)

unfoldable pub tee_push : ℕ → List Port → List Port → Meaning Bool
tee_push app ins [] = pure true
tee_push app ins (port ∷ ports) = look (λ d. tee_inputs app (port ∷ ports) ins (least_room (port ∷ ports) d))

-- TRUNCATE, SAMPLE, BYTE FILTER: as many packets of the input as were readable when the call began

unfoldable pub truncate_packet : ℕ → ℕ → ℕ → PacketState → Meaning Bool
truncate_packet app most out packet = sends_counted app out (with_bytes (take most packet.bytes) packet)

unfoldable pub truncate_push : ℕ → ℕ → ℕ → ℕ → Meaning Bool
truncate_push app most input out = look (λ d. times (readable input d) (next_of input (truncate_packet app most out)))

-- the packet of this number since the start is sent where n divides that, else it is dropped
unfoldable pub sends_or_drops : Bool → ℕ → ℕ → PacketState → Meaning Bool
sends_or_drops true app out packet = sends_counted app out packet
sends_or_drops false app out packet = drops_counted app packet

unfoldable pub sample_packet : ℕ → ℕ → ℕ → ℕ → PacketState → Meaning Bool
sample_packet app n out seen packet = sends_or_drops (raised 1 seen % n == 0) app out packet

unfoldable pub sample_one : ℕ → ℕ → ℕ → ℕ → ℕ → Meaning (Bool × ℕ)
sample_one app n input out seen = next_of input (sample_packet app n out seen) >>= (λ on. pure (on, raised 1 seen))

unfoldable pub sample_push : ℕ → ℕ → ℕ → ℕ → ℕ → Meaning ℕ
sample_push app n input out seen = look (λ d. stepping (readable input d) (sample_one app n input out) seen)

-- the byte at this place is there and is this one
abbrev pub is_byte_at : Option ℕ → ℕ → Bool
is_byte_at None value = false
is_byte_at (Some byte) value = byte == value

unfoldable pub filter_packet : ℕ → ℕ → ℕ → ℕ → PacketState → Meaning Bool
filter_packet app offset value out packet = sends_or_drops (is_byte_at (slice_get packet.bytes offset) value) app out packet

unfoldable pub filter_push : ℕ → ℕ → ℕ → ℕ → ℕ → Meaning Bool
filter_push app offset value input out = look (λ d. times (readable input d) (next_of input (filter_packet app offset value out)))

-- REPEATER: keeps up to 1,023 packets, and sends copies of them in turn

-- one more packet is kept, behind the others
unfoldable pub keep_next : List PacketState → Option PacketState → Meaning (Bool × List PacketState)
keep_next kept None = pure (false, kept)
keep_next kept (Some packet) = pure (true, kept ++ packet ∷ [])

unfoldable pub keep_one : ℕ → List PacketState → Meaning (Bool × List PacketState)
keep_one input kept = takes input >>= keep_next kept

unfoldable pub keep_some : ℕ → List PacketState → Meaning (List PacketState)
keep_some input kept = look (λ d. stepping (min (readable input d) (most_queued - length kept)) (keep_one input) kept)

-- the one behind the one that was copied, or the first where that was the last
abbrev pub next_kept : ℕ → ℕ → ℕ
next_kept kept next = if nat_lt (next + 1) kept then next + 1 else 0

unfoldable pub repeat_with : ℕ → ℕ → List PacketState → ℕ → Option PacketName → Meaning (Bool × ℕ)
repeat_with app out kept next None = runs_dry app >>= (λ on. pure (on, next))
repeat_with app out kept next (Some name) =
    sends_counted app out (packet_of name.0 name.1 (slice_index_or kept next no_packet).bytes)
    >>= (λ on. pure (on, next_kept (length kept) next))

unfoldable pub repeat_one : ℕ → ℕ → List PacketState → ℕ → Meaning (Bool × ℕ)
repeat_one app out kept next = row_allocate >>= repeat_with app out kept next

unfoldable pub repeat_some : ℕ → ℕ → List PacketState → ℕ → Meaning ℕ
repeat_some app out [] next = pure next
repeat_some app out (packet ∷ kept) next = look (λ d. stepping (room_on out d) (repeat_one app out (packet ∷ kept)) next)

unfoldable pub repeater_push : ℕ → List PacketState → ℕ → ℕ → ℕ → Meaning AppState
repeater_push app kept next input out =
    keep_some input kept >>= (λ now. repeat_some app out now next >>= (λ later. pure (repeater app now later)))

-- PCAP READER: up to 102 records; what is longer than a packet is passed over

unfoldable pub read_with : ℕ → ℕ → List ℕ → List (List ℕ) → Option PacketName → Meaning (Bool × List (List ℕ))
read_with app out payload rest None = runs_dry app >>= (λ on. pure (on, payload ∷ rest))
read_with app out payload rest (Some name) =
    sends_counted app out (packet_of name.0 name.1 payload) >>= (λ on. pure (on, rest))

unfoldable pub read_record : Bool → ℕ → ℕ → List ℕ → List (List ℕ) → Meaning (Bool × List (List ℕ))
read_record true app out payload rest = counts app Oversize 1 >> pure (true, rest)
read_record false app out payload rest = row_allocate >>= read_with app out payload rest

unfoldable pub read_one : ℕ → ℕ → List (List ℕ) → Meaning (Bool × List (List ℕ))
read_one app out [] = pure (false, [])
read_one app out (payload ∷ rest) = read_record (nat_lt most_bytes (length payload)) app out payload rest

unfoldable pub reader_pull : ℕ → List (List ℕ) → ℕ → Meaning AppState
reader_pull app rest out = stepping most_pulled (read_one app out) rest >>= (λ left. pure (pcap_reader app left))

-- PCAP WRITER: appends and frees each

unfoldable pub write_counted : ℕ → PacketState → Bool → Meaning Bool
write_counted app packet true = frees_counted app Packets packet
write_counted app packet false = drops_counted app packet

unfoldable pub write_packet : ℕ → ℕ → PacketState → Meaning Bool
write_packet app file packet = row_file_append file packet >>= write_counted app packet

unfoldable pub writer_push : ℕ → ℕ → ℕ → Meaning Bool
writer_push app file input = look (λ d. times (readable input d) (next_of input (write_packet app file)))

-- RECEIVER and TRANSMITTER: over an interlink, once their end is up

unfoldable pub receive_one : ℕ → ℕ → ℕ → Meaning Bool
receive_one app lane out = row_take lane >>= sends_counted app out

unfoldable pub receive_where : ℕ → ℕ → ℕ → Bool → Meaning Bool
receive_where app lane out false = pure false
receive_where app lane out true = row_look lane >>= (λ n. times (min n most_pulled) (receive_one app lane out))

unfoldable pub receiver_pull : ℕ → ℕ → ℕ → Meaning Bool
receiver_pull app lane out = row_attach lane Rx >>= receive_where app lane out

unfoldable pub put_or_drop : Bool → ℕ → ℕ → PacketState → Meaning Bool
put_or_drop true app lane packet = drops_counted app packet
put_or_drop false app lane packet = row_put lane packet >> counts app Packets 1 >> pure true

unfoldable pub put_packet : ℕ → ℕ → PacketState → Meaning Bool
put_packet app lane packet = put_or_drop (is_worn packet) app lane packet

unfoldable pub transmit_some : ℕ → ℕ → ℕ → ℕ → Meaning Bool
transmit_some app lane input zero = pure true
transmit_some app lane input (suc n) =
    row_room lane >>= (λ room. times (min (suc n) room) (next_of input (put_packet app lane)))

unfoldable pub transmit_where : ℕ → ℕ → ℕ → Bool → Meaning Bool
transmit_where app lane input false = pure false
transmit_where app lane input true = look (λ d. transmit_some app lane input (readable input d))

unfoldable pub transmitter_push : ℕ → ℕ → ℕ → Meaning Bool
transmitter_push app lane input = row_attach lane Tx >>= transmit_where app lane input

-- PULL and PUSH of an app with these inputs and outputs. A named port that isn't linked makes the call do nothing.

abbrev pub input_named : List Port → Option ℕ
input_named ins = row_named (codes "input") ins

abbrev pub output_named : List Port → Option ℕ
output_named outs = row_named (codes "output") outs

abbrev pub out_named : List Port → Option ℕ
out_named outs = row_named (codes "out") outs

-- the state stays, whatever was done
unfoldable pub staying : AppState → Meaning Bool → Meaning AppState
staying s m = m >> pure s

-- what is done at a port, or at two, where they are linked
unfoldable pub at_port : Option ℕ → AppState → (ℕ → Meaning AppState) → Meaning AppState
at_port None s m = pure s
at_port (Some row) s m = m row

unfoldable pub at_ports : Option ℕ → Option ℕ → AppState → (ℕ → ℕ → Meaning AppState) → Meaning AppState
at_ports None out s m = pure s
at_ports (Some input) None s m = pure s
at_ports (Some input) (Some out) s m = m input out

unfoldable pub pulls : AppState → List Port → List Port → Meaning AppState
pulls (source app size) ins outs = staying (source app size) (source_pull app size outs)
pulls (pcap_reader app rest) ins outs = at_port (output_named outs) (pcap_reader app rest) (reader_pull app rest)
pulls (receiver app lane) ins outs =
    at_port (output_named outs) (receiver app lane) (λ out. staying (receiver app lane) (receiver_pull app lane out))
pulls s ins outs = pure s

unfoldable pub pushes : AppState → List Port → List Port → Meaning AppState
pushes (sink app) ins outs = staying (sink app) (sink_push app ins)
pushes (tee app) ins outs = staying (tee app) (tee_push app ins outs)
pushes (join app) ins outs = at_port (out_named outs) (join app) (λ out. staying (join app) (join_push app ins out))
pushes (split app) ins outs = staying (split app) (split_push app ins outs)
pushes (truncate app most) ins outs =
    at_ports (input_named ins) (output_named outs) (truncate app most)
    (λ input out. staying (truncate app most) (truncate_push app most input out))
pushes (sample app n seen) ins outs =
    at_ports (input_named ins) (output_named outs) (sample app n seen)
    (λ input out. sample_push app n input out seen >>= (λ now. pure (sample app n now)))
pushes (byte_filter app offset value) ins outs =
    at_ports (input_named ins) (output_named outs) (byte_filter app offset value)
    (λ input out. staying (byte_filter app offset value) (filter_push app offset value input out))
pushes (repeater app kept next) ins outs =
    at_ports (input_named ins) (output_named outs) (repeater app kept next) (repeater_push app kept next)
pushes (pcap_writer app file) ins outs =
    at_port (input_named ins) (pcap_writer app file) (λ input. staying (pcap_writer app file) (writer_push app file input))
pushes (transmitter app lane) ins outs =
    at_port (input_named ins) (transmitter app lane) (λ input. staying (transmitter app lane) (transmitter_push app lane input))
pushes s ins outs = pure s

-- START, NEW ARGUMENT and STOP

-- a reader of a capture from its first record on
unfoldable pub reads_from : ℕ → List ℕ → Meaning AppState
reads_from app name =
    look (λ d. pure (pcap_reader app (payloads_of (capture_at (row_of (roster_of d.tray).captures name) d.tray))))

-- a writer of a file, which is emptied to its header
unfoldable pub writes_to : ℕ → List ℕ → Meaning AppState
writes_to app name =
    look (λ d. row_file_start (row_of (roster_of d.tray).files name)
    >> pure (pcap_writer app (row_of (roster_of d.tray).files name)))

unfoldable pub receives_from : ℕ → List ℕ → Meaning AppState
receives_from app name = look (λ d. pure (receiver app (row_of (roster_of d.tray).lanes name)))

unfoldable pub transmits_to : ℕ → List ℕ → Meaning AppState
transmits_to app name = look (λ d. pure (transmitter app (row_of (roster_of d.tray).lanes name)))

-- the number of an argument, or this one
abbrev pub number_or : ℕ → Arg → ℕ
number_or n (Number m) = m
number_or n arg = n

abbrev pub byte_of : Arg → ℕ × ℕ
byte_of (Byte offset value) = (offset, value)
byte_of arg = (0, 0)

abbrev pub name_in : Arg → List ℕ
name_in (File name) = name
name_in (Lane name) = name
name_in arg = []

-- an app of a class starts at a row
unfoldable pub starts : Class → Arg → ℕ → Meaning AppState
starts Source arg app = pure (source app (number_or usual_size arg))
starts Sink arg app = pure (sink app)
starts Tee arg app = pure (tee app)
starts Join arg app = pure (join app)
starts Split arg app = pure (split app)
starts Repeater arg app = pure (repeater app [] 0)
starts Truncate arg app = pure (truncate app (number_or 0 arg))
starts Sample arg app = pure (sample app (number_or 1 arg) 0)
starts ByteFilter arg app = pure (byte_filter app (byte_of arg).0 (byte_of arg).1)
starts PcapReader arg app = reads_from app (name_in arg)
starts PcapWriter arg app = writes_to app (name_in arg)
starts Receiver arg app = receives_from app (name_in arg)
starts Transmitter arg app = transmits_to app (name_in arg)

-- an app takes a new argument: a sample counts on, a reader begins the new capture
unfoldable pub reconfigs : Arg → AppState → Meaning AppState
reconfigs arg (source app size) = pure (source app (number_or usual_size arg))
reconfigs arg (truncate app most) = pure (truncate app (number_or 0 arg))
reconfigs arg (sample app n seen) = pure (sample app (number_or 1 arg) seen)
reconfigs arg (byte_filter app offset value) = pure (byte_filter app (byte_of arg).0 (byte_of arg).1)
reconfigs arg (pcap_reader app rest) = reads_from app (name_in arg)
reconfigs arg (pcap_writer app file) = writes_to app (name_in arg)
reconfigs arg (receiver app lane) = row_detach working lane Rx >> receives_from app (name_in arg)
reconfigs arg (transmitter app lane) = row_detach working lane Tx >> transmits_to app (name_in arg)
reconfigs arg s = pure s

-- an app stops: what it keeps is freed, the first kept first, and its end goes down
unfoldable pub stops : AppState → Meaning Bool
stops (repeater app kept next) = on_each kept (λ packet. frees (name_of packet) >> pure true)
stops (receiver app lane) = row_detach working lane Rx >> pure true
stops (transmitter app lane) = row_detach working lane Tx >> pure true
stops s = pure true
