-- One seat: its state, and what events do to it.
use Rattle.std.specs.Prelude.{ℕ, suc, ◌+◌, ◌-◌, ◌^◌, ◌==◌, Bool, true, false, Option, Some, None, unwrap_or, option_map, List, [], ◌∷◌, length, slice_get, slice_set, count_by, nat_lt, replicate}
use Rattle.std.specs.List.{list_any}
use Rattle.sn_core.specs.declared.parts.Packet.{Packet}
use Rattle.sn_core.specs.declared.parts.Claim.{Claim}
use Rattle.sn_core.specs.declared.parts.Pending.{Pending}
use Rattle.sn_core.specs.declared.parts.Phase.{Phase}
use Rattle.sn_core.specs.declared.parts.Phase.TheVariants.{Taking, Giving, GivenIn}

-- the highest turn of a packet, 2^48 - 1: a packet at this turn is worn, and moves no more
abbrev pub highest_turn : ℕ
highest_turn = 2 ^ 48 - 1

-- the most cells of one transfer
abbrev pub most_claimed : ℕ
most_claimed = 1

-- a transfer between a seat and cells: how far it has come, and each cell with its packet
pub record Transfer : Type 0 where
  pub phase : Phase
  pub claims : List Claim

-- a transfer of one packet, as the machine keeps it
abbrev pub transfer_of : Pending → Transfer
transfer_of pending = record { phase = pending.phase; claims = pending.claim ∷ [] }

-- the state of one seat
pub record SeatState : Type 0 where
  pub held : List (Option ℕ)  -- for each number of the pool the packet's turn, where the seat holds it
  pub pending : Option Transfer  -- the transfer with a cell that isn't done
  pub heard : ℕ
  pub said : ℕ

-- the packets of such a table, whose first entry is for this number
abbrev pub packets_from : ℕ → List (Option ℕ) → List Packet
packets_from number [] = []
packets_from number (None ∷ turns) = packets_from (suc number) turns
packets_from number (Some turn ∷ turns) = record { number = number; turn = turn } ∷ packets_from (suc number) turns

-- the list of the packets that a seat holds
abbrev pub held_packets : SeatState → List Packet
held_packets seat = packets_from 0 seat.held

-- a seat of a pool of this size that holds nothing
abbrev pub idle_seat : ℕ → SeatState
idle_seat pool = record { held = replicate pool None; pending = None; heard = 0; said = 0 }

-- an entry of the table, if there is one
abbrev pub joined : {A : Type 0} → Option (Option A) → Option A
joined None = None
joined (Some o) = o

-- the turn of the packet of this number, if the seat holds it
abbrev pub turn_of : ℕ → SeatState → Option ℕ
turn_of number seat = joined (slice_get seat.held number)

-- the packet is there and isn't worn
abbrev pub is_fresh : Option ℕ → Bool
is_fresh None = false
is_fresh (Some turn) = nat_lt turn highest_turn

-- the seat gets this packet, or these
abbrev pub with_packet : Packet → SeatState → SeatState
with_packet packet seat = record seat { held = slice_set seat.held packet.number (Some packet.turn) }

abbrev pub with_packets : List Packet → SeatState → SeatState
with_packets [] seat = seat
with_packets (packet ∷ packets) seat = with_packets packets (with_packet packet seat)

-- the packet of this number leaves the seat, or those of these numbers
abbrev pub without_packet : ℕ → SeatState → SeatState
without_packet number seat = record seat { held = slice_set seat.held number None }

abbrev pub without_packets : List ℕ → SeatState → SeatState
without_packets [] seat = seat
without_packets (number ∷ numbers) seat = without_packets numbers (without_packet number seat)

-- the packet of this number as the seat, which holds it, hands it over: its turn is raised
abbrev pub handed_over : SeatState → ℕ → Packet
handed_over seat number = record { number = number; turn = unwrap_or (turn_of number seat) 0 + 1 }

-- the seat has this transfer pending
abbrev pub with_pending : Option Transfer → SeatState → SeatState
with_pending pending seat = record seat { pending = pending }

-- the cells that the seat has claimed, each with its packet
abbrev pub claims_in : Option Transfer → List Claim
claims_in None = []
claims_in (Some transfer) = transfer.claims

abbrev pub claims_of : SeatState → List Claim
claims_of seat = claims_in seat.pending

-- how often the seat has claimed this packet, and whether it has; how often it has claimed this cell
abbrev pub claim_count : ℕ → SeatState → ℕ
claim_count number seat = count_by (λ claim. claim.packet == number) (claims_of seat)

abbrev pub has_claimed : ℕ → SeatState → Bool
has_claimed number seat = list_any (λ claim. claim.packet == number) (claims_of seat)

abbrev pub cell_count : ℕ → SeatState → ℕ
cell_count cell seat = count_by (λ claim. claim.cell == cell) (claims_of seat)

-- the seat has a transfer pending that passes the test
abbrev pub has_pending : (Transfer → Bool) → Option Transfer → Bool
has_pending test None = false
has_pending test (Some transfer) = test transfer

-- how far a transfer has come
abbrev pub takes : (ℕ → Bool) → Phase → Bool
takes test (Taking out) = test out
takes test Giving = false
takes test GivenIn = false

abbrev pub out_of : Phase → ℕ
out_of (Taking out) = out
out_of Giving = 0
out_of GivenIn = 0

abbrev pub gives : Phase → Bool
gives (Taking out) = false
gives Giving = true
gives GivenIn = false

abbrev pub has_given : Phase → Bool
has_given (Taking out) = false
has_given Giving = false
has_given GivenIn = true

-- the transfer at another phase
abbrev pub in_phase : Phase → Transfer → Transfer
in_phase phase transfer = record transfer { phase = phase }

abbrev pub one_more_out : Phase → Phase
one_more_out (Taking out) = Taking (out + 1)
one_more_out Giving = Giving
one_more_out GivenIn = GivenIn

-- of a taking, one more packet comes out of its cell
abbrev pub can_take_out : SeatState → Bool
can_take_out seat = has_pending (λ transfer. takes (λ out. nat_lt out (length transfer.claims)) transfer.phase) seat.pending

abbrev pub taken_out : SeatState → SeatState
taken_out seat = with_pending (option_map (λ transfer. in_phase (one_more_out transfer.phase) transfer) seat.pending) seat

-- all packets of a taking are out
abbrev pub is_all_out : SeatState → Bool
is_all_out seat = has_pending (λ transfer. takes (λ out. out == length transfer.claims) transfer.phase) seat.pending

-- the packet of a giving goes into its cell, and is in
abbrev pub can_give_in : SeatState → Bool
can_give_in seat = has_pending (λ transfer. gives transfer.phase) seat.pending

abbrev pub given_in : SeatState → SeatState
given_in seat = with_pending (option_map (in_phase GivenIn) seat.pending) seat

abbrev pub is_given_in : SeatState → Bool
is_given_in seat = has_pending (λ transfer. has_given transfer.phase) seat.pending
