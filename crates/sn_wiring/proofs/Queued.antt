-- The places of a link that stands nowhere, and how its packets become free.
use Rattle.std.proofs.Common.{List, None, Some, [], ap, arith, length, map, refl, ℕ, ◌+◌, ◌∷◌, ◌≡◌}
use Rattle.sn_link.specs.Link.{Line, first_place, front_of, received, received_as}
use Rattle.sn_link.specs.declared.counts.LinkCounts.{LinkCounts}
use Rattle.sn_packet.specs.Packet.{PacketState}
use Rattle.sn_app.specs.Hands.{packets_at}
use Rattle.sn_app.specs.World.{Used, packet_at, places_of}

first_of : (row : ℕ) (queued : List (ℕ × ℕ)) (counts : LinkCounts) (place : ℕ) → Some place ≡ first_place queued
    → places_of queued ≡ place ∷ places_of (received_as row queued counts).queued
first_of row [] counts place e = absurd cc
first_of row (first ∷ rest) counts place e =
    let same : first.0 ≡ place = cc in
    ap (λ p. p ∷ places_of rest) same

-- the place at the front, and those behind it
pub front_first : (line : Line) (place : ℕ) → Some place ≡ front_of line
    → places_of line.queued ≡ place ∷ places_of (received line).queued
front_first line place e = first_of line.row line.queued line.counts place e

fewer : (row : ℕ) (queued : List (ℕ × ℕ)) (counts : LinkCounts) (place : ℕ) → Some place ≡ first_place queued
    → length queued ≡ length (received_as row queued counts).queued + 1
fewer row [] counts place e = absurd cc
fewer row (first ∷ rest) counts place e = omega arith

pub one_fewer : (line : Line) (place : ℕ) → Some place ≡ front_of line → length line.queued ≡ length (received line).queued + 1
one_fewer line place e = fewer line.row line.queued line.counts place e

none_queued : (queued : List (ℕ × ℕ)) → None ≡ first_place queued → length queued ≡ 0
none_queued [] e = refl
none_queued (first ∷ rest) e = absurd cc

pub no_front : (line : Line) → None ≡ front_of line → length line.queued ≡ 0
no_front line e = none_queued line.queued e

pub no_places : (queued : List (ℕ × ℕ)) → length queued ≡ 0 → places_of queued ≡ []
no_places [] e = refl
no_places (first ∷ rest) e = absurd (omega (arith, e))

-- the packets of a queue are those at its places
pub packets_queued : (u : Used) (queued : List (ℕ × ℕ))
    → map (λ (entry : ℕ × ℕ). packet_at u entry.0) queued ≡ packets_at u (places_of queued)
packets_queued u [] = refl
packets_queued u (first ∷ rest) = ap (λ (packets : List PacketState). packet_at u first.0 ∷ packets) (packets_queued u rest)
