-- What an app has in hand while it works, or keeps: a list of places, and what a part of its call does with them.
use Rattle.std.specs.Prelude.{ℕ, Bool, true, List, map, Result}
use Rattle.sn_journal.specs.HandOvers.{PacketName}
use Rattle.sn_packet.specs.Hold.{among}
use Rattle.sn_packet.specs.Packet.{PacketState}
use Rattle.sn_app.specs.Answers.{Stays}
use Rattle.sn_app.specs.Desk.{Tray, name_of}
use Rattle.sn_app.specs.Ports.{KeepsRows, SamePorts, slots_of}
use Rattle.sn_app.specs.Reader.{Meaning, pure, on_each}
use Rattle.sn_app.specs.Rows.{◌>>◌, frees}
use Rattle.sn_app.specs.Runs.{Continues, Runs}
use Rattle.sn_app.specs.World.{IsSound, Used, World, packet_at, world}
use Rattle.sn_app.specs.declared.halt.Halt.{Halt}
use Rattle.sn_app.specs.declared.ports.Ports.{Ports}

-- names of packets
abbrev pub Names : Type 0
Names = List PacketName

-- the packets at these places, and their names
abbrev pub packets_at : Used → List ℕ → List PacketState
packets_at used places = map (λ place. packet_at used place) places

abbrev pub names_at : Used → List ℕ → Names
names_at used places = map (λ place. name_of (packet_at used place)) places

-- these packets become free, the first one first
unfoldable pub frees_each : List PacketState → Meaning Bool
frees_each packets = on_each packets (λ packet. frees (name_of packet) >> pure true)

-- A part of an app's call ran this meaning. The places that were in hand before it became those that are after it.
pub record DidWith {R : Type 0} (before after : List ℕ) (m : Meaning R) (t s : Tray) (u v : Used) (from to : Ports)
    (result : Result R Halt) : Type 0 where
  pub runs : Runs m (world t u (slots_of from)) (world s v (slots_of to)) (among before) (among after) result
  pub same : SamePorts from to
  pub rows : KeepsRows (slots_of from) (slots_of to)

-- What never changes stayed, the world is sound with the places in hand, and however what is left runs, the whole runs from
-- the start.
pub record Leads {R : Type 0} (left whole : Meaning R) (start now : World) (before mine : ℕ → ℕ) : Type 0 where
  pub stays : Stays start.tray now.tray
  pub sound : IsSound now mine
  pub continues : Continues left whole start now before mine
