-- What is wrong with bytes that are no capture: the first of four faults.
use Rattle.std.specs.Prelude.{◌≡◌, ℕ, ◌+◌, ◌<◌, ◌≤◌, List, [], length, take, drop}
use Rattle.sn_pcap.specs.declared.fault.PcapFault.{PcapFault}
use Rattle.sn_pcap.specs.declared.fault.PcapFault.TheVariants.{ShortHeader, BadMagic, BadVersion, CutRecord}
use Rattle.sn_pcap.specs.declared.order.Order.{Order}
use Rattle.sn_pcap.specs.Grammar.{IsMagic, version, HasHeader, SplitsOff, Leads}

-- The record of this number, counted from 1, is the first that isn't whole: the ones before it are, and behind them
-- something stands that begins with no whole record.
pub record IsCutIn (order : Order) (bytes : List ℕ) (nth : ℕ) : Type 0 where
  pub whole : List (List ℕ)
  pub rest : List ℕ
  pub leads : Leads order bytes whole rest
  pub counted : nth ≡ length whole + 1
  pub some_left : rest ≡ [] → ⊥
  pub cut : (payload more : List ℕ) → SplitsOff order rest payload more → ⊥

-- the bytes have this fault, and none of those before it
abbrev pub HasFault : List ℕ → PcapFault → Type 0
HasFault bytes ShortHeader = length bytes < 24
HasFault bytes BadMagic = (24 ≤ length bytes) × ((order : Order) → IsMagic order (take 4 bytes) → ⊥)
HasFault bytes BadVersion =
    (24 ≤ length bytes) × ((order : Order) × IsMagic order (take 4 bytes) × (take 4 (drop 4 bytes) ≡ version order → ⊥))
HasFault bytes (CutRecord nth) =
    (order : Order) × (body : List ℕ) × HasHeader order bytes body × IsCutIn order body nth
