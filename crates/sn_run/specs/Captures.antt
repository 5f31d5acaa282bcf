-- Bytes that are a capture.
use Rattle.std.specs.Prelude.{ℕ, List}
use Rattle.sn_pcap.specs.Grammar.{PcapText}

-- the text of some records
pub record IsCapture (bytes : List ℕ) : Type 0 where
  pub records : List (List ℕ)
  pub text : PcapText bytes records
