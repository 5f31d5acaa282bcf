-- The five counts of a link, each of which stops at its greatest value.
use Rattle.std.specs.Prelude.{ℕ, ◌+◌, ◌-◌, ◌^◌, min}
use Rattle.sn_link.specs.declared.counts.LinkCounts.{LinkCounts}

-- a count raised by so many
abbrev pub raised : ℕ → ℕ → ℕ
raised by count = min (count + by) (2 ^ 64 - 1)

-- no packet yet
abbrev pub no_counts : LinkCounts
no_counts = record { rxpackets = 0; rxbytes = 0; txpackets = 0; txbytes = 0; txdrop = 0 }

-- one packet of this length more was sent, dropped at sending, or received
abbrev pub with_sent : ℕ → LinkCounts → LinkCounts
with_sent len counts = record counts { txpackets = raised 1 counts.txpackets; txbytes = raised len counts.txbytes }

abbrev pub with_dropped : LinkCounts → LinkCounts
with_dropped counts = record counts { txdrop = raised 1 counts.txdrop }

abbrev pub with_received : ℕ → LinkCounts → LinkCounts
with_received len counts = record counts { rxpackets = raised 1 counts.rxpackets; rxbytes = raised len counts.rxbytes }
