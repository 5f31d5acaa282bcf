-- The counts of apps and links, by their rows. Each count stops at its greatest value.
use Rattle.std.specs.Prelude.{ℕ, List, slice_index_or, slice_set}
use Rattle.sn_link.specs.Counts.{raised, no_counts}
use Rattle.sn_link.specs.declared.counts.LinkCounts.{LinkCounts}
use Rattle.sn_app.specs.declared.counters.AppCounts.{AppCounts}
use Rattle.sn_app.specs.declared.counters.Counter.{Counter}
use Rattle.sn_app.specs.declared.counters.Counter.TheVariants.{Packets, Dropped, Oversize, Dry}

-- the counts of the apps and of the links, each in the order of the rows
pub record CounterRows : Type 0 where
  pub apps : List AppCounts
  pub links : List LinkCounts

-- nothing counted yet
abbrev pub no_app_counts : AppCounts
no_app_counts = record { packets = 0; dropped = 0; oversize = 0; dry = 0 }

-- one count of an app
abbrev pub count_of : Counter → AppCounts → ℕ
count_of Packets counts = counts.packets
count_of Dropped counts = counts.dropped
count_of Oversize counts = counts.oversize
count_of Dry counts = counts.dry

-- the counts with one of them raised
abbrev pub with_raised : Counter → ℕ → AppCounts → AppCounts
with_raised Packets by counts = record counts { packets = raised by counts.packets }
with_raised Dropped by counts = record counts { dropped = raised by counts.dropped }
with_raised Oversize by counts = record counts { oversize = raised by counts.oversize }
with_raised Dry by counts = record counts { dry = raised by counts.dry }

-- the five counts of a link, raised by those of another
abbrev pub with_added : LinkCounts → LinkCounts → LinkCounts
with_added more counts =
    record {
      rxpackets = raised more.rxpackets counts.rxpackets;
      rxbytes = raised more.rxbytes counts.rxbytes;
      txpackets = raised more.txpackets counts.txpackets;
      txbytes = raised more.txbytes counts.txbytes;
      txdrop = raised more.txdrop counts.txdrop;
    }

-- the counts of one app, and of one link
abbrev pub app_counts : ℕ → CounterRows → AppCounts
app_counts row rows = slice_index_or rows.apps row no_app_counts

abbrev pub link_counts : ℕ → CounterRows → LinkCounts
link_counts row rows = slice_index_or rows.links row no_counts

-- the rows after a count of one app was raised
abbrev pub rows_raised : ℕ → Counter → ℕ → CounterRows → CounterRows
rows_raised row counter by rows =
    record rows { apps = slice_set rows.apps row (with_raised counter by (app_counts row rows)) }

-- the rows after counts were added to those of one link
abbrev pub rows_kept : ℕ → LinkCounts → CounterRows → CounterRows
rows_kept row counts rows =
    record rows { links = slice_set rows.links row (with_added counts (link_counts row rows)) }
