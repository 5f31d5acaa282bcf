-- What the two apps of a worker need of their context.
use Rattle.sn_core.specs.declared.events.Side.TheVariants.{Rx, Tx}
use Rattle.sn_app.specs.Desk.{Tray}
use Rattle.sn_basic.specs.Counts.{HasRow}
use Rattle.sn_basic.specs.declared.sink.Sink.{Sink}
use Rattle.sn_basic.specs.declared.source.Source.{Source}
use Rattle.sn_edge.specs.Needs.{HasEnd}
use Rattle.sn_edge.specs.declared.receiver.Receiver.{Receiver}
use Rattle.sn_edge.specs.declared.transmitter.Transmitter.{Transmitter}

-- a source and a transmitter can run
pub record CanSend (source : Source) (transmitter : Transmitter) (t : Tray) : Type 0 where
  pub makes : HasRow source.row t
  pub puts : HasEnd transmitter.row transmitter.lane Tx t

-- a receiver and a sink can run
pub record CanReceive (receiver : Receiver) (sink : Sink) (t : Tray) : Type 0 where
  pub takes : HasEnd receiver.row receiver.lane Rx t
  pub frees : HasRow sink.row t
