use Rattle.sn_kind.proofs.kind.AppKind.reconfig.Goals as goal

pub returns-in-Source-clause-runs : goal.returns-in-Source-clause-runs
returns-in-Source-clause-runs g c = rw c.in-Source.is c.reconfig.ensures.runs

pub returns-in-Sink-clause-runs : goal.returns-in-Sink-clause-runs
returns-in-Sink-clause-runs g c = rw c.in-Sink.is c.reconfig-in-Sink.ensures.runs

pub returns-in-Tee-clause-runs : goal.returns-in-Tee-clause-runs
returns-in-Tee-clause-runs g c = rw c.in-Tee.is c.reconfig-in-Tee.ensures.runs

pub returns-in-Join-clause-runs : goal.returns-in-Join-clause-runs
returns-in-Join-clause-runs g c = rw c.in-Join.is c.reconfig-in-Join.ensures.runs

pub returns-in-Split-clause-runs : goal.returns-in-Split-clause-runs
returns-in-Split-clause-runs g c = rw c.in-Split.is c.reconfig-in-Split.ensures.runs

pub returns-in-Repeater-clause-runs : goal.returns-in-Repeater-clause-runs
returns-in-Repeater-clause-runs g c = rw c.in-Repeater.is c.reconfig-in-Repeater.ensures.runs

pub returns-in-Truncate-clause-runs : goal.returns-in-Truncate-clause-runs
returns-in-Truncate-clause-runs g c = rw c.in-Truncate.is c.reconfig-in-Truncate.ensures.runs

pub returns-in-Sample-clause-runs : goal.returns-in-Sample-clause-runs
returns-in-Sample-clause-runs g c = rw c.in-Sample.is c.reconfig-in-Sample.ensures.runs

pub returns-in-ByteFilter-clause-runs : goal.returns-in-ByteFilter-clause-runs
returns-in-ByteFilter-clause-runs g c = rw c.in-ByteFilter.is c.reconfig-in-ByteFilter.ensures.runs

pub returns-in-PcapReader-clause-runs : goal.returns-in-PcapReader-clause-runs
returns-in-PcapReader-clause-runs g c = rw c.in-PcapReader.is c.reconfig-in-PcapReader.ensures.runs

pub returns-in-PcapWriter-clause-runs : goal.returns-in-PcapWriter-clause-runs
returns-in-PcapWriter-clause-runs g c = rw c.in-PcapWriter.is c.reconfig-in-PcapWriter.ensures.runs

pub returns-in-Receiver-clause-runs : goal.returns-in-Receiver-clause-runs
returns-in-Receiver-clause-runs g c = rw c.in-Receiver.is c.reconfig-in-Receiver.ensures.runs

pub returns-in-Transmitter-clause-runs : goal.returns-in-Transmitter-clause-runs
returns-in-Transmitter-clause-runs g c = rw c.in-Transmitter.is c.reconfig-in-Transmitter.ensures.runs
