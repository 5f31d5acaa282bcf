use Rattle.std.proofs.Common.{sym}
use Rattle.sn_app.proofs.Claiming.{took_reads}
use Rattle.sn_app.proofs.BenchFields.{state_of}
use Rattle.sn_app.proofs.bench.Bench.take_last.Goals as goal

pub returns-clause-reads : goal.returns-clause-reads
returns-clause-reads c =
    let b = c.self.inside in
    rw (sym c.self.view_is)
    (took_reads (state_of b)
    c.take_free.new.self c.take_free.result c.take_free.ensures.none c.take_free.ensures.frees c.take_free.ensures.used)
