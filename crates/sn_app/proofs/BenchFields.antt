-- What contracts see of a bench's fields.
use Rattle.sn_app.specs.Bench.{BenchState, bench_of}
use Rattle.sn_app.specs.declared.bench.Bench.TheInside.{Inside}

abbrev pub state_of : Inside → BenchState
state_of b = bench_of b.hold b.tape b.lanes.items b.counters b.files.items b.roster b.captures.items b.bare
