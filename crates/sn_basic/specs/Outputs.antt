-- What a handler does at an output stays, while the ports and the links' rows do.
use Rattle.std.specs.Prelude.{ℕ, ◌<◌, ◌≡◌, length}
use Rattle.std.proofs.Common.{ap}
use Rattle.sn_app.specs.Ports.{KeepsRows, SamePorts, out_row, outs_of, slots_of}
use Rattle.sn_app.specs.declared.ports.Ports.{Ports}
use Rattle.sn_app.proofs.Looping.{out_row_kept, out_within}

pub outputs_stay : {A : Type 0} (f : ℕ → A) (from to : Ports) (o : ℕ) → SamePorts from to
    → KeepsRows (slots_of from) (slots_of to)
    → f (out_row to o) ≡ f (out_row from o)
outputs_stay f from to o same rows = ap f (out_row_kept same rows o)

pub within_later : (from to : Ports) (o : ℕ) → SamePorts from to → o < length (outs_of from) → o < length (outs_of to)
within_later from to o same within = out_within same o within
