use Rattle.std.proofs.Common.{◌≡◌, drop, map as each}
use Rattle.std.specs.FinMap.{get}
use Rattle.sn_outside.specs.Contents.{contents_of}
use Rattle.sn_outside.proofs.mem_files.look_up.Given as goal

-- the name stands in the files that are left, or nowhere
abbrev pub invariant-loop-held : goal.invariant-loop-held
invariant-loop-held l =
    get (contents_of (each (λ f. (f.0, f.1.items)) (drop l.held-index l.files))) l.name ≡ get (contents_of (each (λ f. (f.0, f.1.items)) l.files)) l.name
