use Rattle.std.proofs.Common.{◌≡◌, ◌-◌, ◌≤◌, ◌++◌, true, length, take}
use Rattle.sn_run.proofs.printing.print_text.Given as goal

-- the front of the text was taken
abbrev pub invariant-loop-at : goal.invariant-loop-at
invariant-loop-at g l =
    let sink = g.O.Sink in
    record {
      within : l.at ≤ length l.text;
      still : (sink.state l.out).faults ≡ (sink.state l.fn.out).faults;
      taken : sink.tells ≡ true → (sink.state l.out).taken ≡ (sink.state l.fn.out).taken ++ take l.at l.text;
    }

-- what is left of it
abbrev pub decreases-loop-at : goal.decreases-loop-at
decreases-loop-at g l = length l.text - l.at
