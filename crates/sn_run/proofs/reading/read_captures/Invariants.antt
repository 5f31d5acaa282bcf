use Rattle.std.proofs.Common.{◌≡◌, ◌≤◌, length}
use Rattle.sn_run.proofs.ScriptSteps.{LeadsOn}
use Rattle.sn_run.proofs.reading.read_captures.Given as goal

-- what follows on what is left follows on all
abbrev pub invariant-loop-name : goal.invariant-loop-name
invariant-loop-name g l = record {
  room : l.room ≤ 67108864;
  count : length l.captures.items ≡ l.name-index;
  leads : LeadsOn g.F.Files.tells (g.F.Files.state l.fn.files)
      (g.F.Files.state l.files) l.names l.name-index l.room l.captures.items;
}
