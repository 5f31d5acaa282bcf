use Rattle.std.proofs.Common.{◌≡◌, ◌≤◌, None, replicate, vec_capacity, vec_len}
use Rattle.sn_app.proofs.outputs.no_files.Given as goal

abbrev pub invariant-loop-file : goal.invariant-loop-file
invariant-loop-file l = record {
  items : l.files.items ≡ replicate l._file None;
  len : vec_len l.files ≡ l._file;
  room : l.count ≤ vec_capacity l.files;
}
