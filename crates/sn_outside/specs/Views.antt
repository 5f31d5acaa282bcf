-- What contracts see of the outside.
use Rattle.std.specs.Prelude.{ℕ, List}
use Rattle.sn_outside.specs.Contents.{Contents}
use Rattle.sn_outside.specs.declared.files.FileCall.{FileCall}

-- what is seen of files: their contents by name, the calls made so far, the oldest first, and how many calls failed
pub record FilesView : Type 0 where
  pub contents : Contents
  pub calls : List FileCall
  pub faults : ℕ

-- what is seen of a sink: the bytes that it took so far, and how many calls failed
pub record SinkView : Type 0 where
  pub taken : List ℕ
  pub faults : ℕ
