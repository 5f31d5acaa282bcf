-- The file that is put in front is the one written.
use Rattle.std.proofs.Common.{ap, ◌∙◌, refl, map as each}
use Rattle.std.specs.FinMap.{get}
use Rattle.sn_outside.specs.Contents.{contents_of}
use Rattle.sn_outside.proofs.Calls.{noted, fails_through}
use Rattle.sn_outside.proofs.Entries.{get_other, put_front}
use Rattle.sn_outside.proofs.mem_files.MemFilesFiles.write.Goals as goal

pub returns-then-fails-clause-fails : goal.returns-then-fails-clause-fails
returns-then-fails-clause-fails c =
    fails_through _ _ _ _ (c.deref.ensures.value ∙ ap (λ m. m.failing) c.self.view_is) (c.deref-2.ensures.value ∙ ap (λ m. m.state.calls) c.self.view_is) (c.if-fails.ensures.0 refl)

pub returns-clause-told : goal.returns-clause-told
returns-clause-told c _ =
    let written = put_front (λ f. (f.0, f.1.items)) _ _ _ _ _ _ c.keep.ensures
    (ap (λ fs. contents_of (each (λ f. (f.0, f.1.items)) fs)) c.in_ok-reserve-2.ensures.items ∙ ap (λ m. m.state.contents) c.self.view_is)
    c.in_ok-held.ensures c.in_ok-content.ensures.items in
    record {
      written = written;
      others = λ other differs. ap (λ m. get m other) written ∙ get_other _ _ _ other differs;
      kept = λ e. cc;
      call = noted _ _ _ _ _ _ _ c.note-2.ensures (c.in_ok-reserve.ensures.items ∙ ap (λ m. m.state.calls) c.self.view_is) c.in_ok-asked.ensures;
    }
