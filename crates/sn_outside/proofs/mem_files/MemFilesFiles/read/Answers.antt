-- What was appended is what the files have at the name.
use Rattle.std.proofs.Common.{ap, sym, ◌∙◌, Some, inl, refl, map as each}
use Rattle.std.specs.FinMap.{get}
use Rattle.sn_outside.proofs.Calls.{noted, fails_through}
use Rattle.sn_outside.proofs.Entries.{appended}
use Rattle.sn_outside.specs.Contents.{contents_of}
use Rattle.sn_outside.proofs.mem_files.MemFilesFiles.read.Goals as goal

pub returns-then-fails-clause-fails : goal.returns-then-fails-clause-fails
returns-then-fails-clause-fails c =
    inl (fails_through _ _ _ _ (c.deref.ensures.value ∙ ap (λ m. m.failing) c.self.view_is) (c.deref-2.ensures.value ∙ ap (λ m. m.state.calls) c.self.view_is) (c.if-fails.ensures.0 refl))

pub returns-clause-found : goal.returns-clause-found
returns-clause-found c _ =
    sym (c.in-Some.ensures
    ∙ ap (λ fs. get (contents_of (each (λ f. (f.0, f.1.items)) fs)) c.args.name.now) c.deref-3.ensures.value
    ∙ ap (λ m. get m.state.contents c.args.name.now) c.self.view_is)
    ∙ ap Some (appended _ _ _ c.in_ok-extend_from_slice.ensures.items)

pub returns-clause-told : goal.returns-clause-told
returns-clause-told c _ = record {
  kept = ap (λ m. m.state.contents) c.self.view_is;
  long = λ e. cc;
  call = noted _ _ _ _ _ _ _ c.note-2.ensures (c.in_ok-reserve.ensures.items ∙ ap (λ m. m.state.calls) c.self.view_is) c.in_ok-asked.ensures;
}
