use Rattle.std.proofs.Common.{ap, map, subst, ◌∙◌, ◌++◌, ◌∷◌, []}
use Rattle.std.proofs.lemmas.List.{map_push}
use Rattle.sn_seat.specs.Tellings.{TellsAll}
use Rattle.sn_seat.specs.Trays.{no_captures}
use Rattle.sn_sharing.specs.Columns.{entries_in}
use Rattle.sn_sharing.specs.LeftEnds.{lists}
use Rattle.sn_sharing.proofs.apart.add_seat.Goals as goal

pub returns : goal.returns
returns c =
    let a = c.args.apart.now in
    let p = c.into_parts-journal in
    record {
      journals =
          ap (map entries_in) c.in_ok-push.ensures.items
          ∙ (map_push entries_in a.journals.items p.result.journal
          ∙ ap (λ e. map entries_in a.journals.items ++ e ∷ []) (p.ensures.entries no_captures));
      counters = c.in_ok-push-2.ensures.items ∙ ap (λ e. a.counters.items ++ e ∷ []) (p.ensures.counters no_captures);
      files =
          ap lists c.in_ok-push-3.ensures.items
          ∙ (map_push (λ v. v.items) a.files.items p.result.files
          ∙ ap (λ e. lists a.files.items ++ e ∷ []) (p.ensures.files no_captures));
      holds = c.in_ok-push-4.ensures.items ∙ ap (λ e. a.holds.items ++ e ∷ []) p.ensures.hold;
      ends =
          ap lists c.in_ok-push-5.ensures.items
          ∙ (map_push (λ v. v.items) a.ends.items p.result.ends ∙ ap (λ e. lists a.ends.items ++ e ∷ []) p.ensures.ends);
      groups = c.in_ok-push-6.ensures.items ∙ ap (λ e. a.groups.items ++ e ∷ []) p.ensures.group;
      told = subst (λ es. TellsAll es c.args.seat) (p.ensures.entries no_captures) p.ensures.told;
    }
