-- answers of src/names.rt, edges_of
use Rattle.std.proofs.Common.{[], Global, Vec, List, ap, append_assoc, arith, drop, length, subst, suc, sym, ◌+◌, ◌++◌, ◌∙◌, ◌∷◌, ◌≡◌}
use Rattle.std.proofs.Math.Seq.{drop-cons}
use Rattle.std.proofs.lemmas.List.Elements.{All-append, All-cons, All-nil}
use Rattle.std.specs.List.{cons_option, filter_map}
use Rattle.sn_order.proofs.names.edges_of.Goals.{in-Some+in_ok-push, in_default}
use Rattle.sn_order.proofs.names.edges_of.Goals as goal
use Rattle.sn_order.specs.Ranks.{AreWithin, Edge, IsWithin, edge_of}

pub loop-link-preserved : goal.loop-link-preserved
loop-link-preserved c =
    let names = c.args.names.now in
    let links = c.args.links.now in
    let i = c.loop-link.link-index in
    let link = c.link-item.result in
    let rest : List Edge = filter_map (edge_of names) (drop (i + 1) links) in
    let first : filter_map (edge_of names) (drop i links) ≡ cons_option (edge_of names link) rest =
    ap (filter_map (edge_of names)) (drop-cons links i link c.loop-link-test.true
    ∙ ap (λ x. x ∷ drop (suc i) links) (sym c.link-item.is)
    ∙ ap (λ j. link ∷ drop j links) (let e : suc i ≡ i + 1 = omega arith in e)) in
    elim c.match-edge_of.branch [
      | in-Some+in_ok-push w ↦ record {
        edges = ap (λ (v : Vec Edge Global). v.items ++ rest) w.edges-is ∙ ap (λ xs. xs ++ rest) w.in_ok-push.ensures.items
            ∙ append_assoc c.loop-link.edges.items (w.in-Some.edge ∷ []) rest
            ∙ ap (λ o. c.loop-link.edges.items ++ cons_option o rest) (sym w.in-Some.is ∙ c.edge_of.ensures.edge)
            ∙ ap (λ xs. c.loop-link.edges.items ++ xs) (sym first) ∙ c.loop-link.invariant.edges;
        within = subst (AreWithin (length names)) (sym (ap (λ (v : Vec Edge Global). v.items) w.edges-is ∙ w.in_ok-push.ensures.items))
            (All-append (IsWithin (length names)) c.loop-link.edges.items (w.in-Some.edge ∷ []) c.loop-link.invariant.within
            (All-cons (IsWithin (length names)) w.in-Some.edge [] w.in-Some.ensures.within (All-nil (IsWithin (length names)))));
      }
      | in_default w ↦ record {
        edges = ap (λ (v : Vec Edge Global). v.items ++ rest) w.edges-is
            ∙ ap (λ o. c.loop-link.edges.items ++ cons_option o rest) (sym w.in_default.is ∙ c.edge_of.ensures.edge)
            ∙ ap (λ xs. c.loop-link.edges.items ++ xs) (sym first) ∙ c.loop-link.invariant.edges;
        within = subst (AreWithin (length names)) (sym (ap (λ (v : Vec Edge Global). v.items) w.edges-is)) c.loop-link.invariant.within;
      }
    ]
