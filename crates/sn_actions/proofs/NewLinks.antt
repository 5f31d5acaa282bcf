-- The links of the new configuration, one after another.
use Rattle.std.proofs.Common.{Bool, List, [], ap, cond, false, is_some, not, refl, subst, sym, true, ℕ, ◌&&◌, ◌∙◌, ◌∷◌, ◌≡◌, ◌||◌}
use Rattle.std.specs.Prelude.{flat_map}
use Rattle.sn_actions.proofs.PlainAnswers.{Holds, Look, either_right, is_this, this_is, this_self}
use Rattle.sn_actions.proofs.Uniqueness.{LinksOnce, links_apart}
use Rattle.sn_actions.proofs.AppliedActions.{Taken, behind, link_input, link_output, new_link, nothing, taken_agree}
use Rattle.sn_actions.specs.Diffs.{linking, relinking}
use Rattle.sn_actions.specs.PlainForms.{PlainForm}
use Rattle.sn_actions.specs.Plains.{in_port, out_port}
use Rattle.sn_actions.specs.declared.action.Action.{Action}
use Rattle.sn_actions.specs.declared.action.Action.TheVariants.{LinkInput, LinkOutput, NewLink}
use Rattle.sn_config.specs.Configs.{has_link}
use Rattle.sn_names.specs.declared.link.LinkSpec.{LinkSpec}

-- the look with one link more, at both its ports
abbrev pub plus : Look → LinkSpec → Look
plus s l = record { apps = s.apps; links = λ m. is_this m l || s.links m; outs = λ m. is_this m l || s.outs m; ins = λ m. is_this m l || s.ins m }

-- the look with the links of a list
abbrev pub plus_all : Look → List LinkSpec → Look
plus_all s links = record { apps = s.apps; links = λ m. has_link links m || s.links m; outs = λ m. has_link links m || s.outs m; ins = λ m. has_link links m || s.ins m }

already : (b there : Bool) → (b ≡ true → there ≡ true) → there ≡ (b || there)
already true there h = h refl
already false there h = refl

or_move : (a b c : Bool) → (a || (b || c)) ≡ ((b || a) || c)
or_move true true c = refl
or_move true false c = refl
or_move false true c = refl
or_move false false c = refl

this_there : (there : LinkSpec → Bool) (l m : LinkSpec) → there l ≡ true → is_this m l ≡ true → there m ≡ true
this_there there l m t e = subst (λ x. there x ≡ true) (sym (this_is m l e)) t

module _ (all : List LinkSpec) (had : LinkSpec → Bool) (started : List ℕ → Bool)
    (out_once : (a b : LinkSpec) → has_link all a ≡ true → has_link all b ≡ true → out_port a ≡ out_port b → a ≡ b)
    (in_once : (a b : LinkSpec) → has_link all a ≡ true → has_link all b ≡ true → in_port a ≡ in_port b → a ≡ b) where
  abbrev pub link_actions : LinkSpec → List Action
  link_actions l = cond (had l) (relinking (started l.from) (started l.to) l) (linking l)

  -- the links of a list are as they were left, with their apps, and what is at a port is of the whole list
  pub record AsLeft (s : Look) (links : List LinkSpec) : Type 0 where
    pub part : (m : LinkSpec) → has_link links m ≡ true → has_link all m ≡ true
    pub there : (m : LinkSpec) → has_link links m ≡ true → s.links m ≡ had m
    pub outs : (m : LinkSpec) → has_link links m ≡ true → s.outs m ≡ (had m && not (started m.from))
    pub ins : (m : LinkSpec) → has_link links m ≡ true → s.ins m ≡ (had m && not (started m.to))
    pub from : (m : LinkSpec) → has_link links m ≡ true → is_some (s.apps m.from) ≡ true
    pub to : (m : LinkSpec) → has_link links m ≡ true → is_some (s.apps m.to) ≡ true
    pub outs_of : (m : LinkSpec) → s.outs m ≡ true → has_link all m ≡ true
    pub ins_of : (m : LinkSpec) → s.ins m ≡ true → has_link all m ≡ true

  module _ (l : LinkSpec) (in_all : has_link all l ≡ true) where
    out_free : (there : LinkSpec → Bool) → ((m : LinkSpec) → there m ≡ true → has_link all m ≡ true) → there l ≡ false → (m : LinkSpec) → there m ≡ true → out_port m ≡ out_port l → ⊥
    out_free there of n m t e = let y : there l ≡ true = subst (λ x. there x ≡ true) (out_once m l (of m t) in_all e) t in cc

    in_free : (there : LinkSpec → Bool) → ((m : LinkSpec) → there m ≡ true → has_link all m ≡ true) → there l ≡ false → (m : LinkSpec) → there m ≡ true → in_port m ≡ in_port l → ⊥
    in_free there of n m t e = let y : there l ≡ true = subst (λ x. there x ≡ true) (in_once m l (of m t) in_all e) t in cc

    -- a link that stays comes back to its output port, where its app was started
    half_out : (f : Bool) (p : PlainForm) (s : Look) → Holds p s → s.links l ≡ true → s.outs l ≡ not f → is_some (s.apps l.from) ≡ true → ((m : LinkSpec) → s.outs m ≡ true → has_link all m ≡ true) → Taken (cond f (LinkOutput l ∷ []) []) p (record s { outs = λ m. is_this m l || s.outs m })
    half_out true p s h t u a of = link_output p s l h t a (out_free s.outs of u)
    half_out false p s h t u a of = taken_agree [] p s _ (record { apps = λ n. refl; links = λ m. refl; outs = λ m. already (is_this m l) (s.outs m) (this_there s.outs l m u); ins = λ m. refl }) (nothing p s h)

    half_in : (f : Bool) (p : PlainForm) (s : Look) → Holds p s → s.links l ≡ true → s.ins l ≡ not f → is_some (s.apps l.to) ≡ true → ((m : LinkSpec) → s.ins m ≡ true → has_link all m ≡ true) → Taken (cond f (LinkInput l ∷ []) []) p (record s { ins = λ m. is_this m l || s.ins m })
    half_in true p s h t u a of = link_input p s l h t a (in_free s.ins of u)
    half_in false p s h t u a of = taken_agree [] p s _ (record { apps = λ n. refl; links = λ m. refl; outs = λ m. refl; ins = λ m. already (is_this m l) (s.ins m) (this_there s.ins l m u) }) (nothing p s h)

    module _ (p : PlainForm) (s : Look) (h : Holds p s) (from : is_some (s.apps l.from) ≡ true) (to : is_some (s.apps l.to) ≡ true) (outs_of : (m : LinkSpec) → s.outs m ≡ true → has_link all m ≡ true) (ins_of : (m : LinkSpec) → s.ins m ≡ true → has_link all m ≡ true) where
      comes_new : s.links l ≡ false → s.outs l ≡ false → s.ins l ≡ false → Taken (linking l) p (plus s l)
      comes_new t u v =
          let s1 : Look = record s { links = λ m. is_this m l || s.links m } in
          let s2 : Look = record s1 { outs = λ m. is_this m l || s.outs m } in
          let yes : (is_this l l || s.links l) ≡ true = ap (λ b. b || s.links l) (this_self l) in
          behind (NewLink l ∷ []) (LinkOutput l ∷ LinkInput l ∷ []) p s1 (plus s l) (new_link p s l h t) (λ q k.
          behind (LinkOutput l ∷ []) (LinkInput l ∷ []) q s2 (plus s l) (link_output q s1 l k yes from (out_free s.outs outs_of u)) (λ r j.
          link_input r s2 l j yes to (in_free s.ins ins_of v)))

      comes_back : (f g : Bool) → s.links l ≡ true → s.outs l ≡ not f → s.ins l ≡ not g → Taken (relinking f g l) p (plus s l)
      comes_back f g t u v =
          let s1 : Look = record s { outs = λ m. is_this m l || s.outs m } in
          let s2 : Look = record s1 { ins = λ m. is_this m l || s.ins m } in
          taken_agree (relinking f g l) p s2 (plus s l)
          (record { apps = λ n. refl; links = λ m. already (is_this m l) (s.links m) (this_there s.links l m t); outs = λ m. refl; ins = λ m. refl })
          (behind (cond f (LinkOutput l ∷ []) []) (cond g (LinkInput l ∷ []) []) p s1 s2 (half_out f p s h t u from outs_of) (λ q k. half_in g q s1 k t v to ins_of))

      one_link : (b : Bool) → had l ≡ b → s.links l ≡ had l → s.outs l ≡ (had l && not (started l.from)) → s.ins l ≡ (had l && not (started l.to)) → Taken (cond b (relinking (started l.from) (started l.to) l) (linking l)) p (plus s l)
      one_link true e t u v = comes_back (started l.from) (started l.to) (t ∙ e) (u ∙ ap (λ b. b && not (started l.from)) e) (v ∙ ap (λ b. b && not (started l.to)) e)
      one_link false e t u v = comes_new (t ∙ e) (u ∙ ap (λ b. b && not (started l.from)) e) (v ∙ ap (λ b. b && not (started l.to)) e)

  either_of : (there : LinkSpec → Bool) (l m : LinkSpec) (b : Bool) → is_this m l ≡ b → has_link all l ≡ true → ((x : LinkSpec) → there x ≡ true → has_link all x ≡ true) → (b || there m) ≡ true → has_link all m ≡ true
  either_of there l m true e a f t = this_there (has_link all) l m a e
  either_of there l m false e a f t = f m t

  left_after : (s : Look) (l : LinkSpec) (links : List LinkSpec) → has_link links l ≡ false → AsLeft s (l ∷ links) → AsLeft (plus s l) links
  left_after s l links once b =
      let in_list : has_link (l ∷ links) l ≡ true = ap (λ t. t || has_link links l) (this_self l) in
      let later : (m : LinkSpec) → has_link links m ≡ true → has_link (l ∷ links) m ≡ true = λ m t. either_right (is_this m l) (has_link links m) t in
      let apart : (m : LinkSpec) → has_link links m ≡ true → is_this m l ≡ false = λ m t. links_apart links l m (is_this m l) refl once t in
      record {
        part = λ m t. b.part m (later m t);
        there = λ m t. ap (λ c. c || s.links m) (apart m t) ∙ b.there m (later m t);
        outs = λ m t. ap (λ c. c || s.outs m) (apart m t) ∙ b.outs m (later m t);
        ins = λ m t. ap (λ c. c || s.ins m) (apart m t) ∙ b.ins m (later m t);
        from = λ m t. b.from m (later m t);
        to = λ m t. b.to m (later m t);
        outs_of = λ m t. either_of s.outs l m (is_this m l) refl (b.part l in_list) b.outs_of t;
        ins_of = λ m t. either_of s.ins l m (is_this m l) refl (b.part l in_list) b.ins_of t;
      }

  pub links_come : (links : List LinkSpec) (p : PlainForm) (s : Look) → LinksOnce links → Holds p s → AsLeft s links → Taken (flat_map link_actions links) p (plus_all s links)
  links_come [] p s o h b = nothing p s h
  links_come (l ∷ links) p s o h b =
      let in_list : has_link (l ∷ links) l ≡ true = ap (λ t. t || has_link links l) (this_self l) in
      behind (link_actions l) (flat_map link_actions links) p (plus s l) (plus_all s (l ∷ links))
      (one_link l (b.part l in_list) p s h (b.from l in_list) (b.to l in_list) b.outs_of b.ins_of (had l) refl (b.there l in_list) (b.outs l in_list) (b.ins l in_list))
      (λ q k. taken_agree (flat_map link_actions links) q (plus_all (plus s l) links) (plus_all s (l ∷ links))
      (record { apps = λ n. refl; links = λ m. or_move (has_link links m) (is_this m l) (s.links m); outs = λ m. or_move (has_link links m) (is_this m l) (s.outs m); ins = λ m. or_move (has_link links m) (is_this m l) (s.ins m) })
      (links_come links q (plus s l) o.1 k (left_after s l links o.0 b)))
