-- Each action is taken where its checks pass, and what the plain form answers then.
use Rattle.std.specs.FinMap as finmap
use Rattle.std.specs.FinSet as finset
use Rattle.std.proofs.Common.{Bool, Err, List, None, Ok, Result, Some, [], ap, cond, false, is_some, not, refl, sym, true, ℕ, ◌&&◌, ◌++◌, ◌∙◌, ◌∷◌, ◌≡◌, ◌||◌}
use Rattle.sn_actions.proofs.PlainAnswers.{Holds, Look, PortsHold, at_its_port, is_named, at_no_port, is_this, port_free, ports_added, ports_dropped, ports_removed, this_self}
use Rattle.sn_actions.specs.Diffs.{unlinking}
use Rattle.sn_actions.specs.PlainForms.{PlainForm}
use Rattle.sn_actions.specs.Plains.{apply, apply_all, in_port, is_at_some, out_port, reconfigured, without_app}
use Rattle.sn_actions.specs.Same.{same_class}
use Rattle.sn_actions.specs.declared.action.Action.{Action}
use Rattle.sn_actions.specs.declared.action.Action.TheVariants.{FreeLink, LinkInput, LinkOutput, NewLink, ReconfigApp, StartApp, StopApp, UnlinkInput, UnlinkOutput}
use Rattle.sn_actions.specs.declared.fault.ActionFault.{ActionFault}
use Rattle.sn_actions.specs.declared.fault.ActionFault.TheVariants.{AppThere, LinkThere, NoApp, NoLink, NotLinked, OtherClass, PortTaken, StillLinked}
use Rattle.sn_config.specs.Configs.{same_name}
use Rattle.sn_config.specs.declared.app_spec.AppSpec.{AppSpec}
use Rattle.sn_names.specs.LinkOrder.{link_cmp_total, name_cmp_total, port_cmp}
use Rattle.sn_names.specs.declared.link.LinkSpec.{LinkSpec}

-- the actions are all taken, and the plain form then answers so
pub record Taken (actions : List Action) (plain : PlainForm) (look : Look) : Type 0 where
  pub after : PlainForm
  pub taken : apply_all actions plain ≡ Ok after
  pub holds : Holds after look

abbrev next : List Action → Result PlainForm ActionFault → Result PlainForm ActionFault
next actions r = elim r [ Ok after ↦ apply_all actions after | Err fault ↦ Err fault ]

one : (a : Action) (p q : PlainForm) (look : Look) → apply a p ≡ Ok q → Holds q look → Taken (a ∷ []) p look
one a p q look e h = record { after = q; taken = ap (next []) e; holds = h }

pub nothing : (p : PlainForm) (look : Look) → Holds p look → Taken [] p look
nothing p look h = record { after = p; taken = refl; holds = h }

append_by : (r : Result PlainForm ActionFault) (xs ys : List Action) (q : PlainForm) → ((x : PlainForm) → apply_all xs x ≡ Ok q → apply_all (xs ++ ys) x ≡ apply_all ys q) → next xs r ≡ Ok q → next (xs ++ ys) r ≡ apply_all ys q
append_by (Ok x) xs ys q more e = more x e
append_by (Err f) xs ys q more e = cc

pub apply_append : (xs ys : List Action) (p q : PlainForm) → apply_all xs p ≡ Ok q → apply_all (xs ++ ys) p ≡ apply_all ys q
apply_append [] ys p q e = let same : p ≡ q = cc in ap (apply_all ys) same
apply_append (a ∷ xs) ys p q e = append_by (apply a p) xs ys q (λ x d. apply_append xs ys x q d) e

-- actions behind actions
pub behind : (xs ys : List Action) (p : PlainForm) (s t : Look) → Taken xs p s → ((q : PlainForm) → Holds q s → Taken ys q t) → Taken (xs ++ ys) p t
behind xs ys p s t first second =
    let rest = second first.after first.holds in
    record { after = rest.after; taken = apply_append xs ys p first.after first.taken ∙ rest.taken; holds = rest.holds }

pub unlink_output : (p : PlainForm) (s : Look) (l : LinkSpec) → Holds p s → s.outs l ≡ true → Taken (UnlinkOutput l ∷ []) p (record s { outs = λ m. not (is_this m l) && s.outs m })
unlink_output p s l h t =
    let q : PlainForm = record p { outs = finmap.remove p.outs (out_port l) } in
    one (UnlinkOutput l) p q _ (ap (λ b. cond b (Ok q) (Err NotLinked)) (at_its_port out_port p.outs s.outs l h.outs t))
    (record { apps = h.apps; links = h.links; outs = ports_removed out_port p.outs s.outs l h.outs t; ins = h.ins })

pub unlink_input : (p : PlainForm) (s : Look) (l : LinkSpec) → Holds p s → s.ins l ≡ true → Taken (UnlinkInput l ∷ []) p (record s { ins = λ m. not (is_this m l) && s.ins m })
unlink_input p s l h t =
    let q : PlainForm = record p { ins = finmap.remove p.ins (in_port l) } in
    one (UnlinkInput l) p q _ (ap (λ b. cond b (Ok q) (Err NotLinked)) (at_its_port in_port p.ins s.ins l h.ins t))
    (record { apps = h.apps; links = h.links; outs = h.outs; ins = ports_removed in_port p.ins s.ins l h.ins t })

pub free_link : (p : PlainForm) (s : Look) (l : LinkSpec) → Holds p s → s.links l ≡ true → s.outs l ≡ false → s.ins l ≡ false → Taken (FreeLink l ∷ []) p (record s { links = λ m. not (is_this m l) && s.links m })
free_link p s l h t u v =
    let q : PlainForm = record p { links = finset.remove p.links l } in
    let held : Bool = is_at_some p.outs l || is_at_some p.ins l in
    let left : held ≡ false = ap (λ b. b || is_at_some p.ins l) (at_no_port out_port p.outs s.outs l h.outs u) ∙ at_no_port in_port p.ins s.ins l h.ins v in
    one (FreeLink l) p q _ (ap (λ b. cond b (cond held (Err StillLinked) (Ok q)) (Err NoLink)) (h.links l ∙ t) ∙ ap (λ b. cond b (Err StillLinked) (Ok q)) left)
    (record { apps = h.apps; links = λ m. finset.contains-remove link_cmp_total p.links l m ∙ ap (λ b. not (is_this m l) && b) (h.links m); outs = h.outs; ins = h.ins })

pub stop_app : (p : PlainForm) (s : Look) (n : List ℕ) → Holds p s → is_some (s.apps n) ≡ true → Taken (StopApp n ∷ []) p (record { apps = λ m. cond (is_named m n) None (s.apps m); links = s.links; outs = λ m. not (same_name m.from n) && s.outs m; ins = λ m. not (same_name m.to n) && s.ins m })
stop_app p s n h t =
    let q : PlainForm = record { apps = finmap.remove p.apps n; links = p.links; outs = without_app p.outs n; ins = without_app p.ins n } in
    one (StopApp n) p q _ (ap (λ b. cond b (Ok q) (Err NoApp)) (ap is_some (h.apps n) ∙ t))
    (record {
      apps = λ m. finmap.get-remove name_cmp_total p.apps n m ∙ ap (cond (is_named m n) None) (h.apps m);
      links = h.links;
      outs = ports_dropped out_port p.outs s.outs n h.outs;
      ins = ports_dropped in_port p.ins s.ins n h.ins;
    })

pub start_app : (p : PlainForm) (s : Look) (n : List ℕ) (spec : AppSpec) → Holds p s → is_some (s.apps n) ≡ false → Taken (StartApp n spec ∷ []) p (record s { apps = λ m. cond (is_named m n) (Some spec) (s.apps m) })
start_app p s n spec h t =
    let q : PlainForm = record p { apps = finmap.insert p.apps n spec } in
    one (StartApp n spec) p q _ (ap (λ b. cond b (Err AppThere) (Ok q)) (ap is_some (h.apps n) ∙ t))
    (record { apps = λ m. finmap.get-insert name_cmp_total p.apps n spec m ∙ ap (cond (is_named m n) (Some spec)) (h.apps m); links = h.links; outs = h.outs; ins = h.ins })

pub reconfig_app : (p : PlainForm) (s : Look) (n : List ℕ) (before spec : AppSpec) → Holds p s → s.apps n ≡ Some before → same_class before.class spec.class ≡ true → Taken (ReconfigApp n spec ∷ []) p (record s { apps = λ m. cond (is_named m n) (Some spec) (s.apps m) })
reconfig_app p s n before spec h e t =
    let q : PlainForm = record p { apps = finmap.insert p.apps n spec } in
    one (ReconfigApp n spec) p q _ (ap (λ o. reconfigured o n spec p) (h.apps n ∙ e) ∙ ap (λ b. cond b (Ok q) (Err OtherClass)) t)
    (record { apps = λ m. finmap.get-insert name_cmp_total p.apps n spec m ∙ ap (cond (is_named m n) (Some spec)) (h.apps m); links = h.links; outs = h.outs; ins = h.ins })

pub new_link : (p : PlainForm) (s : Look) (l : LinkSpec) → Holds p s → s.links l ≡ false → Taken (NewLink l ∷ []) p (record s { links = λ m. is_this m l || s.links m })
new_link p s l h t =
    let q : PlainForm = record p { links = finset.insert p.links l } in
    one (NewLink l) p q _ (ap (λ b. cond b (Err LinkThere) (Ok q)) (h.links l ∙ t))
    (record { apps = h.apps; links = λ m. finset.contains-insert link_cmp_total p.links l m ∙ ap (λ b. is_this m l || b) (h.links m); outs = h.outs; ins = h.ins })

pub link_output : (p : PlainForm) (s : Look) (l : LinkSpec) → Holds p s → s.links l ≡ true → is_some (s.apps l.from) ≡ true → ((m : LinkSpec) → s.outs m ≡ true → out_port m ≡ out_port l → ⊥) → Taken (LinkOutput l ∷ []) p (record s { outs = λ m. is_this m l || s.outs m })
link_output p s l h t u free =
    let q : PlainForm = record p { outs = finmap.insert p.outs (out_port l) l } in
    one (LinkOutput l) p q _
    (ap (λ b. cond b (cond (finmap.contains_key p.apps l.from) (cond (finmap.contains_key p.outs (out_port l)) (Err PortTaken) (Ok q)) (Err NoApp)) (Err NoLink)) (h.links l ∙ t)
    ∙ ap (λ b. cond b (cond (finmap.contains_key p.outs (out_port l)) (Err PortTaken) (Ok q)) (Err NoApp)) (ap is_some (h.apps l.from) ∙ u)
    ∙ ap (λ b. cond b (Err PortTaken) (Ok q)) (port_free out_port p.outs s.outs l h.outs free))
    (record { apps = h.apps; links = h.links; outs = ports_added out_port p.outs s.outs l h.outs free; ins = h.ins })

pub link_input : (p : PlainForm) (s : Look) (l : LinkSpec) → Holds p s → s.links l ≡ true → is_some (s.apps l.to) ≡ true → ((m : LinkSpec) → s.ins m ≡ true → in_port m ≡ in_port l → ⊥) → Taken (LinkInput l ∷ []) p (record s { ins = λ m. is_this m l || s.ins m })
link_input p s l h t u free =
    let q : PlainForm = record p { ins = finmap.insert p.ins (in_port l) l } in
    one (LinkInput l) p q _
    (ap (λ b. cond b (cond (finmap.contains_key p.apps l.to) (cond (finmap.contains_key p.ins (in_port l)) (Err PortTaken) (Ok q)) (Err NoApp)) (Err NoLink)) (h.links l ∙ t)
    ∙ ap (λ b. cond b (cond (finmap.contains_key p.ins (in_port l)) (Err PortTaken) (Ok q)) (Err NoApp)) (ap is_some (h.apps l.to) ∙ u)
    ∙ ap (λ b. cond b (Err PortTaken) (Ok q)) (port_free in_port p.ins s.ins l h.ins free))
    (record { apps = h.apps; links = h.links; outs = h.outs; ins = ports_added in_port p.ins s.ins l h.ins free })

none_this : (l : LinkSpec) (b : Bool) → (not (is_this l l) && b) ≡ false
none_this l b = ap (λ t. not t && b) (this_self l)

-- a link goes
pub unlink : (p : PlainForm) (s : Look) (l : LinkSpec) → Holds p s → s.links l ≡ true → s.outs l ≡ true → s.ins l ≡ true → Taken (unlinking l) p (record { apps = s.apps; links = λ m. not (is_this m l) && s.links m; outs = λ m. not (is_this m l) && s.outs m; ins = λ m. not (is_this m l) && s.ins m })
unlink p s l h t u v =
    let s1 : Look = record s { outs = λ m. not (is_this m l) && s.outs m } in
    let s2 : Look = record s1 { ins = λ m. not (is_this m l) && s.ins m } in
    behind (UnlinkOutput l ∷ []) (UnlinkInput l ∷ FreeLink l ∷ []) p s1 _ (unlink_output p s l h u) (λ q g.
    behind (UnlinkInput l ∷ []) (FreeLink l ∷ []) q s2 _ (unlink_input q s1 l g v) (λ r k.
    free_link r s2 l k t (none_this l (s.outs l)) (none_this l (s.ins l))))

-- answers that agree everywhere are held alike
pub record Agree (s t : Look) : Type 0 where
  pub apps : (n : List ℕ) → s.apps n ≡ t.apps n
  pub links : (l : LinkSpec) → s.links l ≡ t.links l
  pub outs : (l : LinkSpec) → s.outs l ≡ t.outs l
  pub ins : (l : LinkSpec) → s.ins l ≡ t.ins l

ports_agree : (port : LinkSpec → List ℕ × List ℕ) (ports : finmap.FinMap port_cmp LinkSpec) (a b : LinkSpec → Bool) → ((l : LinkSpec) → a l ≡ b l) → PortsHold ports port a → PortsHold ports port b
ports_agree port ports a b same h = record { of = λ l t. h.of l (same l ∙ t); only = λ k l g. sym (same l) ∙ h.only k l g; own = h.own }

pub holds_agree : (p : PlainForm) (s t : Look) → Agree s t → Holds p s → Holds p t
holds_agree p s t a h =
    record { apps = λ n. h.apps n ∙ a.apps n; links = λ l. h.links l ∙ a.links l; outs = ports_agree out_port p.outs s.outs t.outs a.outs h.outs; ins = ports_agree in_port p.ins s.ins t.ins a.ins h.ins }

pub taken_agree : (xs : List Action) (p : PlainForm) (s t : Look) → Agree s t → Taken xs p s → Taken xs p t
taken_agree xs p s t a k = record { after = k.after; taken = k.taken; holds = holds_agree k.after s t a k.holds }
