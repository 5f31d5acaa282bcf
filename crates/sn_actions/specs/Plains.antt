-- The plain form of a network, and what each action does to it.
use Rattle.std.specs.FinMap as finmap
use Rattle.std.specs.FinSet as finset
use Rattle.std.specs.Prelude.{Bool, Err, List, None, Ok, Option, Result, Some, [], cond, false, map, not, ℕ, ◌||◌, ◌∷◌}
use Rattle.std.specs.List.{list_any}
use Rattle.std.specs.Ordering.{eq_by_cmp}
use Rattle.sn_actions.specs.Same.{same_class}
use Rattle.sn_actions.specs.declared.action.Action.{Action}
use Rattle.sn_actions.specs.declared.action.Action.TheVariants.{Commit, FreeLink, LinkInput, LinkOutput, NewLink, ReconfigApp, StartApp, StopApp, UnlinkInput, UnlinkOutput}
use Rattle.sn_actions.specs.declared.fault.ActionFault.{ActionFault}
use Rattle.sn_actions.specs.declared.fault.ActionFault.TheVariants.{AppThere, LinkThere, NoApp, NoLink, NotLinked, OtherClass, PortTaken, StillLinked}
use Rattle.sn_config.specs.Configs.{ConfigForm, same_name}
use Rattle.sn_config.specs.declared.app_spec.AppSpec.{AppSpec}
use Rattle.sn_names.specs.LinkOrder.{link_cmp, port_cmp}
use Rattle.sn_names.specs.declared.link.LinkSpec.{LinkSpec}
use Rattle.sn_actions.specs.PlainForms.{PlainForm}

-- the ports of a link: an app, and its port
abbrev pub out_port : LinkSpec → List ℕ × List ℕ
out_port link = (link.from, link.out)

abbrev pub in_port : LinkSpec → List ℕ × List ℕ
in_port link = (link.to, link.input)

-- the plain form of a configuration: its apps and links, and each link at both its ports
abbrev pub full : ConfigForm → PlainForm
full config =
    record {
      apps = finmap.from_entries config.apps;
      links = finset.from_list config.links;
      outs = finmap.from_entries (map (λ link. (out_port link, link)) config.links);
      ins = finmap.from_entries (map (λ link. (in_port link, link)) config.links);
    }

-- whether what is at a port is this link
abbrev pub is_link : Option LinkSpec → LinkSpec → Bool
is_link None link = false
is_link (Some there) link = eq_by_cmp link_cmp there link

-- whether this link is at some port
abbrev pub is_at_some : finmap.FinMap port_cmp LinkSpec → LinkSpec → Bool
is_at_some ports link = list_any (λ there. eq_by_cmp link_cmp there link) (finmap.values ports)

-- the entries of other apps
abbrev pub without_app : finmap.FinMap port_cmp LinkSpec → List ℕ → finmap.FinMap port_cmp LinkSpec
without_app ports name = finmap.retain_keys ports (λ key. not (same_name key.0 name))

-- an app of another argument, by what is there
abbrev pub reconfigured : Option AppSpec → List ℕ → AppSpec → PlainForm → Result PlainForm ActionFault
reconfigured None name spec plain = Err NoApp
reconfigured (Some before) name spec plain =
    cond (same_class before.class spec.class) (Ok (record plain { apps = finmap.insert plain.apps name spec })) (Err OtherClass)

-- the plain form after an action, or the first failing check
abbrev pub apply : Action → PlainForm → Result PlainForm ActionFault
apply (UnlinkOutput link) plain =
    cond (is_link (finmap.get plain.outs (out_port link)) link)
    (Ok (record plain { outs = finmap.remove plain.outs (out_port link) }))
    (Err NotLinked)
apply (UnlinkInput link) plain =
    cond (is_link (finmap.get plain.ins (in_port link)) link)
    (Ok (record plain { ins = finmap.remove plain.ins (in_port link) }))
    (Err NotLinked)
apply (FreeLink link) plain =
    cond (finset.contains plain.links link)
    (cond (is_at_some plain.outs link || is_at_some plain.ins link)
    (Err StillLinked)
    (Ok (record plain { links = finset.remove plain.links link })))
    (Err NoLink)
apply (StopApp name) plain =
    cond (finmap.contains_key plain.apps name)
    (Ok (record { apps = finmap.remove plain.apps name; links = plain.links; outs = without_app plain.outs name; ins = without_app plain.ins name }))
    (Err NoApp)
apply (StartApp name spec) plain =
    cond (finmap.contains_key plain.apps name)
    (Err AppThere)
    (Ok (record plain { apps = finmap.insert plain.apps name spec }))
apply (ReconfigApp name spec) plain = reconfigured (finmap.get plain.apps name) name spec plain
apply (NewLink link) plain =
    cond (finset.contains plain.links link)
    (Err LinkThere)
    (Ok (record plain { links = finset.insert plain.links link }))
apply (LinkOutput link) plain =
    cond (finset.contains plain.links link)
    (cond (finmap.contains_key plain.apps link.from)
    (cond (finmap.contains_key plain.outs (out_port link))
    (Err PortTaken)
    (Ok (record plain { outs = finmap.insert plain.outs (out_port link) link })))
    (Err NoApp))
    (Err NoLink)
apply (LinkInput link) plain =
    cond (finset.contains plain.links link)
    (cond (finmap.contains_key plain.apps link.to)
    (cond (finmap.contains_key plain.ins (in_port link))
    (Err PortTaken)
    (Ok (record plain { ins = finmap.insert plain.ins (in_port link) link })))
    (Err NoApp))
    (Err NoLink)
apply Commit plain = Ok plain

-- the plain form after actions in order, or the first failing check
abbrev pub apply_all : List Action → PlainForm → Result PlainForm ActionFault
apply_all [] plain = Ok plain
apply_all (action ∷ actions) plain = elim (apply action plain) [ Ok after ↦ apply_all actions after | Err fault ↦ Err fault ]
