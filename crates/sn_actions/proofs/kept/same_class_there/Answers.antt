use Rattle.std.proofs.Common.{Bool, Option, Some, ap, sym, ◌∙◌}
use Rattle.std.specs.Option.{option_map}
use Rattle.sn_actions.proofs.FiniteMaps.{get_entries}
use Rattle.sn_actions.specs.Same.{same_class}
use Rattle.sn_config.specs.declared.app_spec.AppSpec.{AppSpec}
use Rattle.sn_names.specs.LinkOrder.{name_cmp_total}
use Rattle.sn_actions.proofs.kept.same_class_there.Goals as goal

pub returns-in_default : goal.returns-in_default
returns-in_default c =
    let same : Option AppSpec → Option Bool = option_map (λ before. same_class before.class c.args.spec.now.class) in
    ap same (c.in_default.ensures.value ∙ sym (get_entries name_cmp_total c.args.apps.now.entries c.args.name.now))

pub returns : goal.returns
returns c =
    let same : Option AppSpec → Option Bool = option_map (λ before. same_class before.class c.args.spec.now.class) in
    ap Some c.is_same_class.ensures ∙ ap same (c.in-Some.ensures.value ∙ sym (get_entries name_cmp_total c.args.apps.now.entries c.args.name.now))
