use Rattle.std.proofs.Common.{List, ap, arith, refl, sym, ℕ, ◌∙◌}
use Rattle.sn_config.specs.Configs.{ConfigForm}
use Rattle.sn_config.specs.declared.app_spec.AppSpec.{AppSpec}
use Rattle.sn_config.proofs.Validity.{with_app_valid}
use Rattle.sn_config.proofs.config.Config.add_app.Goals as goal

pub invariant_of-self-2 : goal.invariant_of-self-2
invariant_of-self-2 c =
    with_app_valid (record { apps = c.self.inside.apps.entries; links = c.self.inside.links.keys }) c.put_app.new.apps.entries c.args.name (record { class = c.args.class; arg = c.in-Ok.arg }) c.self.invariant
    c.in-Ok.ensures.form c.in-Ok-put_app.ensures.ok c.in-Ok-put_app.ensures.found (omega (arith, c.in-Ok-put_app.ensures.len))

pub returns-clause-ok : goal.returns-clause-ok
returns-clause-ok c =
    let spec : AppSpec = record { class = c.args.class; arg = c.in-Ok.arg } in
    let with : List (List ℕ × AppSpec) → ConfigForm = λ apps. record { apps = apps; links = c.self.inside.links.keys } in
    rw (← c.self.view_is) (record {
      spec = spec;
      absent = sym c.contains_key.ensures ∙ c.if-contains_key.false;
      class_is = refl;
      taken = c.in-Ok.ensures.taken;
      room = omega arith;
      added = ap with c.in-Ok-put_app.ensures.ok;
    })
