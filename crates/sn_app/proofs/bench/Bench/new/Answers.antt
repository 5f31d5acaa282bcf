use Rattle.std.proofs.Common.{◌∙◌, None, ap, arith, eqb-true, length, sym, vec_len}
use Rattle.std.proofs.lemmas.List.{length-replicate}
use Rattle.sn_link.specs.Counts.{no_counts}
use Rattle.sn_app.specs.Counts.{no_app_counts}
use Rattle.sn_app.proofs.bench.Bench.new.Goals as goal

pub invariant_of-result : goal.invariant_of-result
invariant_of-result c =
    let b = c.names.inside in
    let apps = ap length c.in_ok-counters.ensures.apps ∙ length-replicate c.len.result no_app_counts in
    let links = ap length c.in_ok-counters.ensures.links ∙ length-replicate c.len-2.result no_counts in
    let files = ap length c.in_ok-files.ensures ∙ length-replicate c.len-3.result None in
    record {
      lanes = rw (sym c.names.view_is) (omega (arith, c.in_ok-lanes.ensures.len, c.len-4.ensures, b.lanes.ok.0));
      files = rw (sym c.names.view_is) (omega (arith, files, c.len-3.ensures, b.files.ok.0));
      apps = rw (sym c.names.view_is) (omega (arith, apps, c.len.ensures, b.apps.ok.0));
      links = rw (sym c.names.view_is) (omega (arith, links, c.len-2.ensures, b.links.ok.0));
      captures = c.requires.captures;
      few_apps = c.requires.few_apps;
      few_links = c.requires.few_links;
      few_captures = c.requires.few_captures;
      few_files = c.requires.few_files;
      few_lanes = c.requires.few_lanes;
      script = λ bare.
          let none = eqb-true (vec_len c.args.script) 0 (sym c.is_empty-bare.ensures ∙ bare) in
          omega (arith, none, c.args.script.ok.0, ap length c.new-2.ensures.script);
    }
