-- The plain form of a network.
use Rattle.std.specs.FinMap as finmap
use Rattle.std.specs.FinSet as finset
use Rattle.sn_config.specs.declared.app_spec.AppSpec.{AppSpec}
use Rattle.sn_names.specs.LinkOrder.{link_cmp, name_cmp, port_cmp}
use Rattle.sn_names.specs.declared.link.LinkSpec.{LinkSpec}

-- apps by name, a set of links, and the links at output ports and at input ports, by app and port
pub record PlainForm : Type 0 where
  pub apps : finmap.FinMap name_cmp AppSpec
  pub links : finset.FinSet link_cmp
  pub outs : finmap.FinMap port_cmp LinkSpec
  pub ins : finmap.FinMap port_cmp LinkSpec

-- the plain form of an empty network
abbrev pub empty_form : PlainForm
empty_form = record { apps = finmap.empty; links = finset.empty; outs = finmap.empty; ins = finmap.empty }
