-- That what stands at the ports of a plain form belongs there.
use Rattle.std.specs.FinMap as finmap
use Rattle.std.specs.FinSet as finset
use Rattle.std.specs.Prelude.{IsTrue, List, Some, ℕ, ◌≡◌}
use Rattle.sn_actions.specs.PlainForms.{PlainForm}
use Rattle.sn_actions.specs.Plains.{in_port, out_port}
use Rattle.sn_config.specs.declared.app_spec.AppSpec.{AppSpec}
use Rattle.sn_names.specs.LinkOrder.{link_cmp, name_cmp, port_cmp}
use Rattle.sn_names.specs.declared.link.LinkSpec.{LinkSpec}

-- what is at each of these ports is one of these links, at its own port, and the port is of one of these apps
pub record AreWired (apps : finmap.FinMap name_cmp AppSpec) (links : finset.FinSet link_cmp)
    (port : LinkSpec → List ℕ × List ℕ) (ports : finmap.FinMap port_cmp LinkSpec) : Type 0 where
  pub own : (key : List ℕ × List ℕ) (link : LinkSpec) → finmap.get ports key ≡ Some link → key ≡ port link
  pub linked : (key : List ℕ × List ℕ) (link : LinkSpec) → finmap.get ports key ≡ Some link → IsTrue (finset.contains links link)
  pub started : (key : List ℕ × List ℕ) (link : LinkSpec) → finmap.get ports key ≡ Some link
      → IsTrue (finmap.contains_key apps key.0)

-- both its output ports and its input ports are so
pub record IsConsistent (plain : PlainForm) : Type 0 where
  pub outs : AreWired plain.apps plain.links out_port plain.outs
  pub ins : AreWired plain.apps plain.links in_port plain.ins
