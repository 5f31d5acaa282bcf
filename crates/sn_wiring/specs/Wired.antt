-- An app's ports, made from what is at its keys in a map of ports.
use Rattle.std.specs.FinMap as finmap
use Rattle.std.specs.Prelude.{List, None, Option, Some, bytes_eq, filter_map, if◌then◌else◌, ℕ, ◌≡◌}
use Rattle.sn_app.specs.Calls.{HasLink, row_of_link}
use Rattle.sn_app.specs.Ports.{HasLinks, Port, rows_of}
use Rattle.sn_app.specs.World.{rows_in}
use Rattle.sn_link.specs.Link.{Line}
use Rattle.sn_names.specs.LinkOrder.{port_cmp}
use Rattle.sn_names.specs.declared.link.LinkSpec.{LinkSpec}

-- the links at ports, by app and port
abbrev pub PortMap : Type 0
PortMap = finmap.FinMap port_cmp LinkSpec

-- a key of such a map, an app and its port, with the link that is there
abbrev pub PortEntry : Type 0
PortEntry = (List ℕ × List ℕ) × LinkSpec

-- a key of this app as the app's port: the port's name, and the row of the link that is there
abbrev pub port_of : List LinkSpec → List ℕ → PortEntry → Option Port
port_of roster name entry = if bytes_eq entry.0.0 name then Some (entry.0.1, row_of_link roster entry.1) else None

-- the ports of an app, in the order of their names' bytes
abbrev pub ports_of : List LinkSpec → PortMap → List ℕ → List Port
ports_of roster at name = filter_map (port_of roster name) (finmap.entries at)

-- the ports are those of an app, and lead to links that are there
pub record Wired (slots : List (Option Line)) (roster : List LinkSpec) (at : PortMap) (name : List ℕ)
    (ports : List (List ℕ × ℕ)) : Type 0 where
  pub linked : HasLinks slots ports
  pub rows : rows_of slots ports ≡ ports_of roster at name

-- what is at each key is a link of the roster, and stands in the slab
pub record AreThere (slots : List (Option Line)) (roster : List LinkSpec) (at : PortMap) : Type 0 where
  pub named : (key : List ℕ × List ℕ) (link : LinkSpec) → finmap.get at key ≡ Some link → HasLink roster link
  pub stands : (key : List ℕ × List ℕ) (link : LinkSpec) → finmap.get at key ≡ Some link
      → rows_in (row_of_link roster link) slots ≡ 1
