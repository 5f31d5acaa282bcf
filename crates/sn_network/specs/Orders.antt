-- The orders in which the apps of a network are called.
use Rattle.std.specs.FinMap as finmap
use Rattle.std.specs.Prelude.{ℕ, Bool, true, false, List, map, filter}
use Rattle.sn_actions.specs.PlainForms.{PlainForm}
use Rattle.sn_actions.specs.Plains.{in_port, is_link}
use Rattle.sn_config.specs.declared.app_spec.AppSpec.{AppSpec}
use Rattle.sn_names.specs.declared.class.Class.{Class}
use Rattle.sn_names.specs.declared.class.Class.TheVariants.{PcapReader, Receiver, Source}
use Rattle.sn_names.specs.declared.link.LinkSpec.{LinkSpec}
use Rattle.sn_order.specs.Order.{in_order, push_names}

-- the classes that bring packets in
abbrev pub brings_in : Class → Bool
brings_in Source = true
brings_in PcapReader = true
brings_in Receiver = true
brings_in class = false

-- the names of the apps of these classes
abbrev pub bringing : List (List ℕ × AppSpec) → List (List ℕ)
bringing apps = map (λ app. app.0) (filter (λ app. brings_in app.1.class) apps)

-- the order of pulls
abbrev pub pull_order : PlainForm → List (List ℕ)
pull_order plain = in_order (bringing (finmap.entries plain.apps))

-- whether a link stands at its input port
abbrev pub is_linked : PlainForm → LinkSpec → Bool
is_linked plain link = is_link (finmap.get plain.ins (in_port link)) link

-- the links that stand at an output port and at their input port
abbrev pub linked : PlainForm → List LinkSpec
linked plain = filter (is_linked plain) (finmap.values plain.outs)

-- the order of pushes
abbrev pub push_order : PlainForm → List (List ℕ)
push_order plain = push_names (linked plain) (in_order (finmap.keys plain.apps))
