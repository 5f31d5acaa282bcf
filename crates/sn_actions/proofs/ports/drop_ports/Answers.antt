use Rattle.std.proofs.Common.{List, ap, rules, ℕ, ◌∙◌, not}
use Rattle.std.proofs.lemmas.Map.Made.{filter_same_pairs}
use Rattle.std.specs.BTreeMap.{is_at}
use Rattle.std.specs.Map.{lookup}
use Rattle.sn_actions.proofs.FiniteMaps.{lookup_filter, retained}
use Rattle.sn_config.specs.Configs.{same_name}
use Rattle.sn_names.specs.LinkOrder.{exact_ports, port_cmp, port_cmp_total}
use Rattle.sn_actions.proofs.ports.drop_ports.Goals as goal

pub returns : goal.returns
returns c =
    let stays = λ (key : List ℕ × List ℕ). not (same_name key.0 c.args.name.now) in
    let left = filter_same_pairs _ (λ e. stays e.0) _ (λ k v b w f' t. search rules) c.args.ports.now.entries c.retain.new.self.entries c.retain.ensures.filtered in
    retained port_cmp_total exact_ports c.args.ports.now.entries c.retain.new.self.entries stays
    (λ q. ap (lookup (is_at (port_cmp q))) left ∙ lookup_filter port_cmp exact_ports stays c.args.ports.now.entries q)
