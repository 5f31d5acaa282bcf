use Rattle.std.proofs.Common.{List, None, ap, cond, rules, ℕ, ◌∙◌, not}
use Rattle.std.proofs.lemmas.Map.Made.{filter_same_pairs}
use Rattle.std.specs.BTreeMap.{is_at}
use Rattle.std.specs.Map.{lookup}
use Rattle.sn_actions.proofs.FiniteMaps.{lookup_filter, removed}
use Rattle.sn_actions.proofs.PortKeys.{Key, is_port, port_is_key, turned_cond}
use Rattle.sn_names.specs.LinkOrder.{exact_ports, port_cmp, port_cmp_total}
use Rattle.sn_actions.proofs.ports.take_port.Goals as goal

pub returns : goal.returns
returns c =
    let here : Key = (c.args.app.now, c.args.port.now) in
    let stays = λ (key : List ℕ × List ℕ). not (is_port key c.args.app.now c.args.port.now) in
    let left = filter_same_pairs _ (λ e. stays e.0) _ (λ k v b w f' t. search rules) c.args.ports.now.entries c.retain.new.self.entries c.retain.ensures.filtered in
    removed port_cmp_total exact_ports c.args.ports.now.entries c.retain.new.self.entries here
    (λ q.
    ap (lookup (is_at (port_cmp q))) left
    ∙ lookup_filter port_cmp exact_ports stays c.args.ports.now.entries q
    ∙ turned_cond (is_port q c.args.app.now c.args.port.now) (lookup (is_at (port_cmp q)) c.args.ports.now.entries)
    ∙ ap (λ b. cond b None (lookup (is_at (port_cmp q)) c.args.ports.now.entries)) (port_is_key q c.args.app.now c.args.port.now))
