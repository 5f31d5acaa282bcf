-- answers of src/orders.rt, pushes_in
use Rattle.std.proofs.Common.{List, ap, filter, subst, ◌∙◌, ℕ}
use Rattle.sn_actions.specs.PlainOf.{plain_of}
use Rattle.sn_names.specs.declared.link.LinkSpec.{LinkSpec}
use Rattle.sn_order.specs.Order.{in_order, push_names}
use Rattle.sn_network.specs.Orders.{is_linked, linked}
use Rattle.sn_network.specs.Standing.{IsOrder}
use Rattle.sn_network.proofs.Ordered.{app_keys, port_values, pushed_stand}
use Rattle.sn_network.proofs.orders.pushes_in.Goals as goal

pub places_of-requires : goal.places_of-requires
places_of-requires c =
    pushed_stand c.args.places.now c.args.plain.now.apps.entries c.in_ok-names.names.items c.deref-3.result.now
    c.deref-3.ensures.value
    c.requires c.deref.result.now (c.deref.ensures.value ∙ c.in_ok-apps.ensures) c.in_ok-names.ensures.among

pub returns : goal.returns
returns c =
    subst (λ names. IsOrder c.args.places.now c.in_ok-order.order.items names)
    (c.deref-3.ensures.value ∙ (c.in_ok-names.ensures.order
    ∙ (ap (λ (links : List LinkSpec). push_names links (in_order c.deref.result.now))
    (c.deref-2.ensures.value ∙ (c.in_ok-links.ensures
    ∙ ap (filter (is_linked (plain_of c.args.plain.now)))
    (port_values c.args.plain.now.outs.entries c.recall_orders.ensures.outs)))
    ∙ ap (λ (names : List (List ℕ)). push_names (linked (plain_of c.args.plain.now)) (in_order names))
    (c.deref.ensures.value ∙ (c.in_ok-apps.ensures ∙ app_keys c.args.plain.now.apps.entries c.recall_orders.ensures.apps)))))
    c.in_ok-order.ensures
