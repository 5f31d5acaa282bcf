-- answers of src/orders.rt, pulls_in
use Rattle.std.proofs.Common.{ap, subst, sym, ◌∙◌}
use Rattle.sn_order.specs.Order.{in_order}
use Rattle.sn_network.specs.Orders.{bringing}
use Rattle.sn_network.specs.Standing.{IsOrder}
use Rattle.sn_network.proofs.Ordered.{app_entries, pulled_stand}
use Rattle.sn_network.proofs.orders.pulls_in.Goals as goal

pub places_of-requires : goal.places_of-requires
places_of-requires c =
    pulled_stand c.args.places.now c.args.plain.now.apps.entries c.in_ok-names.names.items c.deref-2.result.now
    c.deref-2.ensures.value
    c.requires c.deref.result.now (c.deref.ensures.value ∙ c.in_ok-bringing.ensures) c.in_ok-names.ensures.among

pub returns : goal.returns
returns c =
    subst (λ names. IsOrder c.args.places.now c.in_ok-order.order.items names)
    (c.deref-2.ensures.value ∙ (c.in_ok-names.ensures.order
    ∙ ap in_order (c.deref.ensures.value ∙ (c.in_ok-bringing.ensures
    ∙ ap bringing (sym (app_entries c.args.plain.now.apps.entries c.recall_orders.ensures.apps))))))
    c.in_ok-order.ensures
