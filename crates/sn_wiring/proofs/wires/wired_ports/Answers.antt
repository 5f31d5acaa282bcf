use Rattle.std.proofs.Common.{arith, subst, sym, ℕ, ◌≡◌, List}
use Rattle.sn_app.specs.Desk.{roster_of}
use Rattle.sn_wiring.proofs.Entries.{Makes, each_there, first_there, makes_all, makes_past, makes_port, makes_start}
use Rattle.sn_wiring.specs.Wired.{PortEntry}
use Rattle.sn_wiring.proofs.wires.wired_ports.Goals as goal

pub loop-key-init : goal.loop-key-init
loop-key-init g c =
    let slots = c.args.links.now.slots in
    let roster = (roster_of (g.C.Ctx.tray c.args.ctx.now)).links in
    let all : List PortEntry = c.args.at.now.entries in
    let begins : c.into_iter-key-iterator.result ≡ all = c.into_iter-key-iterator.ensures.into_iter_gives.0 in
    subst (λ (left : List PortEntry). Makes slots roster c.args.name.now c.new-ports.result.items left all) (sym begins)
    (makes_start slots roster c.args.name.now c.new-ports.result.items all
    (each_there slots roster all c.recall_keys.ensures c.requires)
    c.new-ports.ensures.items)

pub port_to-requires : goal.port_to-requires
port_to-requires g c =
    let slots = c.args.links.now.slots in
    let roster = (roster_of (g.C.Ctx.tray c.args.ctx.now)).links in
    let entry : PortEntry = (c.in-Some.key.now, c.in-Some.link.now) in
    let there = first_there slots roster c.loop-key.key-iterator entry c.next.new.self c.in-Some.ensures.steps
    c.loop-key.invariant.there in
    record { link = there.0; here = omega (arith, there.1) }

pub loop-key-preserved : goal.loop-key-preserved
loop-key-preserved g c =
    let slots = c.args.links.now.slots in
    let roster = (roster_of (g.C.Ctx.tray c.args.ctx.now)).links in
    let entry : PortEntry = (c.in-Some.key.now, c.in-Some.link.now) in
    makes_past slots roster c.args.name.now c.loop-key.ports.items c.args.at.now.entries c.loop-key.key-iterator
    c.next.new.self entry
    c.in-Some.ensures.steps c.loop-key.invariant (sym c.if-is_of_app.ensures)

pub loop-key-preserved-in_ok-push : goal.loop-key-preserved-in_ok-push
loop-key-preserved-in_ok-push g c =
    let slots = c.args.links.now.slots in
    let roster = (roster_of (g.C.Ctx.tray c.args.ctx.now)).links in
    let all : List PortEntry = c.args.at.now.entries in
    let entry : PortEntry = (c.in-Some.key.now, c.in-Some.link.now) in
    let port : List ℕ × ℕ = c.in_ok-port_to.field-0 in
    let made = c.in_ok-port_to.ensures in
    subst (λ (ports : List (List ℕ × ℕ)). Makes slots roster c.args.name.now ports c.next.new.self all)
    (sym c.in_ok-push.ensures.items)
    (makes_port slots roster c.args.name.now c.loop-key.ports.items all c.loop-key.key-iterator c.next.new.self entry
    c.in-Some.ensures.steps c.loop-key.invariant port (sym c.if-is_of_app.ensures) made.name made.there made.row)

pub returns : goal.returns
returns g c =
    makes_all c.args.links.now.slots (roster_of (g.C.Ctx.tray c.args.ctx.now)).links c.args.name.now c.loop-key.ports.items
    c.loop-key.key-iterator c.args.at.now.entries c.in-None.ensures.steps.0 c.recall_keys.ensures c.loop-key.invariant
