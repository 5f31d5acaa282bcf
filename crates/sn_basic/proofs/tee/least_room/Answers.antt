use Rattle.std.proofs.Common.{◌≡◌, ◌+◌, ◌<◌, ◌≤◌, ◌∷◌, ◌∙◌, ℕ, List, [], drop, get_or, length, min, ap, sym, arith}
use Rattle.sn_app.specs.Apps.{least_room, room_on}
use Rattle.sn_app.specs.Desk.{Desk}
use Rattle.sn_app.specs.Ports.{Port, out_ports, outs_of, slots_of}
use Rattle.sn_app.specs.World.{desk_of, world}
use Rattle.sn_app.proofs.Handling.{room_is}
use Rattle.sn_app.proofs.Hands.{drop_next, drop_past}
use Rattle.sn_app.proofs.Looping.{outputs_count, row_at_place}
use Rattle.sn_basic.proofs.tee.least_room.Goals as goal

most_room : (ports : List Port) (d : Desk) → least_room ports d ≤ 1023
most_room [] d = omega arith
most_room (port ∷ ports) d = omega (arith, most_room ports d)

same_least : (least room rest : ℕ) → min least (min room rest) ≡ min (min room least) rest
same_least least room rest = omega arith

pub loop-o-init : goal.loop-o-init
loop-o-init c = record {
  most = omega arith;
  least = λ t u h.
      let d = desk_of (world t u (slots_of c.args.ports.now)) in
      omega (arith, most_room (out_ports c.args.ports.now) d);
}

pub loop-o-preserved : goal.loop-o-preserved
loop-o-preserved c = record {
  most = omega (arith, c.lesser-least.ensures, c.loop-o.invariant.most);
  least = λ t u h.
      let ports = c.args.ports.now in
      let outs = out_ports ports in
      let o = c.loop-o.o in
      let d = desk_of (world t u (slots_of ports)) in
      let port : Port = get_or outs o ([], 0) in
      let within : o < length (outs_of ports) = omega (arith, c.outs-o-end.ensures, c.loop-o-test.true) in
      let counted : o < length outs = omega (arith, within, outputs_count ports) in
      let is : drop o outs ≡ port ∷ drop (o + 1) outs = drop_next outs o ([], 0) counted in
      let room : room_on port.1 d ≡ c.room.result =
      ap (λ row. room_on row d) (row_at_place (slots_of ports) (outs_of ports) o within)
      ∙ room_is {t = t} {u = u} ports o c.room.result c.requires.links within h c.room.ensures in
      c.loop-o.invariant.least t u h
      ∙ (ap (λ left. min c.loop-o.least (least_room left d)) is
      ∙ (ap (λ n. min c.loop-o.least (min n (least_room (drop (o + 1) outs) d))) room
      ∙ (same_least c.loop-o.least c.room.result (least_room (drop (o + 1) outs) d)
      ∙ ap (λ n. min n (least_room (drop (o + 1) outs) d)) (sym c.lesser-least.ensures))));
}

pub returns : goal.returns
returns c = λ t u h.
    let ports = c.args.ports.now in
    let outs = out_ports ports in
    let d = desk_of (world t u (slots_of ports)) in
    let past : length outs ≤ c.loop-o.o = omega (arith, c.outs-o-end.ensures, c.loop-o-test.false, outputs_count ports) in
    let last : min c.loop-o.least 1023 ≡ c.loop-o.least = omega (arith, c.loop-o.invariant.most) in
    c.loop-o.invariant.least t u h ∙ (ap (λ left. min c.loop-o.least (least_room left d)) (drop_past outs c.loop-o.o past) ∙ last)
