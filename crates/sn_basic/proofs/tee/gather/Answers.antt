use Rattle.std.proofs.Common.{◌≡◌, ◌+◌, ◌-◌, ◌<◌, ◌≤◌, ◌∙◌, ℕ, Bool, true, List, [], length, Option, Ok, Err, ap, refl, sym, subst, arith, rules}
use Rattle.sn_link.specs.Link.{Line}
use Rattle.sn_packet.specs.Hold.{among}
use Rattle.sn_app.specs.Answers.{Stays}
use Rattle.sn_app.specs.Apps.{tee_gather}
use Rattle.sn_app.specs.Desk.{Tray}
use Rattle.sn_app.specs.Hands.{Leads, Names, frees_each, names_at, packets_at}
use Rattle.sn_app.specs.Ports.{out_ports, slots_of}
use Rattle.sn_app.specs.Reader.{Meaning, pure}
use Rattle.sn_app.specs.Runs.{Runs}
use Rattle.sn_app.specs.Starts.{AreKept}
use Rattle.sn_app.specs.World.{IsSound, Used, desk_of, nowhere, world}
use Rattle.sn_app.proofs.Hands.{kept_in_hand, leads_as, leads_start}
use Rattle.sn_app.proofs.Looping.{outputs_count}
use Rattle.sn_app.proofs.Readings.{stays_then}
use Rattle.sn_basic.specs.Counts.{HasRow, HasRow-stays}
use Rattle.sn_basic.proofs.Copies.{gather_came, gather_dry, gather_halt, gather_over, gather_stays, gathered_all, gathered_err, gathered_none}
use Rattle.sn_basic.proofs.tee.gather.Goals as goal

-- what was freed, as a run
freed_run : (s z : Tray) (v w : Used) (slots : List (Option Line)) (copies places : List ℕ) → places ≡ copies
    → IsSound (world s v slots) (among copies)
    → ((slots : List (Option Line)) → IsSound (world s v slots) (among places)
    → Runs (frees_each (packets_at v places)) (world s v slots) (world z w slots) (among places) nowhere (Ok true))
    → Runs (frees_each (packets_at v copies)) (world s v slots) (world z w slots) (among copies) nowhere (Ok true)
freed_run s z v w slots copies places is h frees =
    let P : List ℕ → Type 0 = λ xs. IsSound (world s v slots) (among xs)
    → Runs (frees_each (packets_at v xs)) (world s v slots) (world z w slots) (among xs) nowhere (Ok true) in
    subst P is (frees slots) h

-- and the app's row is there afterwards
row_freed : (app : ℕ) (t s z : Tray) (v w : Used) (slots : List (Option Line)) (copies places : List ℕ) → places ≡ copies
    → Stays t s
    → IsSound (world s v slots) (among copies)
    → ((slots : List (Option Line)) → IsSound (world s v slots) (among places)
    → Runs (frees_each (packets_at v places)) (world s v slots) (world z w slots) (among places) nowhere (Ok true))
    → HasRow app t → HasRow app z
unfolding desk_of
row_freed app t s z v w slots copies places is stays h frees there =
    HasRow-stays app t z (stays_then stays (freed_run s z v w slots copies places is h frees).answers.stays) there

pub loop-turn-init : goal.loop-turn-init
loop-turn-init g c =
    let start = world (g.C.Ctx.tray c.args.ctx.now) (g.C.Ctx.used c.args.ctx.now) (slots_of c.args.ports.now) in
    let n = length (out_ports c.args.ports.now) - 1 in
    record {
      lent = refl;
      room = c.clear.ensures.capacity;
      count = ap (λ xs. length xs + 1) c.clear.ensures.items;
      leads = λ next. subst (λ copies. Leads (tee_gather n c.args.app (names_at (g.C.Ctx.used c.args.ctx.now) copies) next)
          (tee_gather n c.args.app [] next) start start nowhere (among copies))
          (sym c.clear.ensures.items) (leads_start (tee_gather n c.args.app [] next) start nowhere c.requires.ready.sound);
    }

pub returns-in_err-place-clause-gathered : goal.returns-in_err-place-clause-gathered
returns-in_err-place-clause-gathered g c = λ next.
    let u : Used = g.C.Ctx.used c.loop-turn.ctx in
    let v : Used = g.C.Ctx.used c.allocate.new.self in
    let ports = c.args.ports.now in
    let within : c.loop-turn._turn < length (out_ports ports) =
    omega (arith, c.outs-turn-end.ensures, c.loop-turn-test.true, outputs_count ports) in
    let e : c.from_residual.result ≡ Err c.in_err-place.field-0.0 = search rules in
    rw e (gathered_err (gather_halt u v (slots_of ports)
    (length (out_ports ports)) c.loop-turn._turn c.args.app next c.loop-turn.copies.items within
    (c.loop-turn.invariant.leads next) c.in_err-place.field-0.0 c.in_err-place.ensures.reads c.in_err-place.ensures.others))

pub free_all-requires : goal.free_all-requires
free_all-requires g c =
    let u : Used = g.C.Ctx.used c.loop-turn.ctx in
    let v : Used = g.C.Ctx.used c.allocate.new.self in
    let ports = c.args.ports.now in
    let next : Names → Meaning Bool = λ names. pure true in
    let within : c.loop-turn._turn < length (out_ports ports) =
    omega (arith, c.outs-turn-end.ensures, c.loop-turn-test.true, outputs_count ports) in
    let stays = gather_stays u v (slots_of ports)
    (length (out_ports ports)) c.loop-turn._turn c.args.app next c.loop-turn.copies.items within
    (c.loop-turn.invariant.leads next) c.in_ok-place.field-0 c.in_default.is c.in_ok-place.ensures.reads
    c.in_ok-place.ensures.others in
    subst (λ copies. AreKept v (among copies)) (sym c.as_slice.ensures.value) (kept_in_hand stays.1)

pub count-requires : goal.count-requires
count-requires g c =
    let u : Used = g.C.Ctx.used c.loop-turn.ctx in
    let v : Used = g.C.Ctx.used c.allocate.new.self in
    let s : Tray = g.C.Ctx.tray c.allocate.new.self in
    let z : Tray = g.C.Ctx.tray c.free_all.new.ctx in
    let w : Used = g.C.Ctx.used c.free_all.new.ctx in
    let ports = c.args.ports.now in
    let copies = c.loop-turn.copies.items in
    let next : Names → Meaning Bool = λ names. pure true in
    let within : c.loop-turn._turn < length (out_ports ports) =
    omega (arith, c.outs-turn-end.ensures, c.loop-turn-test.true, outputs_count ports) in
    let stays = gather_stays u v (slots_of ports) (length (out_ports ports)) c.loop-turn._turn c.args.app next copies within
    (c.loop-turn.invariant.leads next) c.in_ok-place.field-0 c.in_default.is c.in_ok-place.ensures.reads
    c.in_ok-place.ensures.others in
    row_freed c.args.app (g.C.Ctx.tray c.args.ctx.now) s z v w
    (slots_of ports) copies c.as_slice.result.now c.as_slice.ensures.value stays.0 stays.1
    c.free_all.ensures.frees c.requires.ready.counts

pub returns-in_default-clause-gathered : goal.returns-in_default-clause-gathered
returns-in_default-clause-gathered g c = λ next.
    let u : Used = g.C.Ctx.used c.loop-turn.ctx in
    let v : Used = g.C.Ctx.used c.allocate.new.self in
    let s : Tray = g.C.Ctx.tray c.allocate.new.self in
    let w : Used = g.C.Ctx.used c.free_all.new.ctx in
    let z : Tray = g.C.Ctx.tray c.free_all.new.ctx in
    let ports = c.args.ports.now in
    let copies = c.loop-turn.copies.items in
    let within : c.loop-turn._turn < length (out_ports ports) =
    omega (arith, c.outs-turn-end.ensures, c.loop-turn-test.true, outputs_count ports) in
    let stays = gather_stays u v (slots_of ports) (length (out_ports ports)) c.loop-turn._turn c.args.app next copies within
    (c.loop-turn.invariant.leads next) c.in_ok-place.field-0 c.in_default.is c.in_ok-place.ensures.reads
    c.in_ok-place.ensures.others in
    gathered_none (gather_dry u v (slots_of ports) (length (out_ports ports)) c.loop-turn._turn c.args.app next copies within
    (c.loop-turn.invariant.leads next) c.in_ok-place.field-0 c.in_default.is c.in_ok-place.ensures.reads
    c.in_ok-place.ensures.others
    (freed_run s z v w (slots_of ports) copies c.as_slice.result.now c.as_slice.ensures.value stays.1 c.free_all.ensures.frees)
    c.count.ensures.tray c.count.ensures.used)

pub loop-turn-preserved : goal.loop-turn-preserved
loop-turn-preserved g c =
    let u : Used = g.C.Ctx.used c.loop-turn.ctx in
    let v : Used = g.C.Ctx.used c.allocate.new.self in
    let ports = c.args.ports.now in
    let copies = c.loop-turn.copies.items in
    let outs = length (out_ports ports) in
    let within : c.loop-turn._turn < outs = omega (arith, c.outs-turn-end.ensures, c.loop-turn-test.true, outputs_count ports) in
    let start = world (g.C.Ctx.tray c.args.ctx.now) (g.C.Ctx.used c.args.ctx.now) (slots_of ports) in
    let now = world (g.C.Ctx.tray c.allocate.new.self) v (slots_of ports) in
    record {
      lent = c.in_ok-place.ensures.lent ∙ c.loop-turn.invariant.lent;
      room = c.push_reserved.ensures.capacity ∙ c.loop-turn.invariant.room;
      count = omega (arith, c.push_reserved.ensures.len, c.loop-turn.invariant.count);
      leads = λ next. subst (λ more. Leads (tee_gather (outs - (c.loop-turn._turn + 1)) c.args.app (names_at v more) next)
          (tee_gather (outs - 1) c.args.app [] next) start now nowhere (among more))
          (sym c.push_reserved.ensures.items)
          (gather_came u v (slots_of ports) outs c.loop-turn._turn c.args.app next copies within
          (c.loop-turn.invariant.leads next)
          c.in_ok-place.field-0 c.in-Some.place c.in-Some.is c.in_ok-place.ensures.reads c.in_ok-place.ensures.fresh
          c.in_ok-place.ensures.others);
    }

pub returns-clause-gathered : goal.returns-clause-gathered
returns-clause-gathered g c = λ next.
    let ports = c.args.ports.now in
    let past : length (out_ports ports) ≤ c.loop-turn._turn =
    omega (arith, c.outs-turn-end.ensures, c.loop-turn-test.false, outputs_count ports) in
    gathered_all (leads_as (gather_over (length (out_ports ports)) c.loop-turn._turn c.args.app
    (names_at (g.C.Ctx.used c.loop-turn.ctx) c.loop-turn.copies.items) next past)
    (c.loop-turn.invariant.leads next))
