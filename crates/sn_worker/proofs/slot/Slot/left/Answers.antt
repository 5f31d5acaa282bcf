-- answers of src/slot.rt, Slot::left
use Rattle.std.proofs.Common.{rules}
use Rattle.sn_app.specs.World.{desk_of}
use Rattle.sn_network.proofs.Counted.{all_count}
use Rattle.sn_network.specs.Left.{left_in}
use Rattle.sn_network.specs.Networks.{plain_in, shown, world_of}
use Rattle.sn_seat.specs.Trays.{captures_of}
use Rattle.sn_worker.specs.SlotViews.{slot_tray, slot_used}
use Rattle.sn_worker.specs.Workers.{plan_in}
use Rattle.sn_worker.proofs.Leaving.{left_sum}
use Rattle.sn_worker.proofs.slot.Slot.left.Goals as goal

pub left_among-requires : goal.left_among-requires
left_among-requires c =
    let apps = c.requires.works.breathes.stands.apps in
    record {
      once = apps.once;
      classes = apps.classes;
      counts =
          all_count c.args.self.now.worker.network.places.items (slot_tray (captures_of c.args.shared.now) c.args.self.now) _
          (search rules) apps.ready;
    }

pub returns : goal.returns
returns c =
    let worker = c.args.self.now.worker in
    let used = slot_used c.args.self.now in
    let tray = slot_tray (captures_of c.args.shared.now) c.args.self.now in
    left_sum (plan_in worker) worker.applied worker.taken (plain_in worker.network) 18446744073709551615 _ _ _
    (left_in (shown worker.network used tray) (desk_of (world_of worker.network used tray))) c.requires.works.within
    c.saturating_add.ensures (search rules)
    (c.left_among.ensures used tray c.requires.works.breathes.stands.links.fits (search rules))
