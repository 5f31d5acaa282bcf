use Rattle.std.proofs.Common.{◌∙◌, ap, sym}
use Rattle.std.specs.List.{list_any}
use Rattle.sn_worker.specs.SlotViews.{slot_spent}
use Rattle.sn_crew.specs.Crews.{is_spent, stand_of}
use Rattle.sn_crew.specs.declared.place.Place.{Place}
use Rattle.sn_crew.proofs.Speaking.{list_any_map}
use Rattle.sn_crew.proofs.crew.Crew.is_any_spent.Goals as goal

pub returns : goal.returns
returns c =
    let crew = c.args.self.now in
    c.has_spent.ensures.spent
    ∙ (ap (list_any (λ (place : Place). slot_spent place.slot)) c.deref.ensures.value
    ∙ sym (list_any_map is_spent (λ (place : Place). stand_of crew.shared place.slot) crew.places.items))
