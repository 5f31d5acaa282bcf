use Rattle.std.proofs.Common.{◌≡◌, false, subst, arith}
use Rattle.sn_crew.specs.Crews.{EachAt}
use Rattle.sn_crew.specs.declared.place.Place.{Place}
use Rattle.sn_crew.proofs.crew.Crew.end_round.Goals as goal

pub overflow_add-self : goal.overflow_add-self
overflow_add-self c = omega (arith, c.requires.worked.within, c.settings.ensures.bounds.rounds.1)

pub meet-requires : goal.meet-requires
meet-requires c =
    let was = c.requires.worked in
    let lack_none : EachAt (λ worker (place : Place). place.lacked ≡ false) c.args.self.now.places.items =
    subst (EachAt (λ worker (place : Place). place.lacked ≡ false)) c.deref.ensures.value (c.lacks.ensures c.if-lacks.false) in
    record {
      shared = was.shared;
      within = was.within;
      workers = was.workers;
      places = λ n x there. record {
        slot = (was.places n x there).slot (lack_none n x there);
        lacks_none = lack_none n x there;
      };
      said = was.said;
    }
