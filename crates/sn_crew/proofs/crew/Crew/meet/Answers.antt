use Rattle.std.proofs.Common.{◌≡◌, ◌∙◌, length, ap, sym, subst, arith}
use Rattle.sn_crew.specs.Crews.{EachAt, HaveSaid, PlaceAfter, PlaceUnmet}
use Rattle.sn_crew.proofs.OneMore.{all_written}
use Rattle.sn_crew.proofs.crew.Crew.meet.Goals as goal

pub meet_all-requires-clause-unmet : goal.meet_all-requires-clause-unmet
meet_all-requires-clause-unmet c =
    let crew = c.args.self.now in
    subst (EachAt (PlaceUnmet crew.scenario crew.shared crew.rounds)) (sym c.deref_mut.ensures.value) c.requires.places

pub returns-clause-underway : goal.returns-clause-underway
returns-clause-underway c =
    let crew = c.args.self.now in
    let len : length c.meet_all.new.places ≡ length crew.places.items
    = omega (arith, c.meet_all.auto.places, ap length c.deref_mut.ensures.value) in
    let is = all_written crew.places.len crew.places.items c.meet_all.new.places crew.places.ok.0 len in
    record {
      shared = c.requires.shared;
      within = c.requires.within;
      workers = ap length is ∙ (len ∙ c.requires.workers);
      places = subst (EachAt (PlaceAfter crew.scenario crew.shared crew.rounds)) (sym is) c.meet_all.ensures.after;
      said = subst (HaveSaid crew.scenario crew.shared crew.rounds) (sym c.meet_all.ensures.speakers) c.requires.said;
    }
