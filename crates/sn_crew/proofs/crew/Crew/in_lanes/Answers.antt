use Rattle.std.proofs.Common.{◌≡◌, ◌-◌, ◌<◌, ◌≤◌, ◌∙◌, ap, ap₂, arith, get_or, length}
use Rattle.std.specs.Prelude.{count_by}
use Rattle.sn_seat.specs.Trays.{no_captures}
use Rattle.sn_crew.specs.Endings.{is_put, is_taken}
use Rattle.sn_crew.proofs.InJournals.{count_all, count_more, past_at}
use Rattle.sn_crew.proofs.crew.Crew.in_lanes.Goals as goal

pub loop-place-preserved : goal.loop-place-preserved
loop-place-preserved c =
    let l = c.loop-place in
    let places = c.args.self.now.places.items in
    let i = l.place-index in
    let place = c.place-item.result in
    let value = c.deref-place-items.ensures.value in
    let within : i < length places = omega (arith, c.loop-place-test.true, ap length value) in
    let read : place ≡ get_or places i place = rw (← value) c.place-item.is in
    let entries : c.entries-entries.result.now ≡ past_at place = c.entries-entries.ensures ∙ c.journal.ensures no_captures in
    record {
      put = count_more is_put places i place l.put c.puts_of-put.result within read l.invariant.put
          (c.puts_of-put.ensures.count ∙ ap (count_by is_put) entries);
      taken = count_more is_taken places i place l.taken c.taken_of-taken.result within read l.invariant.taken
          (c.taken_of-taken.ensures.count ∙ ap (count_by is_taken) entries);
      few_put = omega (arith, l.invariant.few_put, c.puts_of-put.ensures.few);
      few_taken = omega (arith, l.invariant.few_taken, c.taken_of-taken.ensures.few);
    }

pub returns : goal.returns
returns c =
    let l = c.loop-place in
    let crew = c.args.self.now in
    let places = crew.places.items in
    let over : length places ≤ l.place-index =
    omega (arith, c.loop-place-test.false, ap length c.deref-place-items.ensures.value) in
    c.saturating_sub.ensures
    ∙ ap₂ (λ a b. a - b) (l.invariant.put ∙ count_all is_put crew.shared places l.place-index over)
    (l.invariant.taken ∙ count_all is_taken crew.shared places l.place-index over)
