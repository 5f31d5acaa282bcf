use Rattle.std.proofs.Common.{arith, ap, length, refl, ◌∙◌}
use Rattle.sn_run.proofs.ScriptSteps.{lead_ends, lead_lacks, lead_on, length_more}
use Rattle.sn_run.proofs.reading.read_captures.Goals as goal

pub returns-in-Err-clause-err : goal.returns-in-Err-clause-err
returns-in-Err-clause-err g c =
    lead_ends _ _ _ _ _ _ _ _ _ c.loop-name-test.true c.name-item.is c.loop-name.invariant.leads _
    c.min.ensures _ c.in-Err.ensures.err

pub returns-in-Err-push-clause-err : goal.returns-in-Err-push-clause-err
returns-in-Err-push-clause-err g c =
    lead_lacks _ _ _ _ _ _ _ _ _ c.loop-name-test.true c.name-item.is c.loop-name.invariant.leads _
    c.min.ensures _ _ c.in-Ok.ensures.ok c.out_of_memory.ensures

pub loop-name-preserved : goal.loop-name-preserved
loop-name-preserved g c = record {
  room = omega (arith, c.loop-name.invariant.room);
  count = ap length c.in-Ok-push.ensures.items ∙ length_more _ _ _ c.loop-name.invariant.count;
  leads =
      lead_on _ _ _ _ _ _ _ _ _ c.loop-name-test.true c.name-item.is c.loop-name.invariant.leads _
      c.min.ensures _ _ _ _ c.in-Ok.ensures.ok c.in-Ok.ensures.len refl c.in-Ok-push.ensures.items;
}
