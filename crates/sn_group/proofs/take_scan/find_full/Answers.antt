use Rattle.std.proofs.Common.{◌∷◌, ◌∙◌, inl, inr, refl, arith}
use Rattle.sn_group.specs.declared.entry.Probe.TheVariants.{Loaded, Exchanged}
use Rattle.sn_group.specs.Scans.{PassedFull}
use Rattle.sn_group.proofs.Steps.{probes, take_claims, dries}
use Rattle.sn_group.proofs.Scanning.{scanning_parts, scanning_cells, scanning_slots, scans_on, passes_more}
use Rattle.sn_group.proofs.take_scan.find_full.Goals as goal
use Rattle.sn_group.proofs.take_scan.find_full.Goals.{else-word-ge-FULL-via-then-word-ge-FULL+else-compare_exchange-word, else-word-ge-FULL-via-else-word-ge-FULL}

pub load-word-requires : goal.load-word-requires
load-word-requires c =
    let on = c.loop-k.invariant in
    (on.0 ∙ c.requires.table, omega arith, probes _ _ _ _ _ _ _ (scanning_parts _ _ _ on.3 c.requires.scan.idle.parts))

pub compare_exchange-requires : goal.compare_exchange-requires
compare_exchange-requires c =
    let on = c.loop-k.invariant in
    let now = scans_on _ _ _ on.3 _ _ c.load-word.ensures.2 in
    let idle = c.requires.scan.idle in (
      c.load-word.ensures.0 ∙ (on.0 ∙ c.requires.table),
      omega arith,
      take_claims _ _ _ _ _ _ _ _ (scanning_parts _ _ _ now idle.parts) (scanning_cells _ _ _ now idle.cells) (scanning_slots _ _ _ now) (omega arith) (omega arith),
    )

pub loop-k-preserved : goal.loop-k-preserved
loop-k-preserved c =
    let on = c.loop-k.invariant in
    let now = scans_on _ _ _ on.3 _ _ c.load-word.ensures.2 in
    elim c.else-word-ge-FULL.branch [
      | else-word-ge-FULL-via-then-word-ge-FULL+else-compare_exchange-word w ↦ rw w.seat-is (
        w.compare_exchange.ensures.0 ∙ (c.load-word.ensures.0 ∙ on.0),
        Exchanged c.place-cell.result c.load-word.result w.compare_exchange.result ∷ Loaded c.place-cell.result c.load-word.result ∷ on.1,
        passes_more PassedFull _ _ _ _ _ _ on.2 c.place-cell.ensures.place (c.load-word.result, inr (omega arith, w.compare_exchange.result, w.if-compare_exchange-word.false, refl)),
        scans_on _ _ _ now _ _ (w.compare_exchange.ensures.2.1 w.if-compare_exchange-word.false),
      )
      | else-word-ge-FULL-via-else-word-ge-FULL w ↦ rw w.seat-is (
        c.load-word.ensures.0 ∙ on.0,
        Loaded c.place-cell.result c.load-word.result ∷ on.1,
        passes_more PassedFull _ _ _ _ _ _ on.2 c.place-cell.ensures.place (c.load-word.result, inl (omega arith, refl)),
        now,
      )
    ]

pub load-requires : goal.load-requires
load-requires c =
    let on = c.loop-k.invariant in
    (on.0 ∙ c.requires.table, omega arith, dries _ _ _ _ _ _ _ (scanning_parts _ _ _ on.3 c.requires.scan.idle.parts))
