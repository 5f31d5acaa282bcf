use Rattle.std.proofs.Common.{ℕ, ◌∷◌, ◌∙◌, inl, inr, refl, ap, arith}
use Rattle.sn_group.specs.declared.entry.Probe.TheVariants.{Loaded, Exchanged}
use Rattle.sn_group.specs.Scans.{PassedEmpty}
use Rattle.sn_group.proofs.Steps.{probes, give_claims, fills}
use Rattle.sn_group.proofs.Scanning.{scanning_parts, scanning_cells, scanning_slots, scans_on, passes_more}
use Rattle.sn_group.proofs.give_scan.find_empty.Goals as goal
use Rattle.sn_group.proofs.give_scan.find_empty.Goals.{else-word-eq-EMPTY-via-then-word-eq-EMPTY+else-compare_exchange-eq-EMPTY, else-word-eq-EMPTY-via-else-word-eq-EMPTY}

pub load-word-requires : goal.load-word-requires
load-word-requires c =
    let on = c.loop-k.invariant in
    (on.0 ∙ c.requires.table, omega arith, probes _ _ _ _ _ _ _ (scanning_parts _ _ _ on.3 c.requires.scan.idle.parts))

pub compare_exchange-requires : goal.compare_exchange-requires
compare_exchange-requires c =
    let on = c.loop-k.invariant in
    let now = scans_on _ _ _ on.3 _ _ c.load-word.ensures.2 in
    let idle = c.requires.scan.idle in (
      c.load-word.ensures.0 ∙ (on.0 ∙ c.requires.table),
      omega arith,
      give_claims _ _ _ _ _ _ _ (scanning_parts _ _ _ now idle.parts) (scanning_cells _ _ _ now idle.cells) (scanning_slots _ _ _ now) (omega arith),
    )

pub loop-k-preserved : goal.loop-k-preserved
loop-k-preserved c =
    let on = c.loop-k.invariant in
    let now = scans_on _ _ _ on.3 _ _ c.load-word.ensures.2 in
    elim c.else-word-eq-EMPTY.branch [
      | else-word-eq-EMPTY-via-then-word-eq-EMPTY+else-compare_exchange-eq-EMPTY w ↦ rw w.seat-is (
        w.compare_exchange.ensures.0 ∙ (c.load-word.ensures.0 ∙ on.0),
        Exchanged c.place-cell.result 0 w.compare_exchange.result ∷ Loaded c.place-cell.result c.load-word.result ∷ on.1,
        passes_more PassedEmpty _ _ _ _ _ _ on.2 c.place-cell.ensures.place (
          c.load-word.result,
          inr (
            w.if-word-eq-EMPTY.true,
            w.compare_exchange.result,
            w.if-compare_exchange-eq-EMPTY.false,
            ap (λ (n : ℕ). Exchanged c.place-cell.result 0 w.compare_exchange.result ∷ Loaded c.place-cell.result n ∷ on.1) w.if-word-eq-EMPTY.true,
          ),
        ),
        scans_on _ _ _ now _ _ (w.compare_exchange.ensures.2.1 w.if-compare_exchange-eq-EMPTY.false),
      )
      | else-word-eq-EMPTY-via-else-word-eq-EMPTY w ↦ rw w.seat-is (
        c.load-word.ensures.0 ∙ on.0,
        Loaded c.place-cell.result c.load-word.result ∷ on.1,
        passes_more PassedEmpty _ _ _ _ _ _ on.2 c.place-cell.ensures.place (c.load-word.result, inl (w.if-word-eq-EMPTY.false, refl)),
        now,
      )
    ]

pub compare_exchange-requires-2 : goal.compare_exchange-requires-2
compare_exchange-requires-2 c =
    let on = c.loop-k.invariant in
    (on.0 ∙ c.requires.table, omega arith, fills _ _ _ _ _ _ _ _ (scanning_parts _ _ _ on.3 c.requires.scan.idle.parts))
