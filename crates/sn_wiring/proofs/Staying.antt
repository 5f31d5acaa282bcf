-- Where an app's ports stay wired, and where what is at a map's keys stands.
use Rattle.std.specs.FinMap as finmap
use Rattle.std.specs.FinSet as finset
use Rattle.std.proofs.Common.{IsSome, List, None, Option, Some, [], ap, arith, length, refl, suc, sym, true, ℕ, ◌<◌, ◌∙◌, ◌∷◌}
use Rattle.std.proofs.Common.{◌≡◌}
use Rattle.std.proofs.lemmas.Bool.{true≢false}
use Rattle.std.specs.Prelude.{unwrap_or}
use Rattle.sn_app.specs.Calls.{HasLink}
use Rattle.sn_app.specs.Ports.{KeepsRows, Port, key_at, line_at, rows_of}
use Rattle.sn_link.specs.Link.{Line, new_line}
use Rattle.sn_names.specs.LinkOrder.{link_cmp}
use Rattle.sn_names.specs.declared.link.LinkSpec.{LinkSpec}
use Rattle.sn_wiring.specs.Links.{HasLines, KeepsLinks, one_if, slot_at}
use Rattle.sn_wiring.specs.Wired.{AreThere, PortMap, Wired}

rows_alike : (old new : List (Option Line)) (ports : List (List ℕ × ℕ))
    → ((i : ℕ) → i < length ports → (line_at new (key_at ports i)).row ≡ (line_at old (key_at ports i)).row)
    → rows_of new ports ≡ rows_of old ports
unfolding rows_of
rows_alike old new [] same = refl
rows_alike old new (port ∷ more) same =
    ap (λ (row : ℕ). (port.0, row) ∷ rows_of new more) (same 0 (omega arith))
    ∙ ap (λ (rest : List Port). (port.0, (line_at old port.1).row) ∷ rest)
    (rows_alike old new more (λ i k. same (suc i) (omega (arith, k))))

module _ (roster : List LinkSpec) (at : PortMap) (name : List ℕ) (ports : List (List ℕ × ℕ)) (old new : List (Option Line))
    (wired : Wired old roster at name ports) where
  -- while the links are at their rows
  pub wired_stays : KeepsRows old new → Wired new roster at name ports
  wired_stays keeps = record {
    linked = record { held = λ i k. keeps.held (key_at ports i) (wired.linked.held i k) };
    rows = rows_alike old new ports (λ i k. keeps.rows (key_at ports i)) ∙ wired.rows;
  }

  the_same : (a b : Option Line) → IsSome a → ((line : Line) → a ≡ Some line → b ≡ Some line) → b ≡ a
  the_same None b some kept = absurd (true≢false (sym some))
  the_same (Some line) b some kept = kept line refl

  some_too : (a b : Option Line) → b ≡ a → IsSome a → IsSome b
  some_too None b e some = absurd (true≢false (sym some))
  some_too (Some line) None e some = absurd cc
  some_too (Some line) (Some other) e some = refl

  -- and where a link comes
  pub wired_yet : KeepsLinks old new → Wired new roster at name ports
  wired_yet keeps = record {
    linked = record {
      held = λ i k. some_too (slot_at old (key_at ports i)) (slot_at new (key_at ports i)) (same i k)
          (wired.linked.held i k);
    };
    rows = rows_alike old new ports (λ i k. ap (λ (slot : Option Line). (unwrap_or slot (new_line 0)).row) (same i k))
        ∙ wired.rows;
  }
    where
      same : (i : ℕ) → i < length ports → slot_at new (key_at ports i) ≡ slot_at old (key_at ports i)
      same i k = the_same (slot_at old (key_at ports i)) (slot_at new (key_at ports i)) (wired.linked.held i k) (keeps.kept
          (key_at ports i))

-- what is at the keys is among the links that stand
pub there_among : (roster : List LinkSpec) (slots : List (Option Line)) (links : finset.FinSet link_cmp) (at : PortMap)
    → HasLines roster slots links
    → ((link : LinkSpec) → finset.contains links link ≡ true → HasLink roster link)
    → ((key : List ℕ × List ℕ) (link : LinkSpec) → finmap.get at key ≡ Some link → finset.contains links link ≡ true)
    → AreThere slots roster at
there_among roster slots links at h named among = record {
  named = λ key link is. named link (among key link is);
  stands = λ key link is. h.lines link (named link (among key link is)) ∙ ap one_if (among key link is);
}
