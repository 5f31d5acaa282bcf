-- Each fault against the others, and against a capture's text.
use Rattle.std.proofs.Common.{◌≡◌, ℕ, ◌+◌, ◌<◌, List, [], ◌∷◌, length, take, drop, refl, sym, ap, ◌∙◌, arith, inl, inr}
use Rattle.std.proofs.lemmas.Bool.{cases_lt}
use Rattle.std.proofs.lemmas.List.{length-drop}
use Rattle.sn_pcap.specs.declared.fault.PcapFault.{PcapFault}
use Rattle.sn_pcap.specs.declared.fault.PcapFault.TheVariants.{ShortHeader, BadMagic, BadVersion, CutRecord}
use Rattle.sn_pcap.specs.declared.order.Order.{Order}
use Rattle.sn_pcap.specs.Faults.{IsCutIn, HasFault}
use Rattle.sn_pcap.specs.Grammar.{IsMagic, version, HasHeader, SplitsOff, PcapText}
use Rattle.sn_pcap.specs.Places.{captured_at, order_of, payloads_in, payloads_at, payloads_of, extent}
use Rattle.sn_pcap.proofs.Splitting.{splits, first_is, in_leads, in_stops, leads_in}
use Rattle.sn_pcap.proofs.Headed.{magic_tells, header_parts, text_is}

-- what no record begins is too short for one
stop_from_cut : (order : Order) (rest : List ℕ) → ((payload more : List ℕ) → SplitsOff order rest payload more → ⊥)
    → length rest < 16 + captured_at order rest
stop_from_cut order rest cut =
    elim (cases_lt (length rest) (16 + captured_at order rest)) [
      | inl short ↦ short
      | inr whole ↦ absurd (cut _ _ (splits order rest whole))
    ]

length_from_some : (rest : List ℕ) → (rest ≡ [] → ⊥) → 0 < length rest
length_from_some [] some = absurd (some refl)
length_from_some (byte ∷ rest) some = omega arith

-- the records that are whole don't fill bytes with a cut record, and their number is one less
pub record CutBytes (bytes : List ℕ) (nth : ℕ) : Type 0 where
  pub counted : nth ≡ length (payloads_of bytes) + 1
  pub short : 24 + extent (payloads_of bytes) < length bytes

pub cut_is : (order : Order) (bytes body : List ℕ) (nth : ℕ) → HasHeader order bytes body → IsCutIn order body nth → CutBytes bytes nth
unfolding payloads_at
cut_is order bytes body nth header c =
    let parts = header_parts order bytes body header in
    let all = leads_in (length bytes) order body c.whole c.rest (omega (arith, parts.total)) (stop_from_cut order c.rest c.cut) c.leads in
    let same : payloads_in (length bytes) (order_of bytes) (drop 24 bytes) ≡ c.whole =
    rw (magic_tells order bytes parts.magic_is, parts.body_is) all.same in
    record {
      counted = omega (arith, c.counted, ap (λ (ps : List (List ℕ)). length ps) same);
      short = omega (arith, parts.total, ap extent same, all.filled, length_from_some c.rest c.some_left);
    }

pub cut_from : (order : Order) (bytes : List ℕ) (nth : ℕ) → order_of bytes ≡ order → nth ≡ length (payloads_of bytes) + 1
    → 24 + extent (payloads_of bytes) < length bytes → IsCutIn order (drop 24 bytes) nth
unfolding payloads_at
cut_from order bytes nth order_is counted short =
    let body = drop 24 bytes in
    let records = payloads_in (length bytes) order body in
    let rest = drop (extent records) body in
    let named : payloads_in (length bytes) (order_of bytes) body ≡ records =
    ap (λ (o : Order). payloads_in (length bytes) o body) order_is in
    let left : 0 < length rest =
    omega (arith, short, ap extent named, length-drop (extent records) body, length-drop 24 bytes) in
    let stops : length rest < 16 + captured_at order rest =
    in_stops (length bytes) order body (omega (arith, length-drop 24 bytes)) in
    record {
      whole = records;
      rest = rest;
      leads = in_leads (length bytes) order body;
      counted = omega (arith, counted, ap (λ (ps : List (List ℕ)). length ps) named);
      some_left = λ e. omega (arith, left, ap (λ (xs : List ℕ). length xs) e);
      cut = λ payload more s. let first = first_is order rest payload more s in omega (arith, stops, first.says, first.total);
    }

-- one magic has one order
one_order : (a b : Order) (bytes : List ℕ) → IsMagic a (take 4 bytes) → IsMagic b (take 4 bytes) → a ≡ b
one_order a b bytes p q = sym (magic_tells a bytes p) ∙ magic_tells b bytes q

-- a version isn't both right and wrong
version_apart : (a b : Order) (bytes : List ℕ) → IsMagic a (take 4 bytes) → IsMagic b (take 4 bytes)
    → take 4 (drop 4 bytes) ≡ version a → (take 4 (drop 4 bytes) ≡ version b → ⊥) → ⊥
version_apart a b bytes p q right wrong = wrong (right ∙ ap version (one_order a b bytes p q))

pub no_fault : (bytes : List ℕ) (records : List (List ℕ)) (fault : PcapFault) → PcapText bytes records → HasFault bytes fault → ⊥
no_fault bytes records ShortHeader t f = omega (arith, (text_is bytes records t).long, f)
no_fault bytes records BadMagic t f = f.1 t.order (text_is bytes records t).magic_is
no_fault bytes records BadVersion t f =
    let text = text_is bytes records t in
    version_apart t.order f.1.0 bytes text.magic_is f.1.1 text.version_is f.1.2
no_fault bytes records (CutRecord nth) t f =
    omega (arith, (text_is bytes records t).filled, (cut_is f.0 bytes f.1 nth f.2 f.3).short)

pub one_fault : (bytes : List ℕ) (a b : PcapFault) → HasFault bytes a → HasFault bytes b → a ≡ b
one_fault bytes ShortHeader ShortHeader f g = refl
one_fault bytes ShortHeader BadMagic f g = absurd (omega (arith, f, g.0))
one_fault bytes ShortHeader BadVersion f g = absurd (omega (arith, f, g.0))
one_fault bytes ShortHeader (CutRecord nth) f g = absurd (omega (arith, f, (header_parts g.0 bytes g.1 g.2).total))
one_fault bytes BadMagic ShortHeader f g = absurd (omega (arith, g, f.0))
one_fault bytes BadMagic BadMagic f g = refl
one_fault bytes BadMagic BadVersion f g = absurd (f.1 g.1.0 g.1.1)
one_fault bytes BadMagic (CutRecord nth) f g = absurd (f.1 g.0 (header_parts g.0 bytes g.1 g.2).magic_is)
one_fault bytes BadVersion ShortHeader f g = absurd (omega (arith, g, f.0))
one_fault bytes BadVersion BadMagic f g = absurd (g.1 f.1.0 f.1.1)
one_fault bytes BadVersion BadVersion f g = refl
one_fault bytes BadVersion (CutRecord nth) f g =
    let parts = header_parts g.0 bytes g.1 g.2 in
    absurd (version_apart g.0 f.1.0 bytes parts.magic_is f.1.1 parts.version_is f.1.2)
one_fault bytes (CutRecord nth) ShortHeader f g = absurd (omega (arith, g, (header_parts f.0 bytes f.1 f.2).total))
one_fault bytes (CutRecord nth) BadMagic f g = absurd (g.1 f.0 (header_parts f.0 bytes f.1 f.2).magic_is)
one_fault bytes (CutRecord nth) BadVersion f g =
    let parts = header_parts f.0 bytes f.1 f.2 in
    absurd (version_apart f.0 g.1.0 bytes parts.magic_is g.1.1 parts.version_is g.1.2)
one_fault bytes (CutRecord m) (CutRecord n) f g =
    ap CutRecord ((cut_is f.0 bytes f.1 m f.2 f.3).counted ∙ sym (cut_is g.0 bytes g.1 n g.2 g.3).counted)
