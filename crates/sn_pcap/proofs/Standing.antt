-- The record that stands at a place, and the end.
use Rattle.std.proofs.Common.{◌≡◌, ℕ, ◌+◌, ◌<◌, ◌≤◌, ◌↔◌, List, length, drop, ap, arith, inl, inr}
use Rattle.std.specs.Prelude.{IsTrue}
use Rattle.std.proofs.lemmas.Bool.{cases_lt}
use Rattle.std.proofs.lemmas.List.{length-drop, length-take}
use Rattle.sn_pcap.specs.declared.record.RecordAt.{RecordAt}
use Rattle.sn_pcap.specs.Places.{captured_at, order_of, extent, IsPlace, StandsAt, IsAtEnd}
use Rattle.sn_pcap.proofs.Stepping.{at_whole, at_cut, steps}

-- before the end a whole record stands at a place
pub whole_at : (bytes : List ℕ) (at : ℕ) → IsPlace bytes at → at < length bytes
    → at + (16 + captured_at (order_of bytes) (drop at bytes)) ≤ length bytes
whole_at bytes at place left =
    elim (cases_lt (length bytes) (at + (16 + captured_at (order_of bytes) (drop at bytes)))) [
      | inl cut ↦ absurd (omega (arith, place.fills, ap extent (at_cut bytes at cut)))
      | inr whole ↦ whole
    ]

pub stands : (bytes : List ℕ) (at : ℕ) (found : RecordAt) → IsPlace bytes at → at < length bytes
    → found.len ≡ captured_at (order_of bytes) (drop at bytes) → found.start ≡ at + 16
    → found.next ≡ found.start + found.len → (IsTrue found.oversize ↔ (10240 < found.len)) → StandsAt bytes at found
stands bytes at found place left len start next oversize =
    let whole = whole_at bytes at place left in
    let next_is : found.next ≡ at + (16 + captured_at (order_of bytes) (drop at bytes)) = omega (arith, len, start, next) in
    let within : found.next ≤ length bytes = omega (arith, next_is, whole) in
    let step = steps bytes at found.next next_is within in
    record {
      first = rw (len, start, next_is) (at_whole bytes at whole);
      len = omega (arith, length-take found.len (drop found.start bytes), length-drop found.start bytes, next, within);
      oversize = oversize;
      start = start;
      next = next;
      within = within;
      place = record { fills = omega (arith, step.extents, place.fills) };
      of = record { within = omega (arith, next, within) };
    }

pub ends : (bytes : List ℕ) (at : ℕ) → at ≡ length bytes → IsAtEnd bytes at
ends bytes at e = record { at_end = e; none_left = at_cut bytes at (omega arith) }
