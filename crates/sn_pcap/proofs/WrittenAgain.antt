-- The written form is in the grammar.
use Rattle.std.proofs.Common.{◌≡◌, ℕ, ◌<◌, ◌≤◌, List, [], ◌∷◌, ◌++◌, length, replicate, refl, sym, ap, ◌∙◌, arith, append_assoc, inl}
use Rattle.std.specs.Prelude.{All, flat_map}
use Rattle.std.proofs.lemmas.List.{append-nil}
use Rattle.std.proofs.lemmas.List.Elements.{All-head, All-tail}
use Rattle.byteorder.specs.Endian.{little_bytes}
use Rattle.byteorder.specs.Numbers.{little_number-reads_back, length-bytes_low_first}
use Rattle.sn_pcap.specs.declared.order.Order.TheVariants.{Little}
use Rattle.sn_pcap.specs.Grammar.{number_in, micro, version, SplitsOff, Leads, PcapText}
use Rattle.sn_pcap.specs.Written.{written_header, header_of, written_record, written}

-- four little endian bytes of a number below 2 ^ 32 are read as it
number_again : (n : ℕ) → n < 4294967296 → number_in Little (little_bytes 4 n) ≡ n
unfolding number_in
number_again n h = ap (λ (bytes : List ℕ). number_in Little bytes) (sym (append-nil (little_bytes 4 n))) ∙ little_number-reads_back 4 n [] h

record_splits : (payload rest : List ℕ) → length payload ≤ 10240 → SplitsOff Little (written_record payload ++ rest) payload rest
unfolding written_record header_of
record_splits payload rest h = record {
  time = replicate 8 0;
  captured = little_bytes 4 (length payload);
  original = little_bytes 4 (length payload);
  parts = grouped (replicate 8 0) (little_bytes 4 (length payload)) (little_bytes 4 (length payload)) payload rest;
  time_is = refl;
  captured_is = length-bytes_low_first 0 4 (length payload);
  original_is = length-bytes_low_first 0 4 (length payload);
  says = number_again (length payload) (omega arith);
}
  where
    grouped : (a b c d e : List ℕ) → ((a ++ (b ++ c)) ++ d) ++ e ≡ a ++ (b ++ (c ++ (d ++ e)))
    grouped a b c d e = simp append_assoc

records_lead : (payloads : List (List ℕ)) → All (λ payload. length payload ≤ 10240) payloads
    → Leads Little (flat_map written_record payloads) payloads []
records_lead [] h = refl
records_lead (payload ∷ more) h =
    (flat_map written_record more, record_splits payload (flat_map written_record more) (All-head (λ p. length p ≤ 10240) payload more h), records_lead more (All-tail (λ p. length p ≤ 10240) payload more h))

pub written_again : (payloads : List (List ℕ)) → All (λ payload. length payload ≤ 10240) payloads → PcapText (written payloads) payloads
unfolding written_header micro version
written_again payloads h = record {
  order = Little;
  body = flat_map written_record payloads;
  header = record {
    magic = 0xd4 ∷ 0xc3 ∷ 0xb2 ∷ 0xa1 ∷ [];
    further = 0 ∷ 0 ∷ 0 ∷ 0 ∷ 0 ∷ 0 ∷ 0 ∷ 0 ∷ 0xff ∷ 0xff ∷ 0 ∷ 0 ∷ 1 ∷ 0 ∷ 0 ∷ 0 ∷ [];
    parts = refl;
    magic_is = inl refl;
    further_is = refl;
  };
  leads = records_lead payloads h;
}
