-- One packet more of a pool.
use Rattle.std.proofs.Common.{◌≡◌, ℕ, zero, suc, ◌+◌, [], ◌∷◌, ◌++◌, map, ap, ◌∙◌, arith}
use Rattle.std.proofs.lemmas.List.{map_push}
use Rattle.std.specs.List.{range_with_len}
use Rattle.sn_sharing.specs.Pools.{first_packet, pool_packets}

pub range_more : (from n : ℕ) → range_with_len from (suc n) ≡ range_with_len from n ++ (from + n) ∷ []
range_more from zero = let e : from ≡ from + 0 = omega arith in ap (λ m. m ∷ []) e
range_more from (suc n) =
    let e : (from + 1) + n ≡ from + suc n = omega arith in
    ap (λ l. from ∷ l) (range_more (from + 1) n ∙ ap (λ m. range_with_len (from + 1) n ++ m ∷ []) e)

pub pool_more : (n : ℕ) → pool_packets (n + 1) ≡ pool_packets n ++ first_packet n ∷ []
pool_more n =
    let next : n + 1 ≡ suc n = omega arith in
    let last : 0 + n ≡ n = omega arith in
    ap pool_packets next
    ∙ (ap (map first_packet) (range_more 0 n)
    ∙ (map_push first_packet (range_with_len 0 n) (0 + n) ∙ ap (λ m. pool_packets n ++ first_packet m ∷ []) last))
