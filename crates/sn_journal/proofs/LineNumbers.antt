-- A line's kind and numbers are read as it.
use Rattle.std.proofs.Common.{Some, [], ap, arith, option_map, refl, true, ℕ, ◌&&◌, ◌∷◌, ◌≡◌}
use Rattle.std.proofs.lemmas.Bool.{and_from, and_parts}
use Rattle.std.proofs.lemmas.Bool.Decides.{nat_tests}
use Rattle.std.specs.List.{list_all}
use Rattle.sn_journal.specs.Cutting.{is_no_feed, is_no_space}
use Rattle.sn_journal.specs.JournalText.{fits, is_u32, is_u64, kind_word, line_kind, line_numbers}
use Rattle.sn_journal.specs.KindWords.{kind_of}
use Rattle.sn_journal.specs.LineReading.{carried, drained, line_from, one_small, small_large, small_two_large, two_small}
use Rattle.sn_journal.specs.declared.kind.Kind.{Kind}
use Rattle.sn_journal.specs.declared.kind.Kind.TheVariants as kind
use Rattle.sn_journal.specs.declared.line.Line.{Line}
use Rattle.sn_journal.specs.declared.line.Line.TheVariants as line

-- each word is that of its kind
pub kind_found : (kind : Kind) → kind_of (kind_word kind) ≡ Some kind
unfolding kind_of
kind_found kind.Round = refl
kind_found kind.Hear = refl
kind_found kind.Breath = refl
kind_found kind.Attach = refl
kind_found kind.Unattached = refl
kind_found kind.Detach = refl
kind_found kind.Reset = refl
kind_found kind.Seen = refl
kind_found kind.Room = refl
kind_found kind.Put = refl
kind_found kind.Take = refl
kind_found kind.Drain = refl
kind_found kind.Got = refl
kind_found kind.Dry = refl
kind_found kind.Gave = refl
kind_found kind.Full = refl
kind_found kind.Worn = refl
kind_found kind.Spent = refl
kind_found kind.Stop = refl
kind_found kind.Close = refl
kind_found kind.Reclaimed = refl
kind_found kind.Restart = refl

-- and has no space and no line feed
pub word_plain : (kind : Kind) → (list_all is_no_space (kind_word kind) ≡ true) × (list_all is_no_feed (kind_word kind) ≡ true)
word_plain kind.Round = (refl, refl)
word_plain kind.Hear = (refl, refl)
word_plain kind.Breath = (refl, refl)
word_plain kind.Attach = (refl, refl)
word_plain kind.Unattached = (refl, refl)
word_plain kind.Detach = (refl, refl)
word_plain kind.Reset = (refl, refl)
word_plain kind.Seen = (refl, refl)
word_plain kind.Room = (refl, refl)
word_plain kind.Put = (refl, refl)
word_plain kind.Take = (refl, refl)
word_plain kind.Drain = (refl, refl)
word_plain kind.Got = (refl, refl)
word_plain kind.Dry = (refl, refl)
word_plain kind.Gave = (refl, refl)
word_plain kind.Full = (refl, refl)
word_plain kind.Worn = (refl, refl)
word_plain kind.Spent = (refl, refl)
word_plain kind.Stop = (refl, refl)
word_plain kind.Close = (refl, refl)
word_plain kind.Reclaimed = (refl, refl)
word_plain kind.Restart = (refl, refl)

wide : (n : ℕ) → is_u32 n ≡ true → is_u64 n ≡ true
wide n e = grind (arith, nat_tests)

-- numbers of a line's types are u64, and are read
one_small-wide : (a : ℕ) → (is_u32 a) ≡ true → list_all is_u64 (a ∷ []) ≡ true
one_small-wide a h =
    and_from _ _ (wide a h) refl

one_small-found : (a : ℕ) → (is_u32 a) ≡ true → one_small (a ∷ []) ≡ Some a
one_small-found a h =
    rw h refl

two_small-wide : (a b : ℕ) → (is_u32 a && is_u32 b) ≡ true → list_all is_u64 (a ∷ b ∷ []) ≡ true
two_small-wide a b h =
    let p1 = and_parts (is_u32 a) (is_u32 b) h in
    and_from _ _ (wide a p1.0) (and_from _ _ (wide b p1.1) refl)

two_small-found : (a b : ℕ) → (is_u32 a && is_u32 b) ≡ true → two_small (a ∷ b ∷ []) ≡ Some (a, b)
two_small-found a b h =
    let p1 = and_parts (is_u32 a) (is_u32 b) h in
    rw (p1.0, p1.1) refl

small_large-wide : (a b : ℕ) → (is_u32 a && is_u64 b) ≡ true → list_all is_u64 (a ∷ b ∷ []) ≡ true
small_large-wide a b h =
    let p1 = and_parts (is_u32 a) (is_u64 b) h in
    and_from _ _ (wide a p1.0) (and_from _ _ p1.1 refl)

small_large-found : (a b : ℕ) → (is_u32 a && is_u64 b) ≡ true → small_large (a ∷ b ∷ []) ≡ Some (a, b)
small_large-found a b h =
    let p1 = and_parts (is_u32 a) (is_u64 b) h in
    rw p1.0 refl

small_two_large-wide : (a b c : ℕ) → (is_u32 a && is_u64 b && is_u64 c) ≡ true → list_all is_u64 (a ∷ b ∷ c ∷ []) ≡ true
small_two_large-wide a b c h =
    let p2 = and_parts (is_u32 a && is_u64 b) (is_u64 c) h in
    let p1 = and_parts (is_u32 a) (is_u64 b) p2.0 in
    and_from _ _ (wide a p1.0) (and_from _ _ p1.1 (and_from _ _ p2.1 refl))

small_two_large-found : (a b c : ℕ) → (is_u32 a && is_u64 b && is_u64 c) ≡ true
    → small_two_large (a ∷ b ∷ c ∷ []) ≡ Some (a, b, c)
small_two_large-found a b c h =
    let p2 = and_parts (is_u32 a && is_u64 b) (is_u64 c) h in
    let p1 = and_parts (is_u32 a) (is_u64 b) p2.0 in
    rw p1.0 refl

drained-wide : (a b c d : ℕ) → (is_u32 a && is_u64 b && is_u32 c && is_u64 d) ≡ true → list_all is_u64 (a ∷ b ∷ c ∷ d ∷ []) ≡ true
drained-wide a b c d h =
    let p3 = and_parts (is_u32 a && is_u64 b && is_u32 c) (is_u64 d) h in
    let p2 = and_parts (is_u32 a && is_u64 b) (is_u32 c) p3.0 in
    let p1 = and_parts (is_u32 a) (is_u64 b) p2.0 in
    and_from _ _ (wide a p1.0) (and_from _ _ p1.1 (and_from _ _ (wide c p2.1) (and_from _ _ p3.1 refl)))

drained-found : (a b c d : ℕ) → (is_u32 a && is_u64 b && is_u32 c && is_u64 d) ≡ true
    → drained (a ∷ b ∷ c ∷ d ∷ []) ≡ Some (a, b, c, d)
drained-found a b c d h =
    let p3 = and_parts (is_u32 a && is_u64 b && is_u32 c) (is_u64 d) h in
    let p2 = and_parts (is_u32 a && is_u64 b) (is_u32 c) p3.0 in
    let p1 = and_parts (is_u32 a) (is_u64 b) p2.0 in
    rw (p1.0, p2.1) refl

carried-wide : (a b c d e : ℕ) → (is_u32 a && is_u64 b && is_u32 c && is_u64 d && is_u32 e) ≡ true
    → list_all is_u64 (a ∷ b ∷ c ∷ d ∷ e ∷ []) ≡ true
carried-wide a b c d e h =
    let p4 = and_parts (is_u32 a && is_u64 b && is_u32 c && is_u64 d) (is_u32 e) h in
    let p3 = and_parts (is_u32 a && is_u64 b && is_u32 c) (is_u64 d) p4.0 in
    let p2 = and_parts (is_u32 a && is_u64 b) (is_u32 c) p3.0 in
    let p1 = and_parts (is_u32 a) (is_u64 b) p2.0 in
    and_from _ _ (wide a p1.0)
    (and_from _ _ p1.1 (and_from _ _ (wide c p2.1) (and_from _ _ p3.1 (and_from _ _ (wide e p4.1) refl))))

carried-found : (a b c d e : ℕ) → (is_u32 a && is_u64 b && is_u32 c && is_u64 d && is_u32 e) ≡ true
    → carried (a ∷ b ∷ c ∷ d ∷ e ∷ []) ≡ Some (a, b, c, d, e)
carried-found a b c d e h =
    let p4 = and_parts (is_u32 a && is_u64 b && is_u32 c && is_u64 d) (is_u32 e) h in
    let p3 = and_parts (is_u32 a && is_u64 b && is_u32 c) (is_u64 d) p4.0 in
    let p2 = and_parts (is_u32 a && is_u64 b) (is_u32 c) p3.0 in
    let p1 = and_parts (is_u32 a) (is_u64 b) p2.0 in
    rw (p1.0, p2.1, p4.1) refl

pub numbers_wide : (line : Line) → fits line ≡ true → list_all is_u64 (line_numbers line) ≡ true
numbers_wide (line.Round round) e = one_small-wide round e
numbers_wide (line.Hear due) e = and_from _ _ e refl
numbers_wide line.Breath e = refl
numbers_wide (line.Attach lane found) e = small_large-wide lane found e
numbers_wide (line.Unattached lane loaded found) e = small_two_large-wide lane loaded found e
numbers_wide (line.Detach lane old) e = small_large-wide lane old e
numbers_wide (line.Reset lane) e = one_small-wide lane e
numbers_wide (line.Seen lane seen) e = two_small-wide lane seen e
numbers_wide (line.Room lane room) e = two_small-wide lane room e
numbers_wide (line.Put lane at packet turn len) e = carried-wide lane at packet turn len e
numbers_wide (line.Take lane at packet turn len) e = carried-wide lane at packet turn len e
numbers_wide (line.Drain lane at packet turn) e = drained-wide lane at packet turn e
numbers_wide (line.Got packet turn) e = small_large-wide packet turn e
numbers_wide line.Dry e = refl
numbers_wide (line.Gave packet turn) e = small_large-wide packet turn e
numbers_wide (line.Full packet turn) e = small_large-wide packet turn e
numbers_wide (line.Worn packet turn) e = small_large-wide packet turn e
numbers_wide line.Spent e = refl
numbers_wide line.Stop e = refl
numbers_wide line.Close e = refl
numbers_wide line.Reclaimed e = refl
numbers_wide line.Restart e = refl

-- so each kind takes the numbers of its lines
pub line_found : (line : Line) → fits line ≡ true → line_from (line_kind line) (line_numbers line) ≡ Some line
line_found (line.Round round) e = ap (option_map line.Round) (one_small-found round e)
line_found (line.Hear due) e = refl
line_found line.Breath e = refl
line_found (line.Attach lane found) e = ap (option_map (λ x. line.Attach x.0 x.1)) (small_large-found lane found e)
line_found (line.Unattached lane loaded found) e =
    ap (option_map (λ x. line.Unattached x.0 x.1 x.2)) (small_two_large-found lane loaded found e)
line_found (line.Detach lane old) e = ap (option_map (λ x. line.Detach x.0 x.1)) (small_large-found lane old e)
line_found (line.Reset lane) e = ap (option_map line.Reset) (one_small-found lane e)
line_found (line.Seen lane seen) e = ap (option_map (λ x. line.Seen x.0 x.1)) (two_small-found lane seen e)
line_found (line.Room lane room) e = ap (option_map (λ x. line.Room x.0 x.1)) (two_small-found lane room e)
line_found (line.Put lane at packet turn len) e =
    ap (option_map (λ x. line.Put x.0 x.1 x.2 x.3 x.4)) (carried-found lane at packet turn len e)
line_found (line.Take lane at packet turn len) e =
    ap (option_map (λ x. line.Take x.0 x.1 x.2 x.3 x.4)) (carried-found lane at packet turn len e)
line_found (line.Drain lane at packet turn) e =
    ap (option_map (λ x. line.Drain x.0 x.1 x.2 x.3)) (drained-found lane at packet turn e)
line_found (line.Got packet turn) e = ap (option_map (λ x. line.Got x.0 x.1)) (small_large-found packet turn e)
line_found line.Dry e = refl
line_found (line.Gave packet turn) e = ap (option_map (λ x. line.Gave x.0 x.1)) (small_large-found packet turn e)
line_found (line.Full packet turn) e = ap (option_map (λ x. line.Full x.0 x.1)) (small_large-found packet turn e)
line_found (line.Worn packet turn) e = ap (option_map (λ x. line.Worn x.0 x.1)) (small_large-found packet turn e)
line_found line.Spent e = refl
line_found line.Stop e = refl
line_found line.Close e = refl
line_found line.Reclaimed e = refl
line_found line.Restart e = refl
