-- The logs of a legal history put, take and drain each position once and in order, session by session.
use Rattle.std.proofs.Common.{◌≡◌, ◌≤◌, ℕ, suc, ◌+◌, Bool, true, false, List, [], ◌∷◌, ◌++◌, length, drop, refl, sym, ap, ap₂, ◌∙◌, arith}
use Rattle.std.proofs.lemmas.List.{append-nil, length-append, append_assoc}
use Rattle.sn_core.specs.declared.events.Side.{Side}
use Rattle.sn_core.specs.declared.events.Side.TheVariants.{Tx, Rx}
use Rattle.sn_packet.specs.Packet.{PacketState}
use Rattle.sn_interlink.specs.declared.entry.LaneEntry.{LaneEntry}
use Rattle.sn_interlink.specs.declared.entry.LaneEntry.TheVariants.{Attach, Unattached, Detach, Reset, Seen, Room, Put, Take, Drain}
use Rattle.sn_interlink.specs.Course.{Course, Deed, looks, attaches, misses, detaches, resets, sees, rooms, puts, takes, drains, after, AreNext, Enabled, History, course, Legal, Sane, entries_of, if_own, log_of}
use Rattle.sn_interlink.specs.Receipt.{numbered, put_by, taken_by, drained_by, all_by, Way, by_take, by_drain, is_take, is_drain, if_so, chosen, total_by}
use Rattle.sn_interlink.proofs.Machine.{sane}
use Rattle.sn_interlink.proofs.Hands.{side_differs}

-- LISTS

numbered-append : (k : ℕ) (ps qs : List PacketState) → numbered k (ps ++ qs) ≡ numbered k ps ++ numbered (k + length ps) qs
numbered-append k [] qs = ap (λ n. numbered n qs) (omega arith)
numbered-append k (p ∷ ps) qs = ap (λ l. (k, p) ∷ l) (numbered-append (k + 1) ps qs ∙ ap (λ n. numbered (k + 1) ps ++ numbered n qs) (omega arith))

all_by-append : (f : LaneEntry → List (ℕ × PacketState)) (xs ys : List LaneEntry) → all_by f (xs ++ ys) ≡ all_by f xs ++ all_by f ys
all_by-append f [] ys = refl
all_by-append f (x ∷ xs) ys = ap (λ l. f x ++ l) (all_by-append f xs ys) ∙ sym (append_assoc (f x) (all_by f xs) (all_by f ys))

pub total_by-append : (f : LaneEntry → ℕ) (xs ys : List LaneEntry) → total_by f (xs ++ ys) ≡ total_by f xs + total_by f ys
total_by-append f [] ys = omega arith
total_by-append f (x ∷ xs) ys = let e = total_by-append f xs ys in omega (arith, e)

-- so many ways alike
unfoldable pub ways_by : Way → List PacketState → List Way
ways_by way [] = []
ways_by way (p ∷ ps) = way ∷ ways_by way ps

pub length-ways_by : (way : Way) (ps : List PacketState) → length (ways_by way ps) ≡ length ps
unfolding ways_by
length-ways_by way [] = refl
length-ways_by way (p ∷ ps) = ap suc (length-ways_by way ps)

-- packets behind those that were received change nothing
chosen-more : (test : Way → Bool) (k : ℕ) (ws : List Way) (ps qs : List PacketState) → length ws ≤ length ps → chosen test k ws (ps ++ qs) ≡ chosen test k ws ps
chosen-more test k [] ps qs le = refl
chosen-more test k (w ∷ ws) [] qs le = absurd (omega arith)
chosen-more test k (w ∷ ws) (p ∷ ps) qs le = ap (λ l. if_so (test w) (k, p) ++ l) (chosen-more test (k + 1) ws ps qs (omega arith))

chosen-append : (test : Way → Bool) (k : ℕ) (ws vs : List Way) (ps : List PacketState) → length ws ≤ length ps
    → chosen test k (ws ++ vs) ps ≡ chosen test k ws ps ++ chosen test (k + length ws) vs (drop (length ws) ps)
chosen-append test k [] vs ps le = ap (λ n. chosen test n vs ps) (omega arith)
chosen-append test k (w ∷ ws) vs [] le = absurd (omega arith)
chosen-append test k (w ∷ ws) vs (p ∷ ps) le =
    ap (λ l. if_so (test w) (k, p) ++ l) (chosen-append test (k + 1) ws vs ps (omega arith))
    ∙ sym (append_assoc (if_so (test w) (k, p)) (chosen test (k + 1) ws ps) (chosen test (k + 1 + length ws) vs (drop (length ws) ps)))
    ∙ ap (λ n. (if_so (test w) (k, p) ++ chosen test (k + 1) ws ps) ++ chosen test n vs (drop (length ws) ps)) (omega arith)

abbrev if_list : Bool → List (ℕ × PacketState) → List (ℕ × PacketState)
if_list true l = l
if_list false l = []

chosen-alike : (test : Way → Bool) (way : Way) (b : Bool) → test way ≡ b → (k : ℕ) (ps rest : List PacketState) → chosen test k (ways_by way ps) (ps ++ rest) ≡ if_list b (numbered k ps)
unfolding ways_by
chosen-alike test way true e k [] rest = refl
chosen-alike test way false e k [] rest = refl
chosen-alike test way true e k (p ∷ ps) rest = ap₂ (λ b l. if_so b (k, p) ++ l) e (chosen-alike test way true e (k + 1) ps rest)
chosen-alike test way false e k (p ∷ ps) rest = ap₂ (λ b l. if_so b (k, p) ++ l) e (chosen-alike test way false e (k + 1) ps rest)

-- HOW POSITIONS WERE RECEIVED

unfoldable pub new_ways : Side → Deed → List Way
new_ways side looks = []
new_ways side (attaches word) = []
new_ways side (misses seen found) = []
new_ways side (detaches word) = []
new_ways side resets = []
new_ways side (sees n) = []
new_ways side (rooms n) = []
new_ways side (puts place packets) = []
new_ways side (takes place packets) = ways_by by_take packets
new_ways side (drains place packets) = ways_by (by_drain side) packets

unfoldable pub ways_of : History → List Way
ways_of [] = []
ways_of (e ∷ es) = ways_of es ++ new_ways e.0 e.1

length_new : (side : Side) (d : Deed) (c : Course) → c.read + length (new_ways side d) ≡ (after side d c).read
unfolding new_ways
length_new side looks c = omega arith
length_new Tx (attaches word) c = omega arith
length_new Rx (attaches word) c = omega arith
length_new side (misses seen found) c = omega arith
length_new Tx (detaches word) c = omega arith
length_new Rx (detaches word) c = omega arith
length_new side resets c = omega arith
length_new side (sees n) c = omega arith
length_new side (rooms n) c = omega arith
length_new side (puts place packets) c = omega arith
length_new side (takes place packets) c = ap (λ n. c.read + n) (length-ways_by by_take packets)
length_new side (drains place packets) c = ap (λ n. c.read + n) (length-ways_by (by_drain side) packets)

pub length_ways : (hist : History) → length (ways_of hist) ≡ (course hist).read
unfolding ways_of
length_ways [] = refl
length_ways (e ∷ es) =
    let a = length-append (ways_of es) (new_ways e.0 e.1) in
    let b = length_ways es in
    let c = length_new e.0 e.1 (course es) in
    omega (arith, a, b, c)

-- WHAT WAS PUT

put_step : (d : Deed) (c : Course) → Enabled Tx d c → numbered 0 c.puts ++ all_by put_by (entries_of d) ≡ numbered 0 (after Tx d c).puts
put_step looks c en = append-nil (numbered 0 c.puts)
put_step (attaches word) c en = append-nil (numbered 0 c.puts)
put_step (misses seen found) c en = append-nil (numbered 0 c.puts)
put_step (detaches word) c en = append-nil (numbered 0 c.puts)
put_step resets c en = append-nil (numbered 0 c.puts)
put_step (sees n) c en = append-nil (numbered 0 c.puts)
put_step (rooms n) c en = append-nil (numbered 0 c.puts)
put_step (puts place packets) c en =
    ap (λ l. numbered 0 c.puts ++ l) (append-nil (numbered place packets) ∙ ap (λ n. numbered n packets) (let e = en.next in omega (arith, e))) ∙ sym (numbered-append 0 c.puts packets)
put_step (takes place packets) c en = append-nil (numbered 0 c.puts)
put_step (drains place packets) c en = append-nil (numbered 0 c.puts)

puts_same : (d : Deed) (c : Course) → Enabled Rx d c → (after Rx d c).puts ≡ c.puts
puts_same looks c en = refl
puts_same (attaches word) c en = refl
puts_same (misses seen found) c en = refl
puts_same (detaches word) c en = refl
puts_same resets c en = refl
puts_same (sees n) c en = refl
puts_same (rooms n) c en = refl
puts_same (puts place packets) c en = absurd (side_differs (sym en.whose))
puts_same (takes place packets) c en = refl
puts_same (drains place packets) c en = refl

pub all_put : (hist : History) → Legal hist → all_by put_by (log_of Tx hist) ≡ numbered 0 (course hist).puts
all_put [] legal = refl
all_put ((Tx, d) ∷ es) legal = all_by-append put_by (log_of Tx es) (entries_of d) ∙ ap (λ l. l ++ all_by put_by (entries_of d)) (all_put es legal.1) ∙ put_step d (course es) legal.0
all_put ((Rx, d) ∷ es) legal = ap (all_by put_by) (append-nil (log_of Tx es)) ∙ all_put es legal.1 ∙ ap (numbered 0) (sym (puts_same d (course es) legal.0))

-- WHAT WAS RECEIVED

abbrev new_received : (Way → Bool) → Side → Deed → List (ℕ × PacketState)
new_received test side looks = []
new_received test side (attaches word) = []
new_received test side (misses seen found) = []
new_received test side (detaches word) = []
new_received test side resets = []
new_received test side (sees n) = []
new_received test side (rooms n) = []
new_received test side (puts place packets) = []
new_received test side (takes place packets) = if_list (test by_take) (numbered place packets)
new_received test side (drains place packets) = if_list (test (by_drain side)) (numbered place packets)

nothing_own : (f : LaneEntry → List (ℕ × PacketState)) (side by : Side) (es : List LaneEntry) → all_by f es ≡ [] → all_by f (if_own side by es) ≡ []
nothing_own f Tx Tx es e = e
nothing_own f Tx Rx es e = refl
nothing_own f Rx Tx es e = refl
nothing_own f Rx Rx es e = e

pub taken_step : (by : Side) (d : Deed) (c : Course) → Enabled by d c → all_by taken_by (if_own Rx by (entries_of d)) ≡ new_received is_take by d
taken_step by looks c en = nothing_own taken_by Rx by [] refl
taken_step by (attaches word) c en = nothing_own taken_by Rx by (Attach word ∷ []) refl
taken_step by (misses seen found) c en = nothing_own taken_by Rx by (Unattached seen found ∷ []) refl
taken_step by (detaches word) c en = nothing_own taken_by Rx by (Detach word ∷ []) refl
taken_step by resets c en = nothing_own taken_by Rx by (Reset ∷ []) refl
taken_step by (sees n) c en = nothing_own taken_by Rx by (Seen n ∷ []) refl
taken_step by (rooms n) c en = nothing_own taken_by Rx by (Room n ∷ []) refl
taken_step by (puts place packets) c en = nothing_own taken_by Rx by (Put place packets ∷ []) refl
taken_step Tx (takes place packets) c en = absurd (side_differs en.whose)
taken_step Rx (takes place packets) c en = append-nil (numbered place packets)
taken_step by (drains place packets) c en = nothing_own taken_by Rx by (Drain place packets ∷ []) refl

pub drained_step : (side by : Side) (d : Deed) (c : Course) → Enabled by d c → all_by drained_by (if_own side by (entries_of d)) ≡ new_received (is_drain side) by d
drained_step side by looks c en = nothing_own drained_by side by [] refl
drained_step side by (attaches word) c en = nothing_own drained_by side by (Attach word ∷ []) refl
drained_step side by (misses seen found) c en = nothing_own drained_by side by (Unattached seen found ∷ []) refl
drained_step side by (detaches word) c en = nothing_own drained_by side by (Detach word ∷ []) refl
drained_step side by resets c en = nothing_own drained_by side by (Reset ∷ []) refl
drained_step side by (sees n) c en = nothing_own drained_by side by (Seen n ∷ []) refl
drained_step side by (rooms n) c en = nothing_own drained_by side by (Room n ∷ []) refl
drained_step side by (puts place packets) c en = nothing_own drained_by side by (Put place packets ∷ []) refl
drained_step Tx by (takes place packets) c en = nothing_own drained_by Tx by (Take place packets ∷ []) refl
drained_step Rx by (takes place packets) c en = nothing_own drained_by Rx by (Take place packets ∷ []) refl
drained_step Tx Tx (drains place packets) c en = append-nil (numbered place packets)
drained_step Tx Rx (drains place packets) c en = refl
drained_step Rx Tx (drains place packets) c en = refl
drained_step Rx Rx (drains place packets) c en = append-nil (numbered place packets)

-- the list of what was received grows so
module _ (test : Way → Bool) (ws : List Way) (c : Course) (long : length ws ≡ c.read) (s : Sane c) where
  still : (ps : List PacketState) → ps ≡ c.puts → chosen test 0 (ws ++ []) ps ≡ chosen test 0 ws c.puts ++ []
  still ps e = ap₂ (chosen test 0) (append-nil ws) e ∙ sym (append-nil (chosen test 0 ws c.puts))

  received : (way : Way) (place : ℕ) (packets : List PacketState) → AreNext place packets c
      → chosen test 0 (ws ++ ways_by way packets) c.puts ≡ chosen test 0 ws c.puts ++ if_list (test way) (numbered place packets)
  received way place packets what =
      chosen-append test 0 ws (ways_by way packets) c.puts (omega (arith, long, s.order))
      ∙ ap (λ l. chosen test 0 ws c.puts ++ l) (ap₂ (λ n m. chosen test n (ways_by way packets) (drop m c.puts)) (let e = what.next in omega (arith, long, e)) long
      ∙ ap (chosen test place (ways_by way packets)) what.first ∙ chosen-alike test way (test way) refl place packets what.rest)

  grows : (by : Side) (d : Deed) → Enabled by d c → chosen test 0 (ws ++ new_ways by d) (after by d c).puts ≡ chosen test 0 ws c.puts ++ new_received test by d
  unfolding new_ways
  grows by looks en = still c.puts refl
  grows Tx (attaches word) en = still c.puts refl
  grows Rx (attaches word) en = still c.puts refl
  grows by (misses seen found) en = still c.puts refl
  grows Tx (detaches word) en = still c.puts refl
  grows Rx (detaches word) en = still c.puts refl
  grows by resets en = still c.puts refl
  grows by (sees n) en = still c.puts refl
  grows by (rooms n) en = still c.puts refl
  grows by (puts place packets) en =
      ap (λ l. chosen test 0 l (c.puts ++ packets)) (append-nil ws) ∙ chosen-more test 0 ws c.puts packets (omega (arith, long, s.order)) ∙ sym (append-nil (chosen test 0 ws c.puts))
  grows by (takes place packets) en = received by_take place packets en.what
  grows by (drains place packets) en = received (by_drain by) place packets en.what

pub all_received : (f : LaneEntry → List (ℕ × PacketState)) (test : Way → Bool) (side : Side)
    → ((by : Side) (d : Deed) (c : Course) → Enabled by d c → all_by f (if_own side by (entries_of d)) ≡ new_received test by d)
    → (hist : History) → Legal hist → all_by f (log_of side hist) ≡ chosen test 0 (ways_of hist) (course hist).puts
unfolding ways_of
all_received f test Tx step [] legal = refl
all_received f test Rx step [] legal = refl
all_received f test side step ((by, d) ∷ es) legal =
    all_by-append f (log_of side es) (if_own side by (entries_of d))
    ∙ ap₂ (λ a b. a ++ b) (all_received f test side step es legal.1) (step by d (course es) legal.0)
    ∙ sym (grows test (ways_of es) (course es) (length_ways es) (sane es legal.1) by d legal.0)
