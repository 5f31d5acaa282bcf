use Rattle.std.proofs.Common.{◌≡◌, ℕ, ◌+◌, ◌==◌, cond, ◌≤◌, ◌∷◌, ◌++◌, [], List, Option, Some, None, IfSome, option_to_list, get_or, ap, sym, arith, ◌∙◌, unwrap_or, rules}
use Rattle.sn_packet.specs.Hold.{among, one_if, put_at}
use Rattle.sn_packet.specs.Packet.{PacketState, no_packet}
use Rattle.sn_packet.proofs.FreePlaces.{among_last, one_if-least}
use Rattle.sn_packet.proofs.Views.{used_in, frees_in, slots_at, used_unlisted, frees_listed}
use Rattle.sn_packet.proofs.hold.Hold.take_free.Goals as goal

-- a place that stood last, and stood once, stands there no more
last_once : (slots : List (Option PacketState)) (before after : List ℕ) (result : Option ℕ) → ((place : ℕ) → among before place ≤ one_if (get_or slots place None)) → before ≡ after ++ option_to_list result → IfSome result (λ place. among after place ≡ 0)
last_once slots before after None once items = search rules
last_once slots before after (Some place) once items =
    omega (arith, among_last place after, ap (λ places. among places place) items, once place, one_if-least (get_or slots place None))

-- and wasn't used
last_unused : (slots : List (Option PacketState)) (before after : List ℕ) (result : Option ℕ) → IfSome result (λ place. among after place ≡ 0) → before ≡ after ++ option_to_list result → IfSome result (λ place. used_in slots before place ≡ None)
last_unused slots before after None once items = search rules
last_unused slots before after (Some place) once items =
    let listed : among before place ≡ 1 = ap (λ places. among places place) items ∙ among_last place after ∙ ap (λ n. n + 1) once in
    ap (λ n. cond (n == 0) (slots_at slots place) None) listed

-- the packet at the place that stood last is used now
last_used : (slots : List (Option PacketState)) (before after : List ℕ) (result : Option ℕ) → IfSome result (λ place. among after place ≡ 0) → before ≡ after ++ option_to_list result → IfSome result (λ place. used_in slots after ≡ put_at place (slots_at slots place) (used_in slots before))
last_used slots before after None once items = search rules
last_used slots before after (Some place) once items =
    used_unlisted slots after place once ∙ ap (λ places. put_at place (slots_at slots place) (used_in slots places)) (sym items)

-- and was the free packet that stood last
last_free : (slots : List (Option PacketState)) (before after : List ℕ) (result : Option ℕ) → before ≡ after ++ option_to_list result → IfSome result (λ place. frees_in slots before ≡ frees_in slots after ++ unwrap_or (slots_at slots place) no_packet ∷ [])
last_free slots before after None items = search rules
last_free slots before after (Some place) items = ap (frees_in slots) items ∙ frees_listed slots after place

pub returns-clause-once : goal.returns-clause-once
returns-clause-once c =
    last_once c.self.inside.cells.slots c.self.inside.free.items c.pop.new.self.items c.pop.result c.self.invariant.once c.pop.ensures.items

pub returns-clause-was_free : goal.returns-clause-was_free
returns-clause-was_free c =
    rw (sym c.self.view_is)
    (last_unused c.self.inside.cells.slots c.self.inside.free.items c.pop.new.self.items c.pop.result (returns-clause-once c) c.pop.ensures.items)

pub returns-clause-used : goal.returns-clause-used
returns-clause-used c =
    rw (sym c.self.view_is)
    (last_used c.self.inside.cells.slots c.self.inside.free.items c.pop.new.self.items c.pop.result (returns-clause-once c) c.pop.ensures.items)

pub returns-clause-frees : goal.returns-clause-frees
returns-clause-frees c =
    rw (sym c.self.view_is)
    (last_free c.self.inside.cells.slots c.self.inside.free.items c.pop.new.self.items c.pop.result c.pop.ensures.items)
