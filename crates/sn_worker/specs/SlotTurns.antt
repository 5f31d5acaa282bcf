-- What a turn of a slot, a round of it, and its closing mean.
use Rattle.std.specs.Prelude.{ℕ, ◌&&◌, Bool, true, false, not, List, nat_le}
use Rattle.std.specs.List.{list_all}
use Rattle.sn_actions.specs.declared.action.Action.{Action}
use Rattle.sn_app.specs.Desk.{Desk}
use Rattle.sn_app.specs.Reader.{Meaning, pure, refused, ◌>>=◌, change, look, read, stepping}
use Rattle.sn_app.specs.Rows.{row_hear, ◌>>◌}
use Rattle.sn_breath.specs.Breaths.{folding}
use Rattle.sn_reclaim.specs.Attempts.{attempt}
use Rattle.sn_seat.specs.Told.{of_channel}
use Rattle.sn_wiring.specs.Lost.{lost}
use Rattle.sn_worker.specs.Giving.{gives_after}
use Rattle.sn_worker.specs.Lives.{Life, next_actions, takes}
use Rattle.sn_worker.specs.Own.{a_close, a_round, is_full}
use Rattle.sn_worker.specs.Slots.{SlotLife, after_breath}
use Rattle.sn_worker.specs.Turns.{breathes, last_turn}

-- what was read may not stand there
unfoldable pub refuse : {R : Type 0} → Meaning R
refuse d entries = refused d entries

-- So many actions may be heard to be due: at least so many as were said before, and never fewer than were heard before.
abbrev pub may_hear : ℕ → Desk → ℕ → Bool
may_hear floor d n = nat_le floor n && list_all (λ before. nat_le before n) (of_channel d.tray.log.past)

unfoldable pub heard_where : Bool → ℕ → Meaning ℕ
heard_where true n = pure n
heard_where false n = refuse

-- how many actions are due is heard
unfoldable pub hears : ℕ → Meaning ℕ
hears floor = look (λ d. row_hear >>= (λ n. heard_where (may_hear floor d n) n))

-- the next of the actions that are due are taken, and the network breathes
unfoldable pub acting : List Action → Life → ℕ → Meaning Life
acting plan life due = folding (next_actions plan due life.taken) takes life >>= breathes plan

-- the network breathed, and with each hundred breaths packets are given back
unfoldable pub rests : ℕ → ℕ → Life → Meaning SlotLife
rests keep breathed life = gives_after keep breathed >> pure (record { life = life; breathed = breathed })

-- a turn where the journal isn't full
unfoldable pub slot_work : List Action → ℕ → ℕ → SlotLife → Meaning SlotLife
slot_work plan floor keep s = hears floor >>= acting plan s.life >>= rests keep (after_breath s.breathed)

-- and where it is
unfoldable pub slot_last : SlotLife → Meaning SlotLife
slot_last s = last_turn s.life >>= (λ life. pure (record s { life = life }))

unfoldable pub slot_turn_where : Bool → List Action → ℕ → ℕ → SlotLife → Meaning SlotLife
slot_turn_where true plan floor keep s = slot_last s
slot_turn_where false plan floor keep s = slot_work plan floor keep s

unfoldable pub slot_turn : List Action → ℕ → ℕ → SlotLife → Meaning SlotLife
slot_turn plan floor keep s = look (λ d. slot_turn_where (is_full d.tray) plan floor keep s)

-- a turn that goes on as long as the worker isn't spent
unfoldable pub until_spent : SlotLife → Meaning (Bool × SlotLife)
until_spent s = pure (not s.life.spent, s)

unfoldable pub one_slot_turn : List Action → ℕ → ℕ → SlotLife → Meaning (Bool × SlotLife)
one_slot_turn plan floor keep s = slot_turn plan floor keep s >>= until_spent

-- A round of a slot: its number, and then so many turns, the last one where the worker is spent.
unfoldable pub slot_round : List Action → ℕ → ℕ → ℕ → ℕ → SlotLife → Meaning SlotLife
slot_round plan breaths floor keep number s =
    read (a_round number) >> stepping breaths (one_slot_turn plan floor keep) s

-- A slot is closed: this is noted, its worker's network is lost, and what its seat holds is reclaimed.
unfoldable pub slot_closes : Meaning Unit
slot_closes = read a_close >> change lost >> attempt
