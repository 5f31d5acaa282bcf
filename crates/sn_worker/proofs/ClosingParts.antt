-- What the closing of a slot reads, from its parts.
use Rattle.std.proofs.Common.{◌≡◌, ℕ, List, [], Option, Ok, true, refl, sym, ap, subst}
use mathlib.Core.Path.{fun_ext}
use Rattle.sn_app.specs.Answers.{Answers, AnswersCase, OnTray, Reads}
use Rattle.sn_app.specs.Desk.{Desk, Queue, Tray, after_entry}
use Rattle.sn_app.specs.Reader.{change, read}
use Rattle.sn_app.specs.World.{Used, desk_of, nowhere, queue_in, world}
use Rattle.sn_app.proofs.Readings.{answers_bind, answers_changed}
use Rattle.sn_journal.specs.declared.entry.Entry.TheVariants.{Close}
use Rattle.sn_link.specs.Link.{Line}
use Rattle.sn_network.specs.Networks.{world_of}
use Rattle.sn_network.specs.declared.network.Network.{Network}
use Rattle.sn_reclaim.specs.Attempts.{attempt}
use Rattle.sn_seat.specs.Trays.{seat_tray, seat_used}
use Rattle.sn_seat.specs.declared.seat.Seat.{Seat}
use Rattle.sn_wiring.specs.Lost.{lost}
use Rattle.sn_worker.specs.Own.{a_close}
use Rattle.sn_worker.specs.SlotTurns.{slot_closes}
use Rattle.sn_worker.proofs.Noting.{runs_noted}

-- no link has a queue
none_queued : (used later : Used) → queue_in used [] ≡ queue_in later []
unfolding queue_in
none_queued used later = fun_ext (λ row. refl)

-- A NETWORK WAS LOST OVER THE SEAT THAT WAS LENT

module _ (network : Network) (seat lent after : Seat) (captures first later : List (List ℕ)) where
  abbrev pub WasLost : Seat → List (List ℕ) → List (List ℕ) → Type 0
  WasLost from there then_there =
      desk_of (world (seat_tray then_there after) (seat_used after) [])
      ≡ lost (desk_of (world_of network (seat_used from) (seat_tray there from)))

  -- the captures stay
  stay_captures : WasLost lent first later → later ≡ first
  unfolding desk_of
  stay_captures e = ap (λ (d : Desk). d.tray.log.constants.captures) e

  pub lost_over : lent ≡ seat → first ≡ captures → WasLost lent first later → WasLost seat captures captures
  lost_over same shared e =
      subst (λ (s : Seat). WasLost s captures captures) same
      (subst (λ cs. WasLost lent cs cs) shared (subst (λ cs. WasLost lent first cs) (stay_captures e) e))

-- ALL PARTS

module _ (t s x y : Tray) (u v w z : Used) (slots later : List (Option Line)) where
  -- the desks after the entry, after the loss, and at the end
  noted_desk : Desk
  noted_desk = desk_of (world s v slots)

  lost_desk : Desk
  lost_desk = desk_of (world x w [])

  end_desk : Desk
  end_desk = desk_of (world y z [])

  was_noted : s ≡ after_entry Close t → t.log.constants.may Close ≡ true → v ≡ u
      → Answers (read a_close) (desk_of (world t u slots)) noted_desk (Ok tt)
  unfolding noted_desk
  was_noted noted may same = (runs_noted a_close Close t s u v slots nowhere refl may noted same).answers

  was_lost : lost_desk ≡ lost noted_desk → Answers (change lost) noted_desk lost_desk (Ok tt)
  was_lost e =
      subst (λ d. Answers (change lost) noted_desk d (Ok tt)) (sym e)
      (answers_changed lost noted_desk refl (record { constants = refl; started = λ file h. h }))

  was_reclaimed : OnTray attempt x y (Ok tt) → Answers attempt lost_desk end_desk (Ok tt)
  unfolding lost_desk end_desk desk_of
  was_reclaimed call =
      subst (λ (queues : ℕ → Option Queue). Answers attempt (record { tray = x; queues = queue_in w [] })
      (record { tray = y; queues = queues }) (Ok tt))
      (none_queued w z) (call.at (queue_in w []))

  all_parts : s ≡ after_entry Close t → t.log.constants.may Close ≡ true → v ≡ u → lost_desk ≡ lost noted_desk
      → OnTray attempt x y (Ok tt) → Reads slot_closes (desk_of (world t u slots)) end_desk tt
  unfolding slot_closes AnswersCase
  all_parts noted may same gone call =
      (answers_bind (λ done. attempt) (answers_bind (λ done. change lost) (was_noted noted may same) (was_lost gone))
      (was_reclaimed call)).by_case

  pub closes_read : s ≡ after_entry Close t → t.log.constants.may Close ≡ true → v ≡ u
      → desk_of (world x w []) ≡ lost (desk_of (world s v slots)) → OnTray attempt x y (Ok tt)
      → world y z later ≡ world y z [] → Reads slot_closes (desk_of (world t u slots)) (desk_of (world y z later)) tt
  unfolding noted_desk lost_desk end_desk
  closes_read noted may same gone call none =
      subst (λ end. Reads slot_closes (desk_of (world t u slots)) (desk_of end) tt) (sym none)
      (all_parts noted may same gone call)
