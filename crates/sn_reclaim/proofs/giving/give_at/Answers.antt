use Rattle.std.proofs.Common.{rules, ◌≡◌, ◌∙◌, Err, IsSome, ap, refl, subst, sym}
use Rattle.sn_app.specs.Desk.{name_of}
use Rattle.sn_app.specs.World.{packet_at}
use Rattle.sn_seat.specs.GiveSteps.{gave_entry, is_worn_gave}
use Rattle.sn_seat.specs.Trays.{captures_of, seat_tray, seat_used}
use Rattle.sn_seat.specs.declared.gave.Gave.TheVariants.{Done, Full, Worn}
use Rattle.sn_reclaim.specs.Attempts.{give_or_end}
use Rattle.sn_reclaim.proofs.Givings.{done_reads, freed_after, full_reads, leaves_freed, lost_ends, noted_as, one_more}
use Rattle.sn_reclaim.proofs.Givings.{used_full, used_worn, worn_reads}
use Rattle.sn_reclaim.proofs.giving.give_at.Goals as goal

pub returns-in_err-give_back-clause-reads : goal.returns-in_err-give_back-clause-reads
returns-in_err-give_back-clause-reads c =
    let is : c.from_residual.result ≡ Err c.in_err-give_back.field-0.0 = search rules in
    rw is (lost_ends give_or_end c.in_err-give_back.ensures.leaves)

pub returns-in-Done-clause-reads : goal.returns-in-Done-clause-reads
returns-in-Done-clause-reads c =
    let t = seat_tray (captures_of c.args.shared.now) c.args.seat.now in
    let p = packet_at (seat_used c.args.seat.now) c.args.place in
    done_reads t _ (λ e. refl) p (noted_as t {kept = Done} p c.in_ok-give_back.ensures.noted c.in-Done.is)

pub free-requires : goal.free-requires
free-requires c =
    let same = used_full c.args.place c.in_ok-give_back.ensures.used c.in-Full.is in
    subst (λ u. IsSome (u c.args.place)) (sym same) c.requires.place

pub returns-in-Full-clause-reads : goal.returns-in-Full-clause-reads
returns-in-Full-clause-reads c =
    let caps = captures_of c.args.shared.now in
    let t = seat_tray caps c.args.seat.now in
    let p = packet_at (seat_used c.args.seat.now) c.args.place in
    let gave = c.in_ok-give_back.ensures in
    let now = freed_after t (seat_tray caps c.give_back.new.self) c.args.place (gave_entry p Full) (c.free.ensures.tray caps)
    (used_full c.args.place gave.used c.in-Full.is) (noted_as t {kept = Full} p gave.noted c.in-Full.is) in
    full_reads t _ (λ e. refl) p now

pub returns-in-Full-clause-one_more : goal.returns-in-Full-clause-one_more
returns-in-Full-clause-one_more c =
    let caps = captures_of c.args.shared.now in
    let t = seat_tray caps c.args.seat.now in
    let p = packet_at (seat_used c.args.seat.now) c.args.place in
    let gave = c.in_ok-give_back.ensures in
    one_more t {v = seat_tray caps c.free.new.self} (name_of p) (gave_entry p Full)
    (freed_after t (seat_tray caps c.give_back.new.self) c.args.place (gave_entry p Full) (c.free.ensures.tray caps)
    (used_full c.args.place gave.used c.in-Full.is) (noted_as t {kept = Full} p gave.noted c.in-Full.is))

pub returns-in-Full-clause-held : goal.returns-in-Full-clause-held
returns-in-Full-clause-held c = λ q differs.
    ap (λ slots. slots q) c.free.ensures.held ∙ c.in_ok-give_back.ensures.held q differs

pub returns-in-Full-clause-leaves : goal.returns-in-Full-clause-leaves
returns-in-Full-clause-leaves c =
    let caps = captures_of c.args.shared.now in
    let t = seat_tray caps c.args.seat.now in
    let p = packet_at (seat_used c.args.seat.now) c.args.place in
    let gave = c.in_ok-give_back.ensures in
    leaves_freed t {v = seat_tray caps c.free.new.self} (name_of p) (gave_entry p Full)
    (freed_after t (seat_tray caps c.give_back.new.self) c.args.place (gave_entry p Full) (c.free.ensures.tray caps)
    (used_full c.args.place gave.used c.in-Full.is) (noted_as t {kept = Full} p gave.noted c.in-Full.is))

pub free-requires-in-Worn : goal.free-requires-in-Worn
free-requires-in-Worn c =
    let same = used_worn c.args.place c.in_ok-give_back.ensures.used c.in-Worn.is in
    subst (λ u. IsSome (u c.args.place)) (sym same) c.requires.place

pub returns-in-Worn-clause-reads : goal.returns-in-Worn-clause-reads
returns-in-Worn-clause-reads c =
    let caps = captures_of c.args.shared.now in
    let t = seat_tray caps c.args.seat.now in
    let p = packet_at (seat_used c.args.seat.now) c.args.place in
    let gave = c.in_ok-give_back.ensures in
    let now = freed_after t (seat_tray caps c.give_back.new.self) c.args.place (gave_entry p Worn)
    (c.free-in-Worn.ensures.tray caps) (used_worn c.args.place gave.used c.in-Worn.is)
    (noted_as t {kept = Worn} p gave.noted c.in-Worn.is) in
    worn_reads t _ (λ e. refl) p (gave.worn ∙ ap is_worn_gave c.in-Worn.is) now

pub returns-in-Worn-clause-one_more : goal.returns-in-Worn-clause-one_more
returns-in-Worn-clause-one_more c =
    let caps = captures_of c.args.shared.now in
    let t = seat_tray caps c.args.seat.now in
    let p = packet_at (seat_used c.args.seat.now) c.args.place in
    let gave = c.in_ok-give_back.ensures in
    one_more t {v = seat_tray caps c.free-in-Worn.new.self} (name_of p) (gave_entry p Worn)
    (freed_after t (seat_tray caps c.give_back.new.self) c.args.place (gave_entry p Worn) (c.free-in-Worn.ensures.tray caps)
    (used_worn c.args.place gave.used c.in-Worn.is) (noted_as t {kept = Worn} p gave.noted c.in-Worn.is))

pub returns-in-Worn-clause-held : goal.returns-in-Worn-clause-held
returns-in-Worn-clause-held c = λ q differs.
    ap (λ slots. slots q) c.free-in-Worn.ensures.held ∙ c.in_ok-give_back.ensures.held q differs

pub returns-in-Worn-clause-leaves : goal.returns-in-Worn-clause-leaves
returns-in-Worn-clause-leaves c =
    let caps = captures_of c.args.shared.now in
    let t = seat_tray caps c.args.seat.now in
    let p = packet_at (seat_used c.args.seat.now) c.args.place in
    let gave = c.in_ok-give_back.ensures in
    leaves_freed t {v = seat_tray caps c.free-in-Worn.new.self} (name_of p) (gave_entry p Worn)
    (freed_after t (seat_tray caps c.give_back.new.self) c.args.place (gave_entry p Worn) (c.free-in-Worn.ensures.tray caps)
    (used_worn c.args.place gave.used c.in-Worn.is) (noted_as t {kept = Worn} p gave.noted c.in-Worn.is))
