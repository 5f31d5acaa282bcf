use Rattle.std.proofs.Common.{ap, length, subst, ◌≡◌, ◌++◌, ◌∷◌, [], ◌∙◌}
use Rattle.sn_channel.specs.Ends.{ListenerLog}
use Rattle.sn_sharing.specs.Seating.{IsSeatedWith}
use Rattle.sn_sharing.proofs.seating.seat_worker.Goals as goal

pub returns : goal.returns
returns c =
    let form = c.args.scenario.now in
    let old = c.args.seated.now in
    let channel = c.in_ok-channel.channel in
    let seat = c.in_ok-seat.seat in
    let number : c.len-worker.result ≡ length old.seats.items = c.len-worker.ensures ∙ old.seats.ok.0 in
    let of : c.in_ok-channel.listener.channel ≡ channel =
    ap (λ (l : ListenerLog). l.channel) c.in_ok-channel.ensures.listener in
    record {
      channel = channel;
      seat = seat;
      channels = c.in_ok-push.ensures.items;
      speakers = c.in_ok-push-2.ensures.items ∙ ap (λ s. old.speakers.items ++ s ∷ []) c.in_ok-channel.ensures.speaker;
      seats = c.in_ok-push-3.ensures.items;
      is =
          subst (λ n. IsSeatedWith form n c.args.ends c.args.group.group channel seat) number
          (subst (λ x. IsSeatedWith form c.len-worker.result c.args.ends c.args.group.group x seat) of c.in_ok-seat.ensures);
    }
