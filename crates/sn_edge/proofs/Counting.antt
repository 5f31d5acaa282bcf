-- What a reader counts where there is no capture.
use Rattle.std.proofs.Common.{◌≡◌, ◌≤◌, ℕ, List, [], ap, get_or, length, refl, sym, unwrap_or, ◌∙◌}
use Rattle.std.proofs.lemmas.Option.{slice_get_past, unwrap_or-slice_get}
use Rattle.sn_pcap.specs.Places.{payloads_at, payloads_in}
use Rattle.sn_edge.specs.Unread.{unread_at}

none_left : (at : ℕ) → length (payloads_at [] at) ≡ 0
unfolding payloads_at payloads_in
none_left at = refl

pub none_unread : (capture at : ℕ) (captures : List (List ℕ)) → length captures ≤ capture
    → 0 ≡ unread_at capture at captures
none_unread capture at captures past =
    let e : get_or captures capture [] ≡ [] =
    sym (unwrap_or-slice_get captures capture []) ∙ ap (λ found. unwrap_or found []) (slice_get_past captures capture past) in
    sym (ap (λ bytes. length (payloads_at bytes at)) e ∙ none_left at)
