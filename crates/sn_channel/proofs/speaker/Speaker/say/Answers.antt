use Rattle.std.proofs.Common.{rules, ap, ◌∙◌, sym, subst, ◌≤◌}
use Rattle.sn_channel.specs.Ends.{SpeakerLog, last_said}
use Rattle.sn_channel.proofs.Keeps.{says_as, speaks_on, last_said-push}
use Rattle.sn_channel.proofs.speaker.Speaker.say.Goals as goal

pub fetch_max-requires : goal.fetch_max-requires
fetch_max-requires c = (search rules, search rules, says_as _ _ _ _ _ c.self.invariant (subst (λ (log : SpeakerLog). last_said log.said ≤ c.args.n) (sym c.self.view_is) c.requires.rising))

pub invariant_of-self : goal.invariant_of-self
invariant_of-self c = speaks_on _ _ _ c.self.invariant c.fetch_max.ensures.2

pub returns-clause-last : goal.returns-clause-last
returns-clause-last c = ap (λ m. last_said m.0.said) c.fetch_max.ensures.2 ∙ last_said-push c.self.inside.seat.me.0.said c.args.n
