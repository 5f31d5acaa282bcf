-- The lines of links.
use Rattle.std.specs.Prelude.{Err, List, None, Ok, Option, Result, Some, ℕ}
use Rattle.sn_config.specs.Configs.{ConfigForm, link_fault, with_link}
use Rattle.sn_config.specs.declared.fault.ConfigFault.{ConfigFault}
use Rattle.sn_config.specs.declared.fault.ConfigFault.TheVariants as refused
use Rattle.sn_scenario.specs.Leaves.{link_of}
use Rattle.sn_scenario.specs.Results.{needed, ◌>>=◌}
use Rattle.sn_scenario.specs.declared.why.Why.{Why}
use Rattle.sn_scenario.specs.declared.why.Why.TheVariants as fault

-- the check that fails where a link isn't added: Twice; NoApp; PortTaken; TooMany
abbrev pub why_not : ConfigFault → Why
why_not refused.Twice = fault.Twice
why_not refused.NoSuchApp = fault.NoApp
why_not refused.BadArg = fault.Arg
why_not refused.PortTaken = fault.PortTaken
why_not refused.TooMany = fault.TooMany
why_not refused.OutOfMemory = fault.TooMany

abbrev pub unless_refused : Option ConfigFault → ConfigForm → Result ConfigForm Why
unless_refused None config = Ok config
unless_refused (Some refusal) config = Err (why_not refusal)

-- Link; then the checks of adding it
unfoldable pub link_line : ConfigForm → List ℕ → Result ConfigForm Why
link_line config text = do
  link ← needed fault.Link (link_of text)
  unless_refused (link_fault config link) (with_link config link)
