-- The words that lines begin with.
use Rattle.std.specs.Prelude.{List, None, Option, Some, codes, cond, ℕ}
use Rattle.std.specs.Str.{bytes_eq}
use Rattle.sn_scenario.specs.declared.kind.Kind.{Kind}
use Rattle.sn_scenario.specs.declared.kind.Kind.TheVariants as kind
use Rattle.sn_scenario.specs.declared.kind.Setting.{Setting}
use Rattle.sn_scenario.specs.declared.kind.Setting.TheVariants as setting

unfoldable pub setting_of : List ℕ → Option Setting
setting_of word =
    cond (bytes_eq word (codes "pool")) (Some setting.Pool)
    (cond (bytes_eq word (codes "workers")) (Some setting.Workers)
    (cond (bytes_eq word (codes "breaths")) (Some setting.Breaths)
    (cond (bytes_eq word (codes "rounds")) (Some setting.Rounds)
    (cond (bytes_eq word (codes "restarts")) (Some setting.Restarts)
    (cond (bytes_eq word (codes "journal")) (Some setting.Journal) None)))))

abbrev pub other_kind : List ℕ → Option Kind
other_kind word =
    cond (bytes_eq word (codes "interlink")) (Some kind.Interlink)
    (cond (bytes_eq word (codes "config")) (Some kind.Config)
    (cond (bytes_eq word (codes "app")) (Some kind.App)
    (cond (bytes_eq word (codes "link")) (Some kind.Link)
    (cond (bytes_eq word (codes "end")) (Some kind.End)
    (cond (bytes_eq word (codes "stop")) (Some kind.Stop) None)))))

unfoldable pub kind_of : List ℕ → Option Kind
kind_of word = elim (setting_of word) [ Some s ↦ Some (kind.Setting s) | None ↦ other_kind word ]
