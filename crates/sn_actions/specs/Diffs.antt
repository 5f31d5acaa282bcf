-- The actions that lead from one configuration to another.
use Rattle.std.specs.Prelude.{Bool, List, None, Option, Some, [], cond, false, filter, flat_map, map, not, true, ℕ, ◌++◌, ◌∷◌, ◌≡◌}
use Rattle.std.specs.Map.{keys_of}
use Rattle.sn_actions.specs.Same.{same_arg, same_class}
use Rattle.sn_actions.specs.declared.action.Action.{Action}
use Rattle.sn_actions.specs.declared.action.Action.TheVariants.{Commit, FreeLink, LinkInput, LinkOutput, NewLink, ReconfigApp, StartApp, StopApp, UnlinkInput, UnlinkOutput}
use Rattle.sn_config.specs.Configs.{ConfigForm, app_at, has_app, has_link}
use Rattle.sn_config.specs.declared.app_spec.AppSpec.{AppSpec}
use Rattle.sn_names.specs.declared.link.LinkSpec.{LinkSpec}

-- a link goes: from its output port, from its input port, and itself
abbrev pub unlinking : LinkSpec → List Action
unlinking link = UnlinkOutput link ∷ UnlinkInput link ∷ FreeLink link ∷ []

-- a link comes: itself, to its output port, and to its input port
abbrev pub linking : LinkSpec → List Action
linking link = NewLink link ∷ LinkOutput link ∷ LinkInput link ∷ []

-- what happens to an app of the new configuration, by what the old one had of its name
abbrev pub change : List ℕ → AppSpec → Option AppSpec → List Action
change name spec None = StartApp name spec ∷ []
change name spec (Some before) =
    cond (same_class before.class spec.class)
    (cond (same_arg before.arg spec.arg) [] (ReconfigApp name spec ∷ []))
    (StopApp name ∷ StartApp name spec ∷ [])

-- whether an app of the new configuration is started, by what each has of its name
abbrev pub starts : Option AppSpec → Option AppSpec → Bool
starts before None = false
starts None (Some spec) = true
starts (Some before) (Some spec) = not (same_class before.class spec.class)

abbrev pub is_started : List (List ℕ × AppSpec) → List (List ℕ × AppSpec) → List ℕ → Bool
is_started old new name = starts (app_at old name) (app_at new name)

-- a link that stays comes back to the ports of apps that are started
abbrev pub relinking : Bool → Bool → LinkSpec → List Action
relinking from to link = cond from (LinkOutput link ∷ []) [] ++ cond to (LinkInput link ∷ []) []

-- what happens to a link of the new configuration
abbrev pub link_change : ConfigForm → ConfigForm → LinkSpec → List Action
link_change old new link =
    cond (has_link old.links link)
    (relinking (is_started old.apps new.apps link.from) (is_started old.apps new.apps link.to) link)
    (linking link)

-- the links of a list that aren't in another
abbrev pub removed_links : List LinkSpec → List LinkSpec → List LinkSpec
removed_links old new = filter (λ link. not (has_link new link)) old

-- the apps of the old configuration that aren't in the new one
abbrev pub removed_apps : ConfigForm → ConfigForm → List (List ℕ)
removed_apps old new = filter (λ name. not (has_app new name)) (keys_of old.apps)

-- first the links that go, then the apps that go, then each app and each link of the new one
abbrev pub diff_of : ConfigForm → ConfigForm → List Action
diff_of old new =
    flat_map unlinking (removed_links old.links new.links)
    ++ (map StopApp (removed_apps old new)
    ++ (flat_map (λ app. change app.0 app.1 (app_at old.apps app.0)) new.apps
    ++ flat_map (link_change old new) new.links))

-- an action between two configurations names a link or an app that the old one has and that goes,
-- or one that the new one has, with its class and argument; none is a commit
abbrev pub IsChange : ConfigForm → ConfigForm → Action → Type 0
IsChange old new (UnlinkOutput link) = has_link old.links link ≡ true
IsChange old new (UnlinkInput link) = has_link old.links link ≡ true
IsChange old new (FreeLink link) = has_link old.links link ≡ true
IsChange old new (StopApp name) = has_app old name ≡ true
IsChange old new (StartApp name spec) = app_at new.apps name ≡ Some spec
IsChange old new (ReconfigApp name spec) = app_at new.apps name ≡ Some spec
IsChange old new (NewLink link) = has_link new.links link ≡ true
IsChange old new (LinkOutput link) = has_link new.links link ≡ true
IsChange old new (LinkInput link) = has_link new.links link ≡ true
IsChange old new Commit = ⊥
