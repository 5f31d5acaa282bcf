-- An app that starts and leaves its context runs what its class starts with.
use Rattle.std.proofs.Common.{◌≡◌, List, Ok, Option, subst, sym}
use Rattle.sn_link.specs.Link.{Line}
use Rattle.sn_app.specs.Apps.{AppState}
use Rattle.sn_app.specs.Desk.{Tray}
use Rattle.sn_app.specs.Reader.{Meaning, pure}
use Rattle.sn_app.specs.Runs.{Runs}
use Rattle.sn_app.specs.World.{Used, nowhere, world}
use Rattle.sn_app.proofs.Running.{runs_pure}

pub runs_start : {X : Type 0} (tray : X → Tray) (used : X → Used) {old new : X} (m : Meaning AppState) {x y : AppState}
    → m ≡ pure x → y ≡ x → new ≡ old → (slots : List (Option Line))
    → Runs m (world (tray old) (used old) slots) (world (tray new) (used new) slots) nowhere nowhere (Ok y)
runs_start {X} tray used {old} {new} m {x} {y} is shown same slots =
    let w = world (tray old) (used old) slots in
    subst (λ (ctx : X). Runs m w (world (tray ctx) (used ctx) slots) nowhere nowhere (Ok y)) (sym same)
    (subst (λ state. Runs m w w nowhere nowhere (Ok state)) (sym shown)
    (subst (λ meaning. Runs meaning w w nowhere nowhere (Ok x)) (sym is) (runs_pure x w nowhere)))
