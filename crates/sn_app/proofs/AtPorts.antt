-- A call at named ports, where they are linked and where they aren't.
use Rattle.std.proofs.Common.{◌≡◌, ℕ, Option, Some, None, IfSome, IfNone, Result, Ok, sym, subst}
use Rattle.sn_app.specs.Apps.{AppState, at_port, at_ports}
use Rattle.sn_app.specs.Reader.{Meaning}
use Rattle.sn_app.specs.Runs.{Runs}
use Rattle.sn_app.specs.World.{World}
use Rattle.sn_app.specs.declared.halt.Halt.{Halt}
use Rattle.sn_app.proofs.Running.{runs_pure}

-- what an answer says where it is something, and where it is nothing
said_some : {A : Type 0} (P : A → Type 0) (r : Option A) (x : A) → r ≡ Some x → IfSome r P → P x
said_some P r x is h = subst (λ o. IfSome o P) is h

said_none : {A : Type 0} (P : Type 0) (r : Option A) → r ≡ None → IfNone r P → P
said_none P r is h = subst (λ o. IfNone o P) is h

module _ (s : AppState) {w : World} {mine : ℕ → ℕ} where
  -- an input that isn't linked, or an output
  pub runs_no_input : (input out : Option ℕ) (k : ℕ → ℕ → Meaning AppState) (r : Option ℕ) → r ≡ None → IfNone r (input ≡ None)
      → Runs (at_ports input out s k) w w mine mine (Ok s)
  unfolding at_ports
  runs_no_input input out k r is h =
      subst (λ o. Runs (at_ports o out s k) w w mine mine (Ok s)) (sym (said_none (input ≡ None) r is h)) (runs_pure s w mine)

  no_output : (input : Option ℕ) (k : ℕ → ℕ → Meaning AppState) → Runs (at_ports input None s k) w w mine mine (Ok s)
  unfolding at_ports
  no_output None k = runs_pure s w mine
  no_output (Some i) k = runs_pure s w mine

  pub runs_no_output : (input out : Option ℕ) (k : ℕ → ℕ → Meaning AppState) (r : Option ℕ) → r ≡ None → IfNone r (out ≡ None)
      → Runs (at_ports input out s k) w w mine mine (Ok s)
  runs_no_output input out k r is h =
      subst (λ o. Runs (at_ports input o s k) w w mine mine (Ok s)) (sym (said_none (out ≡ None) r is h)) (no_output input k)

  pub runs_no_port : (port : Option ℕ) (k : ℕ → Meaning AppState) (r : Option ℕ) → r ≡ None → IfNone r (port ≡ None)
      → Runs (at_port port s k) w w mine mine (Ok s)
  unfolding at_port
  runs_no_port port k r is h = subst (λ o. Runs (at_port o s k) w w mine mine (Ok s)) (sym (said_none (port ≡ None) r is h)) (runs_pure s w mine)

-- both are linked
pub runs_linked : {w v : World} {before after : ℕ → ℕ} {result : Result AppState Halt} (s : AppState) (input out : Option ℕ) (k : ℕ → ℕ → Meaning AppState)
    (row_in row_out : ℕ → ℕ) (r q : Option ℕ) (i o : ℕ) → r ≡ Some i → IfSome r (λ at. input ≡ Some (row_in at)) → q ≡ Some o → IfSome q (λ at. out ≡ Some (row_out at))
    → Runs (k (row_in i) (row_out o)) w v before after result → Runs (at_ports input out s k) w v before after result
unfolding at_ports
runs_linked {w} {v} {before} {after} {result} s input out k row_in row_out r q i o ri hi qo ho run =
    subst (λ a. Runs (at_ports a out s k) w v before after result) (sym (said_some (λ at. input ≡ Some (row_in at)) r i ri hi))
    (subst (λ b. Runs (at_ports (Some (row_in i)) b s k) w v before after result) (sym (said_some (λ at. out ≡ Some (row_out at)) q o qo ho)) run)

pub runs_linked_port : {w v : World} {before after : ℕ → ℕ} {result : Result AppState Halt} (s : AppState) (port : Option ℕ) (k : ℕ → Meaning AppState)
    (row : ℕ → ℕ) (r : Option ℕ) (i : ℕ) → r ≡ Some i → IfSome r (λ at. port ≡ Some (row at))
    → Runs (k (row i)) w v before after result → Runs (at_port port s k) w v before after result
unfolding at_port
runs_linked_port {w} {v} {before} {after} {result} s port k row r i ri hi run =
    subst (λ a. Runs (at_port a s k) w v before after result) (sym (said_some (λ at. port ≡ Some (row at)) r i ri hi)) run
