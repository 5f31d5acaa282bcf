-- The list of calls, and the number of the next.
use Rattle.std.proofs.Common.{◌≡◌, ℕ, ◌+◌, List, [], ◌∷◌, ◌++◌, length, ap, subst, ◌∙◌, Result}
use Rattle.std.specs.Prelude.{Contains}
use Rattle.sn_outside.specs.declared.fault.FileFault.{FileFault}
use Rattle.sn_outside.specs.declared.files.CallKind.{CallKind}
use Rattle.sn_outside.specs.declared.files.FileCall.{FileCall}

-- a call noted in a list that had been made longer
pub noted : (now old before : List FileCall) (kind : CallKind) (asked name : List ℕ) (answer : Result Unit FileFault) → now ≡ old ++ record { kind = kind; name = asked; answer = answer } ∷ [] → old ≡ before → asked ≡ name → now ≡ before ++ record { kind = kind; name = name; answer = answer } ∷ []
noted now old before kind asked name answer is was named =
    is
    ∙ ap (λ (cs : List FileCall). cs ++ record { kind = kind; name = asked; answer = answer } ∷ []) was
    ∙ ap (λ (n : List ℕ). let cs : List FileCall = before ++ record { kind = kind; name = n; answer = answer } ∷ [] in cs) named

-- the number of the next call, through what the lists are seen as
pub fails_through : (failing seen : List ℕ) (calls known : List FileCall) → seen ≡ failing → known ≡ calls → Contains seen (length known + 1) → Contains failing (length calls + 1)
fails_through failing seen calls known e f has =
    subst (λ (fs : List ℕ). Contains fs (length calls + 1)) e (subst (λ (cs : List FileCall). Contains seen (length cs + 1)) f has)
