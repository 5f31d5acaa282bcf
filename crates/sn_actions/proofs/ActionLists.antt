-- Lists that grow at their ends.
use Rattle.std.proofs.Common.{List, [], append_assoc, ap, ◌++◌, ◌∙◌, ◌≡◌}

pub joined : {X : Type 0} (a b c d s t u v : List X) → s ≡ [] ++ a → t ≡ s ++ b → u ≡ t ++ c → v ≡ u ++ d → v ≡ a ++ (b ++ (c ++ d))
joined a b c d s t u v e f g h =
    h ∙ ap (λ x. x ++ d) (g ∙ ap (λ x. x ++ c) (f ∙ ap (λ x. x ++ b) e))
    ∙ append_assoc (a ++ b) c d ∙ append_assoc a b (c ++ d)
