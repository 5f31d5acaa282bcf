-- A fact for one outcome, for all captures and for some.
use Rattle.std.proofs.Common.{List, OnErr, OnOk, Result, Ok, Err, ℕ}

pub on_ok_at : {T E : Type 0} (r : Result T E) (P : List (List ℕ) → Type 0) (captures : List (List ℕ))
    → OnOk r ((all : List (List ℕ)) → P all) → OnOk r (P captures)
on_ok_at (Ok x) P captures h = h captures
on_ok_at (Err e) P captures h = h

pub on_err_at : {T E : Type 0} (r : Result T E) (P : List (List ℕ) → Type 0) (captures : List (List ℕ))
    → OnErr r ((all : List (List ℕ)) → P all) → OnErr r (P captures)
on_err_at (Ok x) P captures h = h
on_err_at (Err e) P captures h = h captures

-- what follows for the same outcome
pub on_ok_then : {T E A B : Type 0} (r : Result T E) → (A → B) → OnOk r A → OnOk r B
on_ok_then (Ok x) f h = f h
on_ok_then (Err e) f h = h
